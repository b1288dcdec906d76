-- What removing gives, by the way that it goes: a law for each return, over plain values. Assumes nothing.
use Rattle.std.specs.Prelude.{Err, Ok, Option, None, Some, Result}
use mathlib.Core.Path.{◌≡◌, refl, sym, ap, ◌∙◌}
use mathlib.Core.Bool.{Bool, true, false}
use mathlib.Core.List.{List, [], append-nil}
use Prim.Native.Nat.{ℕ, ◌+◌, ◌-◌, ◌≤◌}
use native.Mathlib.Nat.{zero-add, add-sub_cancel_left}
use native.Mathlib.Omega.{arith}
use lib.ListN.{length, take, drop}
use lib.Seq.{drop-length}
use Rattle.le.specs.Choice.{pick}
use Rattle.le.specs.Part.{part, over, zeros}
use Rattle.le.proofs.Parts.{length_part, length_zeros}
use Rattle.medium.specs.declared.Error.{Error}
use Rattle.medium.specs.declared.Medium.{Medium}
use Rattle.medium.specs.Refusal.{on_done}
use Rattle.medium.proofs.Laws.{on_done_no}
use Rattle.handles.specs.declared.Store.{Store}
use Rattle.directory.specs.declared.Old.{Old}
use Rattle.directory.specs.Entry.{entry_at}
use Rattle.directory.specs.Scan.{oldest_of}
use Rattle.directory.proofs.Places.{place_of, name_place}
use Rattle.plan.specs.declared.Committed.{Committed}
use Rattle.plan.specs.declared.Edit.TheVariants.{Remove}
use Rattle.plan.specs.Copy.{Out}
use Rattle.commit.specs.Commit.{commit_of}
use Rattle.commit.proofs.Commits.{GivesC}
use Rattle.remove.specs.declared.Gone.{Gone}
use Rattle.remove.specs.Remove.{closed_for, remove_of, GoneOut, none_gone, gone_of, oldest_gone, remove_oldest_of}

abbrev pub GivesG : List ℕ → Gone → GoneOut → Type 0
GivesG vol a o = (vol ≡ o.vol) × (a ≡ o.ans)

-- ---- by its slot

module _ (vol : List ℕ) (m : Medium) (st : Store) (slot id : ℕ) {v : List ℕ} {c : Committed} (g : GivesC v c (commit_of (Remove slot) [] vol m st)) where
  pub remove_refused : {e : Error} → c.outcome ≡ Err e → GivesC v c (remove_of vol m st slot id)
  unfolding remove_of
  remove_refused {e} d =
      let q : (commit_of (Remove slot) [] vol m st).ans.outcome ≡ Err e = ap (λ (x : Committed). x.outcome) (sym g.1) ∙ d in
      let s : commit_of (Remove slot) [] vol m st ≡ remove_of vol m st slot id = sym (on_done_no _ _ q) in
      (g.0 ∙ ap (λ (o : Out). o.vol) s, g.1 ∙ ap (λ (o : Out). o.ans) s)

  pub remove_done : {x : Store} → c.outcome ≡ Ok tt → x ≡ closed_for id c.store
      → GivesC v (record { outcome = Ok tt; medium = c.medium; store = x }) (remove_of vol m st slot id)
  unfolding remove_of on_done
  remove_done d h = rw (← g.0, ← g.1, d, h) (refl, refl)

-- ---- the name that goes

pub whole_name : (vol : List ℕ) (st : Store) (i : ℕ) {a : ℕ} {n : List ℕ} → a ≡ place_of st i → a + 40 ≤ length vol → n ≡ over 0 (take (a + 40 - a) (drop a vol)) (zeros 40)
    → n ≡ part 0 40 (entry_at vol st i)
unfolding over part
whole_name vol st i {a} {n} e fits h =
    let l : length (part a 40 vol) ≡ 40 = length_part a 40 vol fits in
    let z : drop 40 (zeros 40) ≡ [] = (rw (length_zeros 40) at (drop-length (zeros 40))) in
    h ∙ rw (add-sub_cancel_left a 40, zero-add, l, z) (append-nil (take 40 (drop a vol)) ∙ rw e (sym (name_place vol st i 40 (omega arith))))

module _ (name : List ℕ) (len : ℕ) (o : Out) {v : List ℕ} {c : Committed} (g : GivesC v c o) where
  pub gone_refused : {e : Error} → c.outcome ≡ Err e
      → GivesG v (none_gone (Err e) c.medium c.store) (gone_of name len o)
  unfolding gone_of on_done
  gone_refused d = rw (← g.0, ← g.1, d) (refl, refl)

  pub gone_done : {n : List ℕ} → c.outcome ≡ Ok tt → n ≡ name
      → GivesG v (record { outcome = Ok tt; medium = c.medium; store = c.store; any = true; name = n; length = len }) (gone_of name len o)
  unfolding gone_of on_done
  gone_done d h = rw (← g.0, ← g.1, d, h) (refl, refl)

-- ---- the oldest

module _ (vol : List ℕ) (m : Medium) (st : Store) (dir : List ℕ) (spared : Option ℕ) {f : Result (Option Old) Error} (h : f ≡ oldest_of vol m st dir spared) where
  pub oldest_refused : {e : Error} → f ≡ Err e
      → GivesG vol (none_gone (Err e) m st) (remove_oldest_of vol m st dir spared)
  unfolding remove_oldest_of oldest_gone
  oldest_refused d = rw (← h, d) (refl, refl)

  pub oldest_none : f ≡ Ok None
      → GivesG vol (none_gone (Ok tt) m st) (remove_oldest_of vol m st dir spared)
  unfolding remove_oldest_of oldest_gone
  oldest_none d = rw (← h, d) (refl, refl)

  pub oldest_goes : {old : Old} {v : List ℕ} {r : Gone} → f ≡ Ok (Some old)
      → GivesG v r (gone_of (part 0 40 (entry_at vol st old.slot)) old.len (remove_of vol m st old.slot old.id))
      → GivesG v r (remove_oldest_of vol m st dir spared)
  unfolding remove_oldest_of oldest_gone
  oldest_goes d w = rw (← h, d) w
