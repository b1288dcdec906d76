-- `create` and `open_append`, by the way that they go: a law for each return, over plain values. Assumes nothing.
use Rattle.std.specs.Prelude.{Err, Ok, Result}
use mathlib.Core.Path.{◌≡◌, refl, sym, ap, ◌∙◌}
use mathlib.Core.Bool.{Bool, true, false, not, ◌||◌}
use mathlib.Core.List.{List, []}
use Prim.Native.Nat.{ℕ, ◌≤◌, zero-le}
use lib.ListN.{length}
use Rattle.le.specs.Part.{over, zeros}
use Rattle.le.proofs.Choices.{pick_true, pick_false, pick_keeps_by}
use Rattle.le.proofs.Bools.{and_true, where_true}
use Rattle.names.specs.Names.{name_ok, dir_ok}
use Rattle.names.proofs.Laws.{name_short, dir_short}
use Rattle.medium.specs.declared.Error.{Error}
use Rattle.medium.specs.declared.Medium.{Medium}
use Rattle.medium.specs.Refusal.{on_done}
use Rattle.medium.specs.Sector.{sectors_of}
use Rattle.medium.proofs.Laws.{on_done_keeps}
use Rattle.handles.specs.declared.Store.{Store}
use Rattle.handles.specs.Handles.{store_ok}
use Rattle.append.specs.declared.Dir.{Dir}
use Rattle.append.specs.declared.Handed.{Handed}
use Rattle.append.specs.Calls.{app_answer}
use Rattle.append.specs.Flush.{AppOut}
use Rattle.append.proofs.Offers.{Offers}
use Rattle.files.specs.declared.Rollover.{Rollover}
use Rattle.files.specs.Opened.{refused_at}
use Rattle.files.specs.Create.{create_of}
use Rattle.reopen.specs.Reopen.{reopen_of}
use Rattle.reopen.proofs.Opens.{reopen_reads}
use Rattle.store.specs.Opening.{open_fine, rollover_of, admitted_of, create_call, open_call}
use Rattle.store.proofs.Laws.{Accepted, asked_done}
use Rattle.store.proofs.Admits.{admitted_asked, create_is, open_is}

-- ---- the input

-- what an accepted input tells: the store value passes, the name is short, and a directory that is set
pub record Opened (vol : List ℕ) (st : Store) (name : List ℕ) (rolls : Bool) (dir : List ℕ) : Type 0 where
  pub ok : store_ok st (sectors_of vol) ≡ true
  pub short : length name ≤ 40
  pub near : rolls ≡ true → length dir ≤ 40

pub input_fits : (vol : List ℕ) (st : Store) (name : List ℕ) (rolls : Bool) (dir : List ℕ) {o : Result Unit Error} → o ≡ admitted_of vol st name rolls dir → o ≡ Ok tt
    → Opened vol st name rolls dir
input_fits vol st name rolls dir q d =
    let a : Accepted vol st (open_fine name rolls dir) = asked_done vol st _ refl (admitted_asked vol st name rolls dir (sym q ∙ d)) in
    let b = and_true (name_ok name) (not rolls || dir_ok dir) a.named in
    record { ok = a.ok; short = name_short name b.0; near = λ r. dir_short dir (where_true rolls (dir_ok dir) b.1 r) }

-- ---- the rollover

pub rollover_none : (rolls : Bool) (dir : List ℕ) → rolls ≡ false → record { rolls = rolls; dir = record { bytes = zeros 40; length = 0 } } ≡ rollover_of rolls dir
unfolding rollover_of
rollover_none rolls dir h = ap (λ (d : Dir). record { rolls = rolls; dir = d }) (sym (pick_false _ _ h))

pub rollover_set : (rolls : Bool) (dir : List ℕ) {bytes : List ℕ} → rolls ≡ true → bytes ≡ over 0 dir (zeros 40)
    → record { rolls = rolls; dir = record { bytes = bytes; length = length dir } } ≡ rollover_of rolls dir
unfolding rollover_of
rollover_set rolls dir h e = ap (λ (d : Dir). record { rolls = rolls; dir = d }) (ap (λ (b : List ℕ). record { bytes = b; length = length dir }) e ∙ sym (pick_true _ _ h))

pub rollover_near : (rolls : Bool) (dir : List ℕ) {x : Rollover} → x ≡ rollover_of rolls dir → (rolls ≡ true → length dir ≤ 40) → x.dir.length ≤ 40
unfolding rollover_of
rollover_near rolls dir e h = rw e (pick_keeps_by (λ (d : Dir). d.length ≤ 40) rolls _ _ h (λ _. zero-le))

-- ---- the ways out

module _ (vol : List ℕ) (m : Medium) (st : Store) (name : List ℕ) (rolls : Bool) (dir : List ℕ) {o : Result Unit Error} (q : o ≡ admitted_of vol st name rolls dir) where
  module _ {e : Error} {r : Handed} (h : o ≡ Err e) (k : r ≡ (refused_at [] m st e).ans) where
    pub open_refused : app_answer r ≡ (open_call vol m st name rolls dir).call
    unfolding on_done
    open_refused = rw (open_is vol st name rolls dir m, k, ← q, h)

    pub create_refused : Offers vol r (create_call vol m st name rolls dir)
    unfolding on_done
    create_refused = rw (create_is vol st name rolls dir m, k, ← q, h) (refl, refl)

  module _ {over : Rollover} {r : Handed} (h : o ≡ Ok tt) (k : over ≡ rollover_of rolls dir) where
    pub open_told : r ≡ (reopen_of name over vol m st).ans → app_answer r ≡ (open_call vol m st name rolls dir).call
    unfolding on_done
    open_told e = rw (open_is vol st name rolls dir m, ← q, h, ← k) (ap app_answer e)

    pub create_told : {v : List ℕ} → (v ≡ (create_of name over vol m st).vol) × (r ≡ (create_of name over vol m st).ans) → Offers v r (create_call vol m st name rolls dir)
    unfolding on_done
    create_told g = rw (create_is vol st name rolls dir m, ← q, h, ← k) (g.0, ap app_answer g.1)

-- open_append writes nothing and makes no step
pub open_still : (vol : List ℕ) (m : Medium) (st : Store) (name : List ℕ) (rolls : Bool) (dir : List ℕ)
    → ((open_call vol m st name rolls dir).vol ≡ vol) × ((open_call vol m st name rolls dir).steps ≡ [])
open_still vol m st name rolls dir =
    rw (open_is vol st name rolls dir m)
    (on_done_keeps (λ (o : AppOut). (o.vol ≡ vol) × (o.steps ≡ [])) (admitted_of vol st name rolls dir) _ _
    (λ q. let r = reopen_reads name (rollover_of rolls dir) vol m st (input_fits vol st name rolls dir refl q).ok in (r.same, r.still))
    (λ e q. (refl, refl)))
