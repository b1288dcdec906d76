-- What writing gives, by the way that it goes: a law for each return, over plain values. Assumes nothing.
use Rattle.std.specs.Prelude.{Err, Ok, Option, Some, None, Result}
use mathlib.Core.Path.{◌≡◌, refl, sym, ap, ◌∙◌}
use mathlib.Core.Bool.{Bool, true, false}
use mathlib.Core.List.{List, []}
use Prim.Native.Nat.{ℕ, ◌≤◌, ◌<◌}
use borrow.Author.Tests.{le-leb, lt-leb, lt-ltb, le-ltb}
use Rattle.le.specs.Choice.{pick}
use Rattle.le.specs.Part.{part}
use Rattle.le.proofs.Choices.{pick_true, pick_false}
use Rattle.medium.specs.declared.Error.{Error}
use Rattle.medium.specs.declared.Error.TheVariants.{Corrupt, Full, Stale}
use Rattle.medium.specs.declared.Medium.{Medium}
use Rattle.medium.specs.declared.Written.{Written}
use Rattle.medium.specs.Refusal.{on_done}
use Rattle.medium.proofs.Laws.{on_done_done}
use Rattle.handles.specs.declared.Store.{Store}
use Rattle.handles.specs.Handles.{is_open, open_id, open_file}
use Rattle.table.specs.Table.{on_pick}
use Rattle.table.specs.Free.{free_of}
use Rattle.record.specs.Record.{number_at, write_record_of}
use Rattle.plan.specs.declared.Committed.{Committed}
use Rattle.plan.specs.declared.Edit.TheVariants.{Extend}
use Rattle.commit.specs.Commit.{commit_of}
use Rattle.commit.proofs.Steps.{GivesW}
use Rattle.commit.proofs.Commits.{GivesC}
use Rattle.remove.specs.declared.Gone.{Gone}
use Rattle.remove.specs.Remove.{remove_oldest_of}
use Rattle.remove.proofs.Ways.{GivesG}
use Rattle.append.specs.declared.Appender.{Appender}
use Rattle.append.specs.declared.Handed.{Handed}
use Rattle.append.specs.declared.Tail.{Tail}
use Rattle.append.specs.declared.Tail.TheVariants.{At, Reopened, Closed}
use Rattle.append.specs.Appender.{dir_bytes}
use Rattle.append.specs.Flush.{AppOut, and_then, moved_to, link_out, rolled_out, extend_of, filed, record_out, on_tail, write_out, closed_of, flush_of}
use Rattle.append.proofs.Then.{GivesA, along, then_done, then_no}

abbrev pub refusal : Error → Medium → Store → Appender → Handed
refusal e m st a = record { outcome = Err e; medium = m; store = st; appender = a }

abbrev pub success : Medium → Store → Appender → Handed
success m st a = record { outcome = Ok tt; medium = m; store = st; appender = a }

on_pick_nothing : {A : Type 0} {p : Result (Option ℕ) Error} (f : Error → A) (a : A) (g : ℕ → A) → p ≡ Ok None → on_pick p f a g ≡ a
unfolding on_pick
on_pick_nothing f a g q = rw q

on_tail_at : {A : Type 0} {t : Tail} {i : ℕ} (f g : ℕ → A) (a : A) → t ≡ At i → on_tail t f g a ≡ f i
unfolding on_tail
on_tail_at f g a q = rw q

on_tail_reopened : {A : Type 0} {t : Tail} {n : ℕ} (f g : ℕ → A) (a : A) → t ≡ Reopened n → on_tail t f g a ≡ g n
unfolding on_tail
on_tail_reopened f g a q = rw q

module _ (vol : List ℕ) (m : Medium) (st : Store) (a : Appender) (partial : Bool) (records : ℕ) where
  -- ---- a chunk linked

  module _ (next : ℕ) {v : List ℕ} {c : Committed} (g : GivesC v c (commit_of (Extend a.slot a.position next a.chunk partial records) [] vol m st)) where
    pub link_refused : {e : Error} → c.outcome ≡ Err e → GivesA v (refusal e c.medium c.store a) (link_out vol m st a partial records next)
    unfolding link_out on_done
    link_refused d = rw (← g.0, ← g.1, d) (refl, refl)

    pub link_done : {x : Appender} → c.outcome ≡ Ok tt → x ≡ moved_to next a → GivesA v (success c.medium c.store x) (link_out vol m st a partial records next)
    unfolding link_out on_done
    link_done d h = rw (← g.0, ← g.1, d, h) (refl, refl)

  -- ---- with a rollover

  module _ {dir : List ℕ} {spared : Option ℕ} (hd : dir ≡ dir_bytes a.dir) (hs : spared ≡ open_file st.writer) {v : List ℕ} {g : Gone}
      (h : GivesG v g (remove_oldest_of vol m st dir spared)) where
    gone : GivesG v g (remove_oldest_of vol m st (dir_bytes a.dir) (open_file st.writer))
    gone = rw (← hd, ← hs) h

    pub rolled_refused : {e : Error} → g.outcome ≡ Err e → GivesA v (refusal e g.medium g.store a) (rolled_out vol m st a partial records)
    unfolding rolled_out on_done
    rolled_refused d = rw (← gone.0, ← gone.1, d) (refl, refl)

    module _ (d : g.outcome ≡ Ok tt) where
      pub rolled_none : g.any ≡ false → GivesA v (refusal Full g.medium g.store a) (rolled_out vol m st a partial records)
      unfolding rolled_out on_done pick
      rolled_none t = rw (← gone.0, ← gone.1, d, t) (refl, refl)

      module _ (t : g.any ≡ true) {p : Result (Option ℕ) Error} (hp : p ≡ free_of v g.medium g.store) where
        pub rolled_unread : {e : Error} → p ≡ Err e → GivesA v (refusal e g.medium g.store a) (rolled_out vol m st a partial records)
        unfolding rolled_out on_done pick on_pick
        rolled_unread q = rw (← gone.0, ← gone.1, d, t, ← hp, q) (refl, refl)

        pub rolled_corrupt : p ≡ Ok None → GivesA v (refusal Corrupt g.medium g.store a) (rolled_out vol m st a partial records)
        unfolding rolled_out on_done pick on_pick
        rolled_corrupt q = rw (← gone.0, ← gone.1, d, t, ← hp, q) (refl, refl)

        pub rolled_linked : {c : ℕ} {w : List ℕ} {r : Handed} → p ≡ Ok (Some c) → GivesA w r (link_out v g.medium g.store a partial records c)
            → GivesA w r (rolled_out vol m st a partial records)
        unfolding rolled_out on_done pick on_pick
        rolled_linked q l = rw (← gone.0, ← gone.1, d, t, ← hp, q) l

  -- ---- another chunk

  pub extend_far : 32767 ≤ a.position → GivesA vol (refusal Corrupt m st a) (extend_of vol m st a partial records)
  unfolding extend_of pick
  extend_far h = rw (le-leb _ _ h) (refl, refl)

  module _ (near : a.position < 32767) {p : Result (Option ℕ) Error} (hp : p ≡ free_of vol m st) where
    pub extend_unread : {e : Error} → p ≡ Err e → GivesA vol (refusal e m st a) (extend_of vol m st a partial records)
    unfolding extend_of pick on_pick
    extend_unread q = rw (lt-leb _ _ near, ← hp, q) (refl, refl)

    pub extend_full : p ≡ Ok None → a.rolls ≡ false → GivesA vol (refusal Full m st a) (extend_of vol m st a partial records)
    unfolding extend_of pick on_pick
    extend_full q t = rw (lt-leb _ _ near, ← hp, q, t) (refl, refl)

    pub extend_rolled : {v : List ℕ} {r : Handed} → p ≡ Ok None → a.rolls ≡ true → GivesA v r (rolled_out vol m st a partial records) → GivesA v r (extend_of vol m st a partial records)
    unfolding extend_of
    extend_rolled q t g = along g (sym (pick_false _ _ (lt-leb _ _ near) ∙ on_pick_nothing _ _ _ (sym hp ∙ q) ∙ pick_true _ _ t))

    pub extend_linked : {c : ℕ} {v : List ℕ} {r : Handed} → p ≡ Ok (Some c) → GivesA v r (link_out vol m st a partial records c) → GivesA v r (extend_of vol m st a partial records)
    unfolding extend_of pick on_pick
    extend_linked q g = rw (lt-leb _ _ near, ← hp, q) g

  -- ---- and its first record

  module _ {v : List ℕ} {x : Handed} (g : GivesA v x (extend_of vol m st a partial records)) where
    pub next_refused : {e : Error} → x.outcome ≡ Err e → GivesA v x (and_then (extend_of vol m st a partial records) (record_out 0))
    next_refused d = along g (sym (then_no _ (record_out 0) (ap (λ (f : Handed). f.outcome) (sym g.1) ∙ d)))

    pub next_written : {w : List ℕ} {r : Handed} → x.outcome ≡ Ok tt → GivesA w r (record_out 0 v x.medium x.store x.appender)
        → GivesA w r (and_then (extend_of vol m st a partial records) (record_out 0))
    next_written {w} {r} d l =
        let o : AppOut = extend_of vol m st a partial records in
        let q : o.ans.outcome ≡ Ok tt = ap (λ (f : Handed). f.outcome) (sym g.1) ∙ d in
        let l' : GivesA w r (record_out 0 o.vol o.ans.medium o.ans.store o.ans.appender) = (rw (g.0, g.1) at l) in
        (l'.0 ∙ ap (λ (y : AppOut). y.vol) (sym (then_done o (record_out 0) q)), l'.1 ∙ ap (λ (y : AppOut). y.ans) (sym (then_done o (record_out 0) q)))

module _ (vol : List ℕ) (m : Medium) (st : Store) (a : Appender) where
  -- ---- a record

  module _ (index : ℕ) {number : ℕ} {bytes : List ℕ} (hn : number ≡ number_at a.position st.head.chunk index) (hb : bytes ≡ part 0 a.fill a.buffer) {v : List ℕ} {w : Written}
      (h : GivesW v w (write_record_of vol m st a.id a.chunk index number bytes)) where
    asked : GivesW v w (write_record_of vol m st a.id a.chunk index (number_at a.position st.head.chunk index) (part 0 a.fill a.buffer))
    asked = rw (← hn, ← hb) h

    pub record_refused : {e : Error} → w.outcome ≡ Err e → GivesA v (refusal e w.medium st a) (record_out index vol m st a)
    unfolding record_out on_done
    record_refused d = rw (← asked.0, ← asked.1, d) (refl, refl)

    pub record_done : {x : Appender} → w.outcome ≡ Ok tt → x ≡ filed index a → GivesA v (success w.medium st x) (record_out index vol m st a)
    unfolding record_out on_done
    record_done d e = rw (← asked.0, ← asked.1, d, e) (refl, refl)

  -- ---- by the tail

  module _ {v : List ℕ} {r : Handed} where
    pub write_here : {i : ℕ} → a.tail ≡ At i → i < st.head.chunk → GivesA v r (record_out i vol m st a) → GivesA v r (write_out vol m st a)
    unfolding write_out
    write_here q h g = along g (sym (on_tail_at _ _ _ q ∙ pick_true _ _ (lt-ltb _ _ h)))

    pub write_full : {i : ℕ} → a.tail ≡ At i → st.head.chunk ≤ i → GivesA v r (and_then (extend_of vol m st a false 0) (record_out 0)) → GivesA v r (write_out vol m st a)
    unfolding write_out
    write_full q h g = along g (sym (on_tail_at _ _ _ q ∙ pick_false _ _ (le-ltb _ _ h)))

    pub write_reopened : {n : ℕ} → a.tail ≡ Reopened n → GivesA v r (and_then (extend_of vol m st a true n) (record_out 0)) → GivesA v r (write_out vol m st a)
    unfolding write_out
    write_reopened q g = along g (sym (on_tail_reopened _ _ _ q))

  pub write_closed : a.tail ≡ Closed → GivesA vol (refusal Stale m st a) (write_out vol m st a)
  unfolding write_out on_tail
  write_closed q = rw q (refl, refl)

  module _ {v : List ℕ} {x : Handed} (g : GivesA v x (write_out vol m st a)) where
    pub flush_refused : {e : Error} {s : Appender} → x.outcome ≡ Err e → s ≡ closed_of x.appender → GivesA v (refusal e x.medium x.store s) (flush_of vol m st a)
    unfolding flush_of on_done
    flush_refused d h = rw (← g.0, ← g.1, d, h) (refl, refl)

    pub flush_done : x.outcome ≡ Ok tt → GivesA v x (flush_of vol m st a)
    unfolding flush_of
    flush_done d = along g (sym (on_done_done _ _ (ap (λ (f : Handed). f.outcome) (sym g.1) ∙ d)))
