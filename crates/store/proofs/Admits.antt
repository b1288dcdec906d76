-- S-5: create and open_append go by whether their input is admitted. What that tells of the input, and the two calls by it. Assumes nothing.
use Rattle.std.specs.Prelude.{Err, Ok, Result}
use mathlib.Core.Path.{◌≡◌, refl, ap}
use mathlib.Core.Bool.{Bool, true, false}
use mathlib.Core.List.{List}
use Prim.Native.Nat.{ℕ}
use Rattle.le.specs.Choice.{pick}
use Rattle.names.specs.Names.{dotted}
use Rattle.medium.specs.declared.Error.{Error}
use Rattle.medium.specs.declared.Error.TheVariants.{Dotted}
use Rattle.medium.specs.declared.Medium.{Medium}
use Rattle.medium.specs.Refusal.{on_done}
use Rattle.medium.proofs.Laws.{on_done_keeps, on_done_done, not_done}
use Rattle.handles.specs.declared.Store.{Store}
use Rattle.append.specs.Calls.{call_of}
use Rattle.append.specs.Flush.{AppOut}
use Rattle.files.specs.declared.Rollover.{Rollover}
use Rattle.files.specs.Opened.{refused_at}
use Rattle.files.specs.Create.{create_of}
use Rattle.reopen.specs.Reopen.{reopen_of}
use Rattle.store.specs.Asked.{asked_of}
use Rattle.store.specs.Opening.{open_fine, rollover_of, opening, create_earlier, open_earlier, admitted_of, if_admitted, create_call, open_call}

module _ (vol : List ℕ) (st : Store) (name : List ℕ) (rolls : Bool) (dir : List ℕ) where
  abbrev asked : Result Unit Error
  asked = asked_of vol st (open_fine name rolls dir)

  pub admitted_asked : admitted_of vol st name rolls dir ≡ Ok tt → asked ≡ Ok tt
  unfolding admitted_of
  admitted_asked = on_done_keeps (λ (o : Result Unit Error). o ≡ Ok tt → asked ≡ Ok tt) asked _ _ (λ q _. q) (λ e _ d. not_done d)

  -- where 16 is not given it is what 01 asks
  pub admitted_same : (asked ≡ Ok tt → dotted name ≡ false) → admitted_of vol st name rolls dir ≡ asked
  unfolding admitted_of on_done pick
  admitted_same plain = go asked refl
    where
      go : (o : Result Unit Error) → asked ≡ o → on_done o (pick (dotted name) (Err Dotted) (Ok tt)) Err ≡ o
      go (Ok tt) q = rw (plain q)
      go (Err e) q = refl

  -- a dot name of which all else is asked in vain: the check finds this under any condition of the code
  pub dot_refused : asked ≡ Ok tt → dotted name ≡ true → Err Dotted ≡ admitted_of vol st name rolls dir
  unfolding admitted_of on_done pick
  dot_refused a d = rw (a, d)

  -- as the code decides
  module _ {fine : Bool} {o : Result Unit Error} (f : fine ≡ open_fine name rolls dir) (q : o ≡ asked_of vol st fine) where
    pub not_asked : {e : Error} → o ≡ Err e → Err e ≡ admitted_of vol st name rolls dir
    unfolding admitted_of on_done
    not_asked h = rw (← f, ← q, h)

    pub by_dots : o ≡ Ok tt → pick (dotted name) (Err Dotted) (Ok tt) ≡ admitted_of vol st name rolls dir
    unfolding admitted_of on_done
    by_dots h = rw (← f, ← q, h)

  module _ (m : Medium) where
    work_is : (work : Rollover → AppOut) → if_admitted vol m st name rolls dir (opening vol m st name rolls dir work)
        ≡ call_of (on_done (admitted_of vol st name rolls dir) (work (rollover_of rolls dir)) (refused_at vol m st))
    unfolding if_admitted opening on_done
    work_is work = go (admitted_of vol st name rolls dir) refl
      where
        go : (o : Result Unit Error) → admitted_of vol st name rolls dir ≡ o
            → on_done o (call_of (on_done asked (work (rollover_of rolls dir)) (refused_at vol m st))) (λ e. call_of (refused_at vol m st e))
            ≡ call_of (on_done o (work (rollover_of rolls dir)) (refused_at vol m st))
        go (Ok tt) q = ap call_of (on_done_done _ _ (admitted_asked q))
        go (Err e) q = refl

    pub create_is : create_call vol m st name rolls dir ≡ call_of (on_done (admitted_of vol st name rolls dir) (create_of name (rollover_of rolls dir) vol m st) (refused_at vol m st))
    unfolding create_call create_earlier
    create_is = work_is (λ x. create_of name x vol m st)

    pub open_is : open_call vol m st name rolls dir ≡ call_of (on_done (admitted_of vol st name rolls dir) (reopen_of name (rollover_of rolls dir) vol m st) (refused_at vol m st))
    unfolding open_call open_earlier
    open_is = work_is (λ x. reopen_of name x vol m st)
