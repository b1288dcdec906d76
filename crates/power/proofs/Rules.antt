-- S-5: a create or an opening by either rules. Its input is admitted and it works, or it is refused with all as given. Assumes nothing.
use Rattle.std.specs.Prelude.{Ok, Result}
use Rattle.medium.specs.declared.Error.{Error}
use mathlib.Core.Path.{◌≡◌, refl, ◌∙◌}
use mathlib.Core.Bool.{Bool}
use mathlib.Core.List.{List}
use Prim.Native.Nat.{ℕ}
use Rattle.medium.specs.declared.Medium.{Medium}
use Rattle.medium.specs.Refusal.{on_done}
use Rattle.handles.specs.declared.Store.{Store}
use Rattle.append.specs.Calls.{call_of}
use Rattle.files.specs.Opened.{refused_at}
use Rattle.files.specs.Create.{create_of}
use Rattle.reopen.specs.Reopen.{reopen_of}
use Rattle.store.specs.Asked.{asked_of}
use Rattle.store.specs.Opening.{open_fine, rollover_of, opening, create_earlier, open_earlier, admitted_of}
use Rattle.store.proofs.Admits.{admitted_asked, admitted_same, create_is, open_is}
use Rattle.power.specs.Calls.{Rules, earlier, present}
use Rattle.power.specs.History.{create_by, open_by}
use Rattle.power.specs.Room.{Allows}

module _ (vol : List ℕ) (st : Store) (name : List ℕ) (rolls : Bool) (dir : List ℕ) where
  -- what the input comes to
  abbrev pub admits : Rules → Result Unit Error
  admits earlier = asked_of vol st (open_fine name rolls dir)
  admits present = admitted_of vol st name rolls dir

  pub admits_asked : (rules : Rules) → admits rules ≡ Ok tt → asked_of vol st (open_fine name rolls dir) ≡ Ok tt
  admits_asked earlier q = q
  admits_asked present q = admitted_asked vol st name rolls dir q

  pub admits_done : (rules : Rules) → Allows rules name → asked_of vol st (open_fine name rolls dir) ≡ Ok tt → admits rules ≡ Ok tt
  admits_done earlier allows q = q
  admits_done present allows q = admitted_same vol st name rolls dir (λ _. allows) ∙ q

  pub create_by_lem : (rules : Rules) (m : Medium)
      → create_by rules vol m st name rolls dir ≡ call_of (on_done (admits rules) (create_of name (rollover_of rolls dir) vol m st) (refused_at vol m st))
  unfolding create_earlier opening
  create_by_lem earlier m = refl
  create_by_lem present m = create_is vol st name rolls dir m

  pub open_by_lem : (rules : Rules) (m : Medium)
      → open_by rules vol m st name rolls dir ≡ call_of (on_done (admits rules) (reopen_of name (rollover_of rolls dir) vol m st) (refused_at vol m st))
  unfolding open_earlier opening
  open_by_lem earlier m = refl
  open_by_lem present m = open_is vol st name rolls dir m
