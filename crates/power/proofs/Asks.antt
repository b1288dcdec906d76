-- What a call that opens a file to append has asked of its input before it works: a name, and where a rollover is set its directory. Assumes nothing.
use Rattle.std.specs.Prelude.{Ok, Result}
use Rattle.medium.specs.declared.Error.{Error}
use Prim.Native.Nat.{ℕ, ◌≤◌}
use mathlib.Core.Path.{◌≡◌, refl, ap, sym, ◌∙◌}
use mathlib.Core.Bool.{Bool, true, false, not, ◌||◌, false≢true}
use mathlib.Core.Option.{Option, some}
use mathlib.Core.List.{List}
use native.Mathlib.Omega.{arith}
use lib.ListN.{length}
use Rattle.le.specs.Choice.{pick}
use Rattle.le.specs.Part.{part, zeros}
use Rattle.le.proofs.Choices.{pick_keeps_by, pick_true}
use Rattle.le.proofs.Parts.{length_zeros, part_over}
use Rattle.le.proofs.Bools.{and_true}
use Rattle.names.specs.Names.{name_ok, dir_ok}
use Rattle.names.proofs.Laws.{dir_short}
use Rattle.files.specs.declared.Rollover.{Rollover}
use Rattle.handles.specs.declared.Store.{Store}
use Rattle.append.specs.Appender.{dir_bytes}
use Rattle.append.specs.declared.Dir.{Dir}
use Rattle.store.specs.Asked.{asked_of}
use Rattle.store.specs.Opening.{open_fine, rollover_of}
use Rattle.safe.proofs.Frame.{clash}
use Rattle.power.specs.Book.{if_set}

pub asked_fine : (vol : List ℕ) (st : Store) (fine : Bool) → asked_of vol st fine ≡ Ok tt → fine ≡ true
unfolding asked_of
asked_fine vol st fine =
    pick_keeps_by (λ (o : Result Unit Error). o ≡ Ok tt → fine ≡ true) _ _ _
    (λ h. pick_keeps_by (λ (o : Result Unit Error). o ≡ Ok tt → fine ≡ true) fine _ _ (λ f q. f) (λ f q. clash refl q))
    (λ h q. clash refl q)

-- the rollover has the directory asked for
rollover_dir : (rolls : Bool) (dir : List ℕ) → length dir ≤ 40 → rolls ≡ true → dir_bytes (rollover_of rolls dir).dir ≡ dir
unfolding rollover_of dir_bytes
rollover_dir rolls dir h e =
    ap (λ (d : Dir). part 0 d.length d.bytes) (pick_true _ _ e)
    ∙ part_over 0 dir (zeros 40) (rw (length_zeros 40) (omega arith))

rollover_length : (rolls : Bool) (dir : List ℕ) → rolls ≡ true → (rollover_of rolls dir).dir.length ≡ length dir
unfolding rollover_of
rollover_length rolls dir e = ap (λ (d : Dir). d.length) (pick_true _ _ e)

rolls_is : (rolls : Bool) (dir : List ℕ) → (rollover_of rolls dir).rolls ≡ rolls
unfolding rollover_of
rolls_is rolls dir = refl

rollover_same : (rolls : Bool) (dir : List ℕ) → (rolls ≡ true → dir_ok dir ≡ true) → if_set (rollover_of rolls dir).rolls (dir_bytes (rollover_of rolls dir).dir) ≡ if_set rolls dir
unfolding pick
rollover_same true dir passes = rw (rolls_is true dir, rollover_dir true dir (dir_short dir (passes refl)) refl) refl
rollover_same false dir passes = rw (rolls_is false dir) refl

-- a rollover that is set where one is asked for, and whose directory then is the one asked for and passes its rule
pub record Directed (over : Rollover) (dir : Option (List ℕ)) : Type 0 where
  pub same : if_set over.rolls (dir_bytes over.dir) ≡ dir
  pub fine : over.rolls ≡ true → (over.dir.length ≤ 40) × (dir_ok (dir_bytes over.dir) ≡ true)

pub directed_set : {over : Rollover} {dir : Option (List ℕ)} → Directed over dir → over.rolls ≡ true → dir ≡ some (dir_bytes over.dir)
directed_set d r = sym d.same ∙ pick_true _ _ r

-- where a directory counts the rollover is set, and that is its directory
pub set_dir : (rolls : Bool) (bytes dir : List ℕ) → some dir ≡ if_set rolls bytes → (rolls ≡ true) × (bytes ≡ dir)
unfolding pick
set_dir true bytes dir e = let q : bytes ≡ dir = cc in (refl, q)
set_dir false bytes dir e = let z : ◌≡◌ {A = ℕ} 0 1 = cc in absurd (omega arith)

-- both
pub record Opens (name : List ℕ) (rolls : Bool) (dir : List ℕ) : Type 0 where
  pub name_fine : name_ok name ≡ true
  pub directed : Directed (rollover_of rolls dir) (if_set rolls dir)

rollover_directed : (rolls : Bool) (dir : List ℕ) → (rolls ≡ true → dir_ok dir ≡ true) → Directed (rollover_of rolls dir) (if_set rolls dir)
rollover_directed rolls dir passes =
    record {
      same = rollover_same rolls dir passes;
      fine = λ e.
          let q : rolls ≡ true = sym (rolls_is rolls dir) ∙ e in
          let short : length dir ≤ 40 = dir_short dir (passes q) in
          (rw (rollover_length rolls dir q) short, rw (rollover_dir rolls dir short q) (passes q));
    }

pub asked_opens : (vol : List ℕ) (st : Store) (name : List ℕ) (rolls : Bool) (dir : List ℕ) → asked_of vol st (open_fine name rolls dir) ≡ Ok tt → Opens name rolls dir
asked_opens vol st name rolls dir q =
    let a = and_true (name_ok name) (not rolls || dir_ok dir) (asked_fine vol st (open_fine name rolls dir) q) in
    record { name_fine = a.0; directed = rollover_directed rolls dir (λ e. set rolls (dir_ok dir) e a.1) }
  where
    set : (r d : Bool) → r ≡ true → (not r || d) ≡ true → d ≡ true
    set true d e h = h
    set false d e h = absurd (false≢true e)
