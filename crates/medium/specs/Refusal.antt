-- 01, "Refused because of the input" and ".. of the state": the twelve refusals and their numbers; 13 to 15 are 02's, of S-1, and 16 of S-5. Assumes nothing.
use Rattle.std.specs.Prelude.{Err, Ok, Result}
use Rattle.std.specs.Prelude.{ℕ}
use Rattle.medium.specs.declared.Error.{Error}
use Rattle.medium.specs.declared.Error.TheVariants as no

-- the number that 01, or 02, gives a refusal
abbrev pub number_of : Error → ℕ
number_of no.Name = 1
number_of no.Range = 2
number_of no.Handle = 3
number_of no.Media = 4
number_of no.Uninitialized = 5
number_of no.Foreign = 6
number_of no.Corrupt = 7
number_of no.Exists = 8
number_of no.NotFound = 9
number_of no.Full = 10
number_of no.Stale = 11
number_of no.Spent = 12
number_of no.Point = 13
number_of no.Known = 14
number_of no.Lost = 15
number_of no.Dotted = 16

-- what a call on offer answers, as 01 has it: the values of an accepted call, or the number of a refusal
pub data Answer (A : Type 0) : Type 0 where
  ok : A → Answer A
  refused : ℕ → Answer A

-- a where all is done so far, else f of the refusal. It stays shut in proofs
unfoldable pub on_done : {A : Type 0} → Result Unit Error → A → (Error → A) → A
on_done (Ok tt) a f = a
on_done (Err e) a f = f e

-- g of the values where a call is accepted, else f of its number. It stays shut in proofs
unfoldable pub on_ok : {A B : Type 0} → Answer A → (A → B) → (ℕ → B) → B
on_ok (ok a) g f = g a
on_ok (refused n) g f = f n

-- an outcome as 01 has it
abbrev pub outcome_of : Result Unit Error → Answer Unit
outcome_of (Ok tt) = ok tt
outcome_of (Err e) = refused (number_of e)
