-- S-4: "Reopening and reading keep their earlier results in all else": for all arguments, a call with the count forgotten is the call of before, in
-- its answer, reader, every byte of the output and medium record. Assumes nothing.
use Rattle.std.specs.Prelude.{Err, Ok, Result}
use mathlib.Core.Path.{◌≡◌, refl}
use mathlib.Core.Bool.{Bool, true, false}
use mathlib.Core.List.{List}
use Prim.Native.Nat.{ℕ}
use lib.Dec.{ltb}
use lib.ListN.{length}
use Rattle.le.specs.Choice.{pick}
use Rattle.medium.specs.declared.Error.{Error}
use Rattle.medium.specs.declared.Medium.{Medium}
use Rattle.medium.specs.Refusal.{on_done}
use Rattle.handles.specs.declared.Store.{Store}
use Rattle.reader.specs.declared.Reader.{Reader}
use Rattle.reader.specs.declared.Found.{Found}
use Rattle.reader.specs.declared.Found.TheVariants as found
use Rattle.reader.specs.declared.Upto.{Upto}
use Rattle.reader.specs.Next.{next_of}
use Rattle.reader.specs.Blank.{counted_of}
use Rattle.reader.specs.Calls.{usable_of, next_answer, next_call}
use Rattle.reader.specs.Upto.{below_of, below_call}
use Rattle.reader.specs.Earlier.{item_answer, next_earlier, below_earlier, uncounted, next_forgot, below_forgot}

forgets : (vol : List ℕ) (st : Store) (rd : Reader) (x : Result Found Error) → uncounted (next_answer (counted_of vol st rd x)) ≡ item_answer x
unfolding counted_of uncounted
forgets vol st rd (Err e) = refl
forgets vol st rd (Ok (found.Payload n)) = refl
forgets vol st rd (Ok (found.Hole from to)) = refl
forgets vol st rd (Ok found.End) = refl

-- both calls choose alike
pub through : {A B : Type 0} (f : A → B) (b : Bool) (o : Result Unit Error) (x y : A) (g : Error → A) → f (pick b x (on_done o y g)) ≡ pick b (f x) (on_done o (f y) (λ e. f (g e)))
unfolding pick on_done
through f true o x y g = refl
through f false (Ok tt) x y g = refl
through f false (Err e) x y g = refl

module _ (vol : List ℕ) (m : Medium) (st : Store) (out : List ℕ) where
  pub next_earlier_lem : (rd : Reader) → next_forgot (next_call vol m st rd out) ≡ next_earlier vol m st rd out
  unfolding next_call next_earlier uncounted
  next_earlier_lem rd =
      let t = (next_of vol m st rd out).ans in
      rw (← forgets vol st t.reader t.next) (through next_forgot (ltb (length out) 486) (usable_of vol st rd) _ _ _)

  pub below_earlier_lem : (u : Upto) → below_forgot (below_call vol m st u out) ≡ below_earlier vol m st u out
  unfolding below_call below_earlier uncounted
  below_earlier_lem u =
      let t = (below_of u.limit vol m st u.reader out).ans in
      rw (← forgets vol st t.reader t.next) (through below_forgot (ltb (length out) 486) (usable_of vol st u.reader) _ _ _)
