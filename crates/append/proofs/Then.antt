-- One after the other: what a refusal ends, and that runs of bytes may be taken in any parts. Assumes nothing.
use Rattle.std.specs.Prelude.{Err, Ok, Result}
use mathlib.Core.Path.{◌≡◌, refl, sym, ap, ◌∙◌}
use mathlib.Core.List.{List, [], ◌∷◌, ◌++◌, append-nil, append_assoc}
use Prim.Native.Nat.{ℕ}
use Rattle.medium.specs.declared.Error.{Error}
use Rattle.medium.specs.declared.Medium.{Medium}
use Rattle.medium.proofs.Laws.{on_done_no, on_done_done}
use Rattle.handles.specs.declared.Store.{Store}
use Rattle.plan.specs.Copy.{Step}
use Rattle.append.specs.declared.Appender.{Appender}
use Rattle.append.specs.declared.Handed.{Handed}
use Rattle.append.specs.Flush.{AppOut, after, and_then, done, put_byte, append_of}

abbrev pub GivesA : List ℕ → Handed → AppOut → Type 0
GivesA vol a o = (vol ≡ o.vol) × (a ≡ o.ans)

-- the same volume and answer, whatever the steps
abbrev pub Same : AppOut → AppOut → Type 0
Same x y = (x.vol ≡ y.vol) × (x.ans ≡ y.ans)

pub along : {v : List ℕ} {r : Handed} {x y : AppOut} → GivesA v r x → x ≡ y → GivesA v r y
along g e = (g.0 ∙ ap (λ (o : AppOut). o.vol) e, g.1 ∙ ap (λ (o : AppOut). o.ans) e)

pub along_same : {v : List ℕ} {r : Handed} (x y : AppOut) → GivesA v r x → Same x y → GivesA v r y
along_same x y g e = (g.0 ∙ e.0, g.1 ∙ e.1)

abbrev pub Next : Type 0
Next = List ℕ → Medium → Store → Appender → AppOut

pub then_done : (o : AppOut) (next : Next) → o.ans.outcome ≡ Ok tt → and_then o next ≡ after o.steps (next o.vol o.ans.medium o.ans.store o.ans.appender)
unfolding and_then
then_done o next q = on_done_done _ _ q

pub then_no : (o : AppOut) (next : Next) {e : Error} → o.ans.outcome ≡ Err e → and_then o next ≡ o
unfolding and_then
then_no o next q = on_done_no _ (λ _. o) q

after_then : (steps : List Step) (x : AppOut) (g : Next) → and_then (after steps x) g ≡ after steps (and_then x g)
after_then steps x g = go x.ans.outcome refl
  where
    go : (r : Result Unit Error) → x.ans.outcome ≡ r → and_then (after steps x) g ≡ after steps (and_then x g)
    go (Err e) q = then_no (after steps x) g q ∙ sym (ap (after steps) (then_no x g q))
    go (Ok tt) q =
        let y : AppOut = g x.vol x.ans.medium x.ans.store x.ans.appender in
        then_done (after steps x) g q
        ∙ ap (λ (s : List Step). record { vol = y.vol; ans = y.ans; steps = s }) (append_assoc steps x.steps y.steps)
        ∙ sym (ap (after steps) (then_done x g q))

pub then_assoc : (o : AppOut) (f g : Next) → and_then (and_then o f) g ≡ and_then o (λ v m s a. and_then (f v m s a) g)
then_assoc o f g = go o.ans.outcome refl
  where
    go : (r : Result Unit Error) → o.ans.outcome ≡ r → and_then (and_then o f) g ≡ and_then o (λ v m s a. and_then (f v m s a) g)
    go (Err e) q = ap (λ (x : AppOut). and_then x g) (then_no o f q) ∙ then_no o g q ∙ sym (then_no o (λ v m s a. and_then (f v m s a) g) q)
    go (Ok tt) q =
        ap (λ (x : AppOut). and_then x g) (then_done o f q)
        ∙ after_then o.steps (f o.vol o.ans.medium o.ans.store o.ans.appender) g
        ∙ sym (then_done o (λ v m s a. and_then (f v m s a) g) q)

-- nothing more to append changes nothing
pub then_nothing : (o : AppOut) → and_then o (append_of []) ≡ o
unfolding append_of
then_nothing o = go o.ans.outcome refl
  where
    go : (r : Result Unit Error) → o.ans.outcome ≡ r → and_then o (append_of []) ≡ o
    go (Err e) q = then_no o (append_of []) q
    go (Ok tt) q =
        then_done o (append_of []) q
        ∙ (λ i. record {
          vol = o.vol;
          ans = record { outcome = sym q i; medium = o.ans.medium; store = o.ans.store; appender = o.ans.appender };
          steps = append-nil o.steps i;
        })

-- bytes in two parts
pub append_parts : (xs ys vol : List ℕ) (m : Medium) (st : Store) (ap : Appender) → append_of (xs ++ ys) vol m st ap ≡ and_then (append_of xs vol m st ap) (append_of ys)
unfolding append_of
append_parts [] ys vol m st a = sym (then_done (done vol m st a) (append_of ys) refl)
append_parts (x ∷ xs) ys vol m st a =
    ap (λ (f : Next). and_then (put_byte x vol m st a) f) (λ i v n s b. append_parts xs ys v n s b i)
    ∙ sym (then_assoc (put_byte x vol m st a) (append_of xs) (append_of ys))
