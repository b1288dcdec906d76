-- A part of a call carries d more writes through: from a medium record with d more left it does the same, and d more are left after it, wherever at
-- least d are left after it. Parts one after another carry them, and a decision that does not depend on writes left. Assumes nothing.
use Rattle.std.specs.Prelude.{Err, Ok, Result}
use Prim.Native.Nat.{ℕ, ◌≤◌}
use mathlib.Core.Path.{◌≡◌, sym, ap, ap₂, subst, ◌∙◌}
use mathlib.Core.Bool.{Bool, true, false}
use native.Mathlib.Nat.{le_refl, le_trans}
use native.Mathlib.Omega.{arith}
use Rattle.le.specs.Choice.{pick}
use Rattle.medium.specs.declared.Error.{Error}
use Rattle.medium.specs.declared.Medium.{Medium}
use Rattle.medium.specs.Refusal.{on_done}
use Rattle.writes.specs.Writes.{Most}
use Rattle.writes.specs.More.{more}

-- what has a medium record in it, and the same with d more writes left
pub record Holder (A : Type 0) : Type 0 where
  pub held : A → Medium
  pub raised : ℕ → A → A

-- a medium record by itself
abbrev pub alone : Holder Medium
alone = record { held = λ m. m; raised = more }

pub record Carries (d : ℕ) {A B : Type 0} (a : Holder A) (b : Holder B) (f : A → B) : Type 0 where
  pub falls : (x : A) → (b.held (f x)).left ≤ (a.held x).left
  pub same : (x : A) → d ≤ (b.held (f (a.raised d x))).left → f (a.raised d x) ≡ b.raised d (f x)

module _ {d : ℕ} {A B : Type 0} {a : Holder A} {b : Holder B} where
  -- with no write
  pub still : {f : A → B} → ((x : A) → (b.held (f x)).left ≡ (a.held x).left) → ((x : A) → f (a.raised d x) ≡ b.raised d (f x)) → Carries d a b f
  still {f} l s = record { falls = λ x. subst (λ (n : ℕ). n ≤ (a.held x).left) (sym (l x)) (le_refl _); same = λ x _. s x }

  -- by what does not depend on writes left
  pub given : {C : Type 0} (c : A → C) (k : C → A → B) → ((x : A) → c (a.raised d x) ≡ c x) → ((y : C) → Carries d a b (k y)) → Carries d a b (λ x. k (c x) x)
  given c k e h =
      record {
        falls = λ x. (h (c x)).falls x;
        same = λ x l.
            ap (λ y. k y (a.raised d x)) (e x) ∙ (h (c x)).same x (subst (λ y. d ≤ (b.held (k y (a.raised d x))).left) (e x) l);
      }

  -- of the medium record in it
  pub inside : (k : A → Medium → B) → ((x : A) → k (a.raised d x) ≡ k x) → ((x : A) → a.held (a.raised d x) ≡ more d (a.held x)) → ((x : A) → Carries d alone b (k x))
      → Carries d a b (λ x. k x (a.held x))
  inside k e r h =
      record {
        falls = λ x. (h x).falls (a.held x);
        same = λ x l.
            let q : k (a.raised d x) (a.held (a.raised d x)) ≡ k x (more d (a.held x)) = ap₂ (λ (g : Medium → B) (m : Medium). g m) (e x) (r x) in
            q ∙ (h x).same (a.held x) (subst (λ (y : B). d ≤ (b.held y).left) q l);
      }

  -- either way
  pub either : {f g : A → B} (t : Bool) → Carries d a b f → Carries d a b g → Carries d a b (λ x. pick t (f x) (g x))
  unfolding pick
  either true p q = p
  either false p q = q

  pub unless : {f : A → B} {r : A → Error → B} (o : Result Unit Error) → Carries d a b f → ((e : Error) → Carries d a b (λ x. r x e)) → Carries d a b (λ x. on_done o (f x) (r x))
  unfolding on_done
  unless (Ok tt) p q = p
  unless (Err e) p q = q e

module _ {d : ℕ} {A B C : Type 0} {a : Holder A} {b : Holder B} {c : Holder C} {f : A → B} where
  -- one after the other
  pub both : (g : B → C) → Carries d a b f → Carries d b c g → Carries d a c (λ x. g (f x))
  both g p q =
      record {
        falls = λ x. le_trans (q.falls (f x)) (p.falls x);
        same = λ x l.
            let e : f (a.raised d x) ≡ b.raised d (f x) = p.same x (le_trans l (q.falls (f (a.raised d x)))) in
            ap g e ∙ q.same (f x) (subst (λ (y : B). d ≤ (c.held (g y)).left) e l);
      }

  -- the other only where the first is accepted
  pub onward : (o : B → Result Unit Error) (g : B → C) (r : B → Error → C) → ((y : B) → o (b.raised d y) ≡ o y) → Carries d a b f → Carries d b c g
      → ((e : Error) → Carries d b c (λ y. r y e)) → Carries d a c (λ x. on_done (o (f x)) (g (f x)) (r (f x)))
  onward o g r e p q s = both (λ y. on_done (o y) (g y) (r y)) p (given o (λ t y. on_done t (g y) (r y)) e (λ t. unless t q s))

-- as many writes left as the call makes at most are as good as d more
pub ample : {d : ℕ} {B : Type 0} {b : Holder B} {f : Medium → B} (n : ℕ) (m : Medium) → Carries d alone b f → Most n (more d m) (b.held (f (more d m))) → n ≤ m.left
    → f (more d m) ≡ b.raised d (f m)
ample n m p most h = p.same m (omega (arith, most, h))
