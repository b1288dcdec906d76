-- Laws of a walk: a turn that goes on, a turn that stops, the end; a property that each visit keeps holds of the answer, of one walk or of two side by
-- side; and walks whose visits agree agree. Assumes nothing.
use Prim.Native.Nat.{ℕ, zero, suc, ◌+◌, ◌-◌, ◌<◌, ◌≤◌, zero-le}
use mathlib.Core.Path.{◌≡◌, refl, ap, sym, ◌∙◌, subst}
use native.Mathlib.Omega.{arith}
use native.Mathlib.Nat.{sub-eq-zero_of_le}
use Rattle.walk.specs.Walk.{Visit, next, stop, after_visit, walk, rest, visits}

module _ {S R : Type 0} (f : ℕ → S → Visit S R) (done : S → R) (n i : ℕ) (s : S) where
  turn : i < n → n - i ≡ suc (n - (i + 1))
  turn h = omega arith

  pub rest_next : (t : S) → i < n → f i s ≡ next t → rest f done n i s ≡ rest f done n (i + 1) t
  unfolding walk
  rest_next t h e = rw (turn h, e)

  pub rest_stop : (r : R) → i < n → f i s ≡ stop r → rest f done n i s ≡ r
  unfolding walk
  rest_stop r h e = rw (turn h, e)

  pub rest_end : n ≤ i → rest f done n i s ≡ done s
  unfolding walk
  rest_end h = rw (sub-eq-zero_of_le h)

module _ {S R : Type 0} (f : ℕ → S → Visit S R) (done : S → R) (n : ℕ) (P : ℕ → S → Type 0) (Q : R → Type 0)
    (goes : (k : ℕ) (t u : S) → k < n → P k t → f k t ≡ next u → P (k + 1) u)
    (stops : (k : ℕ) (t : S) (r : R) → k < n → P k t → f k t ≡ stop r → Q r)
    (ends : (t : S) → P n t → Q (done t)) where
  steps : (count i : ℕ) (s : S) → i + count ≡ n → P i s → Q (walk f done count i s)
  unfolding walk
  steps zero i s e p = let q : i ≡ n = omega arith in ends s (subst (λ (k : ℕ). P k s) q p)
  steps (suc count) i s e p = go (λ t h. steps count (i + 1) t (omega arith) h) (f i s) refl
    where
      go : ((t : S) → P (i + 1) t → Q (walk f done count (i + 1) t)) → (x : Visit S R) → f i s ≡ x → Q (after_visit x (λ t. walk f done count (i + 1) t))
      go more (next t) q = more t (goes i s t (omega arith) p q)
      go more (stop r) q = stops i s r (omega arith) p q

  pub walk_keeps : (i : ℕ) (s : S) → i ≤ n → P i s → Q (rest f done n i s)
  walk_keeps i s h p = steps (n - i) i s (omega arith) p

-- what two visits leave: both go on, or both stop
abbrev pub Both : {S T R Q : Type 0} → (S → T → Type 0) → (R → Q → Type 0) → Visit S R → Visit T Q → Type 0
Both P E (next s) (next t) = P s t
Both P E (stop r) (stop q) = E r q
Both P E (next s) (stop q) = ⊥
Both P E (stop r) (next t) = ⊥

module _ {S T R Q : Type 0} (f : ℕ → S → Visit S R) (g : ℕ → T → Visit T Q) (fdone : S → R) (gdone : T → Q) (n : ℕ) (P : ℕ → S → T → Type 0) (E : R → Q → Type 0)
    (visit : (k : ℕ) (s : S) (t : T) → k < n → P k s t → Both (P (k + 1)) E (f k s) (g k t))
    (ends : (s : S) (t : T) → P n s t → E (fdone s) (gdone t)) where
  beside : (count i : ℕ) (s : S) (t : T) → i + count ≡ n → P i s t → E (walk f fdone count i s) (walk g gdone count i t)
  unfolding walk
  beside zero i s t e p = let q : i ≡ n = omega arith in ends s t (subst (λ (k : ℕ). P k s t) q p)
  beside (suc count) i s t e p = go (λ u v h. beside count (i + 1) u v (omega arith) h) (f i s) (g i t) (visit i s t (omega arith) p)
    where
      go : ((u : S) (v : T) → P (i + 1) u v → E (walk f fdone count (i + 1) u) (walk g gdone count (i + 1) v)) → (x : Visit S R) (y : Visit T Q) → Both (P (i + 1)) E x y
          → E (after_visit x (λ u. walk f fdone count (i + 1) u)) (after_visit y (λ v. walk g gdone count (i + 1) v))
      go more (next u) (next v) b = more u v b
      go more (stop r) (stop q) b = b
      go more (next u) (stop q) b = absurd b
      go more (stop r) (next v) b = absurd b

  pub walks_beside : (i : ℕ) (s : S) (t : T) → i ≤ n → P i s t → E (rest f fdone n i s) (rest g gdone n i t)
  walks_beside i s t h p = beside (n - i) i s t (omega arith) p

-- the same visit, twice
both_same : {S R : Type 0} (x : Visit S R) → Both ◌≡◌ ◌≡◌ x x
both_same (next s) = refl
both_same (stop r) = refl

module _ {S R : Type 0} (f g : ℕ → S → Visit S R) (done : S → R) (n : ℕ) (agree : (k : ℕ) (t : S) → k < n → f k t ≡ g k t) where
  pub walk_alike : (i : ℕ) (s : S) → i ≤ n → rest f done n i s ≡ rest g done n i s
  walk_alike i s h =
      walks_beside f g done done n (λ (k : ℕ). ◌≡◌) ◌≡◌ (λ k s t b e. subst (Both ◌≡◌ ◌≡◌ (f k s)) (agree k s b ∙ ap (g k) e) (both_same (f k s))) (λ s t e. ap done e) i s s h refl

-- A loop over the items has come to number i with the state s: what is left gives what the whole walk gives. This is the loop's invariant.
pub record At {X S R : Type 0} (on : ℕ → S → X → Visit S R) (item : ℕ → X) (done : S → R) (n : ℕ) (whole : R) (i : ℕ) (s : S) : Type 0 where
  pub most : i ≤ n
  pub same : whole ≡ visits on item done n i s

pub at_start : {X S R : Type 0} (on : ℕ → S → X → Visit S R) (item : ℕ → X) (done : S → R) (n : ℕ) (s : S) → At on item done n (visits on item done n 0 s) 0 s
at_start on item done n s = record { most = zero-le; same = refl }

-- x is what the call at i answered, and y the case that it is
module _ {X S R : Type 0} {on : ℕ → S → X → Visit S R} {item : ℕ → X} {done : S → R} {n : ℕ} {whole : R} {i : ℕ} {s : S} where
  pub at_next : {x y : X} {t : S} → At on item done n whole i s → i < n → x ≡ item i → x ≡ y → on i s y ≡ next t → At on item done n whole (i + 1) t
  unfolding visits
  at_next {t = t} a h e q g = record { most = omega arith; same = a.same ∙ rest_next _ _ n i s t h (ap (on i s) (sym e ∙ q) ∙ g) }

  pub at_stop : {x y : X} {r : R} → At on item done n whole i s → i < n → x ≡ item i → x ≡ y → on i s y ≡ stop r → r ≡ whole
  unfolding visits
  at_stop {r = r} a h e q g = sym (a.same ∙ rest_stop _ _ n i s r h (ap (on i s) (sym e ∙ q) ∙ g))

  pub at_end : At on item done n whole i s → n ≤ i → done s ≡ whole
  unfolding visits
  at_end a h = sym (a.same ∙ rest_end _ _ n i s h)

-- items that agree give the same walk, at every visitor
pub visits_alike : {X S R : Type 0} (on : ℕ → S → X → Visit S R) (item item' : ℕ → X) (done : S → R) (n : ℕ) → ((k : ℕ) → k < n → item k ≡ item' k) → (i : ℕ) (s : S) → i ≤ n
    → visits on item done n i s ≡ visits on item' done n i s
unfolding visits
visits_alike on item item' done n h i s b = walk_alike _ _ done n (λ k t l. ap (on k t) (h k l)) i s b
