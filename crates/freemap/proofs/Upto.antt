-- The bits that one test tells, and those below a number that another tells, one more at a time: what a loop over the chunks has put. Assumes nothing.
use mathlib.Core.Path.{◌≡◌, refl, sym, ap, ◌∙◌}
use mathlib.Core.Bool.{Bool, true, false, ◌&&◌, ◌||◌, and-true}
use mathlib.Core.List.{List}
use Prim.Native.Nat.{ℕ, ◌+◌}
use native.Mathlib.Omega.{arith}
use borrow.Author.Tests.{eqb-true, eqb-false, ltb-true, ltb-false, lt-ltb, le-ltb}
use lib.Dec.{eqb, ltb}
use Rattle.le.specs.Choice.{pick}
use Rattle.le.proofs.Choices.{pick_keeps_by}
use Rattle.freemap.specs.Map.{words_of, put_of}
use Rattle.freemap.proofs.Words.{words_alike, put_words}

module _ (f g : ℕ → Bool) where
  -- f, and g of the chunks below n
  abbrev pub upto : ℕ → ℕ → Bool
  upto n c = f c || (ltb c n && g c)

  pub upto_none : words_of f ≡ words_of (upto 0)
  upto_none = words_alike f (upto 0) (λ c _. at (f c) (g c) (ltb c 0) (le-ltb c 0 (omega arith)))
    where
      at : (a b t : Bool) → t ≡ false → a ≡ (a || (t && b))
      at true b t e = refl
      at false b t e = rw e refl

  later : (c n : ℕ) → (c ≡ n → ⊥) → ltb c n ≡ ltb c (n + 1)
  later c n h = go (ltb c n) refl
    where
      go : (t : Bool) → ltb c n ≡ t → ltb c n ≡ ltb c (n + 1)
      go true e = e ∙ sym (lt-ltb c (n + 1) (let l = ltb-true c n e in omega (arith, l)))
      go false e = e ∙ sym (le-ltb c (n + 1) (let l = ltb-false c n e in omega (arith, l, h)))

  here : (a b t : Bool) → t ≡ true → b ≡ true → true ≡ (a || (t && b))
  here true b t e q = refl
  here false b t e q = rw (e, q) refl

  stays : (a b t : Bool) → b ≡ false → (a || (t && b)) ≡ a
  stays true b t q = refl
  stays false b true q = q
  stays false b false q = refl

  pub upto_more : (n : ℕ) → g n ≡ true → put_of (words_of (upto n)) n true ≡ words_of (upto (n + 1))
  upto_more n q =
      put_words (upto n) n true ∙ words_alike _ (upto (n + 1))
      (λ c _. pick_keeps_by (λ (x : Bool). x ≡ upto (n + 1) c) (eqb c n) true (upto n c)
      (λ e. let i : c ≡ n = eqb-true c n e in here (f c) (g c) (ltb c (n + 1)) (lt-ltb c (n + 1) (omega (arith, i))) (ap g i ∙ q))
      (λ e. ap (λ (t : Bool). f c || (t && g c)) (later c n (eqb-false c n e))))

  pub upto_same : (n : ℕ) → g n ≡ false → words_of (upto n) ≡ words_of (upto (n + 1))
  upto_same n q = words_alike (upto n) (upto (n + 1)) (λ c _. go c (eqb c n) refl)
    where
      go : (c : ℕ) (t : Bool) → eqb c n ≡ t → upto n c ≡ upto (n + 1) c
      go c true e =
          let z : g c ≡ false = ap g (eqb-true c n e) ∙ q in
          stays (f c) (g c) (ltb c n) z ∙ sym (stays (f c) (g c) (ltb c (n + 1)) z)
      go c false e = ap (λ (t : Bool). f c || (t && g c)) (later c n (eqb-false c n e))

  -- a turn of the loop: bit n put where g says so
  pub upto_step : (n : ℕ) {ws vs : List ℕ} → ws ≡ words_of (upto n) → vs ≡ pick (g n) (put_of ws n true) ws → vs ≡ words_of (upto (n + 1))
  upto_step n {ws} {vs} e q =
      q ∙ pick_keeps_by (λ (x : List ℕ). x ≡ words_of (upto (n + 1))) (g n) (put_of ws n true) ws
      (λ t. ap (λ (x : List ℕ). put_of x n true) e ∙ upto_more n t) (λ t. e ∙ upto_same n t)

-- from none, every chunk below n
pub upto_all : (n : ℕ) → words_of (upto (λ c. false) (λ c. true) n) ≡ words_of (λ c. ltb c n)
upto_all n = words_alike _ (λ c. ltb c n) (λ c _. and-true (ltb c n))
