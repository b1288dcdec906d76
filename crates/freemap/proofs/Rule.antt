-- Which maps are in order: those with no set bit at or past the chunks. Assumes nothing.
use mathlib.Core.Path.{◌≡◌, sym, ◌∙◌}
use mathlib.Core.Bool.{Bool, true, false, true≢false}
use mathlib.Core.List.{List}
use Prim.Native.Nat.{ℕ, ◌≤◌, ◌<◌}
use native.Mathlib.Nat.{not-le_of_lt, le_of_eq}
use borrow.Author.Tests.{eqb-true, eq-eqb, le-ltb}
use lib.Dec.{ltb}
use Rattle.le.specs.Choice.{pick}
use Rattle.freemap.specs.declared.FreeMap.{FreeMap}
use Rattle.freemap.specs.Map.{marks, words_of, map_of, full_of, unfit_of, first_from, map_ok}
use Rattle.freemap.proofs.First.{None, First, found, empty, first_of}
use Rattle.freemap.proofs.Words.{marks_words, zeros_words}

-- none is found where none is set, and only there
from_none : (ws : List ℕ) (a r : ℕ) → First ws a r → None ws a 2048 → r ≡ 2048
from_none ws a r (empty e off) all = e
from_none ws a r (found lo hi m off) all = absurd (true≢false (sym m ∙ all r lo hi))

none_from : (ws : List ℕ) (a r : ℕ) → First ws a r → r ≡ 2048 → None ws a 2048
none_from ws a r (empty e off) q = off
none_from ws a r (found lo hi m off) q = absurd (not-le_of_lt hi (le_of_eq (sym q)))

pub ok_none : (map : FreeMap) (chunks : ℕ) → map_ok map chunks ≡ true → (c : ℕ) → pick map.fit chunks 0 ≤ c → c < 2048 → marks map.words c ≡ false
unfolding map_ok
ok_none map chunks e = none_from map.words (pick map.fit chunks 0) (first_from map.words (pick map.fit chunks 0)) (first_of map.words (pick map.fit chunks 0)) (eqb-true _ _ e)

pub ok_told : (f : ℕ → Bool) (chunks : ℕ) → ((c : ℕ) → chunks ≤ c → c < 2048 → f c ≡ false) → map_ok (map_of f) chunks ≡ true
unfolding map_ok pick
ok_told f chunks h = eq-eqb _ _ (from_none (words_of f) chunks _ (first_of (words_of f) chunks) (λ c x y. marks_words f c y ∙ h c x y))

pub full_ok : (chunks : ℕ) → map_ok (full_of chunks) chunks ≡ true
full_ok chunks = ok_told (λ c. ltb c chunks) chunks (λ c h _. le-ltb c chunks h)

pub ok_unfit : (chunks : ℕ) → map_ok unfit_of chunks ≡ true
unfolding map_ok unfit_of pick
ok_unfit chunks = rw zeros_words (eq-eqb _ _ (from_none (words_of (λ c. false)) 0 _ (first_of (words_of (λ c. false)) 0) (λ c x y. marks_words (λ d. false) c y)))
