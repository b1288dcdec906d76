-- The row of a store value: the map's words stand after its other numbers. Assumes nothing.
use Rattle.std.proofs.Common.{◌≡◌, ℕ, List, [], ◌≤◌, ◌++◌, length, take, drop, refl, sym, ap, ◌∙◌, arith, append-nil, length-append, length-drop}
use lib.ListN.{drop_of_length-le}
use lib.Seq.{take_all, take-append-le}
use borrow.Rule.Slice.PartMut.{put_mid}
use Rattle.handles.specs.declared.Store.{Store}
use Rattle.handles.specs.declared.Writer.{Writer}
use Rattle.std.specs.Prelude.{None, Option, Some}
use Rattle.bridge.specs.Numbers.{row_words, store_words}

row_length : (s : Store) (o : Option Writer) → s.writer ≡ o → length (row_words s []) ≡ 11
unfolding row_words
row_length s None e = rw (e)
row_length s (Some w) e = rw (e)

row_join : (s : Store) (ws : List ℕ) (o : Option Writer) → s.writer ≡ o → row_words s [] ++ ws ≡ row_words s ws
unfolding row_words
row_join s ws None e = rw (e)
row_join s ws (Some w) e = rw (e)

-- a row with its first 11 numbers in place, and the others written over the rest
two_parts : (r z ws : List ℕ) → length r ≡ 11 → length z ≡ 32 → put_mid 11 32 (r ++ z) ws ≡ r ++ ws
two_parts r z ws n k =
    let first : take 11 (r ++ z) ≡ r = take-append-le 11 r z (omega (arith, n)) ∙ take_all 11 r (omega (arith, n)) in
    let few : length (drop 11 (r ++ z)) ≤ 32 = omega (arith, length-drop 11 (r ++ z), length-append r z, n, k) in
    let rest : drop 32 (drop 11 (r ++ z)) ≡ [] = drop_of_length-le (drop 11 (r ++ z)) few in
    rw (first, rest, append-nil)

-- the two parts are all of it
pub row_all : (s : Store) (z : List ℕ) {r ws : List ℕ} → r ≡ row_words s [] → ws ≡ s.free.words → length z ≡ 32 → put_mid 11 32 (r ++ z) ws ≡ store_words s
unfolding store_words
row_all s z e f k = rw (e, f) (two_parts (row_words s []) z s.free.words (row_length s s.writer refl) k ∙ row_join s s.free.words s.writer refl)
