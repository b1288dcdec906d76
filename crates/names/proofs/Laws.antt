-- What others need of names: their length, and that a name is read back where zeros follow it. Assumes nothing.
use Prim.Native.Nat.{ℕ, zero, suc, ◌+◌, ◌≤◌}
use mathlib.Core.Path.{◌≡◌, refl}
use mathlib.Core.Bool.{Bool, true, false, ◌&&◌, ◌||◌, false≢true}
use mathlib.Core.List.{List, [], ◌∷◌, ◌++◌}
use native.Mathlib.Omega.{arith}
use borrow.Author.Tests.{eqb-true, leb-true}
use lib.Dec.{eqb, leb}
use lib.ListN.{length}
use Rattle.le.specs.Choice.{pick}
use Rattle.le.specs.Part.{zeros}
use Rattle.le.proofs.Bools.{and_true}
use Rattle.runs.specs.Run.{starts_with}
use Rattle.names.specs.Names.{between, is_slash, plain_byte, every_byte, segments, none_empty, name_ok, last_byte, all_but_last, dir_ok, in_dir, text_len}

module _ (l : List ℕ) (ok : name_ok l ≡ true) where
  name_length : between 1 40 (length l) ≡ true
  unfolding name_ok
  name_length = (and_true (between 1 40 (length l)) (every_byte l && none_empty (segments l)) ok).0

  pub name_some : 1 ≤ length l
  name_some = leb-true 1 (length l) (and_true (leb 1 (length l)) (leb (length l) 40) name_length).0

  pub name_short : length l ≤ 40
  name_short = leb-true (length l) 40 (and_true (leb 1 (length l)) (leb (length l) 40) name_length).1

  pub name_every : every_byte l ≡ true
  unfolding name_ok
  name_every = (and_true (every_byte l) (none_empty (segments l)) (and_true (between 1 40 (length l)) (every_byte l && none_empty (segments l)) ok).1).0

pub dir_short : (l : List ℕ) → dir_ok l ≡ true → length l ≤ 40
unfolding dir_ok
dir_short l ok = go (eqb (length l) 0) refl
  where
    go : (b : Bool) → eqb (length l) 0 ≡ b → length l ≤ 40
    go true e = let z : length l ≡ 0 = eqb-true (length l) 0 e in omega arith
    go false e =
        let k : (is_slash (last_byte l) && (name_ok (all_but_last l) && leb (length l) 40)) ≡ true = rw e at ok in
        leb-true (length l) 40 (and_true (name_ok (all_but_last l)) (leb (length l) 40) (and_true (is_slash (last_byte l)) (name_ok (all_but_last l) && leb (length l) 40) k).1).1

pub text_short : (l : List ℕ) → text_len l ≤ length l
unfolding text_len pick
text_short [] = omega arith
text_short (b ∷ bs) = go (eqb b 0) (text_short bs)
  where
    go : (z : Bool) → text_len bs ≤ length bs → pick z 0 (1 + text_len bs) ≤ length (b ∷ bs)
    go true h = omega arith
    go false h = omega arith

-- no byte of the alphabet is 0
not_zero : (b : ℕ) → (plain_byte b || is_slash b) ≡ true → eqb b 0 ≡ false
unfolding plain_byte
not_zero b h = go (eqb b 0) refl
  where
    go : (z : Bool) → eqb b 0 ≡ z → eqb b 0 ≡ false
    go true e = absurd (false≢true (rw (eqb-true b 0 e) at h))
    go false e = e

every_text : (l rest : List ℕ) → every_byte l ≡ true → text_len rest ≡ 0 → text_len (l ++ rest) ≡ length l
unfolding every_byte text_len pick
every_text [] rest h e = e
every_text (b ∷ bs) rest h e =
    let p = and_true (plain_byte b || is_slash b) (every_byte bs) h in
    rw (not_zero b p.0, every_text bs rest p.1 e) (omega arith)

text_zeros : (n : ℕ) → text_len (zeros n) ≡ 0
unfolding zeros text_len pick
text_zeros zero = refl
text_zeros (suc n) = refl

-- a name is as long as the text that begins with it, where nothing or a zero follows
module _ (l : List ℕ) (ok : name_ok l ≡ true) where
  pub name_text : (rest : List ℕ) → text_len rest ≡ 0 → text_len (l ++ rest) ≡ length l
  name_text rest e = every_text l rest (name_every l ok) e

  pub name_padded : (n : ℕ) → text_len (l ++ zeros n) ≡ length l
  name_padded n = name_text (zeros n) (text_zeros n)

-- every name is in the root
pub in_root : (name : List ℕ) → in_dir [] name ≡ true
unfolding starts_with
in_root name = refl
