-- 02, S-1: the edges of a point's name and of its line, made of the definitions. One statement has them all; proofs/Edges proves it. Assumes nothing.
use Rattle.std.specs.Prelude.{ℕ, ◌≡◌, true, false, List, [], ◌∷◌, ◌++◌, replicate, Option, Some, None}
use Rattle.names.specs.Names.{point_ok}
use Rattle.marks.specs.declared.Mark.{Mark}
use Rattle.marks.specs.Line.{line_of, says_of}

-- `p`, `1`, `2`, and the largest number of 32 bits and the next one
abbrev p : List ℕ
p = 112 ∷ []

abbrev one : List ℕ
one = 49 ∷ []

abbrev two : List ℕ
two = 50 ∷ []

abbrev largest : List ℕ
largest = 52 ∷ 50 ∷ 57 ∷ 52 ∷ 57 ∷ 54 ∷ 55 ∷ 50 ∷ 57 ∷ 53 ∷ []

abbrev past : List ℕ
past = 52 ∷ 50 ∷ 57 ∷ 52 ∷ 57 ∷ 54 ∷ 55 ∷ 50 ∷ 57 ∷ 54 ∷ []

-- three fields of any bytes, parted by tabs, and the same with a line feed
abbrev text : List ℕ → List ℕ → List ℕ → List ℕ
text name id n = name ++ (9 ∷ id) ++ (9 ∷ n)

abbrev line : List ℕ → List ℕ → List ℕ → List ℕ
line name id n = text name id n ++ (10 ∷ [])

-- a record that says an id and a number
abbrev At : ℕ → ℕ → Option Mark
At id n = Some (record { id = id; number = n })

pub record Edges : Type 0 where
  -- names of 0, 1, 16 and 17 bytes, and one with `/`
  pub name_0 : point_ok [] ≡ false
  pub name_1 : point_ok p ≡ true
  pub name_16 : point_ok (replicate 16 112) ≡ true
  pub name_17 : point_ok (replicate 17 112) ≡ false
  pub name_slash : point_ok (112 ∷ 47 ∷ 112 ∷ []) ≡ false
  -- 70 09 31 09 33 0a
  pub written : line_of p 1 3 ≡ 112 ∷ 9 ∷ 49 ∷ 9 ∷ 51 ∷ 10 ∷ []
  pub itself : says_of p (line p one two) ≡ At 1 2
  -- a leading zero, in the id and in the number; 0 itself
  pub zero_id : says_of p (line p (48 ∷ one) two) ≡ None
  pub zero_number : says_of p (line p one (48 ∷ two)) ≡ None
  pub zeros : says_of p (line p one (48 ∷ 48 ∷ [])) ≡ None
  pub number_0 : says_of p (line p one (48 ∷ [])) ≡ At 1 0
  pub id_0 : says_of p (line p (48 ∷ []) one) ≡ At 0 1
  -- a sign, no digit
  pub plus : says_of p (line p (43 ∷ one) two) ≡ None
  pub minus : says_of p (line p (45 ∷ one) two) ≡ None
  pub empty_number : says_of p (line p one []) ≡ None
  -- 32 bits
  pub number_last : says_of p (line p one largest) ≡ At 1 4294967295
  pub number_past : says_of p (line p one past) ≡ None
  pub id_last : says_of p (line p largest one) ≡ At 4294967295 1
  pub id_past : says_of p (line p past one) ≡ None
  -- the line feed: none, twice, bytes after it, a carriage return before it, two lines in one record, a line in two
  pub no_feed : says_of p (text p one two) ≡ None
  pub two_feeds : says_of p (line p one two ++ (10 ∷ [])) ≡ None
  pub after_feed : says_of p (line p one two ++ p) ≡ None
  pub return_feed : says_of p (line p one (50 ∷ 13 ∷ [])) ≡ None
  pub two_lines : says_of p (line (120 ∷ []) one one ++ line p one two) ≡ None
  pub twice : says_of p (line p one two ++ line p one two) ≡ None
  pub first_half : says_of p (p ++ (9 ∷ one)) ≡ None
  pub last_half : says_of p (9 ∷ two ++ (10 ∷ [])) ≡ None
  pub nothing : says_of p [] ≡ None
  -- a blank, a fourth field, a name that begins with it, and one that it begins with
  pub blank : says_of p (line (112 ∷ 32 ∷ []) one two) ≡ None
  pub fourth : says_of p (line p one (50 ∷ 9 ∷ [])) ≡ None
  pub longer_name : says_of p (line (112 ∷ p) one two) ≡ None
  pub shorter_name : says_of (112 ∷ p) (line p one two) ≡ None
