-- Names of files and of directories, and the name in a directory entry, from 01's "Directory entry". Assumes nothing.
use Rattle.std.specs.Prelude.{ℕ, ◌+◌, ◌-◌, Bool, true, false, ◌&&◌, ◌||◌, List, [], ◌∷◌, eqb, leb, length, get_or, take}
use Rattle.le.specs.Choice.{pick}
use Rattle.runs.specs.Run.{starts_with}
use Rattle.runs.specs.Split.{split_at}

-- a number from low to high
abbrev pub between : ℕ → ℕ → ℕ → Bool
between low high x = leb low x && leb x high

-- `/`
abbrev pub is_slash : ℕ → Bool
is_slash b = eqb b 47

-- A-Z a-z 0-9 . _ -
unfoldable pub plain_byte : ℕ → Bool
plain_byte b = between 65 90 b || between 97 122 b || between 48 57 b || eqb b 46 || eqb b 95 || eqb b 45

-- every byte is of `A-Z a-z 0-9 . _ - /`
unfoldable pub every_byte : List ℕ → Bool
every_byte [] = true
every_byte (b ∷ bs) = (plain_byte b || is_slash b) && every_byte bs

-- the list split at each `/`
abbrev pub segments : List ℕ → List (List ℕ)
segments l = split_at 47 l

-- no segment is empty
unfoldable pub none_empty : List (List ℕ) → Bool
none_empty [] = true
none_empty ([] ∷ ss) = false
none_empty ((b ∷ bs) ∷ ss) = none_empty ss

-- a name: 1 to 40 bytes of the alphabet, no segment empty
unfoldable pub name_ok : List ℕ → Bool
name_ok l = between 1 40 (length l) && (every_byte l && none_empty (segments l))

-- the last byte, and what stands before it
unfoldable pub last_byte : List ℕ → ℕ
last_byte l = get_or l (length l - 1) 0

unfoldable pub all_but_last : List ℕ → List ℕ
all_but_last l = take (length l - 1) l

-- a directory: empty, or a name and then `/`, that `/` within the 40
unfoldable pub dir_ok : List ℕ → Bool
dir_ok l = eqb (length l) 0 || (is_slash (last_byte l) && (name_ok (all_but_last l) && leb (length l) 40))

-- a name is in a directory if it begins with it
abbrev pub in_dir : List ℕ → List ℕ → Bool
in_dir dir name = starts_with dir name

-- the bytes before the first zero, as an entry keeps its name
unfoldable pub text_len : List ℕ → ℕ
text_len [] = 0
text_len (b ∷ bs) = pick (eqb b 0) 0 (1 + text_len bs)

-- ---- S-1: the name of a point

-- every byte is of the alphabet without `/`
unfoldable pub every_plain : List ℕ → Bool
every_plain [] = true
every_plain (b ∷ bs) = plain_byte b && every_plain bs

-- 1 to 16 of them
unfoldable pub point_ok : List ℕ → Bool
point_ok l = between 1 16 (length l) && every_plain l

-- ---- S-5: dot names, which are retired. `name_ok` still takes them, since entries keep them

-- a segment begins with `.`
unfoldable pub begins_dot : List ℕ → Bool
begins_dot [] = false
begins_dot (b ∷ bs) = eqb b 46

unfoldable pub some_dot : List (List ℕ) → Bool
some_dot [] = false
some_dot (s ∷ ss) = begins_dot s || some_dot ss

-- a dot name: one of its segments does
unfoldable pub dotted : List ℕ → Bool
dotted l = some_dot (segments l)
