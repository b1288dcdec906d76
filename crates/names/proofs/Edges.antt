-- The edges of 01's rule for names and directories, and those of dot names, computed from the definitions. Assumes nothing.
use Prim.Native.Nat.{ℕ}
use mathlib.Core.Path.{◌≡◌, refl}
use mathlib.Core.Bool.{true, false}
use mathlib.Core.List.{List, [], ◌∷◌, ◌++◌}
use lib.ListN.{replicate}
use Rattle.le.specs.Choice.{pick}
use Rattle.runs.specs.Split.{longer, split_at}
use Rattle.names.specs.Names.{plain_byte, every_byte, none_empty, name_ok, last_byte, all_but_last, dir_ok, begins_dot, some_dot, dotted}
use Rattle.names.specs.Edges as dots

-- n bytes `a`, and the same with `/` after them
abbrev letters : ℕ → List ℕ
letters n = replicate n 97

abbrev letters_dir : ℕ → List ℕ
letters_dir n = letters n ++ (47 ∷ [])

pub record Edges : Type 0 where
  pub empty_name : name_ok [] ≡ false
  pub empty_dir : dir_ok [] ≡ true
  pub slash_name : name_ok (47 ∷ []) ≡ false
  pub slash_dir : dir_ok (47 ∷ []) ≡ false
  -- a//b
  pub double_slash : name_ok (97 ∷ 47 ∷ 47 ∷ 98 ∷ []) ≡ false
  -- a/b
  pub one_slash : name_ok (97 ∷ 47 ∷ 98 ∷ []) ≡ true
  pub name_40 : name_ok (letters 40) ≡ true
  pub name_41 : name_ok (letters 41) ≡ false
  pub dir_40 : dir_ok (letters_dir 39) ≡ true
  pub dir_41 : dir_ok (letters_dir 40) ≡ false
  -- without its `/`
  pub open_dir : dir_ok (letters 40) ≡ false

pub edges : Edges
unfolding pick plain_byte every_byte longer split_at none_empty name_ok last_byte all_but_last dir_ok
edges =
    record {
      empty_name = refl;
      empty_dir = refl;
      slash_name = refl;
      slash_dir = refl;
      double_slash = refl;
      one_slash = refl;
      name_40 = refl;
      name_41 = refl;
      dir_40 = refl;
      dir_41 = refl;
      open_dir = refl;
    }

pub dot_edges : dots.Edges
unfolding pick plain_byte every_byte longer split_at none_empty name_ok last_byte all_but_last dir_ok begins_dot some_dot dotted
dot_edges =
    record {
      first = (refl, refl);
      second = (refl, refl);
      before_slash = (refl, refl);
      third = (refl, refl);
      dot = (refl, refl);
      two = (refl, refl);
      between = (refl, refl);
      within = (refl, refl);
      ends = (refl, refl);
      last = (refl, refl);
      hyphen = (refl, refl);
      underscore = (refl, refl);
      forty = (refl, refl);
      forty_one = refl;
      slash = refl;
      double = refl;
      directory = refl;
    }
