-- 01's example lines and the edges of its forms, computed from the definitions. Assumes nothing.

use mathlib.Core.Path.{◌≡◌, refl}
use mathlib.Core.List.{[], ◌∷◌, ◌++◌}
use lib.ListN.{replicate}
use Rattle.le.specs.Choice.{pick}
use Rattle.runs.specs.Run.{same_bytes}
use Rattle.runs.specs.Split.{longer, split_at}
use Rattle.decimal.specs.Decimal.{is_digit, all_digits, value_from, decimal_from, decimal_of}
use Rattle.words.specs.Words.{no_rollover, rollover, format, create, append, sync, delete, list, other}
use Rattle.words.specs.Words.{format_word, create_word, append_word, sync_word, delete_word, list_word, rollover_of, alone_of, with_one_of, both_of, format_of, with_two_of, of_fields, line_of}

pub record Edges : Type 0 where
  -- format 4 1
  pub one : line_of (format_word ++ (9 ∷ 52 ∷ 9 ∷ 49 ∷ [])) ≡ format 4 1
  -- create a/1 -
  pub two : line_of (create_word ++ (9 ∷ 97 ∷ 47 ∷ 49 ∷ 9 ∷ 45 ∷ [])) ≡ create (97 ∷ 47 ∷ 49 ∷ []) no_rollover
  -- create b -
  pub three : line_of (create_word ++ (9 ∷ 98 ∷ 9 ∷ 45 ∷ [])) ≡ create (98 ∷ []) no_rollover
  -- append hello
  pub four : line_of (append_word ++ (9 ∷ 104 ∷ 101 ∷ 108 ∷ 108 ∷ 111 ∷ [])) ≡ append (104 ∷ 101 ∷ 108 ∷ 108 ∷ 111 ∷ [])
  pub five : line_of sync_word ≡ sync
  pub six : line_of list_word ≡ list
  -- delete a
  pub delete_a : line_of (delete_word ++ (9 ∷ 97 ∷ [])) ≡ delete (97 ∷ [])
  -- an empty line, an unknown word, a tab at the end
  pub empty : line_of [] ≡ other
  pub unknown : line_of (70 ∷ 111 ∷ 114 ∷ 109 ∷ 97 ∷ 116 ∷ 9 ∷ 52 ∷ 9 ∷ 49 ∷ []) ≡ other
  pub sync_tab : line_of (sync_word ++ (9 ∷ [])) ≡ other
  pub list_tab : line_of (list_word ++ (9 ∷ [])) ≡ other
  -- too few fields, and too many
  pub create_two : line_of (create_word ++ (9 ∷ 97 ∷ [])) ≡ other
  pub create_four : line_of (create_word ++ (9 ∷ 97 ∷ 9 ∷ 45 ∷ 9 ∷ 99 ∷ [])) ≡ other
  pub append_two : line_of (append_word ++ (9 ∷ 97 ∷ 9 ∷ 98 ∷ [])) ≡ other
  -- an empty text, and an empty directory: the root
  pub append_empty : line_of (append_word ++ (9 ∷ [])) ≡ append []
  pub create_root : line_of (create_word ++ (9 ∷ 97 ∷ 9 ∷ [])) ≡ create (97 ∷ []) (rollover [])
  -- a carriage return is a byte like any other
  pub dash_return : line_of (create_word ++ (9 ∷ 98 ∷ 9 ∷ 45 ∷ 13 ∷ [])) ≡ create (98 ∷ []) (rollover (45 ∷ 13 ∷ []))
  -- an empty number, a sign, a byte that is no digit; leading zeros
  pub no_size : line_of (format_word ++ (9 ∷ 9 ∷ 49 ∷ [])) ≡ other
  pub plus : line_of (format_word ++ (9 ∷ 43 ∷ 52 ∷ 9 ∷ 49 ∷ [])) ≡ other
  pub minus : line_of (format_word ++ (9 ∷ 45 ∷ 52 ∷ 9 ∷ 49 ∷ [])) ≡ other
  pub blank : line_of (format_word ++ (9 ∷ 52 ∷ 9 ∷ 49 ∷ 32 ∷ [])) ≡ other
  pub zeros : line_of (format_word ++ (9 ∷ 48 ∷ 52 ∷ 9 ∷ 48 ∷ 48 ∷ 49 ∷ [])) ≡ format 4 1
  -- the widths
  pub size_last : line_of (format_word ++ (9 ∷ 52 ∷ 50 ∷ 57 ∷ 52 ∷ 57 ∷ 54 ∷ 55 ∷ 50 ∷ 57 ∷ 53 ∷ 9 ∷ 49 ∷ [])) ≡ format 4294967295 1
  pub size_past : line_of (format_word ++ (9 ∷ 52 ∷ 50 ∷ 57 ∷ 52 ∷ 57 ∷ 54 ∷ 55 ∷ 50 ∷ 57 ∷ 54 ∷ 9 ∷ 49 ∷ [])) ≡ other
  pub seed_last : line_of (format_word ++ (9 ∷ 52 ∷ 9 ∷ 49 ∷ 56 ∷ 52 ∷ 52 ∷ 54 ∷ 55 ∷ 52 ∷ 52 ∷ 48 ∷ 55 ∷ 51 ∷ 55 ∷ 48 ∷ 57 ∷ 53 ∷ 53 ∷ 49 ∷ 54 ∷ 49 ∷ 53 ∷ [])) ≡ format 4 18446744073709551615
  pub seed_past : line_of (format_word ++ (9 ∷ 52 ∷ 9 ∷ 49 ∷ 56 ∷ 52 ∷ 52 ∷ 54 ∷ 55 ∷ 52 ∷ 52 ∷ 48 ∷ 55 ∷ 51 ∷ 55 ∷ 48 ∷ 57 ∷ 53 ∷ 53 ∷ 49 ∷ 54 ∷ 49 ∷ 54 ∷ [])) ≡ other
  -- 600 bytes pass, 601 do not
  pub long_600 : line_of (append_word ++ 9 ∷ replicate 593 120) ≡ append (replicate 593 120)
  pub long_601 : line_of (append_word ++ 9 ∷ replicate 594 120) ≡ other

pub edges : Edges
unfolding pick same_bytes longer split_at is_digit all_digits value_from decimal_from decimal_of rollover_of alone_of with_one_of both_of format_of with_two_of of_fields line_of
edges =
    record {
      one = refl;
      two = refl;
      three = refl;
      four = refl;
      five = refl;
      six = refl;
      delete_a = refl;
      empty = refl;
      unknown = refl;
      sync_tab = refl;
      list_tab = refl;
      create_two = refl;
      create_four = refl;
      append_two = refl;
      append_empty = refl;
      create_root = refl;
      dash_return = refl;
      no_size = refl;
      plus = refl;
      minus = refl;
      blank = refl;
      zeros = refl;
      size_last = refl;
      size_past = refl;
      seed_last = refl;
      seed_past = refl;
      long_600 = refl;
      long_601 = refl;
    }
