-- The edges of a point's name and of its line hold, by computation. Assumes nothing.
use mathlib.Core.Path.{refl}
use Rattle.le.specs.Choice.{pick}
use Rattle.runs.specs.Run.{same_bytes}
use Rattle.runs.specs.Split.{longer, split_at}
use Rattle.names.specs.Names.{plain_byte, every_plain, point_ok, last_byte, all_but_last}
use Rattle.decimal.specs.Decimal.{is_digit, all_digits, value_from, decimal_from, decimal_of, leading_zero, plain_of, digits_of, decimal_text}
use Rattle.marks.specs.Line.{line_of, mark_of, numbers_of, three_of, says_of}
use Rattle.marks.specs.Edges.{Edges}

pub edges : Edges
unfolding pick same_bytes longer split_at plain_byte every_plain point_ok last_byte all_but_last is_digit all_digits value_from decimal_from decimal_of leading_zero plain_of digits_of decimal_text line_of mark_of numbers_of three_of says_of
edges =
    record {
      name_0 = refl;
      name_1 = refl;
      name_16 = refl;
      name_17 = refl;
      name_slash = refl;
      written = refl;
      itself = refl;
      zero_id = refl;
      zero_number = refl;
      zeros = refl;
      number_0 = refl;
      id_0 = refl;
      plus = refl;
      minus = refl;
      empty_number = refl;
      number_last = refl;
      number_past = refl;
      id_last = refl;
      id_past = refl;
      no_feed = refl;
      two_feeds = refl;
      after_feed = refl;
      return_feed = refl;
      two_lines = refl;
      twice = refl;
      first_half = refl;
      last_half = refl;
      nothing = refl;
      blank = refl;
      fourth = refl;
      longer_name = refl;
      shorter_name = refl;
    }
