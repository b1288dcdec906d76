use Rattle.std.proofs.Common.{refl, ◌∙◌}
use Rattle.bridge.proofs.Rows.{row_all}
use Rattle.bridge.proofs.numbers.store_words.Goals as goal

pub returns : goal.returns
returns c =
    row_all c.args.s _ (c.copy_from_slice.ensures.after ∙ c.row.ensures) c.copy_from_slice-2.ensures.after refl
