use mathlib.Core.Path.{ap, sym, ◌∙◌}
use Rattle.le.specs.Field.{put_le}
use Rattle.le.specs.Part.{over, zeros}
use Rattle.le.proofs.Parts.{length_zeros, over_whole}
use Rattle.directory.specs.Entry.{entry_bytes}
use Rattle.directory.proofs.put_entry.Goals as goal

pub returns : goal.returns
unfolding entry_bytes
returns c =
    let a = c.args in
    let cleared = c.put_zeros.ensures ∙ over_whole (zeros 64) a.entry.now (length_zeros 64 ∙ sym c.requires.0) in
    c.put_u32.ensures ∙ ap (put_le 4 40 a.id) (c.put_bytes.ensures ∙ ap (over 0 a.name.now) cleared)
