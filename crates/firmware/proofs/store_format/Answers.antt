use Rattle.firmware.proofs.Bounds.{format_few}
use Rattle.firmware.proofs.Ways.{format_told}
use Rattle.firmware.proofs.store_format.Goals as goal

pub code-requires : goal.code-requires
code-requires c =
    λ d. rw c.chunks.ensures
    (format_few c.args.volume.now _ {r = c.format-f.result} _ _ c.format-f.ensures.1 d)

pub returns : goal.returns
returns c =
    format_told c.args.volume.now c.medium_of.ensures c.format-f.result
    c.chunks.ensures c.code.ensures _ _ c.format-f.ensures
