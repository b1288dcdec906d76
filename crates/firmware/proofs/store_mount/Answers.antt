use Rattle.firmware.proofs.Bounds.{mount_few}
use Rattle.firmware.proofs.Ways.{mount_told}
use Rattle.firmware.proofs.store_mount.Goals as goal

pub code-requires : goal.code-requires
code-requires c =
    λ d. rw c.chunks.ensures
    (mount_few c.args.volume.now _ {r = c.mount-m.result} c.mount-m.ensures d)

pub returns : goal.returns
returns c =
    mount_told c.args.volume.now c.medium_of.ensures c.mount-m.result
    c.chunks.ensures c.code.ensures c.mount-m.ensures
