use Rattle.format.specs.Format.{format_head, id_for}
use Rattle.format.proofs.format_head.Goals as goal

pub returns : goal.returns
unfolding format_head id_for
returns c =
    rw (c.zero_crcs-crcs.ensures, c.body.ensures, c.newest-generation.ensures, c.id_from-id.ensures, c.mix.ensures)
