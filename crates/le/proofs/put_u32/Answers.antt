use Rattle.le.proofs.Fields.{put_made}
use Rattle.le.proofs.put_u32.Goals as goal

pub returns : goal.returns
returns c = put_made 4 _ _ _ _ _ c.to_le_bytes.ensures c.put_field.ensures
