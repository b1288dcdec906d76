use Rattle.std.proofs.Common.{refl}
use Rattle.files.proofs.with_token.Goals as goal

pub returns : goal.returns
returns c = rw c.wrapping_add_u32.ensures.value refl
