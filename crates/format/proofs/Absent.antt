-- The first write of a format: the header without magic is no copy. Assumes nothing.
use mathlib.Core.Path.{◌≡◌}
use Prim.Native.Nat.{ℕ}
use Rattle.handles.specs.declared.Header.{Header}
use Rattle.header.specs.declared.codec.Replica.TheVariants.{Absent}
use Rattle.header.specs.Header.{bare, decode_of}
use Rattle.header.proofs.RoundTrip.{unmarked_absent}
use Rattle.format.specs.Format.{format_plan}

pub format_first : (copy : ℕ) (h : Header) (sectors : ℕ) → decode_of (format_plan copy h).first sectors ≡ bare Absent
unfolding format_plan
format_first copy h sectors = unmarked_absent h sectors
