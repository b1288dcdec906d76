-- 01, "Header": what format writes, and where it refuses. Assumes nothing.
use Rattle.std.specs.Prelude.{◌≡◌, ℕ, zero, suc, ◌+◌, ◌-◌, ◌/◌, ◌^◌, ◌<◌, min, Bool, false, ◌&&◌, ◌||◌, List, [], ◌++◌, eqb, leb, get_or, replicate}
use Rattle.std.specs.Int.Bits.{bit_xor}
use Rattle.le.specs.Choice.{pick}
use Rattle.le.specs.Part.{zeros}
use Rattle.checksum.specs.Crc.{crc32_of}
use Rattle.mix.specs.SplitMix.{split_mix}
use Rattle.medium.specs.declared.Error.TheVariants.{Range, Spent}
use Rattle.medium.specs.declared.Medium.{Medium}
use Rattle.medium.specs.Refusal.{on_done}
use Rattle.medium.specs.Sector.{sectors_of}
use Rattle.handles.specs.declared.Header.{Header}
use Rattle.handles.specs.Handles.{body_of, no_store}
use Rattle.header.specs.declared.answers.Copies.{Copies}
use Rattle.header.specs.Copies.{headers_of, is_ours, head_a, head_b, takes_b}
use Rattle.header.specs.Header.{unmarked_of}
use Rattle.plan.specs.declared.Edit.TheVariants.{Format}
use Rattle.plan.specs.Copy.{Plan, Out, refused_out, copy_out}

-- chunks = min((S − 64) / size, 2,048)
unfoldable pub chunks_of : ℕ → ℕ → ℕ
chunks_of sectors size = min ((sectors - 64) / size) 2048

-- the copy opposite the newest. Newest is the copy that mount takes (02, S-7). With no valid copy A
unfoldable pub copy_for : Copies → ℕ
copy_for c = pick (takes_b c) 0 (pick (is_ours c.a) 1 0)

-- the newest's generation; 0 where there is none
unfoldable pub newest_of : Copies → ℕ
newest_of c = pick (takes_b c) (head_b c).generation (pick (is_ours c.a) (head_a c).generation 0)

-- a valid copy has this id
unfoldable pub has_id : Copies → ℕ → Bool
has_id c id = (is_ours c.a && eqb (head_a c).id id) || (is_ours c.b && eqb (head_b c).id id)

-- the smallest of 1, 2, 3 that no valid copy has
unfoldable pub spare_of : Copies → ℕ
spare_of c = pick (has_id c 1) (pick (has_id c 2) 3 2) 1

-- x, mixed again while it is 0 or a copy has it; after n bad values the spare one
unfoldable pub id_from : Copies → ℕ → ℕ → ℕ
id_from c zero x = spare_of c
id_from c (suc n) x = pick (eqb x 0 || has_id c x) (id_from c n (split_mix x)) x

-- mixed from seed XOR entropy; four values are tried
unfoldable pub id_for : Copies → Medium → ℕ → ℕ
id_for c m seed = id_from c 4 (split_mix (bit_xor seed m.entropy))

-- the checksums of n zero sectors, and zeros up to 24
unfoldable pub zero_crcs : ℕ → List ℕ
zero_crcs n = replicate n (crc32_of (zeros 512)) ++ zeros (24 - n)

-- the new header: every body sector is zero
unfoldable pub format_head : Copies → Medium → ℕ → ℕ → ℕ → Header
format_head c m chunks size seed =
    record {
      id = id_for c m seed;
      generation = newest_of c + 1;
      next_id = 1;
      cursor = 0;
      chunks = chunks;
      chunk = size;
      crcs = zero_crcs (body_of chunks);
    }

-- what such a header lists of each body sector
abbrev pub Zeroed : Header → Type 0
Zeroed h = (k : ℕ) → k < body_of h.chunks → get_or h.crcs k 0 ≡ crc32_of (zeros 512)

-- the header without magic first; every body sector is written
unfoldable pub format_plan : ℕ → Header → Plan
format_plan copy h =
    record { store = no_store; copy = copy; head = h; first = unmarked_of h; edit = Format; name = []; known = false; listed = zeros 24 }

-- the writes: the header without magic, the zeroed body, the whole header
abbrev pub made_of : ℕ → Header → List ℕ → Medium → Out
made_of copy h vol m = copy_out (format_plan copy h) vol m

-- after both headers: 0 chunks, then the last generation
unfoldable pub format_over : Copies → ℕ → ℕ → List ℕ → Medium → Out
format_over c size seed vol m =
    let chunks : ℕ = chunks_of (sectors_of vol) size in
    pick (eqb chunks 0) (refused_out no_store vol m Range)
    (pick (eqb (newest_of c) (2 ^ 64 - 1)) (refused_out no_store vol m Spent)
    (made_of (copy_for c) (format_head c m chunks size seed) vol m))

unfoldable pub format_of : ℕ → ℕ → List ℕ → Medium → Out
format_of size seed vol m =
    pick (leb 1 size && leb size 512)
    (on_done (headers_of vol m).outcome (format_over (headers_of vol m) size seed vol m) (refused_out no_store vol m))
    (refused_out no_store vol m Range)
