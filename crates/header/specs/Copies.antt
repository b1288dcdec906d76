-- 01, "Header": the two copies, in sectors 0 (A) and 32 (B), and which of them mount takes. A foreign copy refuses even beside a valid one. Mount
-- takes B only if it is valid and A is not, or its generation is larger. Where no copy is valid it refuses: 7 if one is damaged, else 5.
-- The copies are read in order, A first, and A's refusal comes before B is read. Assumes nothing.
use Rattle.std.specs.Prelude.{None}
use Rattle.std.specs.Prelude.{Err, Ok}
use Rattle.std.specs.Prelude.{ℕ, Bool, true, false, not, ◌&&◌, ◌||◌, List, [], ◌∷◌, ltb, eqb, get_or}
use Rattle.le.specs.Choice.{pick}
use Rattle.le.specs.Part.{zeros}
use Rattle.medium.specs.declared.Error.{Error}
use Rattle.medium.specs.declared.Error.TheVariants as no
use Rattle.medium.specs.declared.Medium.{Medium}
use Rattle.medium.specs.Refusal.{on_done}
use Rattle.medium.specs.Sector.{sectors_of, sector_at, read_of}
use Rattle.freemap.specs.Map.{unfit_of}
use Rattle.handles.specs.declared.Header.{Header}
use Rattle.handles.specs.Handles.{blank_of, no_store}
use Rattle.header.specs.declared.codec.Decoded.{Decoded}
use Rattle.header.specs.declared.answers.Mounted.{Mounted}
use Rattle.header.specs.declared.codec.Replica.{Replica}
use Rattle.header.specs.declared.codec.Replica.TheVariants.{Ours, Foreign, Damaged, Absent}
use Rattle.header.specs.declared.answers.Copies.{Copies}
use Rattle.header.specs.declared.answers.Current.{Current}
use Rattle.header.specs.Header.{decode_of}

abbrev pub is_ours : Replica → Bool
is_ours Ours = true
is_ours Foreign = false
is_ours Damaged = false
is_ours Absent = false

abbrev pub is_foreign : Replica → Bool
is_foreign Ours = false
is_foreign Foreign = true
is_foreign Damaged = false
is_foreign Absent = false

abbrev pub is_damaged : Replica → Bool
is_damaged Ours = false
is_damaged Foreign = false
is_damaged Damaged = true
is_damaged Absent = false

-- the copy in sector k
unfoldable pub copy_of : List ℕ → ℕ → Decoded
copy_of vol k = decode_of (sector_at vol k) (sectors_of vol)

-- both copies, or none where reading them was refused
abbrev pub both_of : Decoded → Decoded → Copies
both_of a b = record { outcome = Ok tt; heads = a.head ∷ b.head ∷ []; a = a.kind; b = b.kind }

abbrev pub no_copies : Error → Copies
no_copies e = record { outcome = Err e; heads = blank_of ∷ blank_of ∷ []; a = Absent; b = Absent }

unfoldable pub headers_of : List ℕ → Medium → Copies
headers_of vol m =
    pick (ltb (sectors_of vol) 64) (no_copies no.Range)
    (on_done (read_of m 0)
    (pick (is_foreign (copy_of vol 0).kind) (no_copies no.Foreign)
    (on_done (read_of m 32)
    (pick (is_foreign (copy_of vol 32).kind) (no_copies no.Foreign) (both_of (copy_of vol 0) (copy_of vol 32)))
    no_copies))
    no_copies)

-- the two headers; what an index past the end would read is the language's own default
abbrev pub past_end : Header
past_end = record { id = 0; generation = 0; next_id = 0; cursor = 0; chunks = 0; chunk = 0; crcs = [] }

abbrev pub head_a : Copies → Header
head_a c = get_or c.heads 0 past_end

abbrev pub head_b : Copies → Header
head_b c = get_or c.heads 1 past_end

-- B only if it is valid and A is not, or its generation is larger
unfoldable pub takes_b : Copies → Bool
takes_b c = is_ours c.b && (not (is_ours c.a) || ltb (head_a c).generation (head_b c).generation)

-- of one store: equal id, chunks and chunk size
unfoldable pub same_store : Header → Header → Bool
same_store x y = eqb x.id y.id && (eqb x.chunks y.chunks && eqb x.chunk y.chunk)

-- the copy taken, its header, and beside it the other copy's checksums. They say what that copy's body holds only where it is valid and of the
-- same store
unfoldable pub taken_of : ℕ → Header → Header → Bool → Current
taken_of copy head other valid = record { outcome = Ok tt; copy = copy; head = head; known = valid && same_store head other; listed = other.crcs }

unfoldable pub no_current : Error → Current
no_current e = record { outcome = Err e; copy = 0; head = blank_of; known = false; listed = zeros 24 }

unfoldable pub choice_of : Copies → Current
choice_of c =
    pick (takes_b c) (taken_of 1 (head_b c) (head_a c) (is_ours c.a))
    (pick (is_ours c.a) (taken_of 0 (head_a c) (head_b c) (is_ours c.b))
    (pick (is_damaged c.a || is_damaged c.b) (no_current no.Corrupt) (no_current no.Uninitialized)))

unfoldable pub current_of : List ℕ → Medium → Current
current_of vol m = on_done (headers_of vol m).outcome (choice_of (headers_of vol m)) no_current

-- the store of the copy taken; nothing has it open
abbrev pub mounted : Current → Mounted
mounted c = record { outcome = Ok tt; store = record { copy = c.copy; head = c.head; writer = None; free = unfit_of } }

abbrev pub not_mounted : Error → Mounted
not_mounted e = record { outcome = Err e; store = no_store }

unfoldable pub mount_of : List ℕ → Medium → Mounted
mount_of vol m = on_done (current_of vol m).outcome (mounted (current_of vol m)) not_mounted
