-- 01, "Record": `CSRD`, store id at 4, file id at 12, number at 16 (position × chunk size + index), length 1 to 486 at 20, payload at 22, CRC at
-- 508 as in the header; other bytes are written 0 and not tested. 02, S-4: a sector that is no record is blank or other. Assumes nothing.
use Rattle.std.specs.Prelude.{ℕ, ◌+◌, ◌*◌, Option, Some, None, Result, Ok, Err, Bool, ◌&&◌, ◌||◌, List, [], ◌∷◌, ◌++◌, leb, eqb, length}
use Rattle.le.specs.Choice.{pick}
use Rattle.le.specs.Part.{part, over, zeros}
use Rattle.le.specs.Field.{get_le}
use Rattle.le.specs.Layout.{Put, put, put_all}
use Rattle.runs.specs.Run.{starts_with, all_same}
use Rattle.seal.specs.Seal.{sealed, is_sealed}
use Rattle.medium.specs.declared.Error.{Error}
use Rattle.medium.specs.declared.Medium.{Medium}
use Rattle.medium.specs.Refusal.{on_done}
use Rattle.medium.specs.Sector.{sector_at, read_of, WriteOut, write_of}
use Rattle.handles.specs.declared.Store.{Store}
use Rattle.record.specs.declared.Verdict.{Verdict}
use Rattle.record.specs.declared.Verdict.TheVariants.{Valid, Blank, Other}

-- the four letters `CSRD`
abbrev pub mark : List ℕ
mark = 67 ∷ 83 ∷ 82 ∷ 68 ∷ []

-- the fields after the mark, with n the payload's length
abbrev pub fields_of : ℕ → ℕ → ℕ → ℕ → List Put
fields_of id file number n = put 8 4 id ∷ put 4 12 file ∷ put 4 16 number ∷ put 2 20 n ∷ []

-- the record that the appender makes, but for its checksum
unfoldable pub unsealed_of : ℕ → ℕ → ℕ → List ℕ → List ℕ
unsealed_of id file number payload = over 22 payload (put_all (fields_of id file number (length payload)) (mark ++ zeros 508))

-- and with it
unfoldable pub record_of : ℕ → ℕ → ℕ → List ℕ → List ℕ
record_of id file number payload = sealed (unsealed_of id file number payload)

-- a sector's mark and fields are those of this store, file and number, and its length is one that a record has
unfoldable pub matches_of : ℕ → ℕ → ℕ → List ℕ → Bool
matches_of id file number sector =
    starts_with mark sector
    && (eqb (get_le 8 4 sector) id && (eqb (get_le 4 12 sector) file && (eqb (get_le 4 16 sector) number
    && (leb 1 (get_le 2 20 sector) && leb (get_le 2 20 sector) 486))))

-- a sector as reading and reopening hear of it: a valid record of this store, file and number, with its length, or not. What `judge` answers is
-- `verdict_of`, below
unfoldable pub judge_of : ℕ → ℕ → ℕ → List ℕ → Option ℕ
judge_of id file number sector = pick (matches_of id file number sector && is_sealed sector) (Some (get_le 2 20 sector)) None

-- S-4: the 512 bytes of a sector are all 0 or all 255
unfoldable pub is_blank : List ℕ → Bool
is_blank sector = all_same 0 sector || all_same 255 sector

-- S-4: what `judge` answers: valid with its length, blank, or other
unfoldable pub verdict_of : ℕ → ℕ → ℕ → List ℕ → Verdict
verdict_of id file number sector =
    pick (matches_of id file number sector && is_sealed sector) (Valid (get_le 2 20 sector)) (pick (is_blank sector) Blank Other)

-- as reading and reopening hear it: a blank sector is another that is no record
unfoldable pub heard_of : Verdict → Option ℕ
heard_of (Valid n) = Some n
heard_of Blank = None
heard_of Other = None

-- a decision by a judged record. It stays shut in proofs
unfoldable pub on_judged : {A : Type 0} → Result (Option ℕ) Error → (Error → A) → (ℕ → A) → A → A
on_judged (Err e) f g a = f e
on_judged (Ok (Some n)) f g a = g n
on_judged (Ok None) f g a = a

-- a decision by a value that may be refused. It stays shut in proofs
unfoldable pub on_result : {A B : Type 0} → Result B Error → (Error → A) → (B → A) → A
on_result (Err e) f g = f e
on_result (Ok b) f g = g b

-- a valid record of this store, whatever file and number it has
unfoldable pub carries_of : ℕ → List ℕ → Bool
carries_of id sector = matches_of id (get_le 4 12 sector) (get_le 4 16 sector) sector && is_sealed sector

-- the payload of a valid record, with n its length
unfoldable pub payload_of : List ℕ → ℕ → List ℕ
payload_of sector n = part 22 n sector

-- 64 is the first data sector, and a chunk's records follow each other
unfoldable pub data_at : Store → ℕ → ℕ → ℕ
data_at st chunk index = 64 + chunk * st.head.chunk + index

-- the number of a record, by its chunk's position in the file, the chunk size and its index there
unfoldable pub number_at : ℕ → ℕ → ℕ → ℕ
number_at position size index = position * size + index

-- reading a record: refused where its sector does not read, else judged
unfoldable pub read_record_of : List ℕ → Medium → Store → ℕ → ℕ → ℕ → ℕ → Result (Option ℕ) Error
read_record_of vol m st id chunk index number =
    on_done (read_of m (data_at st chunk index)) (Ok (judge_of st.head.id id number (sector_at vol (data_at st chunk index)))) Err

-- record `index` of the chunk at a position of the file, with its number
unfoldable pub record_at : List ℕ → Medium → Store → ℕ → ℕ → ℕ → ℕ → Result (Option ℕ) Error
record_at vol m st id chunk position index = read_record_of vol m st id chunk index (number_at position st.head.chunk index)

-- writing one: a sector write of the record that the appender makes
abbrev pub write_record_of : List ℕ → Medium → Store → ℕ → ℕ → ℕ → ℕ → List ℕ → WriteOut
write_record_of vol m st id chunk index number payload = write_of vol m (data_at st chunk index) (record_of st.head.id id number payload)
