-- Demand 3 itself: after every history that starts with an accepted format a mount is accepted, the root's listing shows exactly the book's files,
-- and each file read from its start gives exactly the book's payloads, in order, no hole, then end. Assumes nothing.
use Rattle.std.specs.Prelude.{ℕ, ◌*◌, ◌≤◌, ◌<◌, ◌≡◌, length, get_or}
use mathlib.Core.List.{List, [], Memᴰ}
use Rattle.le.specs.Part.{part}
use Rattle.medium.specs.declared.Medium.{Medium}
use Rattle.medium.specs.Refusal.{ok}
use Rattle.medium.specs.Sector.{Readable}
use Rattle.directory.specs.Rows.{row_of}
use Rattle.plan.specs.Copy.{Skipped, Distinct}
use Rattle.append.specs.declared.Appender.{Appender}
use Rattle.reading.specs.Gives.{Gives}
use Rattle.store.specs.Reading.{mount_call, ListCall, list_call, reader_call}
use Rattle.store.specs.Writing.{WriteCall, format_call}
use Rattle.power.specs.Calls.{Call}
use Rattle.power.specs.Book.{File, Book, new_book}
use Rattle.power.specs.History.{World, after, book_of, Clean, Honest, Premise}

-- row k of a listing is this file's
abbrev pub RowIs : List ℕ → ℕ → File → Type 0
RowIs rows k f = part (48 * k) 48 rows ≡ row_of f.name f.id f.chunks

-- a listing shows exactly these files, in any order: each row is a file's, each file has a row, there are as many, and no two rows are alike
pub record Shows (c : ListCall) (files : List File) : Type 0 where
  pub accepted : c.answer ≡ ok tt
  pub many : c.made ≡ length files
  pub rows : (k : ℕ) → k < c.made → (f : File) × Memᴰ f files × RowIs c.rows k f
  pub each : (f : File) → Memᴰ f files → (k : ℕ) × (k < c.made) × RowIs c.rows k f
  pub apart : (j k : ℕ) → j < c.made → k < c.made → part (48 * j) 48 c.rows ≡ part (48 * k) 48 c.rows → j ≡ k

-- a volume holds a book, whatever the medium record, if every sector reads
pub record Holds (vol : List ℕ) (b : Book) : Type 0 where
  pub mounted : (m : Medium) → Readable vol m → (mount_call vol m).answer ≡ ok tt
  pub listed : (m : Medium) → Readable vol m → (counts rows : List ℕ) → 64 ≤ length counts → 3072 ≤ length rows
      → Shows (list_call vol m (mount_call vol m).store [] counts rows) b.files
  pub reads : (m : Medium) → Readable vol m → (f : File) → Memᴰ f b.files
      → ((reader_call vol m (mount_call vol m).store f.name).answer ≡ ok tt)
      × Gives vol m (mount_call vol m).store (reader_call vol m (mount_call vol m).store f.name).reader f.payloads

-- the world after the format that a history starts with, beside any appender
abbrev pub started : WriteCall → Appender → World
started c ap = record { vol = c.vol; store = c.call.store; appender = ap; medium = c.call.medium }

-- one claim on the whole list of calls, under a premise on the body sectors left unwritten
abbrev pub NoBatchLost : (Skipped → Type 0) → Type 0
NoBatchLost P =
    (vol : List ℕ) (m : Medium) (size seed : ℕ) (ap : Appender) (calls : List Call)
    → ((k : ℕ) → get_or vol k 0 < 256)
    → (format_call vol m size seed).call.answer ≡ ok tt
    → Readable vol m
    → Clean vol (format_call vol m size seed).call.store
    → Premise P (started (format_call vol m size seed) ap) calls
    → Holds (after (started (format_call vol m size seed) ap) calls).vol (book_of (started (format_call vol m size seed) ap) calls new_book)

-- demand 3 in the customer's words
abbrev pub Demand3 : Type 0
Demand3 = NoBatchLost Honest

-- and under the weaker premise, so it says more
abbrev pub Demand3Weaker : Type 0
Demand3Weaker = NoBatchLost Distinct
