-- S-1: the reader of the file with an id. In a store that the book is kept of it starts in the slot of the book's file with the id, so it gives what that
-- file's reader gives, and up to a number what stands below it; where no file of the book has the id it is refused with 15. Assumes nothing.
use Rattle.std.specs.Prelude.{Ok}
use Prim.Native.Nat.{ℕ}
use mathlib.Core.Path.{◌≡◌, refl, subst}
use mathlib.Core.Logic.{◌≢◌}
use mathlib.Core.Bool.{true}
use mathlib.Core.List.{List}
use Rattle.medium.specs.declared.Medium.{Medium}
use Rattle.medium.specs.Refusal.{ok, refused, on_done}
use Rattle.medium.specs.Sector.{Readable}
use Rattle.handles.specs.declared.Store.{Store}
use Rattle.directory.specs.Scan.{on_found}
use Rattle.table.specs.Table.{on_chain}
use Rattle.reader.specs.Reader.{start_of}
use Rattle.layout.specs.Segments.{Segment}
use Rattle.folds.proofs.Named.{find_id_there, find_id_none}
use Rattle.reading.specs.GivesUpto.{GivesUpto}
use Rattle.reading.specs.Below.{below}
use Rattle.store.specs.Reading.{reader_answer, reader_of_id_call}
use Rattle.power.specs.Book.{File}
use Rattle.power.specs.Points.{Pin}
use Rattle.power.proofs.Fine.{Fine}
use Rattle.power.proofs.Whole.{file_of, Whole}
use Rattle.power.proofs.Checks.{inv_checked}
use Rattle.power.proofs.Members.{Mem}
use Rattle.power.proofs.Shown.{asked, Started, file_starts}
use Rattle.power.proofs.Marks.{Pinned, pinned_below}

module _ (vol : List ℕ) (m : Medium) (st : Store) (G : ℕ → List Segment) (b : Fine) (w : Whole vol st G b) (r : Readable vol m) where
  -- a file of the book has the id
  module _ (f : File) (mem : Mem f b.files) where
    abbrev at : Started vol m st G b w r f
    at = file_starts vol m st G b w r f mem

    pub id_there : reader_of_id_call vol m st f.id ≡ reader_answer (record { outcome = Ok tt; reader = start_of st at.slot f.id at.chain; medium = m })
    unfolding reader_of_id_call on_done on_found on_chain
    id_there =
        rw (
          asked vol m st G b w r true refl,
          find_id_there vol m st (inv_checked m w.inv r) G w.good f.name at.slot f.id at.below64 at.entry,
          at.whole,
        )

    pub id_upto : (limit : ℕ)
        → ((reader_of_id_call vol m st f.id).answer ≡ ok tt)
        × GivesUpto vol m st (record { reader = (reader_of_id_call vol m st f.id).reader; limit = limit }) (below b.size limit (b.parts f.id))
    id_upto limit = rw id_there (refl, at.upto limit)

  -- none has
  pub id_none : (id : ℕ) → ((f : File) → Mem f b.files → f.id ≢ id) → (reader_of_id_call vol m st id).answer ≡ refused 15
  unfolding reader_of_id_call on_done on_found
  id_none id none =
      rw (
        asked vol m st G b w r true refl,
        find_id_none vol m st (inv_checked m w.inv r) G w.good id (λ s name i h e q. none (file_of name i (G s)) (w.ties.into s name i h e) q),
      )

  -- a pin's file, if it is there, gives up to the pin's number what the pin has
  pub pin_by_id : (q : Pin) → Pinned b q → (g : File) → Mem g b.files → g.id ≡ q.id
      → ((reader_of_id_call vol m st q.id).answer ≡ ok tt)
      × GivesUpto vol m st (record { reader = (reader_of_id_call vol m st q.id).reader; limit = q.number }) q.payloads
  pin_by_id q p g mem e =
      subst (λ (id : ℕ).
      ((reader_of_id_call vol m st id).answer ≡ ok tt) × GivesUpto vol m st (record { reader = (reader_of_id_call vol m st id).reader; limit = q.number }) q.payloads) e
      (rw (← pinned_below p, ← e) (id_upto g mem q.number))
