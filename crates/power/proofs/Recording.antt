-- A record written at the end of an appender's file: a payload more in its last segment, and in the book. Assumes nothing.
use Rattle.std.specs.Prelude.{Err, Ok}
use Prim.Native.Nat.{ℕ, ◌+◌, ◌*◌, ◌^◌, ◌≤◌, ◌<◌}
use mathlib.Core.Path.{◌≡◌, sym, ap, ◌∙◌, subst, refl}
use mathlib.Core.List.{List, [], ◌∷◌, ◌++◌, append-nil}
use native.Mathlib.Omega.{arith}
use lib.ListN.{length, take, drop, length-append, drop_of_length-le}
use lib.Seq.{get_or-set_same, take_at, drop_at, take_all}
use Rattle.le.specs.Part.{part}
use Rattle.le.proofs.Parts.{length_part}
use Rattle.medium.specs.declared.Error.{Error}
use Rattle.medium.specs.declared.Medium.{Medium}
use Rattle.medium.specs.Sector.{sectors_of, WriteOut}
use Rattle.medium.proofs.Laws.{on_done_keeps}
use Rattle.medium.proofs.Frame.{write_spends, write_kept, write_none}
use Rattle.handles.specs.declared.Store.{Store}
use Rattle.record.specs.Record.{number_at, data_at, record_of, write_record_of}
use Rattle.record.proofs.Laws.{data_inside, number_small}
use Rattle.record.proofs.RoundTrip.{length_record}
use Rattle.plan.specs.Copy.{recorded}
use Rattle.append.specs.declared.Appender.{Appender}
use Rattle.append.specs.Flush.{done, filed, record_out}
use Rattle.safe.proofs.Invs.{readable_still, inv_record}
use Rattle.layout.specs.Views.{disk_of}
use Rattle.layout.specs.Segments.{Segment, no_segment, segment_at}
use Rattle.layout.specs.Changes as changes
use Rattle.layout.specs.Changes.{replaced, Recorded}
use Rattle.layout.proofs.Facts.{replaced_here, length_payload}
use Rattle.layout.proofs.Records.{record_good}
use Rattle.views.proofs.Stays.{write_recorded}
use Rattle.views.proofs.Maps.{mapped_kept}
use Rattle.power.specs.Book as book
use Rattle.power.specs.Book.{Terms}
use Rattle.power.proofs.Fine.{Fine, entered, entered_all}
use Rattle.power.proofs.Whole.{Whole, Stands}
use Rattle.power.proofs.Ties.{ties_record}
use Rattle.power.proofs.Parts.{parted_record}
use Rattle.power.proofs.Standing.{sane, last_in, chunk_in, position_in, id_small}
use Rattle.power.proofs.Flows.{Live, Kept, kept_stopped, kept_done, kept_after}

-- the book's next record is what the appender has in its buffer
pub record Ready (a : Appender) (rest : List ℕ) : Type 0 where
  pub least : 1 ≤ a.fill
  pub most : a.fill ≤ 486
  pub takes : take 486 (part 0 a.fill a.buffer ++ rest) ≡ part 0 a.fill a.buffer
  pub leaves : drop 486 (part 0 a.fill a.buffer ++ rest) ≡ rest

-- a full one; or, in sync, all that there is
pub ready_full : (a : Appender) (rest : List ℕ) → length a.buffer ≡ 486 → a.fill ≡ 486 → Ready a rest
ready_full a rest l f =
    let n : length (part 0 a.fill a.buffer) ≡ 486 = length_part 0 a.fill a.buffer (omega arith) ∙ f in
    record { least = omega arith; most = omega arith; takes = take_at (part 0 a.fill a.buffer) rest 486 n; leaves = drop_at (part 0 a.fill a.buffer) rest 486 n }

pub ready_all : (a : Appender) → length a.buffer ≡ 486 → 1 ≤ a.fill → a.fill ≤ 486 → Ready a []
ready_all a l h k =
    let x : List ℕ = part 0 a.fill a.buffer in
    let n : length x ≡ a.fill = length_part 0 a.fill a.buffer (omega arith) in
    let e : x ++ [] ≡ x = append-nil x in
    record { least = h; most = k; takes = rw e (take_all 486 x (omega arith)); leaves = rw e (drop_of_length-le x {i = 486} (omega arith)) }

-- the segment with its payload more
payload_there : (G : ℕ → List Segment) (s p : ℕ) (x : List ℕ) → p < length (G s)
    → segment_at (replaced G s (changes.with_payload (G s) p x) s) p ≡ record { chunk = (segment_at (G s) p).chunk; payloads = (segment_at (G s) p).payloads ++ (x ∷ []) }
payload_there G s p x h =
    ap (λ (g : List Segment). segment_at g p) (replaced_here G s (changes.with_payload (G s) p x))
    ∙ get_or-set_same (G s) p (record { chunk = (segment_at (G s) p).chunk; payloads = (segment_at (G s) p).payloads ++ (x ∷ []) }) no_segment h

module _ {t : Terms} {vol : List ℕ} {m : Medium} {st : Store} {a : Appender} {G : ℕ → List Segment} {b : Fine} {rest : List ℕ}
    (l : Live t vol m st a G b) (s : Stands vol st a G b rest) (r : Ready a rest) (i : ℕ)
    (at_end : i ≡ length (segment_at (G a.slot) a.position).payloads) (room : i < st.head.chunk) where
  abbrev x : List ℕ
  x = part 0 a.fill a.buffer

  abbrev number : ℕ
  number = number_at a.position st.head.chunk i

  abbrev bytes : List ℕ
  bytes = record_of st.head.id a.id number x

  abbrev w : WriteOut
  w = write_record_of vol m st a.id a.chunk i number x

  abbrev H : ℕ → List Segment
  H = replaced G a.slot (changes.with_payload (G a.slot) a.position x)

  size : length x ≡ a.fill
  size = length_part 0 a.fill a.buffer (omega (arith, s.buffer, r.most))

  whole_sector : length bytes ≡ 512
  whole_sector = length_record st.head.id a.id number x (omega (arith, size, r.most))

  inside : data_at st a.chunk i < sectors_of vol
  inside = data_inside st a.chunk i (sectors_of vol) (chunk_in l.whole s) room (sane l.whole s).room

  number_in : number < 2 ^ 32
  unfolding number_at
  number_in =
      number_small a.position st.head.chunk i (omega (arith, position_in l.whole s)) (sane l.whole s).size_most
      (omega (arith, room, (sane l.whole s).size_most))

  -- refused: the volume as it was
  refused_live : {e : Error} → w.ans.outcome ≡ Err e → Live t w.vol w.ans.medium st a G b
  refused_live q =
      let n : w.vol ≡ vol = write_none vol m (data_at st a.chunk i) bytes q in
      record {
        whole = rw n l.whole;
        readable = readable_still vol w.vol (write_spends vol m (data_at st a.chunk i) bytes) (ap length n) l.readable;
        writer = l.writer;
        spared = l.spared;
        dir = l.dir;
      }

  module _ (q : w.ans.outcome ≡ Ok tt) where
    change : Recorded (disk_of vol st) (disk_of w.vol st) (segment_at (G a.slot) a.position).chunk i a.id (a.position * st.head.chunk + i) x
    unfolding number_at
    change =
        subst (λ (c : ℕ). Recorded (disk_of vol st) (disk_of w.vol st) c i a.id (a.position * st.head.chunk + i) x) s.chunk
        (write_recorded vol st a.chunk i a.id number x (sane l.whole s) (chunk_in l.whole s) room (omega (arith, size, r.least)) (omega (arith, size, r.most))
        l.whole.inv.range.id (id_small l.whole s) number_in m q)

    far : 64 ≤ data_at st a.chunk i
    unfolding data_at
    far = omega arith

    recorded_whole : Whole w.vol st H (entered t recorded b)
    unfolding entered book.entered
    recorded_whole =
        record {
          inv = inv_record vol m (data_at st a.chunk i) bytes st l.whole.inv far inside whole_sector;
          map = mapped_kept {st = st} {t = st} refl change.links refl l.whole.map;
          good = record_good a.slot a.position l.whole.good s.below s.entry s.last at_end room change;
          ties = rw (s.file, s.unwritten, r.takes) (ties_record a.slot a.position l.whole.good l.whole.ties s.below s.entry s.last change);
          parts = rw (s.file, s.unwritten, r.takes) (parted_record a.slot a.position l.whole.good l.whole.parts s.below s.entry s.last change);
          next = l.whole.next;
          ids = l.whole.ids;
          size = l.whole.size;
        }

    recorded_live : Live t w.vol w.ans.medium st (filed i a) H (entered t recorded b)
    unfolding entered book.entered
    recorded_live =
        record {
          whole = recorded_whole;
          readable =
              readable_still vol w.vol (write_spends vol m (data_at st a.chunk i) bytes)
              (write_kept vol m (data_at st a.chunk i) bytes whole_sector inside).size l.readable;
          writer = l.writer;
          spared = l.spared;
          dir = l.dir;
        }

    abbrev longer : Segment
    longer = record { chunk = (segment_at (G a.slot) a.position).chunk; payloads = (segment_at (G a.slot) a.position).payloads ++ (x ∷ []) }

    there : segment_at (H a.slot) a.position ≡ longer
    there = payload_there G a.slot a.position x (last_in l.whole s)

    recorded_stands : Stands w.vol st (filed i a) H (entered t recorded b) rest
    unfolding entered book.entered part
    recorded_stands =
        record {
          name = s.name;
          below = s.below;
          entry = change.entries a.slot s.below ∙ s.entry;
          last = s.last ∙ sym (ap length (replaced_here G a.slot (changes.with_payload (G a.slot) a.position x)) ∙ length_payload (G a.slot) a.position x);
          chunk = s.chunk ∙ sym (ap (λ (g : Segment). g.chunk) there);
          tail =
              ap (λ (n : ℕ). n + 1) at_end
              ∙ sym (ap (λ (g : Segment). length g.payloads) there ∙ length-append (segment_at (G a.slot) a.position).payloads (x ∷ []));
          buffer = s.buffer;
          file = s.file;
          rollover = s.rollover;
          fine = s.fine;
          unwritten = ap (drop 486) s.unwritten ∙ r.leaves;
        }

  pub record_kept : Kept t b rest (record_out i vol m st a)
  unfolding record_out entered_all
  record_kept =
      on_done_keeps (Kept t b rest) w.ans.outcome _ _
      (λ q. kept_after ((record { kind = recorded; skipped = [] }) ∷ []) (done w.vol w.ans.medium st (filed i a)) (kept_done (recorded_live q) (recorded_stands q)))
      (λ e q. kept_stopped e (refused_live q))
