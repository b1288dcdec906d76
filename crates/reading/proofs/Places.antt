-- A file on a volume where every sector reads: the reader at each of its places, and what one turn of a reader finds there. Assumes nothing.
use Rattle.std.specs.Prelude.{Ok, Option, Some, None}
use mathlib.Core.Path.{◌≡◌, ap, sym, ◌∙◌}
use mathlib.Core.Logic.{◌≢◌}
use mathlib.Core.Bool.{true, false}
use mathlib.Core.List.{List, []}
use Prim.Native.Nat.{ℕ, ◌+◌, ◌*◌, ◌≤◌, ◌<◌}
use native.Mathlib.Omega.{arith}
use borrow.Author.Tests.{ne_eqb, lt-ltb, le-ltb, le-leb, lt-leb}
use lib.ListN.{length, get_or}
use Rattle.le.specs.Choice.{pick}
use Rattle.le.specs.Part.{over}
use Rattle.le.proofs.Choices.{pick_keeps, pick_true, pick_false}
use Rattle.medium.specs.declared.Medium.{Medium}
use Rattle.medium.specs.Refusal.{on_done}
use Rattle.medium.specs.Sector.{sectors_of, sector_at, read_of}
use Rattle.medium.proofs.Laws.{length_sector}
use Rattle.handles.specs.declared.Store.{Store}
use Rattle.handles.specs.Handles.{store_ok}
use Rattle.handles.proofs.Laws.{Held, store_facts}
use Rattle.table.specs.declared.Link.{Link}
use Rattle.table.specs.Table.{locate_of, on_place, place_at}
use Rattle.directory.specs.Entry.{entry_at}
use Rattle.record.specs.Record.{judge_of, data_at, number_at, read_record_of, record_at}
use Rattle.record.proofs.Laws.{data_inside}
use Rattle.reader.specs.declared.Reader.{Reader}
use Rattle.reader.specs.declared.Found.TheVariants as found
use Rattle.reader.specs.Reader.{end_of, moved_to, inside_of, enter_of}
use Rattle.reader.specs.Next.{passed_end, arrive_of, record_here, tells, take_of}
use Rattle.reader.proofs.Facts.{Reads, end_within}
use Rattle.reader.proofs.Moves.{arrive_here, arrive_on}
use Rattle.layout.specs.Views.{named, disk_of}
use Rattle.layout.specs.Segments.{Segment, segment_at, link_for, Good}
use Rattle.layout.proofs.Facts.{case, full_link, partial_link_lem, one_place}
use Rattle.layout.proofs.Tallies.{chunks_bound}
use Rattle.layout.proofs.Judged.{Passed, stored_judged, judged_other, named_facts}
use Rattle.reading.proofs.Turns.{take_valid, take_other, search_none, hole_none}

-- ---- where a chunk ends

-- at its count of payloads, if it is not the last
count_of : (size s : ℕ) (g : List Segment) (p : ℕ) → p + 1 < length g → pick (link_for size s g p).partial (link_for size s g p).records size ≡ length (segment_at g p).payloads
unfolding pick
count_of size s g p h = case (length (segment_at g p).payloads) size
    (λ e. rw (full_link size s g p e) (sym e))
    (λ n. rw (partial_link_lem size s g p (λ e. absurd (omega (arith, h, e))) n))

pub end_inner : (size s : ℕ) (g : List Segment) (p : ℕ) → p + 1 < length g
    → end_of (length g) p size (link_for size s g p).partial (link_for size s g p).records ≡ Some (length (segment_at g p).payloads)
unfolding end_of
end_inner size s g p h = pick_true _ _ (lt-ltb (p + 1) (length g) h) ∙ ap Some (count_of size s g p h)

pub end_last : (size s : ℕ) (g : List Segment) (p : ℕ) → p + 1 ≡ length g → end_of (length g) p size (link_for size s g p).partial (link_for size s g p).records ≡ None
unfolding end_of
end_last size s g p h = pick_false _ _ (le-ltb (p + 1) (length g) (omega (arith, h)))

records_most_lem : (size s : ℕ) (g : List Segment) (p : ℕ) → length (segment_at g p).payloads ≤ size → (link_for size s g p).records ≤ size
unfolding link_for
records_most_lem size s g p h = pick_keeps (λ (l : Link). l.records ≤ size) _ _ _ (omega arith) h

-- the reader that stands at record i of the chunk at position p
abbrev pub reader_at : Store → ℕ → ℕ → List Segment → ℕ → ℕ → Reader
reader_at st s id g p i =
    record {
      store = st.head.id;
      generation = st.head.generation;
      slot = s;
      id = id;
      chunks = length g;
      chunk = (segment_at g p).chunk;
      end = end_of (length g) p st.head.chunk (link_for st.head.chunk s g p).partial (link_for st.head.chunk s g p).records;
      position = p;
      index = i;
    }

-- every sector reads, the layout is good, and the file of this name and id is in slot s
pub record Filed (vol : List ℕ) (m : Medium) (st : Store) (G : ℕ → List Segment) (s id : ℕ) (name : List ℕ) : Type 0 where
  pub readable : (j : ℕ) → j < sectors_of vol → read_of m j ≡ Ok tt
  pub sound : store_ok st (sectors_of vol) ≡ true
  pub good : Good (disk_of vol st) G
  pub slot : s < 64
  pub entry : (disk_of vol st).entry s ≡ named name id
  pub located : (p : ℕ) → p < length (G s) → locate_of vol m st s p ≡ Ok (place_at (segment_at (G s) p).chunk (link_for st.head.chunk s (G s) p))

module _ {vol : List ℕ} {m : Medium} {st : Store} {G : ℕ → List Segment} {s id : ℕ} {name : List ℕ} (f : Filed vol m st G s id name) where
  abbrev size : ℕ
  size = st.head.chunk

  abbrev count : ℕ → ℕ
  count p = length (segment_at (G s) p).payloads

  abbrev at : ℕ → ℕ → Reader
  at p i = reader_at st s id (G s) p i

  abbrev sector : ℕ → ℕ → List ℕ
  sector p j = sector_at vol (data_at st (segment_at (G s) p).chunk j)

  held : Held st (sectors_of vol)
  held = store_facts st (sectors_of vol) f.sound

  inside : (p j : ℕ) → p < length (G s) → j < size → data_at st (segment_at (G s) p).chunk j < sectors_of vol
  inside p j h k = data_inside st (segment_at (G s) p).chunk j (sectors_of vol) (f.good.inside s p f.slot h) k held.head.room

  pub fits : (p : ℕ) → p < length (G s) → count p ≤ size
  fits p h = f.good.fits s p f.slot h

  pub accepted : (p i : ℕ) → p < length (G s) → i ≤ count p → Reads (at p i) st
  accepted p i h k =
      record {
        slot = f.slot;
        id = (named_facts (entry_at vol st s) f.entry).some;
        chunks_least = f.good.held s name id f.slot f.entry;
        chunks_most = omega (arith, chunks_bound f.good s f.slot, held.head.chunks_most);
        chunk = f.good.inside s p f.slot h;
        position = omega (arith, h);
        index = omega (arith, k, fits p h);
        end = end_within (length (G s)) p size (link_for size s (G s) p).partial (link_for size s (G s) p).records (records_most_lem size s (G s) p (fits p h));
      }

  -- ---- the records of a chunk

  pub stands : (p j : ℕ) → p < length (G s) → j < count p → Passed st.head.id (sector p j) id (p * size + j) (get_or (segment_at (G s) p).payloads j [])
  stands p j h k =
      stored_judged st.head.id (sector p j) (length_sector vol (data_at st (segment_at (G s) p).chunk j) (inside p j h (omega (arith, k, fits p h)))) (f.good.written s p j name id f.slot f.entry h k)

  pub judged_at_lem : (p i j : ℕ) {r : Option ℕ} → p < length (G s) → j < size → judge_of st.head.id id (p * size + j) (sector p j) ≡ r → record_here vol m st (at p i) j ≡ Ok r
  unfolding record_here record_at read_record_of number_at on_done
  judged_at_lem p i j h k e = rw (f.readable (data_at st (segment_at (G s) p).chunk j) (inside p j h k), e)

  -- past the last one none passes
  pub none_past : (p i j : ℕ) → p < length (G s) → count p ≤ j → j < size → record_here vol m st (at p i) j ≡ Ok None
  none_past p i j h k l =
      judged_at_lem p i j h l (judged_other st.head.id id (p * size + j) (sector p j) (λ x q.
      let w = f.good.placed (segment_at (G s) p).chunk j s (p * size + j) x name id (f.good.inside s p f.slot h) l f.slot q f.entry in
      let o = one_place f.good s w.position s p f.slot f.slot w.in_file h w.there in
      let e : length (segment_at (G s) w.position).payloads ≡ count p = ap (λ (y : ℕ). length (segment_at (G s) y).payloads) o.1 in
      absurd (omega (arith, w.filled, e, k))))

  -- ---- a turn: a record, the next chunk, the end

  pub not_passed : (p i : ℕ) → p < length (G s) → (p + 1 < length (G s) → i < count p) → passed_end (at p i).end i ≡ false
  unfolding passed_end
  not_passed p i h k = case (p + 1) (length (G s))
      (λ e. ap (λ (x : Option ℕ). passed_end x i) (end_last size s (G s) p e))
      (λ e.
      let l : p + 1 < length (G s) = omega (arith, h, e) in
      ap (λ (x : Option ℕ). passed_end x i) (end_inner size s (G s) p l) ∙ lt-leb (count p) i (k l))

  pub arrived : (p i : ℕ) → p < length (G s) → (p + 1 < length (G s) → i < count p) → i ≢ size → arrive_of vol m st (at p i) ≡ record { reader = at p i; more = Ok true }
  arrived p i h k ne = arrive_here vol m st (at p i) h (not_passed p i h k) ∙ rw (ne_eqb i size ne)

  pub entering : (p i : ℕ) → p + 1 < length (G s) → enter_of vol m st (at p i) (p + 1) 0 ≡ Ok (at (p + 1) 0)
  unfolding enter_of on_place inside_of
  entering p i h = rw (f.located (p + 1) h)

  -- the next chunk, at its end
  pub going_on : (p i : ℕ) → p + 1 < length (G s) → i ≡ count p → arrive_of vol m st (at p i) ≡ arrive_of vol m st (at (p + 1) 0)
  unfolding passed_end
  going_on p i h e =
      arrive_on vol m st (at p i) (omega (arith, h)) (ap (λ (x : Option ℕ). passed_end x i) (end_inner size s (G s) p h) ∙ le-leb (count p) i (omega (arith, e))) (entering p i h)

  pub taken : (p i : ℕ) (out : List ℕ) → p < length (G s) → i < count p
      → take_of vol m st (at p i) out ≡ record {
        out = over 0 (get_or (segment_at (G s) p).payloads i []) out;
        ans = tells (Ok (found.Payload (length (get_or (segment_at (G s) p).payloads i [])))) (at p (i + 1));
      }
  unfolding moved_to
  taken p i out h k =
      let b : i < size = omega (arith, k, fits p h) in
      let w = stands p i h k in
      take_valid vol m st (at p i) out (judged_at_lem p i i h b w.valid)
      ∙ ap (λ (x : List ℕ). record { out = over 0 x out; ans = tells (Ok (found.Payload (length (get_or (segment_at (G s) p).payloads i [])))) (at p (i + 1)) }) w.payload

  pub taken_end : (p i : ℕ) (out : List ℕ) → p + 1 ≡ length (G s) → i ≡ count p → i < size → take_of vol m st (at p i) out ≡ record { out = out; ans = tells (Ok found.End) (at p i) }
  taken_end p i out h e b =
      let l : p < length (G s) = omega (arith, h) in
      take_other vol m st (at p i) out (none_past p i i l (omega (arith, e)) b)
      ∙ ap (λ x. record { out = out; ans = x }) (hole_none vol m st (at p i) (end_last size s (G s) p h)
      (search_none vol m st (at p i) (i + 1) size (omega (arith, b)) (λ j y z. none_past p i j l (omega (arith, e, y)) z)))
