-- What a reader that passes refusal 3 tells, and the moves that keep it so. Assumes nothing.
use Rattle.std.specs.Prelude.{Err, Ok, Result, Option, Some, None}
use Rattle.medium.specs.declared.Error.{Error}
use mathlib.Core.Path.{◌≡◌, refl}
use mathlib.Core.Bool.{Bool, true, false}
use mathlib.Core.List.{List}
use Prim.Native.Nat.{ℕ, ◌+◌, ◌≤◌, ◌<◌}
use native.Mathlib.Nat.{le_refl}
use native.Mathlib.Omega.{arith}
use borrow.Author.Tests.{ltb-true, leb-true, leb-false, eqb-false, not-true, lt-ltb, le-leb, ne_eqb}
use lib.Dec.{ltb, leb}
use Rattle.le.specs.Choice.{pick}
use Rattle.le.proofs.Choices.{pick_keeps}
use Rattle.le.proofs.Turns.{told}
use Rattle.le.proofs.Bools.{and_true}
use Rattle.medium.specs.declared.Error.{Error}
use Rattle.medium.specs.declared.Error.TheVariants.{Handle, Stale}
use Rattle.medium.specs.declared.Medium.{Medium}
use Rattle.medium.specs.Sector.{sectors_of}
use Rattle.medium.proofs.Laws.{not_done}
use Rattle.handles.specs.declared.Store.{Store}
use Rattle.handles.specs.Handles.{store_ok}
use Rattle.handles.proofs.Laws.{Held, store_facts}
use Rattle.table.specs.declared.Link.{Link}
use Rattle.table.specs.declared.ChainParts.{ChainParts}
use Rattle.table.specs.Table.{chain_of}
use Rattle.table.proofs.Walks.{chain_range}
use Rattle.reader.specs.declared.Reader.{Reader}
use Rattle.reader.specs.Reader.{end_ok, reader_ok, no_reader, end_of, start_of, moved_to, inside_of}
use Rattle.reader.specs.Next.{passed_end, limit_of}
use Rattle.reader.specs.Calls.{usable_of}

-- ---- a reader that passes beside a store value

pub record Reads (rd : Reader) (st : Store) : Type 0 where
  pub slot : rd.slot < 64
  pub id : rd.id ≡ 0 → ⊥
  pub chunks_least : 1 ≤ rd.chunks
  pub chunks_most : rd.chunks ≤ 2048
  pub chunk : rd.chunk < st.head.chunks
  pub position : rd.position ≤ rd.chunks
  pub index : rd.index ≤ st.head.chunk
  pub end : end_ok rd.end st.head.chunk ≡ true

pub reader_facts : (rd : Reader) (st : Store) → reader_ok rd st ≡ true → Reads rd st
unfolding reader_ok
reader_facts rd st e =
    let a = and_true _ _ e in
    let b = and_true _ _ a.1 in
    let c = and_true _ _ b.1 in
    let c' = and_true _ _ c.0 in
    let d = and_true _ _ c.1 in
    let f = and_true _ _ d.1 in
    let g = and_true _ _ f.1 in
    record {
      slot = ltb-true _ _ a.0;
      id = eqb-false _ _ (not-true _ b.0);
      chunks_least = leb-true _ _ c'.0;
      chunks_most = leb-true _ _ c'.1;
      chunk = ltb-true _ _ d.0;
      position = leb-true _ _ f.0;
      index = leb-true _ _ g.0;
      end = g.1;
    }

pub reader_ok_lem : (rd : Reader) (st : Store) → Reads rd st → reader_ok rd st ≡ true
unfolding reader_ok
reader_ok_lem rd st r =
    rw (lt-ltb _ _ r.slot, ne_eqb _ _ r.id, le-leb _ _ r.chunks_least, le-leb _ _ r.chunks_most, lt-ltb _ _ r.chunk, le-leb _ _ r.position, le-leb _ _ r.index, r.end)

-- what a refused call holds never passes
pub none_fails : (st : Store) → reader_ok no_reader st ≡ false
unfolding reader_ok no_reader
none_fails st = refl

-- the store value and the reader of an accepted call
used : (a b : Bool) → ◌≡◌ {A = Result Unit Error} (pick a (pick b (Ok tt) (Err Stale)) (Err Handle)) (Ok tt) → a ≡ true
unfolding pick
used true b e = refl
used false b e = not_done e

pub usable_facts : (vol : List ℕ) (st : Store) (rd : Reader) {o : Result Unit Error} → o ≡ usable_of vol st rd → o ≡ Ok tt → (store_ok st (sectors_of vol) ≡ true) × (reader_ok rd st ≡ true)
unfolding usable_of
usable_facts vol st rd p q = and_true _ _ (used _ _ (told p q))

-- ---- the end of a chunk

pub end_within : (chunks position size : ℕ) (partial : Bool) (records : ℕ) → records ≤ size → end_ok (end_of chunks position size partial records) size ≡ true
unfolding end_of
end_within chunks position size partial records h =
    pick_keeps (λ (e : Option ℕ). end_ok e size ≡ true) (ltb (position + 1) chunks) _ _
    (pick_keeps (λ (n : ℕ). leb n size ≡ true) partial records size (le-leb _ _ h) (le-leb size size (le_refl size))) refl

pub limit_most : (e : Option ℕ) (size : ℕ) → end_ok e size ≡ true → limit_of e size ≤ size
unfolding limit_of
limit_most None size h = le_refl size
limit_most (Some n) size h = leb-true _ _ h

-- in a chunk that is not passed, and not at the size
pub below_limit : (e : Option ℕ) (index size : ℕ) → passed_end e index ≡ false → index ≤ size → (index ≡ size → ⊥) → index < limit_of e size
unfolding passed_end limit_of
below_limit None index size p h n = omega arith
below_limit (Some k) index size p h n = leb-false _ _ p

-- ---- moves

pub moved_reads : (st : Store) (rd : Reader) (position index : ℕ) → Reads rd st → position ≤ rd.chunks → index ≤ st.head.chunk → Reads (moved_to rd position index) st
unfolding moved_to
moved_reads st rd position index r p i =
    record {
      slot = r.slot;
      id = r.id;
      chunks_least = r.chunks_least;
      chunks_most = r.chunks_most;
      chunk = r.chunk;
      position = p;
      index = i;
      end = r.end;
    }

pub inside_reads : (st : Store) (rd : Reader) (position index chunk : ℕ) (l : Link) → Reads rd st → position ≤ rd.chunks → index ≤ st.head.chunk
    → chunk < st.head.chunks → l.records ≤ st.head.chunk → Reads (inside_of st rd position index chunk l) st
unfolding inside_of
inside_reads st rd position index chunk l r p i c n =
    record {
      slot = r.slot;
      id = r.id;
      chunks_least = r.chunks_least;
      chunks_most = r.chunks_most;
      chunk = c;
      position = p;
      index = i;
      end = end_within rd.chunks position st.head.chunk l.partial l.records n;
    }

-- a new reader passes
pub start_ok : (vol : List ℕ) (m : Medium) (st : Store) (slot id : ℕ) {p : ChainParts} → store_ok st (sectors_of vol) ≡ true → slot < 64 → (id ≡ 0 → ⊥)
    → chain_of vol m st slot ≡ Ok p → reader_ok (start_of st slot id p) st ≡ true
unfolding start_of
start_ok vol m st slot id {p} ok s i e =
    let h : Held st (sectors_of vol) = store_facts st (sectors_of vol) ok in
    let f = chain_range vol m st slot e in
    reader_ok_lem _ st record {
      slot = s;
      id = i;
      chunks_least = f.least;
      chunks_most = omega (arith, f.most, h.head.chunks_most);
      chunk = f.first;
      position = omega arith;
      index = omega arith;
      end = end_within p.count 0 st.head.chunk p.partial p.records (omega (arith, f.records));
    }

-- ---- numbers

pub number_fits : (st : Store) (rd : Reader) (i : ℕ) → st.head.chunk ≤ 512 → Reads rd st → i ≤ st.head.chunk
    → (rd.position ≤ 32767) × (st.head.chunk ≤ 512) × (i ≤ 512)
number_fits st rd i s r h = (omega (arith, r.position, r.chunks_most), s, omega arith)

pub number_needs : (st : Store) (rd : Reader) (sectors i : ℕ) → store_ok st sectors ≡ true → Reads rd st → i ≤ st.head.chunk
    → (rd.position ≤ 32767) × (st.head.chunk ≤ 512) × (i ≤ 512)
number_needs st rd sectors i ok r h = number_fits st rd i (store_facts st sectors ok).head.size_most r h
