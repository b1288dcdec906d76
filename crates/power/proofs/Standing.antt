-- An appender that stands is inside every bound, so it passes refusal 3. Assumes nothing.
use Prim.Native.Nat.{ℕ, ◌^◌, ◌≤◌, ◌<◌}
use mathlib.Core.Path.{◌≡◌, refl}
use mathlib.Core.Bool.{Bool, true, false, not, ◌&&◌, ◌||◌}
use mathlib.Core.List.{List}
use native.Mathlib.Omega.{arith}
use borrow.Author.Tests.{lt-ltb, le-leb, ne_eqb}
use lib.Dec.{leb}
use lib.ListN.{length}
use Rattle.medium.specs.Sector.{sectors_of}
use Rattle.names.specs.Names.{dir_ok}
use Rattle.handles.specs.declared.Store.{Store}
use Rattle.handles.proofs.Laws.{Sane}
use Rattle.directory.specs.Entry.{entry_at}
use Rattle.append.specs.declared.Appender.{Appender}
use Rattle.append.specs.declared.Tail.{Tail}
use Rattle.append.specs.declared.Tail.TheVariants.{At, Reopened, Closed}
use Rattle.append.specs.Appender.{dir_bytes, tail_ok, fill_ok, appender_ok, Fit}
use Rattle.layout.specs.Segments.{Segment, segment_at}
use Rattle.layout.proofs.Tallies.{chunks_bound}
use Rattle.layout.proofs.Judged.{named_facts}
use Rattle.views.proofs.Commits.{inv_sane}
use Rattle.power.proofs.Fine.{Fine}
use Rattle.power.proofs.Whole.{Whole, TailAt, Stands}

tail_ok_lem : (x : Tail) (n size : ℕ) → n ≤ size → TailAt x n size → tail_ok x size ≡ true
unfolding tail_ok
tail_ok_lem (At i) n size h e = le-leb i size (omega arith)
tail_ok_lem (Reopened r) n size h e =
    let k : r ≡ size → ⊥ = e.1 in
    let g : r ≡ n = e.0 in
    let f : r < size = omega (arith, k, g) in
    rw (le-leb 1 r e.2, lt-ltb r size f)
tail_ok_lem Closed n size h e = absurd e

module _ {vol : List ℕ} {st : Store} {a : Appender} {G : ℕ → List Segment} {b : Fine} {rest : List ℕ} (w : Whole vol st G b) (s : Stands vol st a G b rest) where
  pub sane : Sane st.head (sectors_of vol)
  sane = inv_sane w.inv

  pub last_in : a.position < length (G a.slot)
  last_in = omega (arith, s.last)

  pub chunk_in : a.chunk < st.head.chunks
  chunk_in = rw s.chunk (w.good.inside a.slot a.position s.below last_in)

  pub position_in : a.position ≤ 2047
  position_in = omega (arith, s.last, chunks_bound w.good a.slot s.below, sane.chunks_most)

  pub count_in : length (segment_at (G a.slot) a.position).payloads ≤ st.head.chunk
  count_in = w.good.fits a.slot a.position s.below last_in

  pub id_small : a.id < 2 ^ 32
  id_small = omega (arith, w.good.older a.slot s.name a.id s.below s.entry, w.inv.range.next)

  pub id_some : a.id ≡ 0 → ⊥
  id_some = (named_facts (entry_at vol st a.slot) s.entry).some

  pub tail_in : tail_ok a.tail st.head.chunk ≡ true
  tail_in = tail_ok_lem a.tail _ st.head.chunk count_in s.tail

  rolls_in : (r : Bool) → a.rolls ≡ r → (not r || (leb a.dir.length 40 && dir_ok (dir_bytes a.dir))) ≡ true
  rolls_in true q = rw (le-leb a.dir.length 40 (s.fine q).0, (s.fine q).1)
  rolls_in false q = refl

  pub stands_passes : a.fill < 486 → appender_ok a st ≡ true
  unfolding appender_ok fill_ok
  stands_passes h =
      let z : a.id ≡ 0 → ⊥ = id_some in
      rw (lt-ltb a.slot 64 s.below, ne_eqb a.id 0 z, lt-ltb a.chunk st.head.chunks chunk_in, le-leb a.position 2047 position_in, lt-ltb a.fill 486 h, tail_in)
      (rolls_in a.rolls refl)

  pub stands_fits : a.fill ≤ 486 → Fit a st
  stands_fits h =
      record {
        slot = s.below;
        chunk = chunk_in;
        position = omega (arith, position_in);
        fill = h;
        full = s.buffer;
        tail = tail_in;
        dir = λ r. (s.fine r).0;
      }
