-- What a refused commit leaves: the store, its files and the appender's place are as they were. Assumes nothing.
use Rattle.std.specs.Prelude.{None, Option, Some}
use Prim.Native.Nat.{ℕ, ◌<◌}
use mathlib.Core.Path.{◌≡◌, refl, ap as cong, sym, ◌∙◌, subst}
use mathlib.Core.List.{List, []}
use lib.ListN.{length}
use Rattle.medium.specs.declared.Medium.{Medium}
use Rattle.handles.specs.declared.Store.{Store}
use Rattle.handles.specs.declared.Writer.{Writer}
use Rattle.append.specs.declared.Appender.{Appender}
use Rattle.plan.specs.Copy.{Out}
use Rattle.layout.specs.Segments.{Segment}
use Rattle.layout.specs.Changes.{Unchanged}
use Rattle.layout.specs.Views.{disk_of}
use Rattle.layout.proofs.Unchanged.{good_same}
use Rattle.safe.specs.Inv.{Inv, CommitStopped}
use Rattle.safe.proofs.Invs.{readable_still}
use Rattle.views.proofs.Commits.{commit_unchanged}
use Rattle.views.proofs.Maps.{mapped_kept}
use Rattle.medium.specs.Frame.{Spends}
use Rattle.medium.specs.Sector.{Readable}
use Rattle.power.specs.History.{World}
use Rattle.power.proofs.Fine.{Fine}
use Rattle.power.proofs.Whole.{Whole, Stands, Writes, Owns, Keeps}
use Rattle.power.proofs.Ties.{ties_same}
use Rattle.power.proofs.Parts.{parted_same}
use Rattle.table.proofs.Tells.{Mapped}

-- the views say the same: the files are the same
pub whole_same : {vol v : List ℕ} {st t : Store} {G : ℕ → List Segment} {b : Fine} → Whole vol st G b → Inv v t → Mapped v t → Unchanged (disk_of vol st) (disk_of v t) → Whole v t G b
whole_same w inv map same =
    record {
      inv = inv;
      map = map;
      good = good_same w.good same;
      ties = ties_same w.ties same;
      parts = parted_same w.parts same;
      next = w.next ∙ sym same.next;
      ids = w.ids ∙ sym same.next;
      size = w.size ∙ sym same.shape.size;
    }

-- ---- the appender stands where the slot's entry and segments are as they were

pub stands_kept : {vol v : List ℕ} {st t : Store} {ap : Appender} {G H : ℕ → List Segment} {b c : Fine} {rest : List ℕ} → Stands vol st ap G b rest
    → (disk_of v t).entry ap.slot ≡ (disk_of vol st).entry ap.slot → t.head.chunk ≡ st.head.chunk → H ap.slot ≡ G ap.slot
    → c.file ≡ b.file → c.rollover ≡ b.rollover → c.unwritten ≡ b.unwritten → Stands v t ap H c rest
stands_kept s e size g f r u =
    record {
      name = s.name;
      below = s.below;
      entry = e ∙ s.entry;
      last = rw g s.last;
      chunk = rw g s.chunk;
      tail = rw (g, size) s.tail;
      buffer = s.buffer;
      file = f ∙ s.file;
      rollover = r ∙ s.rollover;
      fine = s.fine;
      unwritten = u ∙ s.unwritten;
    }

pub writes_map : (w : Option Writer) (ap : Appender) {P Q : Type 0} → (P → Q) → Writes w ap P → Writes w ap Q
writes_map None ap f h = tt
writes_map (Some w) ap f h = (h.0, h.1, λ c. f (h.2 c))

-- ---- a commit refused

pub record Unmade (vol : List ℕ) (m : Medium) (st : Store) (G : ℕ → List Segment) (b : Fine) (v : List ℕ) (u : Medium) (t : Store) : Type 0 where
  pub whole : Whole v t G b
  pub store : t ≡ st
  pub size : length v ≡ length vol
  pub used : Spends m u
  pub same : Unchanged (disk_of vol st) (disk_of v t)

pub commit_unmade : {vol : List ℕ} {m : Medium} {st : Store} {G : ℕ → List Segment} {b : Fine} {o : Out} → Whole vol st G b → CommitStopped vol m st o
    → Unmade vol m st G b o.vol o.ans.medium o.ans.store
commit_unmade w c =
    let same = commit_unchanged w.inv c in
    record { whole = whole_same w (rw c.store c.inv) (mapped_kept same.shape.chunks same.links (cong (λ (s : Store). s.free) c.store) w.map) same; store = c.store; size = c.frame.size; used = c.used; same = same }

module _ {vol : List ℕ} {m : Medium} {st : Store} {G : ℕ → List Segment} {b : Fine} {v : List ℕ} {u : Medium} {t : Store} (n : Unmade vol m st G b v u t) where
  pub unmade_stands : {ap : Appender} {rest : List ℕ} → Stands vol st ap G b rest → Stands v t ap G b rest
  unmade_stands {ap} s = stands_kept s (n.same.entries ap.slot s.below) (cong (λ (x : Store). x.head.chunk) n.store) refl refl refl refl

  pub unmade_owns : {ap : Appender} → Owns vol st ap G b → Owns v t ap G b
  unmade_owns {ap} o =
      record {
        writes =
            subst (λ (x : Option Writer). Writes x ap (Stands v t ap G b [] × (ap.fill < 486))) (cong (λ (x : Store). x.writer) (sym n.store))
            (writes_map st.writer ap (λ p. (unmade_stands p.0, p.1)) o.writes);
      }

  pub unmade_readable : Readable vol m → Readable v u
  unmade_readable r = readable_still vol v n.used n.size r

-- between the calls: the appender is the one there was
pub unmade_keeps : (w : World) (b : Fine) (k : Keeps w b) {m : Medium} → Readable w.vol m → {v : List ℕ} {u : Medium} {t : Store}
    → Unmade w.vol m w.store k.layout b v u t → Keeps (record { vol = v; store = t; appender = w.appender; medium = u }) b
unmade_keeps w b k r n = record { layout = k.layout; whole = n.whole; owns = unmade_owns n k.owns; readable = unmade_readable n r }
