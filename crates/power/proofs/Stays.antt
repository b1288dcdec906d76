-- The appender stands where the views say the same, if the store still has its writer; and where no one writes, nothing is asked of it. Assumes nothing.
use Rattle.std.specs.Prelude.{None, Option}
use Prim.Native.Nat.{ℕ, ◌<◌}
use mathlib.Core.Path.{◌≡◌, refl, sym, subst}
use mathlib.Core.List.{List, []}
use Rattle.handles.specs.declared.Store.{Store}
use Rattle.handles.specs.declared.Writer.{Writer}
use Rattle.append.specs.declared.Appender.{Appender}
use Rattle.layout.specs.Views.{disk_of}
use Rattle.layout.specs.Segments.{Segment}
use Rattle.layout.specs.Changes.{Unchanged}
use Rattle.power.proofs.Fine.{Fine}
use Rattle.power.proofs.Whole.{Stands, Writes, Owns}
use Rattle.power.proofs.Unmade.{stands_kept, writes_map}

pub owns_same : {vol v : List ℕ} {st t : Store} {ap : Appender} {G : ℕ → List Segment} {b : Fine} → Unchanged (disk_of vol st) (disk_of v t) → t.writer ≡ st.writer
    → Owns vol st ap G b → Owns v t ap G b
owns_same {v = v} {st = st} {t = t} {ap = ap} {G = G} {b = b} w e o =
    record {
      writes =
          subst (λ (x : Option Writer). Writes x ap (Stands v t ap G b [] × (ap.fill < 486))) (sym e)
          (writes_map st.writer ap (λ p. (stands_kept p.0 (w.entries ap.slot p.0.below) w.shape.size refl refl refl refl, p.1)) o.writes);
    }

pub owns_none : {vol : List ℕ} {st : Store} {ap : Appender} {G : ℕ → List Segment} {b : Fine} → st.writer ≡ None → Owns vol st ap G b
owns_none {vol} {st} {ap} {G} {b} e = record { writes = subst (λ (x : Option Writer). Writes x ap (Stands vol st ap G b [] × (ap.fill < 486))) (sym e) tt }
