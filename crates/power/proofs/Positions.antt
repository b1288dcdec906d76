-- How far an appender's position gets in one call, as a bound on what the bytes say of its slot: 2,047 and the chunks that the slot has; once the slot
-- was freed, and its entry with it, as many again as there are. And the premises under which an accepted commit edits the body. Assumes nothing.
use Rattle.std.specs.Prelude.{Ok}
use Prim.Native.Nat.{ℕ, ◌+◌, ◌≤◌, ◌<◌}
use mathlib.Core.Path.{◌≡◌, ap, ◌∙◌}
use mathlib.Core.List.{List, []}
use native.Mathlib.Omega.{arith}
use lib.Dec.{lit≤}
use lib.ListN.{length}
use Rattle.le.proofs.Tallies.{tally_le}
use Rattle.medium.specs.declared.Medium.{Medium}
use Rattle.medium.specs.Sector.{sectors_of, sector_at}
use Rattle.handles.specs.declared.Store.{Store}
use Rattle.handles.proofs.Laws.{Sane}
use Rattle.plan.specs.declared.Edit.{Edit}
use Rattle.plan.specs.declared.Edit.TheVariants.{Remove}
use Rattle.plan.specs.Edit.{Fits}
use Rattle.plan.specs.Copy.{Skipped, Distinct, EachSkipped}
use Rattle.commit.specs.Commit.{commit_of}
use Rattle.remove.proofs.Keeps.{Good}
use Rattle.safe.specs.Inv.{Inv}
use Rattle.safe.proofs.Invs.{inv_beyond, inv_writer}
use Rattle.safe.proofs.Commit.{commit_made}
use Rattle.safe.proofs.Unwritten.{commit_distinct, commit_due}
use Rattle.layout.specs.Views.{vacant, named, Disk, disk_of}
use Rattle.layout.specs.Segments.{is_of}
use Rattle.layout.specs.Changes.{SameEntries, SameLinks}
use Rattle.layout.proofs.Facts.{case, in_table, vacant≢named}
use Rattle.layout.proofs.Tallies.{linked_to, linked_most}
use Rattle.views.specs.Edited.{Edited}
use Rattle.views.proofs.Commits.{commit_edited, due_edited}
use Rattle.views.proofs.Removes.{removed_entry, removed_entries, removed_same}
use Rattle.power.specs.History.{Honest}

-- ---- the premise: where it holds of the body sectors that an accepted commit left unwritten, the commit edited the body

pub record Carries (P : Skipped → Type 0) (Fine : List ℕ → Store → Type 0) : Type 0 where
  pub commit : (edit : Edit) (vol : List ℕ) (m : Medium) (st : Store) → Good vol st → Fits edit st.head.chunks → Fine vol st
      → (commit_of edit [] vol m st).ans.outcome ≡ Ok tt → EachSkipped P (commit_of edit [] vol m st).skipped
      → Edited edit [] vol st (commit_of edit [] vol m st).vol (commit_of edit [] vol m st).ans.store
      × Fine (commit_of edit [] vol m st).vol (commit_of edit [] vol m st).ans.store
  pub beyond : (vol v : List ℕ) (st : Store) → length v ≡ length vol → ((j : ℕ) → j < 64 → sector_at v j ≡ sector_at vol j) → Fine vol st → Fine v st
  pub writer : (vol : List ℕ) (st su : Store) → su.copy ≡ st.copy → su.head ≡ st.head → su.free ≡ st.free → Fine vol st → Fine vol su

-- in the customer's words nothing is asked of the volume
pub honest : Carries Honest (λ vol st. Unit)
honest =
    record {
      commit = λ edit vol m st good fits _ q each. (due_edited (commit_due edit [] vol m st q good.ok good.count (lit≤ tt) each), tt);
      beyond = λ vol v st size same _. tt;
      writer = λ vol st su c h f _. tt;
    }

pub distinct : Carries Distinct Inv
distinct =
    record {
      commit = λ edit vol m st good fits inv q each.
          let made = commit_made edit [] vol m st inv (lit≤ tt) fits (commit_distinct edit [] vol m st q each) q in
          (commit_edited made, made.inv);
      beyond = λ vol v st size same inv. inv_beyond vol v st inv size same;
      writer = λ vol st su c h f inv. inv_writer c h f inv;
    }

-- ---- the bound: 2,047 and the chunks of the slot; once the slot was freed, and its entry with it, as many again as there are

pub data Near (D : Disk) (slot position : ℕ) : Type 0 where
  linked : position ≤ 2047 + linked_to D slot → Near D slot position
  freed : D.entry slot ≡ vacant → position ≤ 2047 + D.chunks + linked_to D slot → Near D slot position

pub near_few : (D : Disk) (slot position : ℕ) → D.chunks ≤ 2048 → Near D slot position → position ≤ 6143
near_few D slot position h (linked x) = omega (arith, x, tally_le (λ c. is_of slot (D.link c)) D.chunks)
near_few D slot position h (freed e x) = omega (arith, x, tally_le (λ c. is_of slot (D.link c)) D.chunks)

-- k chunks more, and no more than k positions on
pub near_on : (D E : Disk) (slot p q k : ℕ) → E.chunks ≡ D.chunks → (D.entry slot ≡ vacant → E.entry slot ≡ vacant) → linked_to D slot + k ≤ linked_to E slot
    → q ≤ p + k → Near D slot p → Near E slot q
near_on D E slot p q k chunks entry more less (linked x) = linked (omega (arith, x, more, less))
near_on D E slot p q k chunks entry more less (freed e x) = freed (entry e) (omega (arith, x, more, less, chunks))

pub near_same : (D E : Disk) (slot p : ℕ) → slot < 64 → E.chunks ≡ D.chunks → SameEntries D E → SameLinks D E → Near D slot p → Near E slot p
near_same D E slot p h chunks entries links =
    let most : linked_to D slot ≤ linked_to E slot = linked_most D E slot chunks (λ c l own. ap (is_of slot) (links c (in_table l)) ∙ own) in
    near_on D E slot p p 0 chunks (λ e. entries slot h ∙ e) (omega (arith, most)) (omega arith)

-- ---- a file is removed, the appender's own or another

module _ (vol : List ℕ) (st : Store) (sane : Sane st.head (sectors_of vol)) (gone : ℕ) (below : gone < 64) {name : List ℕ} {id : ℕ}
    (was : (disk_of vol st).entry gone ≡ named name id) (v : List ℕ) (t : Store) (chunks : t.head.chunks ≡ st.head.chunks)
    (done : Edited (Remove gone) [] vol st v t) (slot p : ℕ) (h : slot < 64) where
  own_gone : slot ≡ gone → Near (disk_of vol st) slot p → Near (disk_of v t) slot p
  own_gone e (linked x) =
      freed (ap (disk_of v t).entry e ∙ removed_entry sane done below)
      (omega (arith, x, chunks, tally_le (λ c. is_of slot ((disk_of vol st).link c)) st.head.chunks))
  own_gone e (freed z x) = absurd (vacant≢named z (ap (disk_of vol st).entry e ∙ was))

  pub near_gone : Near (disk_of vol st) slot p → Near (disk_of v t) slot p
  near_gone = case slot gone own_gone
      (λ n.
      let most : linked_to (disk_of vol st) slot ≤ linked_to (disk_of v t) slot = removed_same sane done below slot n in
      near_on (disk_of vol st) (disk_of v t) slot p p 0 chunks (λ e. removed_entries sane done below slot h n ∙ e) (omega (arith, most)) (omega arith))
