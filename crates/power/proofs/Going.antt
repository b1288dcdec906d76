-- The oldest file of a directory removed, where one may go and enough writes and generations are left: it goes, and with it a file and its chunks.
-- Assumes nothing.
use Prim.Native.Nat.{ℕ, ◌+◌, ◌-◌, ◌^◌, ◌≤◌, ◌<◌}
use mathlib.Core.Path.{◌≡◌, refl, sym, ap, subst, ◌∙◌}
use mathlib.Core.Bool.{Bool, true}
use mathlib.Core.List.{List, [], Memᴰ}
use lib.Dec.{lit≤}
use lib.ListN.{length}
use Rattle.std.specs.Prelude.{Ok, Option as StdOption}
use Rattle.medium.specs.declared.Medium.{Medium}
use Rattle.medium.specs.Sector.{Readable}
use Rattle.medium.proofs.Laws.{on_done_done}
use Rattle.handles.specs.declared.Header.{Header}
use Rattle.handles.specs.declared.Store.{Store}
use Rattle.plan.specs.declared.Edit.TheVariants.{Remove}
use Rattle.plan.specs.Edit.{head_after}
use Rattle.plan.specs.Copy.{Out}
use Rattle.commit.specs.Commit.{commit_of}
use Rattle.commit.proofs.Keeps.{commit_keeps}
use Rattle.remove.specs.Remove.{closed_for, remove_of, GoneOut, gone_of, remove_oldest_of}
use Rattle.layout.specs.Segments.{Segment}
use Rattle.writes.specs.Writes.{commit_most}
use Rattle.writes.proofs.Beside.{remove_plain}
use Rattle.power.specs.Book.{File, keep, may_go}
use Rattle.power.specs.Room.{chunks_in}
use Rattle.power.proofs.Fine.{Fine}
use Rattle.power.proofs.Whole.{file_of, Whole}
use Rattle.power.proofs.Members.{is_not, not_here, length_without}
use Rattle.power.proofs.Picks.{spared_by, may_goes}
use Rattle.power.proofs.Oldest.{Went, ways}
use Rattle.power.proofs.Enough.{Within, commit_within}
use Rattle.power.proofs.Counting.{chunks_fewer}

-- a file went, by at most the writes of a commit: the shape is as it was, with a generation more
pub record Goer (m : Medium) (st : Store) (g : GoneOut) : Type 0 where
  pub within : Within (commit_most st.head.chunks) m g.ans.outcome g.ans.medium
  pub any : g.ans.any ≡ true
  pub chunks : g.ans.store.head.chunks ≡ st.head.chunks
  pub size : g.ans.store.head.chunk ≡ st.head.chunk
  pub generation : g.ans.store.head.generation ≡ st.head.generation + 1

module _ (vol : List ℕ) (m : Medium) (st : Store) (G : ℕ → List Segment) (b : Fine) (w : Whole vol st G b) (r : Readable vol m)
    (gens : st.head.generation ≡ 2 ^ 64 - 1 → ⊥) (enough : commit_most st.head.chunks ≤ m.left) where
  abbrev commit : ℕ → Out
  commit slot = commit_of (Remove slot) [] vol m st

  within : (slot : ℕ) → Within (commit_most st.head.chunks) m (commit slot).ans.outcome (commit slot).ans.medium
  within slot = commit_within (Remove slot) [] vol m st w.inv r (remove_plain slot) (lit≤ tt) gens enough

  pub remove_is : (slot id : ℕ) → remove_of vol m st slot id ≡ record {
    vol = (commit slot).vol;
    ans = record { outcome = Ok tt; medium = (commit slot).ans.medium; store = closed_for id (commit slot).ans.store };
    skipped = (commit slot).skipped;
  }
  unfolding remove_of
  remove_is slot id = on_done_done _ _ (within slot).0

  pub goer : (name : List ℕ) (len slot id : ℕ) → Goer m st (gone_of name len (remove_of vol m st slot id))
  unfolding gone_of head_after
  goer name len slot id =
      let k = commit_keeps (Remove slot) [] vol m st w.inv.ok w.inv.range.count (lit≤ tt) in
      let h = (k.accepted (within slot).0).1 in
      subst (Goer m st) (sym (ap (gone_of name len) (remove_is slot id) ∙ on_done_done _ _ refl))
      (record { within = (refl, (within slot).1); any = refl; chunks = k.chunks; size = k.chunk; generation = ap (λ (x : Header). x.generation) h })

  module _ (dir : List ℕ) (spared : StdOption ℕ) where
    pub oldest_goes : (f : File) → Memᴰ f b.files → may_go dir (spared_by spared) f ≡ true → Goer m st (remove_oldest_of vol m st dir spared)
    oldest_goes f has may =
        let s = w.ties.from f has in
        ways vol m st G b w r dir spared (Goer m st) (λ old o. goer _ _ old.slot old.id)
        (λ o. absurd (o.none refl s.0 s.1 f.name f.id s.2 (may_goes dir spared f may)))

-- a file less, and fewer chunks
module _ {vol : List ℕ} {m : Medium} {st : Store} {G : ℕ → List Segment} {b : Fine} {dir : List ℕ} {spared : StdOption ℕ} {g : GoneOut} (w : Whole vol st G b)
    (x : Went vol m st G b dir spared g) where
  abbrev gone : File
  gone = file_of x.name x.id (G x.slot)

  was : Memᴰ gone b.files
  was = w.ties.into x.slot x.name x.id x.below x.gone.was

  pub went_files : length (keep (is_not x.id) b.files) + 1 ≡ length b.files
  went_files = length_without gone b.files w.ties.apart was

  pub went_chunks : chunks_in (keep (is_not x.id) b.files) < chunks_in b.files
  went_chunks =
      chunks_fewer (is_not x.id) gone b.files was (not_here x.id gone refl) (w.good.held x.slot x.name x.id x.below x.gone.was)
