-- A free chunk linked to an appender's file: a segment more, and in the book a chunk more; the appender moves to it. Assumes nothing.
use Rattle.std.specs.Prelude.{Err, Ok, Result, Some}
use Prim.Native.Nat.{ℕ, ◌+◌, ◌≤◌, ◌<◌}
use mathlib.Core.Path.{◌≡◌, refl, sym, ap, ◌∙◌, subst}
use mathlib.Core.Logic.{◌≢◌}
use mathlib.Core.Bool.{Bool, true, false, false≢true}
use mathlib.Core.List.{List, [], ◌∷◌}
use native.Mathlib.Omega.{arith}
use lib.Dec.{lit≤}
use lib.ListN.{length}
use lib.Seq.{get_or_at}
use Rattle.medium.specs.declared.Error.{Error}
use Rattle.medium.specs.declared.Medium.{Medium}
use Rattle.medium.specs.Refusal.{on_done}
use Rattle.handles.specs.declared.Store.{Store}
use Rattle.table.specs.declared.Link.{Link}
use Rattle.table.specs.declared.LinkAt.TheVariants as link
use Rattle.table.specs.Free.{free_of}
use Rattle.table.proofs.Tells.{Mapped}
use Rattle.plan.specs.declared.Edit.{Edit}
use Rattle.plan.specs.declared.Edit.TheVariants.{Extend}
use Rattle.plan.specs.Edit.{Fits, plain_link}
use Rattle.plan.specs.Copy.{Step, extended, Out, steps_of, EachSkipped, Distinct}
use Rattle.commit.specs.Commit.{commit_of}
use Rattle.append.specs.declared.Appender.{Appender}
use Rattle.append.specs.Flush.{AppOut, done, stopped, after, moved_to, link_out}
use Rattle.safe.specs.Inv.{CommitMade}
use Rattle.safe.proofs.Invs.{readable_still, inv_held}
use Rattle.safe.proofs.Commit.{commit_stopped, commit_made}
use Rattle.safe.proofs.Unwritten.{commit_distinct}
use Rattle.layout.specs.Views.{disk_of, link_view}
use Rattle.layout.specs.Segments.{Segment, no_segment, segment_at, link_for}
use Rattle.layout.specs.Changes.{replaced, with_segment, Extended}
use Rattle.layout.proofs.Facts.{free≢linked, replaced_here, length_segment, last_linked}
use Rattle.layout.proofs.Extends.{full_mark, partial_mark, extend_good}
use Rattle.folds.proofs.Chunks.{free_chunk}
use Rattle.views.specs.Edited.{Edited}
use Rattle.views.proofs.Makes.{extended_partial, extended_full}
use Rattle.views.proofs.Commits.{commit_edited}
use Rattle.views.proofs.Maps.{edited_mapped}
use Rattle.power.specs.Book as book
use Rattle.power.specs.Book.{Terms}
use Rattle.power.specs.History.{EachStep}
use Rattle.power.proofs.Fine.{Fine, entered, entered_all}
use Rattle.power.proofs.Whole.{Stands}
use Rattle.power.proofs.Ties.{ties_extend}
use Rattle.power.proofs.Parts.{parted_extend}
use Rattle.power.proofs.Unmade.{commit_unmade}
use Rattle.power.proofs.Standing.{sane, chunk_in, position_in, count_in}
use Rattle.power.proofs.Flows.{Live, unmade_live, Kept, kept_stopped, kept_done, kept_after}

-- the mark that the chunk before gets: none where it is full, else its count of records
abbrev pub Marks : Bool → ℕ → ℕ → ℕ → Type 0
Marks false records n size = (records ≡ 0) × (n ≡ size)
Marks true records n size = (records ≡ n) × (n ≢ size)

marks_few : (partial : Bool) (records n size : ℕ) → n ≤ size → size ≤ 512 → Marks partial records n size → records < 512
marks_few false records n size h k e = omega (arith, e.0)
marks_few true records n size h k e = let f : n ≡ size → ⊥ = e.1 in omega (arith, e.0, f)

-- what linking gives, by the commit's ending
module _ (vol : List ℕ) (m : Medium) (st : Store) (a : Appender) (partial : Bool) (records c : ℕ) where
  abbrev pub commit : Out
  commit = commit_of (Extend a.slot a.position c a.chunk partial records) [] vol m st

  abbrev pub step : Step
  step = record { kind = extended; skipped = commit.skipped }

  abbrev pub moved : AppOut
  moved = done commit.vol commit.ans.medium commit.ans.store (moved_to c a)

  pub link_made : commit.ans.outcome ≡ Ok tt → link_out vol m st a partial records c ≡ after (step ∷ []) moved
  unfolding link_out steps_of on_done
  link_made q = rw q

  pub link_refused : {e : Error} → commit.ans.outcome ≡ Err e → link_out vol m st a partial records c ≡ stopped commit.vol commit.ans.medium commit.ans.store a e
  unfolding link_out steps_of on_done
  link_refused q = rw q

module _ {t : Terms} {vol : List ℕ} {m : Medium} {st : Store} {a : Appender} {G : ℕ → List Segment} {b : Fine} {rest : List ℕ}
    (l : Live t vol m st a G b) (s : Stands vol st a G b rest) (partial : Bool) (records c : ℕ)
    (marks : Marks partial records (length (segment_at (G a.slot) a.position).payloads) st.head.chunk) (found : free_of vol m st ≡ Ok (Some c)) where
  abbrev edit : Edit
  edit = Extend a.slot a.position c a.chunk partial records

  abbrev o : Out
  o = commit vol m st a partial records c

  abbrev H : ℕ → List Segment
  H = replaced G a.slot (with_segment (G a.slot) c)

  abbrev mark : Link
  mark = link_for st.head.chunk a.slot (with_segment (G a.slot) c) a.position

  unused : (c < st.head.chunks) × (link_view vol st c ≡ Ok link.Free)
  unused = free_chunk vol m st (inv_held l.whole.inv) l.whole.map found

  last_link : link_view vol st a.chunk ≡ Ok (link.Linked (plain_link a.slot a.position))
  last_link = rw s.chunk (last_linked l.whole.good a.slot a.position s.below s.last)

  other : c ≢ a.chunk
  other q = free≢linked {l = plain_link a.slot a.position} unused.1 (rw q last_link)

  fits : Fits edit st.head.chunks
  fits = (
    s.below,
    omega (arith, position_in l.whole s),
    unused.0,
    chunk_in l.whole s,
    marks_few partial records _ st.head.chunk (count_in l.whole s) (sane l.whole s).size_most marks,
  )

  -- refused: nothing changed
  refused_live : {e : Error} → o.ans.outcome ≡ Err e → Live t o.vol o.ans.medium o.ans.store a G b
  refused_live q = unmade_live l (commit_unmade l.whole (commit_stopped edit [] vol m st l.whole.inv (lit≤ tt) q))

  -- a chunk that is marked was not full
  fewer : (p : Bool) → p ≡ partial → Marks p records (length (segment_at (G a.slot) a.position).payloads) st.head.chunk → partial ≡ true → records < st.head.chunk
  fewer true q k _ = let f : _ → ⊥ = k.1 in omega (arith, k.0, f, count_in l.whole s)
  fewer false q k t = absurd (false≢true (q ∙ t))

  -- the change of the views
  change_by : {v : List ℕ} {u : Store} (p : Bool) → p ≡ partial → Marks p records (length (segment_at (G a.slot) a.position).payloads) st.head.chunk
      → Edited edit [] vol st v u
      → Extended (disk_of vol st) (disk_of v u) c a.chunk (plain_link a.slot (a.position + 1)) mark
  change_by true q k made =
      let less : records < st.head.chunk = fewer true q k (sym q) in
      rw (partial_mark st.head.chunk a.slot (G a.slot) c a.position s.last k.1, ← k.0)
      (extended_partial (sane l.whole s) made s.below fits.1 unused.0 (chunk_in l.whole s) other (sym q) less)
  change_by false q k made =
      rw (full_mark st.head.chunk a.slot (G a.slot) c a.position s.last k.1)
      (extended_full (sane l.whole s) made s.below fits.1 unused.0 (chunk_in l.whole s) other (sym q) last_link)

  module _ (q : o.ans.outcome ≡ Ok tt) (each : EachSkipped Distinct o.skipped) where
    made : CommitMade edit [] vol m st o
    made = commit_made edit [] vol m st l.whole.inv (lit≤ tt) fits (commit_distinct edit [] vol m st q each) q

    change : Extended (disk_of vol st) (disk_of o.vol o.ans.store) c a.chunk (plain_link a.slot (a.position + 1)) mark
    change = change_by partial refl marks (commit_edited made)

    here : Extended (disk_of vol st) (disk_of o.vol o.ans.store) c (segment_at (G a.slot) a.position).chunk (plain_link a.slot (a.position + 1)) mark
    here = subst (λ (k : ℕ). Extended (disk_of vol st) (disk_of o.vol o.ans.store) c k (plain_link a.slot (a.position + 1)) mark) s.chunk change

    linked_mapped : Mapped o.vol o.ans.store
    linked_mapped =
        edited_mapped [] vol st o.vol o.ans.store (sane l.whole s) edit (s.below, fits.1, unused.0, chunk_in l.whole s, fewer partial refl marks) (lit≤ tt)
        (commit_edited made) (inv_held l.whole.inv).map l.whole.map

    extended_live : Live t o.vol o.ans.medium o.ans.store (moved_to c a) H (entered t extended b)
    unfolding entered book.entered
    extended_live =
        record {
          whole = record {
            inv = made.inv;
            map = linked_mapped;
            good = extend_good a.slot a.position l.whole.good s.below s.entry s.last unused.0 unused.1 refl here;
            ties = rw s.file (ties_extend a.slot l.whole.good l.whole.ties s.below s.entry change);
            parts = rw s.file (parted_extend a.slot l.whole.good l.whole.parts s.below s.entry change);
            next = l.whole.next ∙ sym change.next;
            ids = l.whole.ids ∙ sym change.next;
            size = l.whole.size ∙ sym change.shape.size;
          };
          readable = readable_still vol o.vol made.used made.frame.size l.readable;
          writer = made.writer ∙ l.writer;
          spared = l.spared;
          dir = l.dir;
        }

    there : segment_at (H a.slot) (a.position + 1) ≡ record { chunk = c; payloads = [] }
    there =
        ap (λ (g : List Segment). segment_at g (a.position + 1)) (replaced_here G a.slot (with_segment (G a.slot) c))
        ∙ get_or_at (G a.slot) (record { chunk = c; payloads = [] }) [] no_segment (a.position + 1) (sym s.last)

    extended_stands : Stands o.vol o.ans.store (moved_to c a) H (entered t extended b) rest
    unfolding entered book.entered
    extended_stands =
        record {
          name = s.name;
          below = s.below;
          entry = change.entries a.slot s.below ∙ s.entry;
          last = ap (λ (n : ℕ). n + 1) s.last ∙ sym (ap length (replaced_here G a.slot (with_segment (G a.slot) c)) ∙ length_segment (G a.slot) c);
          chunk = sym (ap (λ (g : Segment). g.chunk) there);
          tail = sym (ap (λ (g : Segment). length g.payloads) there);
          buffer = s.buffer;
          file = s.file;
          rollover = s.rollover;
          fine = s.fine;
          unwritten = s.unwritten;
        }

  pub link_kept : EachStep Distinct (link_out vol m st a partial records c).steps → Kept t b rest (link_out vol m st a partial records c)
  unfolding entered_all EachStep
  link_kept each = go o.ans.outcome refl
    where
      go : (r : Result Unit Error) → o.ans.outcome ≡ r → Kept t b rest (link_out vol m st a partial records c)
      go (Err e) q = subst (Kept t b rest) (sym (link_refused vol m st a partial records c q)) (kept_stopped e (refused_live q))
      go (Ok tt) q =
          let h : EachStep Distinct (after (step vol m st a partial records c ∷ []) (moved vol m st a partial records c)).steps = subst (λ (x : AppOut). EachStep Distinct x.steps) (link_made vol m st a partial records c q) each in
          subst (Kept t b rest) (sym (link_made vol m st a partial records c q))
          (kept_after (step vol m st a partial records c ∷ []) (moved vol m st a partial records c) (kept_done (extended_live q h.0) (extended_stands q h.0)))
