-- A rollover inside extending: the oldest file of the directory goes, never the appender's own; then a chunk is free, and is linked. Assumes nothing.
use Rattle.std.specs.Prelude.{Err, Ok}
use Prim.Native.Nat.{ℕ}
use mathlib.Core.Path.{◌≡◌, refl, sym, ap, ◌∙◌}
use mathlib.Core.Logic.{◌≢◌}
use mathlib.Core.Bool.{Bool, true, false}
use mathlib.Core.Option.{some}
use mathlib.Core.List.{List, [], ◌∷◌}
use lib.ListN.{length}
use Rattle.le.specs.Choice.{pick}
use Rattle.le.proofs.Choices.{pick_keeps_by}
use Rattle.medium.specs.declared.Error.{Error}
use Rattle.medium.specs.declared.Error.TheVariants.{Corrupt, Full}
use Rattle.medium.specs.declared.Medium.{Medium}
use Rattle.medium.proofs.Laws.{on_done_keeps}
use Rattle.handles.specs.declared.Store.{Store}
use Rattle.handles.specs.Handles.{is_open, open_id, open_file}
use Rattle.table.specs.Table.{on_pick}
use Rattle.table.specs.Free.{free_of}
use Rattle.table.proofs.Decides.{on_pick_keeps}
use Rattle.plan.specs.Copy.{Step, rolled_over}
use Rattle.remove.specs.Remove.{GoneOut, remove_oldest_of}
use Rattle.remove.proofs.Keeps.{spared_writer}
use Rattle.append.specs.declared.Appender.{Appender}
use Rattle.append.specs.Appender.{dir_bytes}
use Rattle.append.specs.Flush.{AppOut, stopped, after, link_out, rolled_out}
use Rattle.layout.specs.Views.{disk_of}
use Rattle.layout.specs.Segments.{Segment, segment_at}
use Rattle.layout.specs.Changes.{replaced}
use Rattle.layout.proofs.Facts.{same_id, replaced_other}
use Rattle.power.specs.Book as book
use Rattle.power.specs.Book.{Terms, without_oldest}
use Rattle.power.specs.History.{EachStep}
use Rattle.power.proofs.Fine.{Fine, entered, entered_all}
use Rattle.power.proofs.Whole.{Stands}
use Rattle.power.proofs.Picks.{spared_by}
use Rattle.power.proofs.Removing.{gone_stands, gone_readable}
use Rattle.power.proofs.Oldest.{Went, goes_other, oldest_stopped, oldest_none, oldest_made}
use Rattle.power.proofs.Flows.{Live, unmade_live, KeptIf, kept_stopped, kept_after}
use Rattle.power.proofs.Linking.{Marks, link_kept}

module _ {t : Terms} {vol : List ℕ} {m : Medium} {st : Store} {a : Appender} {G : ℕ → List Segment} {b : Fine} {rest : List ℕ}
    (l : Live t vol m st a G b) (s : Stands vol st a G b rest) (rolls : a.rolls ≡ true) where
  abbrev g : GoneOut
  g = remove_oldest_of vol m st (dir_bytes a.dir) (open_file st.writer)

  abbrev step : Step
  step = record { kind = rolled_over; skipped = g.skipped }

  -- refused, or none went: all as it was
  stopped_live : {e : Error} → g.ans.outcome ≡ Err e → Live t g.vol g.ans.medium g.ans.store a G b
  stopped_live q = unmade_live l (oldest_stopped vol m st G b l.whole l.readable (dir_bytes a.dir) (open_file st.writer) q).0

  idle_live : g.ans.outcome ≡ Ok tt → g.ans.any ≡ false → Live t g.vol g.ans.medium g.ans.store a G b
  idle_live d y =
      let n = oldest_none vol m st G b l.whole l.readable (dir_bytes a.dir) (open_file st.writer) d y in
      rw (n.0, n.1, n.2) l

  -- the file that goes is the book's
  picked : without_oldest (some (dir_bytes a.dir)) (spared_by (open_file st.writer)) b.files ≡ without_oldest t.dir t.spared b.files
  unfolding pick
  picked = rw (l.writer, l.spared, l.dir, s.rollover, rolls) refl

  module _ (went : Went vol m st G b (dir_bytes a.dir) (open_file st.writer) g) where
    abbrev H : ℕ → List Segment
    H = replaced G went.slot []

    other : a.id ≢ went.id
    other q = goes_other (rw l.writer at went.goes) (sym q)

    elsewhere : a.slot ≢ went.slot
    elsewhere q = other (same_id (ap (disk_of vol st).entry (sym q) ∙ s.entry) went.gone.was)

    went_live : Live t g.vol g.ans.medium g.ans.store a H (entered t rolled_over b)
    unfolding entered book.entered
    went_live =
        record {
          whole = rw (← picked) went.whole;
          readable = gone_readable went.gone l.readable;
          writer = spared_writer vol m st (record { ok = l.whole.inv.ok; count = l.whole.inv.range.count }) (dir_bytes a.dir) ∙ l.writer;
          spared = l.spared;
          dir = l.dir;
        }

    went_stands : Stands g.vol g.ans.store a H (entered t rolled_over b) rest
    unfolding entered book.entered
    went_stands = gone_stands went.gone (without_oldest t.dir t.spared b.files) other s

    marks_still : (partial : Bool) (records : ℕ) → Marks partial records (length (segment_at (G a.slot) a.position).payloads) st.head.chunk
        → Marks partial records (length (segment_at (H a.slot) a.position).payloads) g.ans.store.head.chunk
    marks_still partial records k = rw (replaced_other G went.slot [] a.slot elsewhere, went.gone.chunk) k

  module _ (partial : Bool) (records : ℕ) (marks : Marks partial records (length (segment_at (G a.slot) a.position).payloads) st.head.chunk) where
    abbrev once : AppOut
    once =
        on_pick (free_of g.vol g.ans.medium g.ans.store) (stopped g.vol g.ans.medium g.ans.store a)
        (stopped g.vol g.ans.medium g.ans.store a Corrupt) (link_out g.vol g.ans.medium g.ans.store a partial records)

    once_kept : Went vol m st G b (dir_bytes a.dir) (open_file st.writer) g → KeptIf t (entered t rolled_over b) rest once
    once_kept went =
        on_pick_keeps (KeptIf t (entered t rolled_over b) rest) (free_of g.vol g.ans.medium g.ans.store) _ _ _
        (λ e _. kept_stopped e (went_live went)) (λ _. kept_stopped Corrupt (went_live went))
        (λ c q. link_kept (went_live went) (went_stands went) partial records c (marks_still went partial records marks) q)

    went_kept : g.ans.any ≡ true → KeptIf t b rest (after (step ∷ []) once)
    unfolding EachStep entered_all
    went_kept y each =
        kept_after (step ∷ []) once
        (once_kept (oldest_made vol m st G b l.whole l.readable (dir_bytes a.dir) (open_file st.writer) y each.0) each.1)

    pub rolled_kept : KeptIf t b rest (rolled_out vol m st a partial records)
    unfolding rolled_out
    rolled_kept =
        on_done_keeps (KeptIf t b rest) g.ans.outcome _ _
        (λ d. pick_keeps_by (KeptIf t b rest) g.ans.any _ _ went_kept (λ y _. kept_stopped Full (idle_live d y)))
        (λ e q _. kept_stopped e (stopped_live q))
