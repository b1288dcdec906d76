-- A file's removal as a step, whatever the writes left: refused, all is as it was; accepted, the book without the file, and its appender open no more.
-- Assumes nothing.
use Rattle.std.specs.Prelude.{None, Option, Some}
use Rattle.std.specs.Prelude.{Err, Ok}
use Prim.Native.Nat.{ℕ, ◌-◌, ◌<◌}
use mathlib.Core.Path.{◌≡◌, refl, ap as cong, sym, ◌∙◌, subst}
use mathlib.Core.Logic.{◌≢◌}
use mathlib.Core.List.{List, []}
use native.Mathlib.Omega.{arith}
use borrow.Author.Tests.{eqb-false}
use lib.Dec.{eqb, lit≤}
use lib.ListN.{length}
use Rattle.le.proofs.Choices.{pick_keeps_by}
use Rattle.medium.specs.declared.Error.{Error}
use Rattle.medium.specs.declared.Medium.{Medium}
use Rattle.medium.proofs.Laws.{on_done_keeps}
use Rattle.handles.specs.declared.Store.{Store}
use Rattle.handles.specs.declared.Writer.{Writer}
use Rattle.header.specs.Header.{with_crcs}
use Rattle.append.specs.declared.Appender.{Appender}
use Rattle.plan.specs.declared.Edit.TheVariants.{Remove}
use Rattle.plan.specs.Edit.{head_after}
use Rattle.plan.specs.Copy.{Out, EachSkipped, Distinct}
use Rattle.commit.specs.Commit.{commit_of}
use Rattle.remove.specs.Remove.{writer_without, closed_for, remove_of}
use Rattle.layout.specs.Views.{named, disk_of}
use Rattle.layout.specs.Segments.{Segment}
use Rattle.layout.specs.Changes.{replaced, Unchanged, Removed}
use Rattle.layout.proofs.Facts.{same_id, replaced_other}
use Rattle.layout.proofs.Unchanged.{good_same}
use Rattle.layout.proofs.Removes.{remove_good}
use Rattle.safe.specs.Inv.{CommitMade}
use Rattle.safe.proofs.Frame.{clash}
use Rattle.safe.proofs.Invs.{inv_writer, readable_still, inv_held}
use Rattle.safe.proofs.Commit.{commit_stopped, commit_made}
use Rattle.safe.proofs.Unwritten.{commit_distinct}
use Rattle.views.proofs.Commits.{inv_sane, commit_edited}
use Rattle.views.proofs.Removes.{removed}
use Rattle.views.proofs.Stays.{writer_unchanged}
use Rattle.views.proofs.Maps.{edited_mapped, mapped_kept}
use Rattle.power.specs.Book.{File, keep}
use Rattle.medium.specs.Frame.{Spends}
use Rattle.medium.specs.Sector.{Readable}
use Rattle.power.specs.History.{World}
use Rattle.power.proofs.Fine.{Fine, with_files}
use Rattle.power.proofs.Whole.{Whole, Stands, Writes, Owns, Keeps}
use Rattle.power.proofs.Members.{is_not}
use Rattle.power.proofs.Ties.{ties_same, ties_remove}
use Rattle.power.proofs.Parts.{parted_same, parted_remove}
use Rattle.power.proofs.Unmade.{Unmade, commit_unmade, stands_kept}

-- the file of slot s, with this name and id, went: v, u and t are volume, medium and store after it
pub record Gone (vol : List ℕ) (m : Medium) (st : Store) (G : ℕ → List Segment) (b : Fine) (s : ℕ) (name : List ℕ) (id : ℕ) (v : List ℕ) (u : Medium) (t : Store) : Type 0 where
  pub whole : Whole v t (replaced G s []) (with_files (keep (is_not id) b.files) b)
  pub was : (disk_of vol st).entry s ≡ named name id
  pub writer : t.writer ≡ writer_without id st.writer
  pub entries : (r : ℕ) → r < 64 → r ≢ s → (disk_of v t).entry r ≡ (disk_of vol st).entry r
  pub copy : t.copy ≡ 1 - st.copy
  pub head : t.head ≡ with_crcs (head_after (Remove s) st.head) t.head.crcs
  pub chunk : t.head.chunk ≡ st.head.chunk
  pub size : length v ≡ length vol
  pub used : Spends m u

-- ---- the appender through it

writes_without : (id : ℕ) (w : Option Writer) (ap : Appender) {P Q : Type 0} → (ap.id ≢ id → P → Q) → Writes w ap P → Writes (writer_without id w) ap Q
unfolding writer_without
writes_without id None ap f h = tt
writes_without id (Some w) ap {P} {Q} f h =
    pick_keeps_by (λ (x : Option Writer). Writes x ap Q) (eqb w.id id) None (Some w)
    (λ e. tt)
    (λ e. (h.0, h.1, λ c. f (λ q. eqb-false w.id id e (h.1 ∙ q)) (h.2 c)))

module _ {vol : List ℕ} {m : Medium} {st : Store} {G : ℕ → List Segment} {b : Fine} {s : ℕ} {name : List ℕ} {id : ℕ} {v : List ℕ} {u : Medium} {t : Store}
    (g : Gone vol m st G b s name id v u t) where
  -- of another file than the appender's
  pub gone_stands : {ap : Appender} {rest : List ℕ} (files : List File) → ap.id ≢ id → Stands vol st ap G b rest → Stands v t ap (replaced G s []) (with_files files b) rest
  gone_stands {ap} files n a =
      let x : ap.slot ≢ s = λ q. n (same_id (cong (disk_of vol st).entry (sym q) ∙ a.entry) g.was) in
      stands_kept a (g.entries ap.slot a.below x) g.chunk (replaced_other G s [] ap.slot x) refl refl refl

  -- of its own file the writer is nobody
  pub gone_owns : {ap : Appender} (files : List File) → Owns vol st ap G b → Owns v t ap (replaced G s []) (with_files files b)
  gone_owns {ap} files o =
      record {
        writes =
            subst (λ (x : Option Writer). Writes x ap (Stands v t ap (replaced G s []) (with_files files b) [] × (ap.fill < 486))) (sym g.writer)
            (writes_without id st.writer ap (λ n p. (gone_stands files n p.0, p.1)) o.writes);
      }

  pub gone_readable : Readable vol m → Readable v u
  gone_readable r = readable_still vol v g.used g.size r

-- between the calls, with the book's list of files in any words
pub gone_keeps : (w : World) (b : Fine) (k : Keeps w b) {m : Medium} → Readable w.vol m
    → {s : ℕ} {name : List ℕ} {id : ℕ} {v : List ℕ} {u : Medium} {t : Store} → Gone w.vol m w.store k.layout b s name id v u t
    → (files : List File) → Whole v t (replaced k.layout s []) (with_files files b)
    → Keeps (record { vol = v; store = t; appender = w.appender; medium = u }) (with_files files b)
gone_keeps w b k r g files whole = record { layout = _; whole = whole; owns = gone_owns g files k.owns; readable = gone_readable g r }

-- ---- the removal

module _ (vol : List ℕ) (m : Medium) (st : Store) (G : ℕ → List Segment) (b : Fine) (w : Whole vol st G b) (s id : ℕ) (hs : s < 64) where
  abbrev made : Out
  made = commit_of (Remove s) [] vol m st

  pub remove_stopped : {e : Error} → (remove_of vol m st s id).ans.outcome ≡ Err e
      → Unmade vol m st G b (remove_of vol m st s id).vol (remove_of vol m st s id).ans.medium (remove_of vol m st s id).ans.store
  unfolding remove_of
  remove_stopped {e} =
      on_done_keeps (λ (o : Out). o.ans.outcome ≡ Err e → Unmade vol m st G b o.vol o.ans.medium o.ans.store) made.ans.outcome _ _
      (λ d q. clash q refl)
      (λ x d q. commit_unmade w (commit_stopped (Remove s) [] vol m st w.inv (omega arith) d))

  module _ {name : List ℕ} (is : (disk_of vol st).entry s ≡ named name id) where
    -- a finished commit
    commit_gone : CommitMade (Remove s) [] vol m st made → Gone vol m st G b s name id made.vol made.ans.medium (closed_for id made.ans.store)
    commit_gone c =
        let t : Store = made.ans.store in
        let r : Removed (disk_of vol st) (disk_of made.vol t) s = removed (inv_sane w.inv) (commit_edited c) hs w.good.either w.good.past in
        let n : Unchanged (disk_of made.vol t) (disk_of made.vol (closed_for id t)) = writer_unchanged made.vol t (closed_for id t) refl refl in
        record {
          whole = record {
            inv = inv_writer refl refl refl c.inv;
            map = mapped_kept refl n.links refl
                (edited_mapped [] vol st made.vol t (inv_sane w.inv) (Remove s) hs (lit≤ tt) (commit_edited c) (inv_held w.inv).map w.map);
            good = good_same (remove_good w.good hs r) n;
            ties = ties_same (ties_remove w.good w.ties hs is r) n;
            parts = parted_same (parted_remove w.parts r) n;
            next = w.next ∙ sym r.next;
            ids = w.ids ∙ sym r.next;
            size = w.size ∙ sym r.shape.size;
          };
          was = is;
          writer = cong (writer_without id) c.writer;
          entries = λ q h x. n.entries q h ∙ r.entries q h x;
          copy = c.copy;
          head = c.head;
          chunk = r.shape.size;
          size = c.frame.size;
          used = c.used;
        }

    pub remove_made : (remove_of vol m st s id).ans.outcome ≡ Ok tt → EachSkipped Distinct (remove_of vol m st s id).skipped
        → Gone vol m st G b s name id (remove_of vol m st s id).vol (remove_of vol m st s id).ans.medium (remove_of vol m st s id).ans.store
    unfolding remove_of
    remove_made =
        on_done_keeps (λ (o : Out). o.ans.outcome ≡ Ok tt → EachSkipped Distinct o.skipped → Gone vol m st G b s name id o.vol o.ans.medium o.ans.store) made.ans.outcome _ _
        (λ d q h. commit_gone (commit_made (Remove s) [] vol m st w.inv (omega arith) hs (commit_distinct (Remove s) [] vol m st d h) d))
        (λ x d q. clash d q)
