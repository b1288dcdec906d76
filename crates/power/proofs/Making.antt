-- A file made, as a step: refused, all is as it was; accepted, the book with the file, and its appender at the file's start. Assumes nothing.
use Rattle.std.specs.Prelude.{Err, Ok}
use Prim.Native.Nat.{ℕ, ◌+◌, ◌-◌, ◌^◌, ◌<◌}
use mathlib.Core.Path.{◌≡◌, refl, sym, ◌∙◌}
use mathlib.Core.Bool.{true}
use mathlib.Core.List.{List, [], ◌∷◌}
use native.Mathlib.Omega.{arith}
use Rattle.le.specs.Part.{part, zeros}
use Rattle.le.proofs.Parts.{length_zeros}
use Rattle.medium.specs.declared.Error.{Error}
use Rattle.names.specs.Names.{name_ok}
use Rattle.names.proofs.Laws.{name_short}
use Rattle.handles.specs.declared.Store.{Store}
use Rattle.table.specs.declared.LinkAt.TheVariants as link
use Rattle.plan.specs.declared.Edit.TheVariants.{Create}
use Rattle.plan.specs.Copy.{created, Out, EachSkipped, Distinct}
use Rattle.commit.specs.Commit.{commit_of}
use Rattle.append.specs.declared.Appender.{Appender}
use Rattle.append.specs.declared.Tail.TheVariants.{At}
use Rattle.files.specs.declared.Rollover.{Rollover}
use Rattle.files.specs.Opened.{next_token, with_token, written_by, new_appender}
use Rattle.layout.specs.Views.{vacant, named, disk_of}
use Rattle.layout.specs.Segments.{Segment}
use Rattle.layout.specs.Changes.{replaced, Unchanged, Created}
use Rattle.layout.proofs.Facts.{replaced_here}
use Rattle.layout.proofs.Unchanged.{good_same}
use Rattle.layout.proofs.Creates.{create_good}
use Rattle.safe.specs.Inv.{CommitMade}
use Rattle.safe.proofs.Invs.{inv_writer, readable_still, inv_held}
use Rattle.safe.proofs.Commit.{commit_stopped, commit_made}
use Rattle.safe.proofs.Unwritten.{commit_distinct}
use Rattle.views.proofs.Commits.{inv_sane, commit_edited}
use Rattle.views.proofs.Makes
use Rattle.views.proofs.Stays.{writer_unchanged}
use Rattle.views.proofs.Maps.{edited_mapped, mapped_kept}
use Rattle.power.specs.Book as book
use Rattle.power.specs.Book.{Terms}
use Rattle.power.specs.History.{World}
use Rattle.power.proofs.Fine.{Fine, opened_for, entered}
use Rattle.power.proofs.Whole.{Whole, Stands, Keeps}
use Rattle.power.proofs.Ties.{ties_same, ties_create}
use Rattle.power.proofs.Parts.{parted_same, parted_create}
use Rattle.power.proofs.Asks.{Directed}
use Rattle.power.proofs.Unmade.{Unmade, commit_unmade}

-- nothing of a part
part_none : (l : List ℕ) → part 0 0 l ≡ []
unfolding part
part_none l = refl

-- the first segment of a file made
abbrev first_of : ℕ → List Segment
first_of c = (record { chunk = c; payloads = [] }) ∷ []

module _ (w : World) (b : Fine) (k : Keeps w b) (t : Terms) (slot chunk : ℕ) (hs : slot < 64) (vac : (disk_of w.vol w.store).entry slot ≡ vacant)
    (new : (s i : ℕ) → s < 64 → (disk_of w.vol w.store).entry s ≡ named t.name i → ⊥) (hc : chunk < w.store.head.chunks)
    (is_free : (disk_of w.vol w.store).link chunk ≡ Ok link.Free) (ok : name_ok t.name ≡ true) (small : w.store.head.next_id + 1 < 2 ^ 32) where
  abbrev id : ℕ
  id = w.store.head.next_id

  abbrev o : Out
  o = commit_of (Create slot id chunk) t.name w.vol w.medium w.store

  pub make_stopped : {e : Error} → o.ans.outcome ≡ Err e → Unmade w.vol w.medium w.store k.layout b o.vol o.ans.medium o.ans.store
  make_stopped d = commit_unmade k.whole (commit_stopped (Create slot id chunk) t.name w.vol w.medium w.store k.whole.inv (name_short t.name ok) d)

  pub make_done : o.ans.outcome ≡ Ok tt → EachSkipped Distinct o.skipped → CommitMade (Create slot id chunk) t.name w.vol w.medium w.store o
  make_done d h =
      commit_made (Create slot id chunk) t.name w.vol w.medium w.store k.whole.inv (name_short t.name ok) (hs, small, hc)
      (commit_distinct (Create slot id chunk) t.name w.vol w.medium w.store d h) d

  module _ (over : Rollover) (d : Directed over t.dir) (c : CommitMade (Create slot id chunk) t.name w.vol w.medium w.store o) where
    abbrev st : Store
    st = written_by (next_token o.ans.medium) id o.ans.store

    abbrev appender : Appender
    appender = new_appender (next_token o.ans.medium) slot id chunk 0 (At 0) over

    abbrev layout : ℕ → List Segment
    layout = replaced k.layout slot (first_of chunk)

    abbrev with_new_lem : Fine
    with_new_lem = opened_for (b.next + 1 - 1) t.dir (entered t created b)

    changes : Created (disk_of w.vol w.store) (disk_of o.vol o.ans.store) slot chunk t.name
    changes = Makes.created (inv_sane k.whole.inv) (commit_edited c) hs hc (name_short t.name ok) ok refl small

    stays : Unchanged (disk_of o.vol o.ans.store) (disk_of o.vol st)
    stays = writer_unchanged o.vol o.ans.store st refl refl

    made_whole : Whole o.vol st layout with_new_lem
    unfolding entered book.entered
    made_whole =
        record {
          inv = inv_writer refl refl refl c.inv;
          map = mapped_kept refl stays.links refl
              (edited_mapped t.name w.vol w.store o.vol o.ans.store (inv_sane k.whole.inv) (Create slot id chunk) (hs, hc) (name_short t.name ok) (commit_edited c)
              (inv_held k.whole.inv).map k.whole.map);
          good = good_same (create_good k.whole.good hs vac (λ s m i h e q. new s i h (rw q at e)) hc is_free changes) stays;
          ties = rw k.whole.next (ties_same (ties_create k.whole.good k.whole.ties hs vac changes) stays);
          parts = rw k.whole.ids (parted_same (parted_create k.whole.good k.whole.parts changes) stays);
          next = rw k.whole.next (sym changes.next);
          ids = rw k.whole.ids (sym changes.next);
          size = k.whole.size ∙ sym changes.shape.size;
        }

    made_stands : Stands o.vol st appender layout with_new_lem []
    unfolding entered book.entered
    made_stands =
        let here : layout slot ≡ first_of chunk = replaced_here k.layout slot (first_of chunk) in
        record {
          name = t.name;
          below = hs;
          entry = stays.entries slot hs ∙ changes.entry;
          last = rw here refl;
          chunk = rw here refl;
          tail = rw here refl;
          buffer = length_zeros 486;
          file = rw (← k.whole.next) (omega arith);
          rollover = sym d.same;
          fine = d.fine;
          unwritten = rw (part_none (zeros 486)) refl;
        }

    pub made_keeps : Keeps (record { vol = o.vol; store = st; appender = appender; medium = with_token o.ans.medium }) with_new_lem
    made_keeps =
        record {
          layout = layout;
          whole = made_whole;
          owns = record { writes = (refl, refl, λ q. (made_stands, omega arith)) };
          readable = readable_still w.vol o.vol c.used c.frame.size k.readable;
        }
