-- The oldest file of a directory removed, as a step: refused, none there, or gone, and then it is the file that the book's list loses. Assumes nothing.
use Rattle.std.specs.Prelude.{None, Option, Some, Err, Ok}
use Prim.Native.Nat.{ℕ, ◌<◌}
use mathlib.Core.Path.{◌≡◌, refl, sym}
use mathlib.Core.Logic.{◌≢◌}
use mathlib.Core.Bool.{Bool, true, false, ◌&&◌, false≢true}
use mathlib.Core.Option.{some}
use mathlib.Core.List.{List, []}
use borrow.Author.Tests.{eq-eqb}
use lib.Dec.{eqb}
use Rattle.std.specs.Prelude.{None, Some, Ok, Err, Option as StdOption}
use Rattle.le.specs.Choice.{pick}
use Rattle.le.specs.Part.{part}
use Rattle.le.proofs.Choices.{pick_keeps_by}
use Rattle.medium.specs.declared.Error.{Error}
use Rattle.medium.specs.declared.Medium.{Medium}
use Rattle.medium.specs.Sector.{Readable}
use Rattle.medium.proofs.Laws.{on_done_keeps}
use Rattle.handles.specs.declared.Store.{Store}
use Rattle.handles.specs.declared.Writer.{Writer}
use Rattle.handles.specs.Handles.{open_file, is_open, open_id}
use Rattle.directory.specs.declared.Old.{Old}
use Rattle.directory.specs.Entry.{entry_at}
use Rattle.directory.specs.Scan.{oldest_of}
use Rattle.plan.specs.Copy.{Out, EachSkipped, Distinct}
use Rattle.remove.specs.Remove.{remove_of, GoneOut, none_out, gone_of, oldest_gone, remove_oldest_of}
use Rattle.layout.specs.Segments.{Segment}
use Rattle.layout.specs.Changes.{replaced}
use Rattle.layout.proofs.Facts.{true≢false}
use Rattle.safe.proofs.Frame.{clash}
use Rattle.folds.proofs.Oldest.{Goes, Picked, Olds, oldest_view}
use Rattle.power.specs.Book.{without_oldest}
use Rattle.power.specs.History.{open_of}
use Rattle.power.proofs.Fine.{Fine, with_files}
use Rattle.power.proofs.Whole.{Whole}
use Rattle.power.proofs.Checks.{inv_checked}
use Rattle.power.proofs.Picks.{spared_by, without_oldest_lem}
use Rattle.power.proofs.Unmade.{Unmade}
use Rattle.power.proofs.Removing.{Gone, remove_stopped, remove_made}

-- what spares the open file spares the one that the book is fed
pub spared_open : (w : Option Writer) → spared_by (open_file w) ≡ open_of w
spared_open None = refl
spared_open (Some w) = refl

-- the file that went
pub record Went (vol : List ℕ) (m : Medium) (st : Store) (G : ℕ → List Segment) (b : Fine) (dir : List ℕ) (spared : StdOption ℕ) (g : GoneOut) : Type 0 where
  pub slot : ℕ
  pub name : List ℕ
  pub id : ℕ
  pub below : slot < 64
  pub goes : Goes dir spared name id
  pub gone : Gone vol m st G b slot name id g.vol g.ans.medium g.ans.store
  pub whole : Whole g.vol g.ans.store (replaced G slot []) (with_files (without_oldest (some dir) (spared_by spared) b.files) b)

-- it is not the one spared
pub goes_other : {dir : List ℕ} {kept : ℕ} {name : List ℕ} {id : ℕ} → Goes dir (Some kept) name id → id ≢ kept
goes_other {dir} {kept} {name} {id} g e = true≢false (eq-eqb id kept e) g.unspared

module _ (vol : List ℕ) (m : Medium) (st : Store) (G : ℕ → List Segment) (b : Fine) (w : Whole vol st G b) (r : Readable vol m) (dir : List ℕ) (spared : StdOption ℕ) where
  abbrev found : (old : StdOption Old) × (oldest_of vol m st dir spared ≡ Ok old) × Olds vol st dir spared 64 old
  found = oldest_view vol m st (inv_checked m w.inv r) G w.good dir spared

  -- the removal that it makes
  abbrev removal : Old → Out
  removal old = remove_of vol m st old.slot old.id

  abbrev removing : Old → GoneOut
  removing old = gone_of (part 0 40 (entry_at vol st old.slot)) old.len (removal old)

  abbrev idle : GoneOut
  idle = none_out (record { vol = vol; ans = record { outcome = Ok tt; medium = m; store = st }; skipped = [] })

  -- a file is picked, or none may go
  pub ways : (P : GoneOut → Type 0) → ((old : Old) → Olds vol st dir spared 64 (Some old) → P (removing old))
      → (Olds vol st dir spared 64 None → P idle) → P (remove_oldest_of vol m st dir spared)
  unfolding remove_oldest_of oldest_gone
  ways P f n = rw found.1 (go found.0 found.2)
    where
      go : (old : StdOption Old) → Olds vol st dir spared 64 old → P (oldest_gone vol m st (Ok old))
      go None o = n o
      go (Some old) o = f old o

  pub oldest_stopped : {e : Error} → (remove_oldest_of vol m st dir spared).ans.outcome ≡ Err e
      → Unmade vol m st G b (remove_oldest_of vol m st dir spared).vol (remove_oldest_of vol m st dir spared).ans.medium (remove_oldest_of vol m st dir spared).ans.store
      × ((remove_oldest_of vol m st dir spared).ans.any ≡ false)
  unfolding gone_of
  oldest_stopped {e} =
      ways (λ (x : GoneOut). x.ans.outcome ≡ Err e → Unmade vol m st G b x.vol x.ans.medium x.ans.store × (x.ans.any ≡ false))
      (λ old o. on_done_keeps (λ (x : GoneOut). x.ans.outcome ≡ Err e → Unmade vol m st G b x.vol x.ans.medium x.ans.store × (x.ans.any ≡ false)) (removal old).ans.outcome _ _
      (λ d q. clash q refl)
      (λ x d q. (remove_stopped vol m st G b w old.slot old.id (o.some refl).below q, refl)))
      (λ o q. clash q refl)

  -- none may go: nothing is done
  pub oldest_none : (remove_oldest_of vol m st dir spared).ans.outcome ≡ Ok tt → (remove_oldest_of vol m st dir spared).ans.any ≡ false
      → ((remove_oldest_of vol m st dir spared).vol ≡ vol) × ((remove_oldest_of vol m st dir spared).ans.medium ≡ m) × ((remove_oldest_of vol m st dir spared).ans.store ≡ st)
  unfolding gone_of
  oldest_none =
      ways (λ (x : GoneOut). x.ans.outcome ≡ Ok tt → x.ans.any ≡ false → (x.vol ≡ vol) × (x.ans.medium ≡ m) × (x.ans.store ≡ st))
      (λ old o. on_done_keeps (λ (x : GoneOut). x.ans.outcome ≡ Ok tt → x.ans.any ≡ false → (x.vol ≡ vol) × (x.ans.medium ≡ m) × (x.ans.store ≡ st)) (removal old).ans.outcome _ _
      (λ d q n. absurd (false≢true (sym n)))
      (λ x d q. clash d q))
      (λ o q n. (refl, refl, refl))

  went : (old : Old) → Olds vol st dir spared 64 (Some old) → (removal old).ans.outcome ≡ Ok tt → EachSkipped Distinct (removal old).skipped
      → (g : GoneOut) → g.vol ≡ (removal old).vol → g.ans.medium ≡ (removal old).ans.medium → g.ans.store ≡ (removal old).ans.store → Went vol m st G b dir spared g
  went old o d h g gv gm gs =
      let p : Picked vol st dir spared old = o.some refl in
      let x : Gone vol m st G b old.slot p.name old.id g.vol g.ans.medium g.ans.store
      = rw (gv, gm, gs) (remove_made vol m st G b w old.slot old.id p.below p.entry d h) in
      record {
        slot = old.slot;
        name = p.name;
        id = old.id;
        below = p.below;
        goes = p.goes;
        gone = x;
        whole =
            rw (without_oldest_lem w.good w.ties p.below p.entry dir spared p.goes (λ q n i k e y. o.least refl q k n i e y)) x.whole;
      }

  pub oldest_made : (remove_oldest_of vol m st dir spared).ans.any ≡ true → EachSkipped Distinct (remove_oldest_of vol m st dir spared).skipped
      → Went vol m st G b dir spared (remove_oldest_of vol m st dir spared)
  unfolding gone_of
  oldest_made =
      ways (λ (x : GoneOut). x.ans.any ≡ true → EachSkipped Distinct x.skipped → Went vol m st G b dir spared x)
      (λ old o. on_done_keeps (λ (x : GoneOut). x.ans.any ≡ true → EachSkipped Distinct x.skipped → Went vol m st G b dir spared x) (removal old).ans.outcome _ _
      (λ d q h. went old o d h _ refl refl refl)
      (λ x d q. absurd (false≢true q)))
      (λ o q. absurd (false≢true q))
