-- What removing keeps, accepted or refused: what a caller goes on with. Assumes nothing.
use Rattle.std.specs.Prelude.{None, Option, Some}
use mathlib.Core.Path.{◌≡◌, refl, sym, ap, ◌∙◌}
use mathlib.Core.Bool.{Bool, true, false, ◌&&◌}
use mathlib.Core.List.{List, []}
use Prim.Native.Nat.{ℕ, ◌≤◌}
use borrow.Author.Tests.{eqb-false, ne_eqb}
use lib.Dec.{eqb, lit≤}
use lib.ListN.{length}
use Rattle.std.specs.Prelude.{Option, None, Some, Result, Ok, Err}
use Rattle.medium.specs.declared.Error.{Error}
use Rattle.le.proofs.Choices.{pick_keeps, pick_keeps_by, pick_false}
use Rattle.medium.specs.declared.Medium.{Medium}
use Rattle.medium.specs.Sector.{sectors_of}
use Rattle.medium.specs.Frame.{Spends}
use Rattle.medium.proofs.Laws.{on_done_keeps}
use Rattle.medium.proofs.Frame.{rest_of, spends_none, spends_more}
use Rattle.medium.proofs.Stale.{NotStale}
use Rattle.handles.specs.declared.Store.{Store}
use Rattle.handles.specs.declared.Writer.{Writer}
use Rattle.handles.specs.Handles.{store_ok, open_file, is_open, open_id}
use Rattle.directory.specs.declared.Old.{Old}
use Rattle.directory.specs.Scan.{oldest_of, spares}
use Rattle.directory.proofs.Ranges.{oldest_file}
use Rattle.plan.specs.declared.Edit.{Edit}
use Rattle.plan.specs.declared.Edit.TheVariants.{Remove}
use Rattle.plan.specs.Copy.{Out}
use Rattle.header.specs.Copies.{current_of}
use Rattle.commit.specs.Commit.{is_current, commit_of}
use Rattle.commit.proofs.Keeps.{Kept, commit_keeps}
use Rattle.commit.proofs.Current.{commit_not_stale}
use Rattle.remove.specs.Remove.{writer_without, closed_for, remove_of, GoneOut, gone_of, oldest_gone, remove_oldest_of}

-- a store value that passes refusal 3, with its 24 checksums
pub record Good (vol : List ℕ) (st : Store) : Type 0 where
  pub ok : store_ok st (sectors_of vol) ≡ true
  pub count : length st.head.crcs ≡ 24

-- what stands after one or more commits: the volume's length and its bytes past the last whole sector, the medium record but for writes left, and the
-- store's id and sizes
pub record Stands (vol : List ℕ) (m : Medium) (st : Store) (v : List ℕ) (n : Medium) (s : Store) : Type 0 where
  pub size : length v ≡ length vol
  pub rest : rest_of v ≡ rest_of vol
  pub medium : Spends m n
  pub good : Good v s
  pub id : s.head.id ≡ st.head.id
  pub chunks : s.head.chunks ≡ st.head.chunks
  pub chunk : s.head.chunk ≡ st.head.chunk

pub stands_none : (vol : List ℕ) (m : Medium) (st : Store) → Good vol st → Stands vol m st vol m st
stands_none vol m st g = record { size = refl; rest = refl; medium = spends_none m; good = g; id = refl; chunks = refl; chunk = refl }

pub stands_more : {vol v w : List ℕ} {m n k : Medium} {st s t : Store} → Stands vol m st v n s → Stands v n s w k t → Stands vol m st w k t
stands_more p q =
    record {
      size = q.size ∙ p.size;
      rest = q.rest ∙ p.rest;
      medium = spends_more p.medium q.medium;
      good = q.good;
      id = q.id ∙ p.id;
      chunks = q.chunks ∙ p.chunks;
      chunk = q.chunk ∙ p.chunk;
    }

pub commit_stands : (edit : Edit) (name vol : List ℕ) (m : Medium) (st : Store) → Good vol st → length name ≤ 40
    → Stands vol m st (commit_of edit name vol m st).vol (commit_of edit name vol m st).ans.medium (commit_of edit name vol m st).ans.store
commit_stands edit name vol m st g short =
    let k : Kept edit vol m st (commit_of edit name vol m st) = commit_keeps edit name vol m st g.ok g.count short in
    record {
      size = k.size;
      rest = k.rest;
      medium = k.medium;
      good = record { ok = k.ok; count = k.count };
      id = k.id;
      chunks = k.chunks;
      chunk = k.chunk;
    }

-- the open appender is no part of what refusal 3 tests
closed_good : (vol : List ℕ) (st : Store) (id : ℕ) → Good vol st → Good vol (closed_for id st)
unfolding store_ok
closed_good vol st id g = record { ok = g.ok; count = g.count }

abbrev pub OutStands : List ℕ → Medium → Store → Out → Type 0
OutStands vol m st o = Stands vol m st o.vol o.ans.medium o.ans.store

pub remove_stands : (vol : List ℕ) (m : Medium) (st : Store) (slot id : ℕ) → Good vol st → OutStands vol m st (remove_of vol m st slot id)
unfolding remove_of
remove_stands vol m st slot id g =
    let o : Out = commit_of (Remove slot) [] vol m st in
    let k : OutStands vol m st o = commit_stands (Remove slot) [] vol m st g (lit≤ tt) in
    on_done_keeps (OutStands vol m st) o.ans.outcome _ _
    (λ _. record {
      size = k.size;
      rest = k.rest;
      medium = k.medium;
      good = closed_good o.vol o.ans.store id k.good;
      id = k.id;
      chunks = k.chunks;
      chunk = k.chunk;
    })
    (λ _ _. k)

-- a current store is not refused with 11
pub remove_not_stale : (vol : List ℕ) (m : Medium) (st : Store) (slot id : ℕ) → is_current (current_of vol m) st ≡ true
    → NotStale (remove_of vol m st slot id).ans.outcome
unfolding remove_of
remove_not_stale vol m st slot id c =
    on_done_keeps (λ (o : Out). NotStale o.ans.outcome) (commit_of (Remove slot) [] vol m st).ans.outcome _ _ (λ _. tt)
    (λ _ _. commit_not_stale (Remove slot) [] vol m st c)

abbrev pub GoneStands : List ℕ → Medium → Store → GoneOut → Type 0
GoneStands vol m st o = Stands vol m st o.vol o.ans.medium o.ans.store

gone_stands : (vol : List ℕ) (m : Medium) (st : Store) (name : List ℕ) (len : ℕ) (o : Out) → OutStands vol m st o → GoneStands vol m st (gone_of name len o)
unfolding gone_of
gone_stands vol m st name len o k = on_done_keeps (GoneStands vol m st) o.ans.outcome _ _ (λ _. k) (λ _ _. k)

found_stands : (vol : List ℕ) (m : Medium) (st : Store) (f : Result (Option Old) Error) → Good vol st → GoneStands vol m st (oldest_gone vol m st f)
unfolding oldest_gone
found_stands vol m st (Err e) g = stands_none vol m st g
found_stands vol m st (Ok None) g = stands_none vol m st g
found_stands vol m st (Ok (Some old)) g = gone_stands vol m st _ old.len _ (remove_stands vol m st old.slot old.id g)

pub oldest_stands : (vol : List ℕ) (m : Medium) (st : Store) (dir : List ℕ) (spared : Option ℕ) → Good vol st
    → GoneStands vol m st (remove_oldest_of vol m st dir spared)
unfolding remove_oldest_of
oldest_stands vol m st dir spared g = found_stands vol m st (oldest_of vol m st dir spared) g

-- ---- the open file is spared, and stays open

without_spared : (w : Option Writer) (id : ℕ) → spares (open_file w) id ≡ false → writer_without id w ≡ w
unfolding writer_without
without_spared None id e = refl
without_spared (Some w) id e = pick_false _ _ (ne_eqb w.id id (λ q. eqb-false id w.id e (sym q)))

abbrev SameWriter : Store → GoneOut → Type 0
SameWriter st o = o.ans.store.writer ≡ st.writer

module _ (vol : List ℕ) (m : Medium) (st : Store) (good : Good vol st) where
  remove_spared : (slot id : ℕ) → spares (open_file st.writer) id ≡ false → (remove_of vol m st slot id).ans.store.writer ≡ st.writer
  unfolding remove_of
  remove_spared slot id e =
      let o : Out = commit_of (Remove slot) [] vol m st in
      let w : o.ans.store.writer ≡ st.writer = (commit_keeps (Remove slot) [] vol m st good.ok good.count (lit≤ tt)).writer in
      on_done_keeps (λ (x : Out). x.ans.store.writer ≡ st.writer) o.ans.outcome _ _
      (λ _. ap (writer_without id) w ∙ without_spared st.writer id e)
      (λ _ _. w)

  gone_writer : (name : List ℕ) (len : ℕ) (o : Out) → o.ans.store.writer ≡ st.writer → SameWriter st (gone_of name len o)
  unfolding gone_of
  gone_writer name len o w = on_done_keeps (SameWriter st) o.ans.outcome _ _ (λ _. w) (λ _ _. w)

  found_writer : (f : Result (Option Old) Error) → ((old : Old) → f ≡ Ok (Some old) → spares (open_file st.writer) old.id ≡ false)
      → SameWriter st (oldest_gone vol m st f)
  unfolding oldest_gone
  found_writer (Err e) h = refl
  found_writer (Ok None) h = refl
  found_writer (Ok (Some old)) h = gone_writer _ old.len (remove_of vol m st old.slot old.id) (remove_spared old.slot old.id (h old refl))

  pub spared_writer : (dir : List ℕ) → SameWriter st (remove_oldest_of vol m st dir (open_file st.writer))
  unfolding remove_oldest_of
  spared_writer dir =
      found_writer (oldest_of vol m st dir (open_file st.writer))
      (λ old q. (oldest_file vol m st dir (open_file st.writer) q).goes)
