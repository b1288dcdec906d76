-- What has to be kept by each commit, record, mount and format, on any volume; and that a file's removal keeps it then. Assumes nothing.
use Rattle.std.specs.Prelude.{None, Option, Some, Err, Ok, Result}
use Prim.Native.Nat.{ℕ, ◌-◌, ◌^◌, ◌≤◌, ◌<◌}
use mathlib.Core.Path.{◌≡◌, refl, sym, ap, ◌∙◌}
use mathlib.Core.Bool.{Bool, true, false}
use mathlib.Core.List.{List, []}
use lib.Dec.{lit≤}
use lib.ListN.{length}
use Rattle.std.specs.Prelude.{None, Some, Ok, Err, Result, Option}
use Rattle.directory.specs.declared.Old.{Old}
use Rattle.le.proofs.Choices.{pick_keeps_by}
use Rattle.medium.specs.declared.Error.{Error}
use Rattle.medium.specs.declared.Medium.{Medium}
use Rattle.medium.specs.Sector.{sectors_of, sector_at}
use Rattle.medium.proofs.Laws.{on_done_keeps}
use Rattle.handles.specs.declared.Store.{Store}
use Rattle.handles.specs.declared.Writer.{Writer}
use Rattle.handles.specs.Handles.{store_ok, is_open}
use Rattle.handles.proofs.Laws.{store_facts}
use Rattle.directory.specs.Scan.{oldest_of}
use Rattle.directory.proofs.Ranges.{oldest_file}
use Rattle.table.specs.Table.{on_pick}
use Rattle.table.specs.Free.{free_of}
use Rattle.table.proofs.Decides.{on_pick_keeps}
use Rattle.table.proofs.Mapped.{free_range}
use Rattle.plan.specs.declared.Edit.{Edit}
use Rattle.plan.specs.declared.Edit.TheVariants.{Format, Create, Extend, Remove}
use Rattle.plan.specs.Edit.{Fits}
use Rattle.plan.specs.Copy.{Kind, Skipped, EachSkipped, Out, steps_of, is_format}
use Rattle.commit.specs.Commit.{commit_of}
use Rattle.commit.proofs.Keeps.{commit_keeps}
use Rattle.remove.specs.Remove.{writer_without, closed_for, remove_of, GoneOut, gone_of, oldest_gone, remove_oldest_of}
use Rattle.remove.proofs.Keeps.{Good}
use Rattle.files.specs.Opened.{written_by}
use Rattle.safe.proofs.Frame.{clash}
use Rattle.store.specs.Reading.{mount_call}
use Rattle.store.specs.Writing.{format_call}
use Rattle.power.specs.History.{World, is_ok, EachStep}
use Rattle.power.proofs.Creates.{steps_done}

-- what a call knows of its commit's edit on any volume: Fits, but that no bound of the next id is known there beside the last id's own refusal
abbrev pub Suits : Edit → Store → Type 0
Suits (Create slot id chunk) st = (slot < 64) × (id ≡ st.head.next_id) × (id ≡ 2 ^ 32 - 1 → ⊥) × (chunk < st.head.chunks)
Suits (Extend slot position next last partial records) st =
    Fits (Extend slot position next last partial records) st.head.chunks × (partial ≡ true → records < st.head.chunk)
Suits (Remove slot) st = Fits (Remove slot) st.head.chunks
Suits Format st = Fits Format st.head.chunks

-- P is known of each body sector that a finished commit left unwritten, and L is to be kept of the volume and the store in hand
pub record Lasts (P : Skipped → Type 0) (L : List ℕ → Store → Type 0) : Type 0 where
  pub count : (vol : List ℕ) (st : Store) → L vol st → store_ok st (sectors_of vol) ≡ true → length st.head.crcs ≡ 24
  pub made : (edit : Edit) (name vol : List ℕ) (m : Medium) (st : Store) → Good vol st → length name ≤ 40 → Suits edit st → is_format edit ≡ false → L vol st
      → (commit_of edit name vol m st).ans.outcome ≡ Ok tt → EachSkipped P (commit_of edit name vol m st).skipped
      → L (commit_of edit name vol m st).vol (commit_of edit name vol m st).ans.store
  pub unmade : (edit : Edit) (name vol : List ℕ) (m : Medium) (st : Store) → Good vol st → length name ≤ 40 → L vol st
      → {e : Error} → (commit_of edit name vol m st).ans.outcome ≡ Err e
      → L (commit_of edit name vol m st).vol (commit_of edit name vol m st).ans.store
  pub beyond : (vol v : List ℕ) (st : Store) → length v ≡ length vol → ((j : ℕ) → j < 64 → sector_at v j ≡ sector_at vol j) → L vol st → L v st
  pub closed : (vol : List ℕ) (st : Store) (id : ℕ) → L vol st → L vol (closed_for id st)
  pub opened : (vol : List ℕ) (st : Store) (token id : ℕ) → L vol st → L vol (written_by token id st)
  pub mounted : (vol : List ℕ) (m : Medium) (st : Store) → L vol st → L vol (mount_call vol m).store
  pub formatted : (vol : List ℕ) (m : Medium) (size seed : ℕ) (st : Store) → is_ok (format_call vol m size seed).call.answer ≡ true
      → EachStep P (format_call vol m size seed).steps → L vol st → L (format_call vol m size seed).vol (format_call vol m size seed).call.store
  pub unformatted : (vol : List ℕ) (m : Medium) (size seed : ℕ) (st : Store) → is_ok (format_call vol m size seed).call.answer ≡ false
      → L vol st → L (format_call vol m size seed).vol st

-- where the store has a writer, the appender has the 486 bytes that its type gives it; where it has none, any appender is refused
abbrev pub Buffered : World → Type 0
Buffered w = is_open w.store.writer ≡ true → length w.appender.buffer ≡ 486

-- ---- a free chunk is one of the store's

pub free_keeps : {A : Type 0} (K : A → Type 0) (vol : List ℕ) (m : Medium) (st : Store) → Good vol st → (f : Error → A) (a : A) (g : ℕ → A)
    → ((e : Error) → K (f e)) → K a → ((c : ℕ) → c < st.head.chunks → K (g c)) → K (on_pick (free_of vol m st) f a g)
free_keeps K vol m st good f a g p n q = on_pick_keeps K (free_of vol m st) f a g p n (λ c e. q c (free_range vol m st (store_facts st (sectors_of vol) good.ok).map e))

-- ---- commits

-- what is known of a commit's body sectors, if it was finished
abbrev pub Due : (Skipped → Type 0) → Out → Type 0
Due P o = o.ans.outcome ≡ Ok tt → EachSkipped P o.skipped

pub step_due : (P : Skipped → Type 0) (kind : Kind) (o : Out) → EachStep P (steps_of kind o) → Due P o
unfolding EachStep
step_due P kind o each d = (rw (steps_done kind o d) at each).0

-- a writer that is left was there
left_open : (id : ℕ) (x : Option Writer) → is_open (writer_without id x) ≡ true → is_open x ≡ true
unfolding writer_without
left_open id None t = t
left_open id (Some w) t = refl

module _ {P : Skipped → Type 0} {L : List ℕ → Store → Type 0} (rules : Lasts P L) where
  pub good_of : (vol : List ℕ) (st : Store) → L vol st → store_ok st (sectors_of vol) ≡ true → Good vol st
  good_of vol st l ok = record { ok = ok; count = rules.count vol st l ok }

  -- between the calls
  abbrev pub Held : World → Type 0
  Held w = L w.vol w.store × Buffered w

  -- inside a call Q, whatever it is, stays true of a store with a writer: no commit opens a file
  module _ (Q : Type 0) where
    abbrev pub Stays : List ℕ → Store → Type 0
    Stays vol st = L vol st × (is_open st.writer ≡ true → Q)

    module _ (vol : List ℕ) (m : Medium) (st : Store) (good : Good vol st) (stays : Stays vol st) where
      pub commit_stays : (edit : Edit) (name : List ℕ) → length name ≤ 40 → Suits edit st → is_format edit ≡ false → Due P (commit_of edit name vol m st)
          → Stays (commit_of edit name vol m st).vol (commit_of edit name vol m st).ans.store
      commit_stays edit name short suits plain due =
          let k = commit_keeps edit name vol m st good.ok good.count short in
          (go (commit_of edit name vol m st).ans.outcome refl, λ t. stays.1 (ap is_open (sym k.writer) ∙ t))
        where
          go : (r : Result Unit Error) → (commit_of edit name vol m st).ans.outcome ≡ r → L (commit_of edit name vol m st).vol (commit_of edit name vol m st).ans.store
          go (Err e) q = rules.unmade edit name vol m st good short stays.0 q
          go (Ok tt) q = rules.made edit name vol m st good short suits plain stays.0 q (due q)

      -- ---- a file goes

      abbrev OutStays : Out → Type 0
      OutStays o = Due P o → Stays o.vol o.ans.store

      pub remove_stays : (slot id : ℕ) → slot < 64 → OutStays (remove_of vol m st slot id)
      unfolding remove_of is_format
      remove_stays slot id below =
          let o : Out = commit_of (Remove slot) [] vol m st in
          let k : OutStays o = commit_stays (Remove slot) [] (lit≤ tt) below refl in
          on_done_keeps OutStays o.ans.outcome _ _
          (λ _ due. let s = k (λ _. due refl) in (rules.closed o.vol o.ans.store id s.0, λ t. s.1 (left_open id o.ans.store.writer t)))
          (λ _ _. k)

      abbrev GoneStays : GoneOut → Type 0
      GoneStays g = (g.ans.outcome ≡ Ok tt → g.ans.any ≡ true → EachSkipped P g.skipped) → Stays g.vol g.ans.store

      gone_stays : (name : List ℕ) (len : ℕ) (o : Out) → OutStays o → GoneStays (gone_of name len o)
      unfolding gone_of
      gone_stays name len o k = on_done_keeps GoneStays o.ans.outcome _ _ (λ _ due. k (λ _. due refl refl)) (λ _ d _. k (λ q. clash d q))

      module _ (dir : List ℕ) (spared : Option ℕ) where
        found_stays : (f : Result (Option Old) Error) → oldest_of vol m st dir spared ≡ f → GoneStays (oldest_gone vol m st f)
        unfolding oldest_gone
        found_stays (Err e) q = λ _. stays
        found_stays (Ok None) q = λ _. stays
        found_stays (Ok (Some old)) q = gone_stays _ _ _ (remove_stays old.slot old.id (oldest_file vol m st dir spared q).file.below)

        pub oldest_stays : GoneStays (remove_oldest_of vol m st dir spared)
        unfolding remove_oldest_of
        oldest_stays = found_stays (oldest_of vol m st dir spared) refl
