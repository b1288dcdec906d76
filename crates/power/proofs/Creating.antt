-- create in a history, where the name is new and ids, generations and writes are left. With room for a file more it is accepted, with one step. Without,
-- with a rollover and a file that may go, the oldest goes first: then there is room, and it is accepted, with two. Assumes nothing.
use Rattle.std.specs.Prelude.{Ok, None}
use Prim.Native.Nat.{ℕ, ◌+◌, ◌-◌, ◌^◌, ◌≤◌}
use mathlib.Core.Path.{◌≡◌, refl, sym, ap, subst, ◌∙◌}
use mathlib.Core.Logic.{◌⊎◌}
use mathlib.Core.Bool.{Bool, true, false, not, ◌||◌}
use mathlib.Core.Option.{none}
use mathlib.Core.List.{List, [], ◌∷◌, ◌++◌, Memᴰ}
use native.Mathlib.Omega.{arith}
use lib.ListN.{length}
use Rattle.le.specs.Choice.{pick}
use Rattle.le.proofs.Choices.{pick_true}
use Rattle.le.proofs.Bools.{and_true}
use Rattle.names.specs.Names.{name_ok, dir_ok}
use Rattle.names.proofs.Laws.{name_short}
use Rattle.medium.specs.declared.Medium.{Medium}
use Rattle.medium.specs.Sector.{Readable}
use Rattle.medium.proofs.Laws.{on_done_done}
use Rattle.handles.specs.declared.Header.{Header}
use Rattle.handles.specs.Handles.{table_of}
use Rattle.header.specs.Header.{with_crcs}
use Rattle.plan.specs.declared.Edit.TheVariants.{Create}
use Rattle.plan.specs.Edit.{head_after}
use Rattle.plan.specs.Copy.{rolled_over, created, Out, EachSkipped, Distinct}
use Rattle.commit.proofs.Keeps.{commit_keeps}
use Rattle.remove.specs.Remove.{GoneOut, remove_oldest_of}
use Rattle.append.specs.declared.Tail.TheVariants.{At}
use Rattle.append.specs.Appender.{dir_bytes}
use Rattle.append.specs.Calls.{call_of}
use Rattle.append.specs.Flush.{AppOut, after, rolling}
use Rattle.files.specs.declared.Rollover.{Rollover}
use Rattle.files.specs.Opened.{next_token, with_token, written_by, new_appender, opened_out}
use Rattle.files.specs.Create.{over_out, create_from, create_of}
use Rattle.store.specs.Asked.{asked_of}
use Rattle.store.specs.Opening.{rollover_of, open_fine}
use Rattle.writes.specs.Writes.{commit_most, create_most}
use Rattle.writes.proofs.Removals.{oldest_beside}
use Rattle.writes.proofs.Beside.{create_plain}
use Rattle.power.specs.Calls.{Rules, create}
use Rattle.power.specs.Book.{File, Book, may_go}
use Rattle.power.specs.History.{World, if_ok, with_left, create_by, ran, EachStep}
use Rattle.power.specs.Room.{Tells, Allows, CanCommit, HasRoom, chunks_in}
use Rattle.power.proofs.Fine.{Fine, forget}
use Rattle.power.proofs.Whole.{Keeps, Booked, same_files}
use Rattle.power.proofs.Members.{keep_mem, is_not}
use Rattle.power.proofs.Asks.{set_dir, asked_opens}
use Rattle.power.proofs.Rules.{admits_done, create_by_lem}
use Rattle.power.proofs.Shown.{asked}
use Rattle.power.proofs.Removing.{gone_readable}
use Rattle.power.proofs.Oldest.{Went, oldest_made}
use Rattle.power.proofs.Enough.{commit_within, commit_after}
use Rattle.power.proofs.Counting.{slots_most, chunks_most}
use Rattle.power.proofs.Rounds.{creation, Makes, round_lacks, round_makes}
use Rattle.power.proofs.Going.{Goer, oldest_goes, went_files, went_chunks}

module _ (rules : Rules) (w : World) (left : ℕ) (name : List ℕ) (rolls : Bool) (dir : List ℕ) where
  abbrev m : Medium
  m = with_left left w.medium

  abbrev id : ℕ
  id = w.store.head.next_id

  abbrev over : Rollover
  over = rollover_of rolls dir

  -- accepted, with one step: the appender stands at the start of its file, and the header is the commit's
  pub record Made : Type 0 where
    pub slot : ℕ
    pub chunk : ℕ
    pub out : Out
    pub head : out.ans.store.head ≡ with_crcs (head_after (Create slot id chunk) w.store.head) out.ans.store.head.crcs
    pub is : ran w (create rules left name rolls dir) ≡ record {
      world = record {
        vol = out.vol;
        store = written_by (next_token out.ans.medium) id out.ans.store;
        appender = new_appender (next_token out.ans.medium) slot id chunk 0 (At 0) over;
        medium = with_token out.ans.medium;
      };
      accepted = true;
      steps = (record { kind = created; skipped = out.skipped }) ∷ [];
    }

  module _ {b : Fine} (k : Keeps w b) (allows : Allows rules name) (fine : open_fine name rolls dir ≡ true) where
    short : name_ok name ≡ true
    short = (and_true (name_ok name) (not rolls || dir_ok dir) fine).0

    asks : asked_of w.vol w.store (open_fine name rolls dir) ≡ Ok tt
    asks = asked w.vol m w.store k.layout b k.whole k.readable (open_fine name rolls dir) fine

    call_is : create_by rules w.vol m w.store name rolls dir ≡ call_of (create_of name over w.vol m w.store)
    call_is = create_by_lem w.vol w.store name rolls dir rules m ∙ ap call_of (on_done_done _ _ (admits_done w.vol w.store name rolls dir rules allows asks))

    -- ---- there is room

    module _ (new : (f : File) → Memᴰ f b.files → f.name ≡ name → ⊥) (can : CanCommit w left) (has : HasRoom w (forget b)) where
      done : (slot chunk : ℕ) → (creation name w.vol m w.store slot chunk).ans.outcome ≡ Ok tt
      done slot chunk =
          (commit_within (Create slot id chunk) name w.vol m w.store k.whole.inv k.readable (create_plain slot id chunk) (name_short name short) can.gens can.writes).0

      pub create_makes : Made
      unfolding ran opened_out if_ok create_from
      create_makes =
          let x = round_makes w.vol m w.store k.whole k.readable name new over (create_from 1 name over) has.ids done has.slots has.chunks in
          record {
            slot = x.0;
            chunk = x.1.0;
            out = creation name w.vol m w.store x.0 x.1.0;
            head =
                ((commit_keeps (Create x.0 id x.1.0) name w.vol m w.store k.whole.inv.ok k.whole.inv.range.count (name_short name short)
                ).accepted (done x.0 x.1.0)).1;
            is = rw (call_is, x.1.1);
          }

  -- the header: a generation more, the shape as it was
  module _ (x : Made) where
    pub made_chunks : (ran w (create rules left name rolls dir)).world.store.head.chunks ≡ w.store.head.chunks
    unfolding head_after
    made_chunks = rw x.is (ap (λ (h : Header). h.chunks) x.head)

    pub made_size : (ran w (create rules left name rolls dir)).world.store.head.chunk ≡ w.store.head.chunk
    unfolding head_after
    made_size = rw x.is (ap (λ (h : Header). h.chunk) x.head)

    pub made_generation : (ran w (create rules left name rolls dir)).world.store.head.generation ≡ w.store.head.generation + 1
    unfolding head_after
    made_generation = rw x.is (ap (λ (h : Header). h.generation) x.head)

-- ---- room is lacking, and a file of the rollover's directory may go

module _ (rules : Rules) (w : World) (b : Book) (k : Booked w b) (left : ℕ) (name dir : List ℕ) (allows : Allows rules name) (fine : open_fine name true dir ≡ true) (new : (f : File) → Memᴰ f b.files → f.name ≡ name → ⊥)
    (lacks : (length b.files ≡ 64) ⊎ (chunks_in b.files ≡ w.store.head.chunks)) (f : File) (has : Memᴰ f b.files) (goes : may_go dir none f ≡ true)
    (ids : b.next ≡ 2 ^ 32 - 1 → ⊥) (gens : w.store.head.generation + 2 ≤ 2 ^ 64 - 1) (enough : create_most true w.store.head.chunks ≤ left) where
  abbrev n : Medium
  n = with_left left w.medium

  abbrev roll : Rollover
  roll = rollover_of true dir

  abbrev x : GoneOut
  x = remove_oldest_of w.vol n w.store (dir_bytes roll.dir) None

  new' : (f : File) → Memᴰ f k.fine.files → f.name ≡ name → ⊥
  new' f h = new f (rw (same_files k) at h)

  set : (roll.rolls ≡ true) × (dir_bytes roll.dir ≡ dir)
  set =
      set_dir roll.rolls (dir_bytes roll.dir) dir
      (sym ((asked_opens w.vol w.store name true dir (asks rules w left name true dir k.keeps allows fine)).directed.same ∙ pick_true _ _ refl))

  two : commit_most w.store.head.chunks + (2 + table_of w.store.head.chunks + 2) ≤ left
  unfolding pick
  two = enough

  gone : Goer n w.store x
  unfolding pick
  gone =
      oldest_goes w.vol n w.store k.keeps.layout k.fine k.keeps.whole k.keeps.readable (λ e. omega (arith, e, gens)) (omega (arith, two)) (dir_bytes roll.dir) None f (rw (same_files k) has)
      (rw set.1 goes)

  -- what follows it
  abbrev onward : AppOut
  onward = create_from 1 name roll x.vol x.ans.medium x.ans.store

  create_is : create_of name roll w.vol n w.store ≡ after (rolling x.skipped) onward
  unfolding create_from over_out
  create_is =
      round_lacks w.vol n w.store k.keeps.whole k.keeps.readable name new' roll (create_from 1 name roll) (rw (same_files k) lacks)
      ∙ pick_true _ _ set.0 ∙ on_done_done _ _ gone.within.0 ∙ pick_true _ _ gone.any

  -- then there is room, under the premise on the sectors that the removal left unwritten
  module _ (each : EachStep Distinct (ran w (create rules left name true dir)).steps) where
    steps_are : (ran w (create rules left name true dir)).steps ≡ rolling x.skipped ++ onward.steps
    unfolding ran
    steps_are = rw (call_is rules w left name true dir k.keeps allows fine, create_is) refl

    each_gone : EachSkipped Distinct x.skipped
    unfolding EachStep
    each_gone = (subst (EachStep Distinct) steps_are each).0

    went : Went w.vol n w.store k.keeps.layout k.fine (dir_bytes roll.dir) None x
    went = oldest_made w.vol n w.store k.keeps.layout k.fine k.keeps.whole k.keeps.readable (dir_bytes roll.dir) None gone.any each_gone

    reads : Readable x.vol x.ans.medium
    reads = gone_readable went.gone k.keeps.readable

    fresh : x.ans.store.head.generation ≡ 2 ^ 64 - 1 → ⊥
    fresh e = omega (arith, e, gone.generation, gens)

    -- the copy beside it is the one that was current
    ample : 1 + 1 + table_of x.ans.store.head.chunks + 2 ≤ x.ans.medium.left
    ample = rw gone.chunks (omega (arith, gone.within.1, two))

    then_done : (slot chunk : ℕ) → (creation name x.vol x.ans.medium x.ans.store slot chunk).ans.outcome ≡ Ok tt
    then_done slot chunk =
        (commit_after (Create slot x.ans.store.head.next_id chunk) name x.vol x.ans.medium x.ans.store went.gone.whole.inv reads
        (create_plain slot x.ans.store.head.next_id chunk) (name_short name (short rules w left name true dir k.keeps allows fine)) fresh
        (oldest_beside w.vol n w.store (record { ok = k.keeps.whole.inv.ok; count = k.keeps.whole.inv.range.count }) (dir_bytes roll.dir) None gone.any) ample).0

    makes : Makes name x.vol x.ans.medium x.ans.store roll onward
    unfolding create_from
    makes =
        let slots = slots_most k.keeps.whole.good k.keeps.whole.ties in
        let chunks = chunks_most k.keeps.whole.good k.keeps.whole.ties in
        round_makes x.vol x.ans.medium x.ans.store went.gone.whole reads name (λ g h. new' g (keep_mem (is_not went.id) g k.fine.files h).0) roll (create_from 0 name roll)
        (λ e. ids (ap (λ (x : Book). x.next) (sym k.same) ∙ e)) then_done (omega (arith, slots, went_files k.keeps.whole went)) (omega (arith, chunks, went_chunks k.keeps.whole went, gone.chunks))

    pub create_rolls : Tells w (create rules left name true dir) (rolled_over ∷ created ∷ [])
    unfolding ran opened_out
    create_rolls = rw (call_is rules w left name true dir k.keeps allows fine, create_is, makes.1.1) (refl, refl)
