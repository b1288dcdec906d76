-- The claim is not empty. On a zeroed volume a history meets its premises in which a file is created, a batch is appended and synced, the file's delete
-- has too few writes left to make its step, and a mount follows; and what is claimed of it is that the volume holds this file with this batch. And the
-- edge of 01: with one write too few the first create after a format gives 4, and a mount finds no file. Assumes nothing.
use Rattle.std.specs.Prelude.{Ok}
use Prim.Native.Nat.{ℕ, ◌+◌, ◌-◌, ◌/◌, ◌^◌, ◌≤◌, ◌<◌}
use mathlib.Core.Path.{◌≡◌, refl, sym, ap, subst, ◌∙◌}
use mathlib.Core.Bool.{Bool, true, false}
use mathlib.Core.Option.{none}
use mathlib.Core.List.{List, [], ◌∷◌, map}
use native.Mathlib.Nat.{zero-add}
use native.Mathlib.Omega.{arith}
use lib.Dec.{lit≤, lit<}
use lib.ListN.{length, drop_of_length-le}
use lib.Seq.{take_all}
use Rattle.le.specs.Choice.{pick}
use Rattle.le.specs.Part.{zeros}
use Rattle.le.proofs.Parts.{length_zeros}
use Rattle.names.specs.Names.{name_ok}
use Rattle.medium.specs.declared.Medium.{Medium}
use Rattle.medium.specs.Refusal.{ok, refused}
use Rattle.medium.specs.Sector.{Readable}
use Rattle.handles.specs.declared.Header.{Header}
use Rattle.handles.specs.Handles.{body_of, base_of}
use Rattle.header.specs.Header.{ours}
use Rattle.header.specs.Copies.{copy_of, same_store}
use Rattle.plan.specs.Copy.{created, recorded, Skipped, Step, EachSkipped, Distinct}
use Rattle.format.specs.Format.{chunks_of, format_of}
use Rattle.append.specs.declared.Appender.{Appender}
use Rattle.append.specs.declared.Tail.TheVariants.{At}
use Rattle.append.specs.Calls.{AppCall}
use Rattle.append.specs.Flush.{with_run}
use Rattle.files.specs.Opened.{next_token, with_token, written_by, new_appender, opened_out}
use Rattle.safe.specs.Inv.{FormatMade}
use Rattle.safe.proofs.Format.{format_bytes}
use Rattle.layout.specs.Views.{disk_of}
use Rattle.layout.specs.Changes.{Fresh}
use Rattle.views.proofs.Commits.{inv_sane, format_fresh}
use Rattle.store.specs.Opening.{rollover_of, open_fine}
use Rattle.store.specs.Writing.{format_call}
use Rattle.power.specs.Calls.{Rules, Call, create, append, sync, delete, mount}
use Rattle.power.specs.Book.{File, Book, new_book, on_file, terms_of, entered, entered_all, before_steps, after_steps, written}
use Rattle.power.specs.History.{World, Ran, is_ok, if_ok, with_left, create_by, ran, open_of, fed_by, after, book_of, Clean, Given, EachStep, Honest, Premise}
use Rattle.power.specs.Room.{Allows}
use Rattle.power.specs.Claim.{Holds, started}
use Rattle.power.proofs.Whole.{Booked}
use Rattle.power.proofs.Queries.{pick_same}
use Rattle.power.proofs.FirstCreate.{Opened, create_made, create_stopped}
use Rattle.power.proofs.Starting.{format_alone, format_generation, format_chunks, zero_bytes, zero_newest, zero_done, zero_accepted, zero_clean}
use Rattle.power.proofs.Running.{Ready, append_run, sync_run, delete_stopped}
use Rattle.power.proofs.History.{call_keeps, started_keeps, booked_shown, no_batch_lost}

mount_book : (m : Medium) (w : World) (b : Book) → written (mount m) (fed_by w (mount m)) b ≡ b
unfolding written fed_by ran entered_all before_steps after_steps
mount_book m w b = pick_same _ b

-- what the book is fed, of a call whose refusal and steps are known
pub fed_is : (w : World) (c : Call) {a : Bool} {ss : List Step} → (ran w c).accepted ≡ a → (ran w c).steps ≡ ss
    → fed_by w c ≡ record { accepted = a; kinds = map (λ (s : Step). s.kind) ss; open_file = open_of w.store.writer }
unfolding fed_by
fed_is w c p q = rw (p, q)

-- ---- a format of a zeroed volume, with enough writes left

module _ (n size seed : ℕ) (m : Medium) (ap₀ : Appender) (enough : 64 ≤ n / 512) (r : Readable (zeros n) m) (least : 1 ≤ size) (most : size ≤ 512)
    (some : chunks_of (n / 512) size ≡ 0 → ⊥) (room : body_of (chunks_of (n / 512) size) + 2 ≤ m.left) where
  abbrev pub start : World
  start = started (format_call (zeros n) m size seed) ap₀

  formatted : (format_of size seed (zeros n) m).ans.outcome ≡ Ok tt
  formatted = zero_done n size seed m enough r least most some room

  pub made : FormatMade size (zeros n) m (format_of size seed (zeros n) m)
  made = format_bytes size seed (zeros n) m (zero_bytes n) formatted

  pub clean : Clean (zeros n) (format_call (zeros n) m size seed).call.store
  clean = zero_clean n size seed m enough r least most some room made

  pub start_keeps : Booked start new_book
  start_keeps = started_keeps (zeros n) m size seed ap₀ (zero_bytes n) (zero_accepted n size seed m enough r least most some room) r clean

  start_fresh : Fresh (disk_of start.vol start.store)
  unfolding format_call
  start_fresh = format_fresh made clean

  pub start_next : start.store.head.next_id ≡ 1
  unfolding format_call
  start_next = made.next

  start_cursor : start.store.head.cursor ≡ 0
  unfolding format_call
  start_cursor = made.cursor

  pub start_generation : start.store.head.generation ≡ 0 + 1
  unfolding format_call
  start_generation = format_generation size seed (zeros n) m formatted ∙ ap (λ (k : ℕ). k + 1) (zero_newest n size seed m enough r)

  pub start_less : start.store.head.generation ≡ 2 ^ 64 - 1 → ⊥
  start_less e = omega (arith, start_generation)

  start_alone : (g : Header) → copy_of start.vol (base_of (1 - start.store.copy)) ≡ ours g → same_store start.store.head g ≡ true → ⊥
  unfolding format_call
  start_alone = format_alone size seed (zeros n) m formatted made

  pub start_chunks : start.store.head.chunks ≡ chunks_of (n / 512) size
  unfolding format_call
  start_chunks = format_chunks size seed (zeros n) m formatted ∙ ap (λ (k : ℕ). chunks_of (k / 512) size) (length_zeros n)

  -- the writes that a first commit takes
  abbrev pub needed : ℕ
  needed = body_of (chunks_of (n / 512) size) + 2

  module _ (rules : Rules) (name : List ℕ) (allows : Allows rules name) (fine : name_ok name ≡ true) (left : ℕ) where
    -- without a rollover
    abbrev making : Call
    making = create rules left name false []

    set : open_fine name false [] ≡ true
    set = rw fine

    -- ---- one write too few

    stopped : left < needed
        → ((create_by rules start.vol (with_left left start.medium) start.store name false []).call.answer ≡ refused 4)
        × ((create_by rules start.vol (with_left left start.medium) start.store name false []).steps ≡ [])
    stopped h =
        create_stopped start.vol (with_left left start.medium) start.store start_keeps.keeps.whole.inv start_keeps.keeps.whole.map start_keeps.keeps.readable start_fresh start_cursor name fine start_less
        (λ e. let z : 1 ≡ 2 ^ 32 - 1 = sym start_next ∙ e in omega (arith, z)) start_alone rules false [] allows set (rw start_chunks h)

    stopped_run : left < needed → ((ran start making).accepted ≡ false) × ((ran start making).steps ≡ [])
    unfolding ran
    stopped_run h = let s = stopped h in (ap is_ok s.0, s.1)

    stopped_book : left < needed → written making (fed_by start making) new_book ≡ new_book
    unfolding written terms_of entered_all before_steps pick
    stopped_book h = let s = stopped_run h in rw (fed_is start making s.0 s.1)

    -- the create gives 4, and the volume holds no file
    pub create_edge : left < needed
        → ((create_by rules start.vol (with_left left start.medium) start.store name false []).call.answer ≡ refused 4) × Holds (ran start making).world.vol new_book
    unfolding Given EachStep
    create_edge h =
        let k = call_keeps making start new_book start_keeps tt (subst (EachStep Distinct) (sym (stopped_run h).1) tt) in
        ((stopped h).0, subst (Holds (ran start making).world.vol) (stopped_book h) (booked_shown k))

    -- ---- enough writes

    module _ (h : needed ≤ left) where
      pub opened : Opened 1 name start.vol (with_left left start.medium) start.store (rollover_of false []) (create_by rules start.vol (with_left left start.medium) start.store name false [])
      opened =
          subst (λ (id : ℕ). Opened id name start.vol (with_left left start.medium) start.store (rollover_of false []) (create_by rules start.vol (with_left left start.medium) start.store name false [])) start_next
          (create_made start.vol (with_left left start.medium) start.store start_keeps.keeps.whole.inv start_keeps.keeps.whole.map start_keeps.keeps.readable start_fresh start_cursor name fine start_less
          (λ e. let z : 1 ≡ 2 ^ 32 - 1 = sym start_next ∙ e in omega (arith, z)) start_alone rules false [] allows set (rw start_chunks h))

      pub create_enough : (create_by rules start.vol (with_left left start.medium) start.store name false []).call.answer ≡ ok tt
      unfolding opened_out
      create_enough = rw opened.is

      pub create_run : ran start making ≡ record {
        world = record {
          vol = opened.out.vol;
          store = written_by (next_token opened.out.ans.medium) 1 opened.out.ans.store;
          appender = new_appender (next_token opened.out.ans.medium) 0 1 0 0 (At 0) (rollover_of false []);
          medium = with_token opened.out.ans.medium;
        };
        accepted = true;
        steps = (record { kind = created; skipped = [] }) ∷ [];
      }
      unfolding ran opened_out if_ok
      create_run = rw opened.is

      abbrev w₂ : World
      w₂ = (ran start making).world

      -- the file, with its payloads, and the book with it and some bytes unwritten
      abbrev pub the : List (List ℕ) → File
      the payloads = record { name = name; id = 1; chunks = 1; payloads = payloads }

      abbrev pub with : List (List ℕ) → List ℕ → Book
      with payloads unwritten = record { next = 2; files = the payloads ∷ []; file = 1; rollover = none; unwritten = unwritten }

      pub create_book : written making (fed_by start making) new_book ≡ with [] []
      unfolding written terms_of entered_all entered before_steps after_steps pick
      create_book = rw (fed_is start making (ap (λ (x : Ran). x.accepted) create_run) (ap (λ (x : Ran). x.steps) create_run))

      pub create_steps : (P : Skipped → Type 0) → EachStep P (ran start making).steps
      unfolding EachStep EachSkipped
      create_steps P = subst (λ (x : Ran). EachStep P x.steps) (sym create_run) (tt, tt)

      pub keeps₂ : Booked w₂ (with [] [])
      unfolding Given
      keeps₂ = subst (Booked w₂) create_book (call_keeps making start new_book start_keeps tt (create_steps Distinct))

      ready₂ : Ready w₂ 0 0
      ready₂ = subst (λ (x : Ran). Ready x.world 0 0) (sym create_run) (record { writer = refl; tail = refl; fill = refl })

      -- ---- a batch shorter than a record takes, then a sync, a delete with one write left, and a mount

      module _ (bytes : List ℕ) (least_bytes : 1 ≤ length bytes) (most_bytes : length bytes < 486) where
        appended : ran w₂ (append 0 bytes) ≡ record {
          world = record { vol = w₂.vol; store = w₂.store; appender = with_run bytes w₂.appender; medium = with_left 0 w₂.medium };
          accepted = true;
          steps = [];
        }
        appended = append_run keeps₂.keeps ready₂ 0 bytes (omega arith)

        abbrev w₃ : World
        w₃ = (ran w₂ (append 0 bytes)).world

        append_book : written (append 0 bytes) (fed_by w₂ (append 0 bytes)) (with [] []) ≡ with [] bytes
        unfolding written terms_of entered_all before_steps after_steps pick
        append_book = rw (fed_is w₂ (append 0 bytes) (ap (λ (x : Ran). x.accepted) appended) (ap (λ (x : Ran). x.steps) appended))

        append_steps : (P : Skipped → Type 0) → EachStep P (ran w₂ (append 0 bytes)).steps
        unfolding EachStep
        append_steps P = subst (λ (x : Ran). EachStep P x.steps) (sym appended) tt

        keeps₃ : Booked w₃ (with [] bytes)
        unfolding Given
        keeps₃ = subst (Booked w₃) append_book (call_keeps (append 0 bytes) w₂ (with [] []) keeps₂ tt (append_steps Distinct))

        ready₃ : Ready w₃ 0 (length bytes)
        ready₃ =
            subst (λ (x : Ran). Ready x.world 0 (length bytes)) (sym appended)
            (record { writer = ready₂.writer; tail = ready₂.tail; fill = ap (λ (k : ℕ). k + length bytes) ready₂.fill ∙ zero-add (length bytes) })

        synced : ((ran w₃ (sync 1)).accepted ≡ true) × ((ran w₃ (sync 1)).steps ≡ (record { kind = recorded; skipped = [] }) ∷ [])
        synced = sync_run keeps₃.keeps ready₃ 1 (omega (arith, (inv_sane keeps₃.keeps.whole.inv).size_least)) least_bytes (omega arith)

        abbrev w₄ : World
        w₄ = (ran w₃ (sync 1)).world

        sync_book : written (sync 1) (fed_by w₃ (sync 1)) (with [] bytes) ≡ with (bytes ∷ []) []
        unfolding written terms_of entered_all entered before_steps after_steps pick on_file
        sync_book =
            let l : length bytes ≤ 486 = omega arith in
            rw (fed_is w₃ (sync 1) synced.0 synced.1, take_all 486 bytes l, drop_of_length-le bytes {i = 486} l)

        sync_steps : (P : Skipped → Type 0) → EachStep P (ran w₃ (sync 1)).steps
        unfolding EachStep EachSkipped
        sync_steps P = subst (EachStep P) (sym synced.1) (tt, tt)

        keeps₄ : Booked w₄ (with (bytes ∷ []) [])
        unfolding Given
        keeps₄ = subst (Booked w₄) sync_book (call_keeps (sync 1) w₃ (with [] bytes) keeps₃ tt (sync_steps Distinct))

        abbrev w₅ : World
        w₅ = (ran w₄ (delete 1 name)).world

        delete_none : (ran w₄ (delete 1 name)).steps ≡ []
        delete_none = delete_stopped keeps₄.keeps 1 name (omega arith)

        delete_book : written (delete 1 name) (fed_by w₄ (delete 1 name)) (with (bytes ∷ []) []) ≡ with (bytes ∷ []) []
        unfolding written terms_of entered_all before_steps after_steps
        delete_book = rw (fed_is w₄ (delete 1 name) refl delete_none) (pick_same _ _)

        delete_steps : (P : Skipped → Type 0) → EachStep P (ran w₄ (delete 1 name)).steps
        unfolding EachStep
        delete_steps P = subst (EachStep P) (sym delete_none) tt

        keeps₅ : Booked w₅ (with (bytes ∷ []) [])
        unfolding Given
        keeps₅ = subst (Booked w₅) delete_book (call_keeps (delete 1 name) w₄ (with (bytes ∷ []) []) keeps₄ tt (delete_steps Distinct))

        -- ---- the history

        abbrev pub before : List Call
        before = making ∷ append 0 bytes ∷ sync 1 ∷ delete 1 name ∷ []

        abbrev pub calls : Medium → List Call
        calls u = making ∷ append 0 bytes ∷ sync 1 ∷ delete 1 name ∷ mount u ∷ []

        -- the medium record that is left reads every sector
        pub example_reads : Readable (after start before).vol (after start before).medium
        unfolding after
        example_reads = keeps₅.keeps.readable

        -- whatever is asked of sectors left unwritten: none is
        pub example_premise : (P : Skipped → Type 0) (u : Medium) → Readable (after start before).vol u → Premise P start (calls u)
        unfolding after Premise Given EachStep ran
        example_premise P u reads = (tt, create_steps P, (tt, append_steps P, (tt, sync_steps P, (tt, delete_steps P, (reads, tt, tt)))))

        pub example_book : (u : Medium) → book_of start (calls u) new_book ≡ with (bytes ∷ []) []
        unfolding book_of
        example_book u = rw (create_book, append_book, sync_book, delete_book, mount_book u w₅ (with (bytes ∷ []) []))

        pub example : (u : Medium) → Readable (after start before).vol u → Holds (after start (calls u)).vol (with (bytes ∷ []) [])
        example u reads =
            subst (Holds (after start (calls u)).vol) (example_book u)
            (no_batch_lost (zeros n) m size seed ap₀ (calls u) (zero_bytes n) (zero_accepted n size seed m enough r least most some room) r clean
            (example_premise Distinct u reads))

-- ---- in numbers

-- 128 sectors with chunks of 4 have a body of 9, and so have 576 with one chunk of 512: a first commit takes 11 writes
pub eleven_128 : body_of (chunks_of (65536 / 512) 4) + 2 ≡ 11
unfolding chunks_of
eleven_128 = refl

eleven_576 : body_of (chunks_of (294912 / 512) 512) + 2 ≡ 11
unfolding chunks_of
eleven_576 = refl

pub some_128 : chunks_of (65536 / 512) 4 ≡ 0 → ⊥
unfolding chunks_of
some_128 e = let z : ◌≡◌ {A = ℕ} 16 0 = e in omega (arith, z)

some_576 : chunks_of (294912 / 512) 512 ≡ 0 → ⊥
unfolding chunks_of
some_576 e = let z : ◌≡◌ {A = ℕ} 1 0 = e in omega (arith, z)

module _ (seed : ℕ) (m : Medium) (ap₀ : Appender) (left : 11 ≤ m.left) (rules : Rules) (name : List ℕ) (allows : Allows rules name) (fine : name_ok name ≡ true) where
  -- 128 sectors of zeros: the file with its batch, whatever the batch
  module _ (r : 128 ≤ m.unreadable) (bytes : List ℕ) (least : 1 ≤ length bytes) (most : length bytes < 486) where
    abbrev pub fresh_128 : World
    fresh_128 = started (format_call (zeros 65536) m 4 seed) ap₀

    abbrev pub first_calls : List Call
    first_calls = create rules 11 name false [] ∷ append 0 bytes ∷ sync 1 ∷ delete 1 name ∷ []

    abbrev pub all_calls : List Call
    all_calls = create rules 11 name false [] ∷ append 0 bytes ∷ sync 1 ∷ delete 1 name ∷ mount (after fresh_128 first_calls).medium ∷ []

    pub one_batch : Premise Honest fresh_128 all_calls × Holds (after fresh_128 all_calls).vol (record {
      next = 2;
      files = (record { name = name; id = 1; chunks = 1; payloads = bytes ∷ [] }) ∷ [];
      file = 1;
      rollover = none;
      unwritten = [];
    })
    one_batch =
        let reads : Readable (zeros 65536) m = rw (length_zeros 65536) r in
        let needs : body_of (chunks_of (65536 / 512) 4) + 2 ≤ m.left = rw eleven_128 left in
        let eleven : body_of (chunks_of (65536 / 512) 4) + 2 ≤ 11 = rw eleven_128 (lit≤ tt) in
        let still = example_reads 65536 4 seed m ap₀ (lit≤ tt) reads (lit≤ tt) (lit≤ tt) some_128 needs rules name allows fine 11 eleven bytes least most in (
          example_premise 65536 4 seed m ap₀ (lit≤ tt) reads (lit≤ tt) (lit≤ tt) some_128 needs rules name allows fine 11 eleven bytes least most Honest _ still,
          example 65536 4 seed m ap₀ (lit≤ tt) reads (lit≤ tt) (lit≤ tt) some_128 needs rules name allows fine 11 eleven bytes least most _ still,
        )

  -- 576 sectors of zeros, one chunk: 11 writes are enough for the first create; with 10 it gives 4, and a mount finds no file
  module _ (r : 576 ≤ m.unreadable) where
    abbrev pub fresh_576 : World
    fresh_576 = started (format_call (zeros 294912) m 512 seed) ap₀

    abbrev pub first_create : ℕ → AppCall
    first_create n = create_by rules fresh_576.vol (with_left n fresh_576.medium) fresh_576.store name false []

    pub eleven_writes : (first_create 11).call.answer ≡ ok tt
    eleven_writes =
        create_enough 294912 512 seed m ap₀ (lit≤ tt) (rw (length_zeros 294912) r) (lit≤ tt) (lit≤ tt) some_576 (rw eleven_576 left) rules name allows fine 11 (rw eleven_576 (lit≤ tt))

    pub ten_writes : ((first_create 10).call.answer ≡ refused 4) × Holds (ran fresh_576 (create rules 10 name false [])).world.vol new_book
    ten_writes =
        create_edge 294912 512 seed m ap₀ (lit≤ tt) (rw (length_zeros 294912) r) (lit≤ tt) (lit≤ tt) some_576 (rw eleven_576 left) rules name allows fine 10 (rw eleven_576 (lit< tt))
