-- Calls of a history in a store of two chunks of one record each, where they are accepted: create, append, the sync of a first record, the sync that
-- finds no chunk free, open_append, and a format. What each tells the book, and what holds after it. Assumes nothing.
use Rattle.std.specs.Prelude.{Ok}
use Prim.Native.Nat.{ℕ, ◌+◌, ◌*◌, ◌^◌, ◌≤◌, ◌<◌}
use mathlib.Core.Path.{◌≡◌, refl, sym, ap, subst, ◌∙◌}
use mathlib.Core.Bool.{Bool, true}
use mathlib.Core.Option.{some}
use mathlib.Core.List.{List, [], ◌∷◌, map, Memᴰ}
use native.Mathlib.Nat.{zero-add}
use native.Mathlib.Omega.{arith}
use lib.Dec.{lit≤}
use lib.ListN.{length}
use Rattle.le.specs.Choice.{pick}
use Rattle.medium.specs.declared.Medium.{Medium}
use Rattle.medium.specs.Sector.{sectors_of}
use Rattle.handles.specs.declared.Store.{Store}
use Rattle.handles.specs.Handles.{opened_by}
use Rattle.plan.specs.Copy.{Kind, formatted, created, recorded, rolled_over, extended, Step, Distinct}
use Rattle.format.specs.Format.{chunks_of, format_of}
use Rattle.format.proofs.Numbers.{chunks_most}
use Rattle.append.specs.declared.Appender.{Appender}
use Rattle.views.proofs.Commits.{inv_sane}
use Rattle.store.specs.Opening.{open_fine}
use Rattle.writes.specs.Writes.{records_most}
use Rattle.power.specs.Calls.{Rules, Call, format, create, open_append, append, sync}
use Rattle.power.specs.Book.{File, Book, may_go, written}
use Rattle.power.specs.History.{World, Ran, ran, open_of, fed_by, book_of, Given, EachStep}
use Rattle.power.specs.Room.{Tells, Allows, chunks_in, TakesChunk}
use Rattle.power.proofs.Whole.{Booked, same_files}
use Rattle.power.proofs.Running.{Ready, opened, stands, append_run, sync_run, sync_leaves}
use Rattle.power.proofs.Creating.{Made, made_chunks, made_size, made_generation}
use Rattle.power.proofs.Accepted.{create_made}
use Rattle.power.proofs.Growing.{Grown, sync_grows}
use Rattle.power.proofs.Reopening.{open_run}
use Rattle.power.proofs.Starting.{again_done}
use Rattle.power.proofs.Formatting.{format_run}
use Rattle.power.proofs.History.{call_keeps}

-- between the calls: two chunks of one record each, and the generation
pub record Stage (w : World) (b : Book) (n : ℕ) : Type 0 where
  pub keeps : Booked w b
  pub chunks : w.store.head.chunks ≡ 2
  pub size : w.store.head.chunk ≡ 1
  pub generation : w.store.head.generation ≡ n

-- what each call of a history tells the book: whether it was accepted, and the kinds of its steps
unfoldable pub told : World → List Call → List (Bool × List Kind)
told w [] = []
told w (c ∷ cs) = ((ran w c).accepted, map (λ (s : Step). s.kind) (ran w c).steps) ∷ told (ran w c).world cs

pub told_more : (w : World) (c : Call) (cs : List Call) {kinds : List Kind} {l : List (Bool × List Kind)} → Tells w c kinds → told (ran w c).world cs ≡ l
    → told w (c ∷ cs) ≡ (true, kinds) ∷ l
unfolding told
told_more w c cs t q = rw (t.0, t.1, q)

pub told_end : (w : World) → told w [] ≡ []
unfolding told
told_end w = refl

pub book_more : (w : World) (c : Call) (cs : List Call) (b : Book) {d : Book} → written c (fed_by w c) b ≡ d → book_of w (c ∷ cs) b ≡ book_of (ran w c).world cs d
unfolding book_of
book_more w c cs b e = ap (book_of (ran w c).world cs) e

pub book_end : (w : World) (b : Book) → book_of w [] b ≡ b
unfolding book_of
book_end w b = refl

-- a call is accepted and leaves an appender whose next record is number i of its chunk, with k bytes unwritten; and, under the premise on the sectors
-- that it left unwritten, the generation n
pub record Next (w : World) (b : Book) (c : Call) (kinds : List Kind) (i k n : ℕ) : Type 0 where
  pub tells : Tells w c kinds
  pub ready : Ready (ran w c).world i k
  pub stage : EachStep Distinct (ran w c).steps → Stage (ran w c).world (written c (fed_by w c) b) n

-- what the book is fed of it
pub told_fed : (w : World) (c : Call) {kinds : List Kind} → Tells w c kinds → fed_by w c ≡ record { accepted = true; kinds = kinds; open_file = open_of w.store.writer }
unfolding fed_by
told_fed w c t = rw (t.0, t.1)

module _ {w : World} {b : Book} {n : ℕ} (s : Stage w b n) where
  -- ---- create, of a new name, where the book's files have not both chunks

  module _ (rules : Rules) (name : List ℕ) (rolls : Bool) (dir : List ℕ) (allows : Allows rules name) (fine : open_fine name rolls dir ≡ true) (slots : length b.files < 64) (few : chunks_in b.files < 2)
      (new : (f : File) → Memᴰ f b.files → f.name ≡ name → ⊥) (ids : b.next + 1 < 2 ^ 32) (gens : n + 1 < 2 ^ 64) where
    abbrev making : Call
    making = create rules 11 name rolls dir

    made : Made rules w 11 name rolls dir
    made =
        create_made w b s.keeps 11 (record { gens = λ e. omega (arith, s.generation, gens, e); writes = rw s.chunks (lit≤ tt) }) rules name rolls dir allows fine new
        (record { slots = slots; chunks = rw s.chunks few; ids = λ e. omega (arith, ids, e) })

    pub create_next : Next w b making (created ∷ []) 0 0 (n + 1)
    unfolding Given
    create_next =
        record {
          tells = rw made.is (refl, refl);
          ready = subst (λ (x : Ran). Ready x.world 0 0) (sym made.is) (record { writer = refl; tail = refl; fill = refl });
          stage = λ e. record {
            keeps = call_keeps making w b s.keeps tt e;
            chunks = made_chunks rules w 11 name rolls dir made ∙ s.chunks;
            size = made_size rules w 11 name rolls dir made ∙ s.size;
            generation = made_generation rules w 11 name rolls dir made ∙ ap (λ (k : ℕ). k + 1) s.generation;
          };
        }

  -- the store is as it was
  same_stage : (c : Call) → (ran w c).world.store ≡ w.store → Booked (ran w c).world (written c (fed_by w c) b) → Stage (ran w c).world (written c (fed_by w c) b) n
  same_stage c same k = record { keeps = k; chunks = rw same s.chunks; size = rw same s.size; generation = rw same s.generation }

  -- ---- append of fewer bytes than a record takes, none being unwritten

  pub append_next : {i : ℕ} → Ready w i 0 → (bytes : List ℕ) → length bytes < 486 → Next w b (append 0 bytes) [] i (length bytes) n
  unfolding Given
  append_next {i} y bytes few =
      let c : Call = append 0 bytes in
      let q = append_run s.keeps.keeps y 0 bytes (omega (arith, few)) in
      record {
        tells = rw q (refl, refl);
        ready =
            subst (λ (x : Ran). Ready x.world i (length bytes)) (sym q)
            (record { writer = y.writer; tail = y.tail; fill = ap (λ (k : ℕ). k + length bytes) y.fill ∙ zero-add (length bytes) });
        stage = λ e. same_stage c (ap (λ (x : Ran). x.world.store) q) (call_keeps c w b s.keeps tt e);
      }

  -- ---- sync of a first record

  pub sync_next : {k : ℕ} → Ready w 0 k → 1 ≤ k → Next w b (sync 1) (recorded ∷ []) 1 0 n
  unfolding Given
  sync_next y bytes =
      let t = sync_run s.keeps.keeps y 1 (omega (arith, s.size)) bytes (lit≤ tt) in
      let l = sync_leaves s.keeps.keeps y 1 (omega (arith, s.size)) bytes (lit≤ tt) in
      record {
        tells = (t.0, rw t.1 refl);
        ready = record {
          writer = ap (λ (t : Store). t.writer) l.0 ∙ y.writer ∙ sym (ap (λ (a : Appender). opened_by a.token a.id) l.1);
          tail = ap (λ (a : Appender). a.tail) l.1;
          fill = ap (λ (a : Appender). a.fill) l.1;
        };
        stage = λ e. same_stage (sync 1) l.0 (call_keeps (sync 1) w b s.keeps tt e);
      }

  -- ---- sync of the next one, where the other file has the other chunk

  module _ {k : ℕ} (y : Ready w 1 k) where
    -- the open file is the book's
    pub spares : open_of w.store.writer ≡ some b.file
    spares = ap open_of y.writer ∙ ap some (sym (stands s.keeps.keeps (opened y)).0.file ∙ ap (λ (x : Book). x.file) s.keeps.same)

    takes : TakesChunk w.appender.tail w.store.head.chunk
    takes = rw (y.tail, s.size) (lit≤ tt)

    module _ (bytes : b.unwritten ≡ [] → ⊥) (root : b.rollover ≡ some []) (f : File) (has : Memᴰ f b.files) (goes : may_go [] (some b.file) f ≡ true) (all : chunks_in b.files ≡ 2)
        (gens : n + 2 < 2 ^ 64) (each : EachStep Distinct (ran w (sync 23)).steps) where
      grown : Grown w 23
      unfolding records_most pick
      grown =
          sync_grows s.keeps 23 y.writer takes bytes (all ∙ sym s.chunks) [] root f has goes (omega (arith, s.generation, gens)) (rw s.chunks (lit≤ tt)) each

      pub grow_next : Tells w (sync 23) (rolled_over ∷ extended ∷ recorded ∷ []) × Stage (ran w (sync 23)).world (written (sync 23) (fed_by w (sync 23)) b) (n + 2)
      unfolding Given
      grow_next = (
        (grown.accepted, rw grown.steps refl),
        record {
          keeps = call_keeps (sync 23) w b s.keeps tt each;
          chunks = grown.chunks ∙ s.chunks;
          size = grown.size ∙ s.size;
          generation = grown.generation ∙ ap (λ (j : ℕ). j + 2) s.generation;
        },
      )

  -- ---- open_append of a file of the book

  module _ (rules : Rules) (f : File) (has : Memᴰ f b.files) (rolls : Bool) (dir : List ℕ) (allows : Allows rules f.name) (fine : open_fine f.name rolls dir ≡ true) where
    abbrev opening : Call
    opening = open_append rules 0 f.name rolls dir

    opens : ((ran w opening).accepted ≡ true) × ((ran w opening).steps ≡ []) × ((ran w opening).world.store.head ≡ w.store.head)
    opens = let x = s.keeps.keeps.whole.ties.from f (rw (same_files s.keeps) has) in open_run rules 0 f.name rolls dir w s.keeps.fine s.keeps.keeps x.0 f.id x.1 x.2 allows fine

    pub open_next : Tells w opening [] × (EachStep Distinct (ran w opening).steps → Stage (ran w opening).world (written opening (fed_by w opening) b) n)
    unfolding Given
    open_next = (
      (opens.0, rw opens.1 refl),
      λ e. record {
        keeps = call_keeps opening w b s.keeps tt e;
        chunks = rw opens.2 s.chunks;
        size = rw opens.2 s.size;
        generation = rw opens.2 s.generation;
      },
    )

  -- ---- a second format, with enough writes left

  module _ (u : Medium) (seed : ℕ) (less : n + 1 < 2 ^ 64) (enough : 26 ≤ u.left) (given : Given w (format u 1 seed)) where
    some_chunk : chunks_of (sectors_of w.vol) 1 ≡ 0 → ⊥
    unfolding chunks_of
    some_chunk e =
        let taken : w.store.head.chunks * w.store.head.chunk ≡ 2 = rw (s.chunks, s.size) refl in
        omega (arith, e, taken, (inv_sane s.keeps.keeps.whole.inv).room)

    formats : (format_of 1 seed w.vol u).ans.outcome ≡ Ok tt
    unfolding Given
    formats =
        again_done 1 seed w.vol u s.keeps.keeps.whole.inv given.0 (lit≤ tt) (lit≤ tt) some_chunk (λ e. omega (arith, e, s.generation, less))
        (omega (arith, chunks_most (sectors_of w.vol) 1, enough))

    pub format_tells : Tells w (format u 1 seed) (formatted ∷ [])
    format_tells = let q = format_run u 1 seed w s.keeps.fine formats in (q.0, rw q.1 refl)
