-- A history under demand 3's premises with a rollover, an extension, an open_append and a second accepted format, on 66 sectors of zeros: two chunks of
-- one record each. `a` gets a batch; `b`, with a rollover over the root, gets one, and its next one finds no chunk free, so `a` goes and `b` takes its
-- chunk. Each call is accepted, and the volume holds the book before the second format and after it. Assumes nothing.
use Prim.Native.Nat.{ℕ, ◌+◌, ◌/◌, ◌≤◌, ◌<◌}
use mathlib.Core.Path.{◌≡◌, refl, sym, ap, subst, ◌∙◌}
use mathlib.Core.Logic.{◌≢◌}
use mathlib.Core.Bool.{Bool, true, false}
use mathlib.Core.Option.{none, some}
use mathlib.Core.List.Memᴰ
use mathlib.Core.List.{List, [], ◌∷◌, Memᴰ}
use native.Mathlib.Omega.{arith}
use lib.Dec.{lit≤}
use lib.ListN.{length, take, drop, drop_of_length-le}
use lib.Seq.{take_all}
use Rattle.le.specs.Choice.{pick}
use Rattle.le.specs.Part.{zeros}
use Rattle.le.proofs.Parts.{length_zeros}
use Rattle.runs.specs.Run.{starts_with, same_bytes}
use Rattle.runs.specs.Split.{longer, split_at}
use Rattle.names.specs.Names.{plain_byte, every_byte, none_empty, name_ok, dir_ok, begins_dot, some_dot, dotted}
use Rattle.medium.specs.declared.Medium.{Medium}
use Rattle.medium.specs.Sector.{Readable}
use Rattle.handles.specs.Handles.{body_of}
use Rattle.plan.specs.Copy.{Kind, formatted, created, recorded, rolled_over, extended, Distinct}
use Rattle.format.specs.Format.{chunks_of}
use Rattle.append.specs.declared.Appender.{Appender}
use Rattle.store.specs.Opening.{open_fine}
use Rattle.store.specs.Writing.{format_call}
use Rattle.power.specs.Calls.{Rules, present, Call, format, create, open_append, append, sync}
use Rattle.power.specs.Book.{File, Book, new_book, keep, on_file, is_spared, may_go, smallest, without_id, without_oldest, id_of, terms_of, entered, entered_all, before_steps, after_steps, written}
use Rattle.power.specs.History.{World, ran, fed_by, after, book_of, Given, EachStep, Premise}
use Rattle.power.specs.Claim.{Holds, started}
use Rattle.power.specs.Room.{Tells, Allows, chunks_in}
use Rattle.power.proofs.Whole.{Booked}
use Rattle.power.proofs.Sanity as sanity
use Rattle.power.proofs.Staged.{Stage, Next, told, told_more, told_end, book_more, book_end, told_fed, create_next, append_next, sync_next, spares, grow_next, open_next, format_tells}
use Rattle.power.proofs.History.{call_keeps, booked_shown}

-- 66 sectors with chunks of 1 are two chunks, with a body of 9
eleven_66 : body_of (chunks_of (33792 / 512) 1) + 2 ≡ 11
unfolding chunks_of
eleven_66 = refl

some_66 : chunks_of (33792 / 512) 1 ≡ 0 → ⊥
unfolding chunks_of
some_66 e = let z : ◌≡◌ {A = ℕ} 2 0 = e in omega (arith, z)

two_66 : chunks_of (33792 / 512) 1 ≡ 2
unfolding chunks_of
two_66 = refl

abbrev name_b : List ℕ
name_b = 98 ∷ []

fine_b : open_fine name_b true [] ≡ true
unfolding pick plain_byte every_byte longer split_at none_empty name_ok dir_ok
fine_b = refl

plain_b : dotted name_b ≡ false
unfolding pick longer split_at begins_dot some_dot dotted
plain_b = refl

-- of the calls below (Staged `told`): all accepted, with these steps
abbrev pub as_told : List (Bool × List Kind)
as_told =
    (true, created ∷ []) ∷ (true, []) ∷ (true, recorded ∷ []) ∷ (true, created ∷ []) ∷ (true, []) ∷ (true, recorded ∷ []) ∷ (true, [])
    ∷ (true, rolled_over ∷ extended ∷ recorded ∷ []) ∷ (true, []) ∷ (true, formatted ∷ []) ∷ []

-- a batch shorter than a record takes
pub record Batch (bytes : List ℕ) : Type 0 where
  pub least : 1 ≤ length bytes
  pub most : length bytes < 486

some_bytes : {bytes : List ℕ} → Batch bytes → bytes ≡ [] → ⊥
some_bytes {bytes} h e = let n : length bytes ≡ 0 = ap length e in omega (arith, n, h.least)

takes : {bytes : List ℕ} → Batch bytes → take 486 bytes ≡ bytes
takes {bytes} h = take_all 486 bytes (omega (arith, h.most))

leaves : {bytes : List ℕ} → Batch bytes → drop 486 bytes ≡ []
leaves {bytes} h = drop_of_length-le bytes {i = 486} (omega (arith, h.most))

module _ (rules : Rules) (name_a : List ℕ) (allows : Allows rules name_a) (fine : name_ok name_a ≡ true) (other : name_a ≢ name_b) (seed : ℕ) (m : Medium) (ap₀ : Appender) (left : 11 ≤ m.left) (r : 66 ≤ m.unreadable) where
  fine_a : open_fine name_a false [] ≡ true
  fine_a = rw fine

  reads : Readable (zeros 33792) m
  reads = rw (length_zeros 33792) r

  needs : body_of (chunks_of (33792 / 512) 1) + 2 ≤ m.left
  needs = rw eleven_66 left

  abbrev w₀ : World
  w₀ = started (format_call (zeros 33792) m 1 seed) ap₀

  stage₀ : Stage w₀ new_book 1
  unfolding format_call
  stage₀ =
      record {
        keeps = sanity.start_keeps 33792 1 seed m ap₀ (lit≤ tt) reads (lit≤ tt) (lit≤ tt) some_66 needs;
        chunks = sanity.start_chunks 33792 1 seed m ap₀ (lit≤ tt) reads (lit≤ tt) (lit≤ tt) some_66 needs ∙ two_66;
        size = (sanity.made 33792 1 seed m ap₀ (lit≤ tt) reads (lit≤ tt) (lit≤ tt) some_66 needs).chunk_is;
        generation = sanity.start_generation 33792 1 seed m ap₀ (lit≤ tt) reads (lit≤ tt) (lit≤ tt) some_66 needs;
      }

  module _ (x y z : List ℕ) (hx : Batch x) (hy : Batch y) (hz : Batch z) where
    -- ---- the books

    abbrev file_a : List (List ℕ) → File
    file_a payloads = record { name = name_a; id = 1; chunks = 1; payloads = payloads }

    abbrev file_b : ℕ → List (List ℕ) → File
    file_b chunks payloads = record { name = name_b; id = 2; chunks = chunks; payloads = payloads }

    abbrev with_a : List (List ℕ) → List ℕ → Book
    with_a payloads unwritten = record { next = 2; files = file_a payloads ∷ []; file = 1; rollover = none; unwritten = unwritten }

    abbrev with_both : List (List ℕ) → List ℕ → Book
    with_both payloads unwritten = record { next = 3; files = file_a (x ∷ []) ∷ file_b 1 payloads ∷ []; file = 2; rollover = some []; unwritten = unwritten }

    abbrev with_b : Book
    with_b = record { next = 3; files = file_b 2 (y ∷ z ∷ []) ∷ []; file = 2; rollover = some []; unwritten = [] }

    abbrev emptied : Book
    emptied = record { next = 1; files = []; file = 2; rollover = some []; unwritten = [] }

    -- a's name is not b's
    other_name : (f : File) → Memᴰ f (file_a (x ∷ []) ∷ []) → f.name ≡ name_b → ⊥
    other_name f mem e = other (sym (ap (λ (g : File). g.name) (Memᴰ.eq_of_singleton mem)) ∙ e)

    -- ---- the calls, and the world before each

    abbrev create_a : Call
    create_a = create rules 11 name_a false []

    abbrev create_b : Call
    create_b = create present 11 name_b true []

    abbrev open_b : Call
    open_b = open_append present 0 name_b true []

    abbrev w₁ : World
    w₁ = (ran w₀ create_a).world

    abbrev w₂ : World
    w₂ = (ran w₁ (append 0 x)).world

    abbrev w₃ : World
    w₃ = (ran w₂ (sync 1)).world

    abbrev w₄ : World
    w₄ = (ran w₃ create_b).world

    abbrev w₅ : World
    w₅ = (ran w₄ (append 0 y)).world

    abbrev w₆ : World
    w₆ = (ran w₅ (sync 1)).world

    abbrev w₇ : World
    w₇ = (ran w₆ (append 0 z)).world

    abbrev w₈ : World
    w₈ = (ran w₇ (sync 23)).world

    abbrev w₉ : World
    w₉ = (ran w₈ open_b).world

    -- up to the second format
    abbrev calls : List Call → List Call
    calls more = create_a ∷ append 0 x ∷ sync 1 ∷ create_b ∷ append 0 y ∷ sync 1 ∷ append 0 z ∷ sync 23 ∷ open_b ∷ more

    module _ (u : Medium) (again : ℕ) (room_left : 26 ≤ u.left) where
      abbrev format_again : Call
      format_again = format u 1 again

      module _ (p : Premise Distinct w₀ (calls (format_again ∷ []))) where
        -- what the premise says of the calls that commit, and of the format
        record Parts : Type 0 where
          pub each₁ : EachStep Distinct (ran w₀ create_a).steps
          pub each₂ : EachStep Distinct (ran w₁ (append 0 x)).steps
          pub each₃ : EachStep Distinct (ran w₂ (sync 1)).steps
          pub each₄ : EachStep Distinct (ran w₃ create_b).steps
          pub each₅ : EachStep Distinct (ran w₄ (append 0 y)).steps
          pub each₆ : EachStep Distinct (ran w₅ (sync 1)).steps
          pub each₇ : EachStep Distinct (ran w₆ (append 0 z)).steps
          pub each₈ : EachStep Distinct (ran w₇ (sync 23)).steps
          pub each₉ : EachStep Distinct (ran w₈ open_b).steps
          pub given : Given w₉ format_again
          pub each₁₀ : EachStep Distinct (ran w₉ format_again).steps

        parts : Parts
        unfolding Premise
        parts =
            record {
              each₁ = p.1;
              each₂ = p.2.1;
              each₃ = p.2.2.1;
              each₄ = p.2.2.2.1;
              each₅ = p.2.2.2.2.1;
              each₆ = p.2.2.2.2.2.1;
              each₇ = p.2.2.2.2.2.2.1;
              each₈ = p.2.2.2.2.2.2.2.1;
              each₉ = p.2.2.2.2.2.2.2.2.1;
              given = p.2.2.2.2.2.2.2.2.2.0;
              each₁₀ = p.2.2.2.2.2.2.2.2.2.1;
            }

        -- ---- a is created and gets its batch

        next₁ : Next w₀ new_book create_a (created ∷ []) 0 0 2
        unfolding chunks_in
        next₁ = create_next stage₀ rules name_a false [] allows fine_a (omega arith) (omega arith) (λ f mem. absurd (Memᴰ.not-nil mem)) (omega arith) (omega arith)

        book₁ : written create_a (fed_by w₀ create_a) new_book ≡ with_a [] []
        unfolding written terms_of entered_all entered before_steps after_steps pick
        book₁ = rw (told_fed w₀ create_a next₁.tells)

        stage₁ : Stage w₁ (with_a [] []) 2
        stage₁ = subst (λ (b : Book). Stage w₁ b 2) book₁ (next₁.stage parts.each₁)

        next₂ : Next w₁ (with_a [] []) (append 0 x) [] 0 (length x) 2
        next₂ = append_next stage₁ next₁.ready x hx.most

        book₂ : written (append 0 x) (fed_by w₁ (append 0 x)) (with_a [] []) ≡ with_a [] x
        unfolding written terms_of entered_all before_steps after_steps pick
        book₂ = rw (told_fed w₁ (append 0 x) next₂.tells)

        stage₂ : Stage w₂ (with_a [] x) 2
        stage₂ = subst (λ (b : Book). Stage w₂ b 2) book₂ (next₂.stage parts.each₂)

        next₃ : Next w₂ (with_a [] x) (sync 1) (recorded ∷ []) 1 0 2
        next₃ = sync_next stage₂ next₂.ready hx.least

        book₃ : written (sync 1) (fed_by w₂ (sync 1)) (with_a [] x) ≡ with_a (x ∷ []) []
        unfolding written terms_of entered_all entered before_steps after_steps pick on_file
        book₃ = rw (told_fed w₂ (sync 1) next₃.tells, takes hx, leaves hx)

        stage₃ : Stage w₃ (with_a (x ∷ []) []) 2
        stage₃ = subst (λ (b : Book). Stage w₃ b 2) book₃ (next₃.stage parts.each₃)

        -- ---- so does b, with a rollover over the root

        next₄ : Next w₃ (with_a (x ∷ []) []) create_b (created ∷ []) 0 0 3
        unfolding chunks_in
        next₄ = create_next stage₃ present name_b true [] plain_b fine_b (omega arith) (omega arith) other_name (omega arith) (omega arith)

        book₄ : written create_b (fed_by w₃ create_b) (with_a (x ∷ []) []) ≡ with_both [] []
        unfolding written terms_of entered_all entered before_steps after_steps pick
        book₄ = rw (told_fed w₃ create_b next₄.tells)

        stage₄ : Stage w₄ (with_both [] []) 3
        stage₄ = subst (λ (b : Book). Stage w₄ b 3) book₄ (next₄.stage parts.each₄)

        next₅ : Next w₄ (with_both [] []) (append 0 y) [] 0 (length y) 3
        next₅ = append_next stage₄ next₄.ready y hy.most

        book₅ : written (append 0 y) (fed_by w₄ (append 0 y)) (with_both [] []) ≡ with_both [] y
        unfolding written terms_of entered_all before_steps after_steps pick
        book₅ = rw (told_fed w₄ (append 0 y) next₅.tells)

        stage₅ : Stage w₅ (with_both [] y) 3
        stage₅ = subst (λ (b : Book). Stage w₅ b 3) book₅ (next₅.stage parts.each₅)

        next₆ : Next w₅ (with_both [] y) (sync 1) (recorded ∷ []) 1 0 3
        next₆ = sync_next stage₅ next₅.ready hy.least

        book₆ : written (sync 1) (fed_by w₅ (sync 1)) (with_both [] y) ≡ with_both (y ∷ []) []
        unfolding written terms_of entered_all entered before_steps after_steps pick on_file
        book₆ = rw (told_fed w₅ (sync 1) next₆.tells, takes hy, leaves hy)

        stage₆ : Stage w₆ (with_both (y ∷ []) []) 3
        stage₆ = subst (λ (b : Book). Stage w₆ b 3) book₆ (next₆.stage parts.each₆)

        next₇ : Next w₆ (with_both (y ∷ []) []) (append 0 z) [] 1 (length z) 3
        next₇ = append_next stage₆ next₆.ready z hz.most

        book₇ : written (append 0 z) (fed_by w₆ (append 0 z)) (with_both (y ∷ []) []) ≡ with_both (y ∷ []) z
        unfolding written terms_of entered_all before_steps after_steps pick
        book₇ = rw (told_fed w₆ (append 0 z) next₇.tells)

        stage₇ : Stage w₇ (with_both (y ∷ []) z) 3
        stage₇ = subst (λ (b : Book). Stage w₇ b 3) book₇ (next₇.stage parts.each₇)

        -- ---- its next batch finds no chunk free: a goes, and b takes its chunk

        remains : without_oldest (some []) (some 2) (file_a (x ∷ []) ∷ file_b 1 (y ∷ []) ∷ []) ≡ file_b 1 (y ∷ []) ∷ []
        unfolding without_oldest without_id smallest keep may_go is_spared starts_with pick
        remains = refl

        next₈ : Tells w₇ (sync 23) (rolled_over ∷ extended ∷ recorded ∷ []) × Stage w₈ (written (sync 23) (fed_by w₇ (sync 23)) (with_both (y ∷ []) z)) 5
        unfolding chunks_in may_go is_spared starts_with
        next₈ = grow_next stage₇ next₇.ready (some_bytes hz) refl (file_a (x ∷ [])) (Memᴰ.head refl) refl refl (omega arith) parts.each₈

        book₈ : written (sync 23) (fed_by w₇ (sync 23)) (with_both (y ∷ []) z) ≡ with_b
        unfolding written terms_of entered_all entered before_steps after_steps pick on_file
        book₈ = rw (told_fed w₇ (sync 23) next₈.0, spares stage₇ next₇.ready, remains, takes hz, leaves hz)

        stage₈ : Stage w₈ with_b 5
        stage₈ = subst (λ (b : Book). Stage w₈ b 5) book₈ next₈.1

        -- ---- it is opened again

        next₉ : Tells w₈ open_b [] × (EachStep Distinct (ran w₈ open_b).steps → Stage w₉ (written open_b (fed_by w₈ open_b) with_b) 5)
        next₉ = open_next stage₈ present (file_b 2 (y ∷ z ∷ [])) (Memᴰ.head refl) true [] plain_b fine_b

        book₉ : written open_b (fed_by w₈ open_b) with_b ≡ with_b
        unfolding written terms_of entered_all before_steps after_steps pick id_of same_bytes
        book₉ = rw (told_fed w₈ open_b next₉.0)

        stage₉ : Stage w₉ with_b 5
        stage₉ = subst (λ (b : Book). Stage w₉ b 5) book₉ (next₉.1 parts.each₉)

        -- ---- and a second format is accepted

        tells₁₀ : Tells w₉ format_again (formatted ∷ [])
        tells₁₀ = format_tells stage₉ u again (omega arith) room_left parts.given

        book₁₀ : written format_again (fed_by w₉ format_again) with_b ≡ emptied
        unfolding written terms_of entered_all entered before_steps after_steps pick
        book₁₀ = rw (told_fed w₉ format_again tells₁₀)

        keeps₁₀ : Booked (ran w₉ format_again).world emptied
        keeps₁₀ = subst (Booked (ran w₉ format_again).world) book₁₀ (call_keeps format_again w₉ with_b stage₉.keeps parts.given parts.each₁₀)

        books : (more : List Call) → book_of w₀ (calls more) new_book ≡ book_of w₉ more with_b
        books more =
            book_more w₀ create_a _ new_book book₁
            ∙ book_more w₁ (append 0 x) _ (with_a [] []) book₂
            ∙ book_more w₂ (sync 1) _ (with_a [] x) book₃
            ∙ book_more w₃ create_b _ (with_a (x ∷ []) []) book₄
            ∙ book_more w₄ (append 0 y) _ (with_both [] []) book₅
            ∙ book_more w₅ (sync 1) _ (with_both [] y) book₆
            ∙ book_more w₆ (append 0 z) _ (with_both (y ∷ []) []) book₇
            ∙ book_more w₇ (sync 23) _ (with_both (y ∷ []) z) book₈
            ∙ book_more w₈ open_b more with_b book₉

        tells : told w₀ (calls (format_again ∷ [])) ≡ as_told
        tells =
            told_more w₀ create_a _ next₁.tells
            (told_more w₁ (append 0 x) _ next₂.tells
            (told_more w₂ (sync 1) _ next₃.tells
            (told_more w₃ create_b _ next₄.tells
            (told_more w₄ (append 0 y) _ next₅.tells
            (told_more w₅ (sync 1) _ next₆.tells
            (told_more w₆ (append 0 z) _ next₇.tells
            (told_more w₇ (sync 23) _ next₈.0
            (told_more w₈ open_b _ next₉.0
            (told_more w₉ format_again [] tells₁₀ (told_end (ran w₉ format_again).world))))))))))

      -- each call is accepted, with the steps above; before the second format the volume holds b with two chunks and both batches, after it no file
      pub rolled_history : Premise Distinct w₀ (calls (format_again ∷ []))
          → (told w₀ (calls (format_again ∷ [])) ≡ as_told)
          × (book_of w₀ (calls []) new_book ≡ with_b) × Holds (after w₀ (calls [])).vol with_b
          × (book_of w₀ (calls (format_again ∷ [])) new_book ≡ emptied) × Holds (after w₀ (calls (format_again ∷ []))).vol emptied
      unfolding after
      rolled_history p = (
        tells p,
        books p [] ∙ book_end w₉ with_b,
        booked_shown (stage₉ p).keeps,
        books p (format_again ∷ []) ∙ book_more w₉ format_again [] with_b (book₁₀ p) ∙ book_end (ran w₉ format_again).world emptied,
        booked_shown (keeps₁₀ p),
      )
