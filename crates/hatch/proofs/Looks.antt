-- S-1: what the walks of points/Look find in a store that the book is kept of, where every sector reads, by any store value on which the invariant
-- holds: in `MARKS` the first line of the point, in a file of the book the number at which its reader finds the end. Assumes nothing.
use Prim.Native.Nat.{ℕ, zero, suc, ◌+◌, ◌^◌, ◌≤◌, ◌<◌}
use mathlib.Core.Path.{◌≡◌, refl, ap, subst, ◌∙◌}
use mathlib.Core.Logic.{◌≢◌}
use mathlib.Core.Bool.{true, false}
use mathlib.Core.List.{List, [], ◌∷◌}
use native.Mathlib.Omega.{arith}
use borrow.Author.Tests.{lt-ltb}
use lib.Dec.{ltb, lit≤}
use lib.ListN.{length}
use Rattle.le.specs.Choice.{pick}
use Rattle.le.specs.Part.{part, zeros}
use Rattle.le.proofs.Choices.{pick_keeps}
use Rattle.le.proofs.Parts.{length_zeros}
use Rattle.runs.specs.Split.{longer, split_at}
use Rattle.walk.specs.Walk.{stop, after_visit, walk}
use Rattle.names.specs.Names.{plain_byte, every_byte, none_empty, name_ok}
use Rattle.std.specs.Prelude.{Option, Some, None}
use Rattle.marks.specs.declared.Mark.{Mark}
use Rattle.marks.specs.Line.{marks_name, says_of}
use Rattle.medium.specs.declared.Medium.{Medium}
use Rattle.medium.specs.Refusal.{Answer, ok, refused, on_ok}
use Rattle.medium.specs.Sector.{sectors_of, Readable}
use Rattle.medium.proofs.Laws.{on_done_keeps}
use Rattle.handles.specs.declared.Store.{Store}
use Rattle.handles.specs.Handles.{store_ok}
use Rattle.reader.specs.declared.Reader.{Reader}
use Rattle.reader.specs.Reader.{reader_ok, start_of}
use Rattle.reader.specs.Calls.{usable_of, Item, payload, end, NextCall, next_call, record_call}
use Rattle.reader.specs.Upto.{stands_at}
use Rattle.reader.proofs.Facts.{Reads, reader_facts, usable_facts}
use Rattle.reader.proofs.Offers.{next_offered}
use Rattle.layout.specs.Segments.{Segment}
use Rattle.reading.specs.GivesTo.{GivesTo}
use Rattle.reading.specs.Below.{end_number}
use Rattle.store.specs.Reading.{reader_call}
use Rattle.points.specs.declared.Seen.{Seen}
use Rattle.points.specs.Look.{after_mark, after_item, turn_of, turns, walk_of, absent, place_of, look_of, end_of}
use Rattle.points.proofs.Ends.{next_id, stands_most, walk_ends}
use Rattle.power.specs.Book.{File}
use Rattle.power.specs.Points.{has_name}
use Rattle.power.proofs.Fine.{Fine}
use Rattle.power.proofs.Whole.{Whole}
use Rattle.power.proofs.Members.{Mem}
use Rattle.power.proofs.Shown.{reader_none, file_starts, each_ends, each_reads}
use Rattle.power.proofs.Points.{has_none}
use Rattle.hatch.specs.Claim.{or_next, first_of}

-- ---- the first record that says something

silent : (l : List (List ℕ)) → first_of (λ x. None) l ≡ None
unfolding first_of or_next
silent [] = refl
silent (x ∷ xs) = silent xs

enough : 486 ≤ length (zeros 486)
enough = rw (length_zeros 486) (lit≤ tt)

module _ (vol : List ℕ) (m : Medium) (st : Store) where
  -- ---- where a reader finds the end

  abbrev Used : Item → NextCall → Reader → Type 0
  Used a c rd = c.answer ≡ ok a → (store_ok st (sectors_of vol) ≡ true) × (reader_ok rd st ≡ true)

  used : (rd : Reader) (out : List ℕ) (a : Item) → Used a (next_call vol m st rd out) rd
  unfolding next_call
  used rd out a =
      pick_keeps (λ (c : NextCall). Used a c rd) (ltb (length out) 486) _ _ (λ q. absurd (let z : ◌≡◌ {A = ℕ} 0 1 = cc in omega arith))
      (on_done_keeps (λ (c : NextCall). Used a c rd) (usable_of vol st rd) _ _ (λ d q. usable_facts vol st rd refl d)
      (λ e d q. absurd (let z : ◌≡◌ {A = ℕ} 0 1 = cc in omega arith)))

  small : (rd : Reader) → store_ok st (sectors_of vol) ≡ true → Reads rd st → stands_at st rd < 2 ^ 32
  small rd s r = omega (arith, stands_most vol m st rd s r, r.position, r.chunks_most)

  -- a reader of this file that stands at this number, which 32 bits hold
  record Stands (id n : ℕ) : Type 0 where
    reader : Reader
    file : reader.id ≡ id
    stands : stands_at st reader ≡ n
    fits : n < 2 ^ 32

  end_stands : (l : List (List ℕ)) (rd : Reader) (n : ℕ) → GivesTo vol m st rd l n → Stands rd.id n
  unfolding GivesTo
  end_stands [] rd n g =
      let c = g (zeros 486) enough in
      let u = used rd (zeros 486) end c.0 in
      let r = (next_offered vol m st rd (zeros 486) u.1).reader in
      record {
        reader = (next_call vol m st rd (zeros 486)).reader;
        file = next_id vol m st rd (zeros 486);
        stands = c.1;
        fits = subst (λ (k : ℕ). k < 2 ^ 32) c.1 (small (next_call vol m st rd (zeros 486)).reader u.0 (reader_facts (next_call vol m st rd (zeros 486)).reader st r));
      }
  end_stands (x ∷ xs) rd n g =
      let s = end_stands xs (next_call vol m st rd (zeros 486)).reader n (g (zeros 486) enough).2 in
      record { reader = s.reader; file = s.file ∙ next_id vol m st rd (zeros 486); stands = s.stands; fits = s.fits }

  -- ---- a walk

  module _ (says : List ℕ → Option Mark) where
    turn_end : (rd : Reader) → (next_call vol m st rd (zeros 486)).answer ≡ ok end
        → turn_of says vol m st rd ≡ stop (ok (record { mark = None; reader = (next_call vol m st rd (zeros 486)).reader }))
    unfolding turn_of on_ok after_item
    turn_end rd q = rw q

    turn_payload : (rd : Reader) (x : List ℕ) → (next_call vol m st rd (zeros 486)).answer ≡ ok (payload (length x)) → part 0 (length x) (next_call vol m st rd (zeros 486)).out ≡ x
        → turn_of says vol m st rd ≡ after_mark (says x) (next_call vol m st rd (zeros 486)).reader
    unfolding turn_of on_ok after_item part
    turn_payload rd x q e = rw q (ap (λ (y : List ℕ). after_mark (says y) (next_call vol m st rd (zeros 486)).reader) e)

    -- it comes to a record that says k, or, where k is nothing, to the end
    pub record Sees (k : Option Mark) (id n : ℕ) (a : Answer Seen) : Type 0 where
      pub seen : Seen
      pub same : a ≡ ok seen
      pub mark : seen.mark ≡ k
      pub file : seen.reader.id ≡ id
      pub stands : k ≡ None → stands_at st seen.reader ≡ n

    -- the turns over these payloads, the last of which finds the end at n
    unfoldable Turns : ℕ → Reader → List (List ℕ) → Type 0
    Turns n rd [] =
        (there : Reader) × (turn_of says vol m st rd ≡ stop (ok (record { mark = None; reader = there }))) × (there.id ≡ rd.id) × (stands_at st there ≡ n)
    Turns n rd (x ∷ xs) = (there : Reader) × (turn_of says vol m st rd ≡ after_mark (says x) there) × (there.id ≡ rd.id) × Turns n there xs

    turns_on : (n : ℕ) (rd : Reader) (l : List (List ℕ)) → GivesTo vol m st rd l n → Turns n rd l
    unfolding Turns GivesTo
    turns_on n rd [] g = let c = g (zeros 486) enough in ((next_call vol m st rd (zeros 486)).reader, turn_end rd c.0, next_id vol m st rd (zeros 486), c.1)
    turns_on n rd (x ∷ xs) g =
        let c = g (zeros 486) enough in
        ((next_call vol m st rd (zeros 486)).reader, turn_payload rd x c.0 c.1, next_id vol m st rd (zeros 486), turns_on n (next_call vol m st rd (zeros 486)).reader xs c.2)

    module _ (k : Option Mark) (id n : ℕ) (z : Stands id n) where
      -- where the turns are up: points/Ends says that they never are
      abbrev over : Reader → Answer Seen
      over rd = ok (record { mark = k; reader = z.reader })

      abbrev Walks : ℕ → ℕ → Reader → Type 0
      Walks count i rd = Sees k id n (walk (λ j. turn_of says vol m st) over count i rd)

      sees_on : (count i : ℕ) (there : Reader) (rest : Option Mark) → there.id ≡ id → (rest ≡ k → Walks count i there) → (t : Option Mark) → or_next t rest ≡ k
          → Sees k id n (after_visit (after_mark t there) (λ u. walk (λ j. turn_of says vol m st) over count i u))
      unfolding after_mark or_next
      sees_on count i there rest f more None h = more h
      sees_on count i there rest f more (Some said) h =
          let never : k ≢ None = λ q. let y : Some said ≡ None = h ∙ q in let w : ◌≡◌ {A = ℕ} 0 1 = cc in absurd (omega arith) in
          record { seen = record { mark = Some said; reader = there }; same = refl; mark = h; file = f; stands = λ q. absurd (never q) }

      abbrev Seeing : ℕ → ℕ → Reader → List (List ℕ) → Type 0
      Seeing count i rd l = Turns n rd l → rd.id ≡ id → first_of says l ≡ k → Walks count i rd

      turn_sees : (count i : ℕ) (rd : Reader) (l : List (List ℕ)) → ((there : Reader) (xs : List (List ℕ)) → Seeing count (i + 1) there xs) → Seeing (suc count) i rd l
      unfolding walk Turns first_of
      turn_sees count i rd [] more g f e =
          rw g.1 (record { seen = record { mark = None; reader = g.0 }; same = refl; mark = e; file = g.2 ∙ f; stands = λ _. g.3 })
      turn_sees count i rd (x ∷ xs) more g f e =
          rw g.1 (sees_on count (i + 1) g.0 (first_of says xs) (g.2 ∙ f) (λ h. more g.0 xs g.3 (g.2 ∙ f) h) (says x) e)

      walk_sees : (count i : ℕ) (rd : Reader) (l : List (List ℕ)) → Seeing count i rd l
      unfolding walk
      walk_sees zero i rd l g f e = record { seen = record { mark = k; reader = z.reader }; same = refl; mark = refl; file = z.file; stands = λ _. z.stands }
      walk_sees (suc count) i rd l g f e = turn_sees count i rd l (λ there xs. walk_sees count (i + 1) there xs) g f e

    pub walk_gives : (rd : Reader) (l : List (List ℕ)) (n : ℕ) → GivesTo vol m st rd l n → Sees (first_of says l) rd.id n (walk_of says vol m st rd)
    walk_gives rd l n g =
        let z = end_stands l rd n g in
        subst (Sees (first_of says l) rd.id n) (walk_ends vol m st says rd (over (first_of says l) rd.id n z))
        (walk_sees (first_of says l) rd.id n z turns 0 rd l (turns_on n rd l g) refl refl)

-- ---- in a store that the book is kept of

marks_fine : name_ok marks_name ≡ true
unfolding name_ok every_byte none_empty split_at longer plain_byte pick
marks_fine = refl

module _ (vol : List ℕ) (m : Medium) (st : Store) (G : ℕ → List Segment) (b : Fine) (w : Whole vol st G b) (r : Readable vol m) where
  module _ (f : File) (mem : Mem f b.files) where
    abbrev ends_at : ℕ
    ends_at = end_number b.size (b.parts f.id)

    abbrev rd : Reader
    rd = (reader_call vol m st f.name).reader

    own : rd.id ≡ f.id
    unfolding start_of
    own = ap (λ (x : Reader). x.id) (file_starts vol m st G b w r f mem).by_name

    ends : GivesTo vol m st rd f.payloads ends_at
    ends = each_ends vol m st G b w r f mem

    pub end_fits : ends_at < 2 ^ 32
    end_fits = (end_stands vol m st f.payloads rd ends_at ends).fits

    pub end_book : end_of vol m st f.name ≡ ok (f.id, ends_at)
    unfolding end_of on_ok record_call pick stands_at
    end_book =
        let s = walk_gives vol m st (λ x. None) rd f.payloads ends_at ends in
        let n = s.stands (silent f.payloads) in
        rw ((each_reads vol m st G b w r f mem).0, s.same, n, lt-ltb _ _ end_fits, s.file, own)

    pub look_book : (p : List ℕ) → f.name ≡ marks_name → look_of vol m st p ≡ ok (place_of (first_of (says_of p) f.payloads))
    unfolding look_of on_ok
    look_book p e =
        let s = walk_gives vol m st (says_of p) rd f.payloads ends_at ends in
        rw (← e, (each_reads vol m st G b w r f mem).0, s.same, s.mark)

  pub end_none : (name : List ℕ) → name_ok name ≡ true → ((f : File) → Mem f b.files → f.name ≢ name) → end_of vol m st name ≡ refused 9
  unfolding end_of on_ok
  end_none name fine none = rw (reader_none vol m st G b w r name fine none)

  pub look_absent : (p : List ℕ) → has_name marks_name b.files ≡ false → look_of vol m st p ≡ ok absent
  unfolding look_of on_ok pick
  look_absent p h = rw (reader_none vol m st G b w r marks_name marks_fine (has_none marks_name b.files h))
