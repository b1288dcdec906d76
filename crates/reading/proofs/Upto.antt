-- S-1: a file read from its start up to a record number gives its payloads with a number below it, in order, then the end. Assumes nothing.
use Rattle.std.specs.Prelude.{Ok, Result}
use Rattle.medium.specs.declared.Error.{Error}
use mathlib.Core.Path.{◌≡◌, refl, ap, sym, ◌∙◌}
use mathlib.Core.Logic.{◌≢◌, ◌⊎◌, inl, inr}
use mathlib.Core.Bool.{Bool, true, false, not, ◌&&◌, and-false}
use mathlib.Core.List.{List, [], ◌∷◌}
use Prim.Native.Nat.{ℕ, zero, suc, ◌+◌, ◌-◌, ◌*◌, ◌≤◌, ◌<◌}
use native.Mathlib.Omega.{arith}
use borrow.Author.Tests.{eq-eqb, ne_eqb, leb-true, leb-false, lt-ltb, le-ltb, le-leb, lt-leb}
use lib.Dec.{ltb, leb, eqb}
use lib.ListN.{length, get_or}
use Rattle.le.specs.Choice.{pick}
use Rattle.le.specs.Part.{part, over}
use Rattle.le.proofs.Choices.{pick_true, pick_false}
use Rattle.le.proofs.Parts.{part_over}
use Rattle.medium.specs.declared.Medium.{Medium}
use Rattle.medium.specs.Refusal.{on_done, ok}
use Rattle.medium.specs.Sector.{sectors_of, read_of}
use Rattle.handles.specs.declared.Store.{Store}
use Rattle.handles.specs.Handles.{store_ok}
use Rattle.table.specs.Table.{locate_of, place_at}
use Rattle.record.specs.Record.{number_at, on_result}
use Rattle.reader.specs.declared.Reader.{Reader}
use Rattle.reader.specs.declared.Found.{Found}
use Rattle.reader.specs.declared.Found.TheVariants as found
use Rattle.reader.specs.Reader.{start_of}
use Rattle.reader.specs.Next.{arrive_of, tells, take_of, NextOut}
use Rattle.reader.specs.Blank.{counted_of}
use Rattle.reader.specs.Calls.{payload, end, next_answer}
use Rattle.reader.specs.Upto.{stands_at, cut_at, cut_out, below_of, UptoCall, below_call}
use Rattle.reader.proofs.Moves.{arrive_here}
use Rattle.layout.specs.Views.{named, disk_of}
use Rattle.layout.specs.Segments.{Segment, segment_at, link_for, Good}
use Rattle.layout.proofs.Facts.{case}
use Rattle.reading.specs.GivesUpto.{GivesUpto}
use Rattle.reading.specs.Below.{parts_of, below}
use Rattle.reading.proofs.Turns.{usable}
use Rattle.reading.proofs.Rest.{rest_below, until_past, until_here, until_next, until_end, until_all}
use Rattle.reading.proofs.Places.{reader_at, Filed, fits, accepted, stands, not_passed, going_on, taken, taken_end}

split : {P : Type 0} (i n : ℕ) → (n ≤ i → P) → (i < n → P) → P
split {P} i n f g = go (leb n i) refl
  where
    go : (t : Bool) → leb n i ≡ t → P
    go true e = f (leb-true n i e)
    go false e = g (leb-false n i e)

module _ (vol : List ℕ) (m : Medium) (st : Store) (G : ℕ → List Segment) (s id : ℕ) (name : List ℕ)
    (readable : (j : ℕ) → j < sectors_of vol → read_of m j ≡ Ok tt) (sound : store_ok st (sectors_of vol) ≡ true) (d : Good (disk_of vol st) G)
    (s< : s < 64) (is : (disk_of vol st).entry s ≡ named name id)
    (located : (p : ℕ) → p < length (G s) → locate_of vol m st s p ≡ Ok (place_at (segment_at (G s) p).chunk (link_for st.head.chunk s (G s) p))) where
  abbrev f : Filed vol m st G s id name
  f = record { readable = readable; sound = sound; good = d; slot = s<; entry = is; located = located }

  abbrev size : ℕ
  size = st.head.chunk

  abbrev count : ℕ → ℕ
  count p = length (segment_at (G s) p).payloads

  abbrev at : ℕ → ℕ → Reader
  at p i = reader_at st s id (G s) p i

  module _ (limit : ℕ) where
    -- how many numbers below the limit are left from the chunk's first on
    abbrev left : ℕ → ℕ
    left p = limit - p * size

    abbrev until : ℕ → ℕ → List (List ℕ)
    until p i = rest_below size (left p) (G s) p i

    far : (p i : ℕ) → left p ≤ i → limit ≤ stands_at st (at p i)
    unfolding stands_at number_at
    far p i = go (p * size)
      where
        go : (b : ℕ) → limit - b ≤ i → limit ≤ b + i
        go b h = omega (arith, h)

    near : (p i : ℕ) → i < left p → stands_at st (at p i) < limit
    unfolding stands_at number_at
    near p i = go (p * size)
      where
        go : (b : ℕ) → i < limit - b → b + i < limit
        go b h = omega (arith, h)

    -- where a reader arrives: at a payload, or behind the last
    record Arrival (p i : ℕ) : Type 0 where
      q : ℕ
      j : ℕ
      in_file_lem : q < length (G s)
      in_chunk : j ≤ count q
      same : until p i ≡ until q j
      way : (j < count q) ⊎ ((q + 1 ≡ length (G s)) × (j ≡ count q))
      came : arrive_of vol m st (at p i) ≡ record { reader = at q j; more = Ok (not (eqb j size)) }

    arrives_here : (p i : ℕ) → p < length (G s) → i ≤ count p → (p + 1 < length (G s) → i < count p) → (i < count p) ⊎ ((p + 1 ≡ length (G s)) × (i ≡ count p)) → Arrival p i
    arrives_here p i h k l y =
        record { q = p; j = i; in_file_lem = h; in_chunk = k; same = refl; way = y; came = arrive_here vol m st (at p i) h (not_passed f p i h l) }

    arrival : (n p i : ℕ) → p < length (G s) → i ≤ count p → length (G s) ≤ p + n → Arrival p i
    arrival zero p i h k o = absurd (omega (arith, h, o))
    arrival (suc n) p i h k o =
        case i (count p)
        (λ a. case (p + 1) (length (G s))
        (λ b. arrives_here p i h k (λ c. absurd (omega (arith, b, c))) (inr (b, a)))
        (λ b.
        let c : p + 1 < length (G s) = omega (arith, h, b) in
        on a c (arrival n (p + 1) 0 c (omega arith) (omega (arith, o)))))
        (λ a. let b : i < count p = omega (arith, k, a) in arrives_here p i h k (λ c. b) (inl b))
      where
        on : i ≡ count p → p + 1 < length (G s) → Arrival (p + 1) 0 → Arrival p i
        on a c x =
            record {
              q = x.q;
              j = x.j;
              in_file_lem = x.in_file_lem;
              in_chunk = x.in_chunk;
              same = rw a (until_next size limit (G s) p c) ∙ x.same;
              way = x.way;
              came = going_on f p i c a ∙ x.came;
            }

    -- ---- one call

    given : (p i : ℕ) (out : List ℕ) → left p ≤ i → (below_of limit vol m st (at p i) out).ans.next ≡ Ok found.End
    unfolding below_of
    given p i out h = ap (λ (o : NextOut). o.ans.next) (pick_true _ _ (le-leb limit (stands_at st (at p i)) (far p i h)))

    module _ (p i : ℕ) (out : List ℕ) (more : i < left p) (a : Arrival p i) where
      abbrev here : Reader
      here = at a.q a.j

      by_arrival : below_of limit vol m st (at p i) out
          ≡ pick (not (eqb a.j size) && ltb (stands_at st here) limit) (cut_out limit st here (take_of vol m st here out)) (record { out = out; ans = tells (Ok found.End) here })
      unfolding below_of on_result
      by_arrival = pick_false _ _ (lt-leb limit (stands_at st (at p i)) (near p i more)) ∙ rw a.came

      past : left a.q ≤ a.j → (below_of limit vol m st (at p i) out).ans.next ≡ Ok found.End
      past h =
          let z : (not (eqb a.j size) && ltb (stands_at st here) limit) ≡ false = rw (le-ltb (stands_at st here) limit (far a.q a.j h)) (and-false (not (eqb a.j size))) in
          ap (λ (o : NextOut). o.ans.next) (by_arrival ∙ pick_false _ _ z)

      full : a.j ≡ size → (below_of limit vol m st (at p i) out).ans.next ≡ Ok found.End
      full e =
          let z : (not (eqb a.j size) && ltb (stands_at st here) limit) ≡ false = rw (eq-eqb a.j size e) refl in
          ap (λ (o : NextOut). o.ans.next) (by_arrival ∙ pick_false _ _ z)

      module _ (h : a.j < size) (k : a.j < left a.q) where
        reads_on : below_of limit vol m st (at p i) out ≡ cut_out limit st here (take_of vol m st here out)
        reads_on =
            let ne : a.j ≢ size = λ e. absurd (omega (arith, h, e)) in
            let z : (not (eqb a.j size) && ltb (stands_at st here) limit) ≡ true = rw (ne_eqb a.j size ne, lt-ltb (stands_at st here) limit (near a.q a.j k)) refl in
            by_arrival ∙ pick_true _ _ z

        one_more : a.j < count a.q → below_of limit vol m st (at p i) out ≡ record {
          out = over 0 (get_or (segment_at (G s) a.q).payloads a.j []) out;
          ans = tells (Ok (found.Payload (length (get_or (segment_at (G s) a.q).payloads a.j [])))) (at a.q (a.j + 1));
        }
        unfolding cut_out cut_at
        one_more l = reads_on ∙ rw (taken f a.q a.j out a.in_file_lem l)

        no_more : a.q + 1 ≡ length (G s) → a.j ≡ count a.q → (below_of limit vol m st (at p i) out).ans.next ≡ Ok found.End
        unfolding cut_out cut_at
        no_more l e =
            let z : cut_out limit st here (take_of vol m st here out) ≡ record { out = out; ans = tells (Ok found.End) here } = rw (taken_end f a.q a.j out l e h) in
            ap (λ (o : NextOut). o.ans.next) (reads_on ∙ z)

    -- ---- the way on from a place

    record Stride (p i : ℕ) (l : List (List ℕ)) : Type 0 where
      q : ℕ
      j : ℕ
      x : List ℕ
      more : List (List ℕ)
      in_file_lem : q < length (G s)
      in_chunk : j ≤ count q
      short : length x ≤ 486
      left_over : until q j ≡ more
      first : l ≡ x ∷ more
      answer : (out : List ℕ) → below_of limit vol m st (at p i) out ≡ record { out = over 0 x out; ans = tells (Ok (found.Payload (length x))) (at q j) }

    data Ahead (p i : ℕ) (l : List (List ℕ)) : Type 0 where
      one : Stride p i l → Ahead p i l
      over_now : l ≡ [] → ((out : List ℕ) → (below_of limit vol m st (at p i) out).ans.next ≡ Ok found.End) → Ahead p i l

    ahead : (p i : ℕ) → p < length (G s) → i ≤ count p → (l : List (List ℕ)) → until p i ≡ l → Ahead p i l
    ahead p i h k l r = split i (left p) (λ b. over_now (sym r ∙ until_past size limit (G s) p i (omega (arith, k, fits f p h)) b) (λ out. given p i out b))
        (λ b. by_way b (arrival (length (G s)) p i h k (omega arith)))
      where
        at_way : i < left p → (a : Arrival p i) → a.j < left a.q → (a.j < count a.q) ⊎ ((a.q + 1 ≡ length (G s)) × (a.j ≡ count a.q)) → Ahead p i l
        at_way b a c (inl y) =
            one (record {
              q = a.q;
              j = a.j + 1;
              x = get_or (segment_at (G s) a.q).payloads a.j [];
              more = until a.q (a.j + 1);
              in_file_lem = a.in_file_lem;
              in_chunk = omega (arith, y);
              short = (stands f a.q a.j a.in_file_lem y).most;
              left_over = refl;
              first = sym r ∙ a.same ∙ until_here size limit (G s) a.q a.j y c;
              answer = λ out. one_more p i out b a (omega (arith, y, fits f a.q a.in_file_lem)) c y;
            })
        at_way b a c (inr y) =
            over_now (sym r ∙ a.same ∙ rw y.1 (until_end size limit (G s) a.q y.0))
            (λ out. case a.j size (λ e. full p i out b a e) (λ e. no_more p i out b a (omega (arith, y.1, fits f a.q a.in_file_lem, e)) c y.0 y.1))

        by_way : i < left p → Arrival p i → Ahead p i l
        by_way b a = split a.j (left a.q)
            (λ c. over_now (sym r ∙ a.same ∙ until_past size limit (G s) a.q a.j (omega (arith, a.in_chunk, fits f a.q a.in_file_lem)) c) (λ out. past p i out b a c))
            (λ c. at_way b a c a.way)

    asked : (p i : ℕ) (out : List ℕ) → p < length (G s) → i ≤ count p → 486 ≤ length out
        → below_call vol m st (record { reader = at p i; limit = limit }) out ≡ record {
          answer = next_answer (counted_of vol st (below_of limit vol m st (at p i) out).ans.reader (below_of limit vol m st (at p i) out).ans.next);
          upto = record { reader = (below_of limit vol m st (at p i) out).ans.reader; limit = limit };
          out = (below_of limit vol m st (at p i) out).out;
          medium = m;
        }
    unfolding below_call pick on_done
    asked p i out h k e = rw (le-ltb (length out) 486 e, usable vol m st (at p i) sound (accepted f p i h k) refl refl)

    upto : (l : List (List ℕ)) (p i : ℕ) → p < length (G s) → i ≤ count p → until p i ≡ l → GivesUpto vol m st (record { reader = at p i; limit = limit }) l
    unfolding GivesUpto counted_of
    upto [] p i h k r = go (ahead p i h k [] r)
      where
        go : Ahead p i [] → (out : List ℕ) → 486 ≤ length out → (below_call vol m st (record { reader = at p i; limit = limit }) out).answer ≡ ok end
        go (one t) out e = absurd (let a : ◌≡◌ {A = List (List ℕ)} [] (t.x ∷ t.more) = t.first in let z : ◌≡◌ {A = ℕ} 0 1 = cc in omega (arith, z))
        go (over_now a b) out e =
            ap (λ (c : UptoCall). c.answer) (asked p i out h k e)
            ∙ ap (λ (x : Result Found Error). next_answer (counted_of vol st (below_of limit vol m st (at p i) out).ans.reader x)) (b out)
    upto (x ∷ xs) p i h k r = go (λ q j a b c. upto xs q j a b c) (ahead p i h k (x ∷ xs) r)
      where
        go : ((q j : ℕ) → q < length (G s) → j ≤ count q → until q j ≡ xs → GivesUpto vol m st (record { reader = at q j; limit = limit }) xs) → Ahead p i (x ∷ xs)
            → (out : List ℕ) → 486 ≤ length out
            → ((below_call vol m st (record { reader = at p i; limit = limit }) out).answer ≡ ok (payload (length x)))
            × (part 0 (length x) (below_call vol m st (record { reader = at p i; limit = limit }) out).out ≡ x)
            × GivesUpto vol m st (below_call vol m st (record { reader = at p i; limit = limit }) out).upto xs
        go ih (one t) out e =
            let f : x ∷ xs ≡ t.x ∷ t.more = t.first in
            let u : t.x ≡ x = cc in
            let v : t.more ≡ xs = cc in
            let w : length x ≤ 486 = rw u at t.short in
            let a : below_of limit vol m st (at p i) out ≡ record { out = over 0 x out; ans = tells (Ok (found.Payload (length x))) (at t.q t.j) } = rw u at (t.answer out) in
            rw (asked p i out h k e, a) (refl, part_over 0 x out (omega (arith, w, e)), ih t.q t.j t.in_file_lem t.in_chunk (t.left_over ∙ v))
        go ih (over_now a b) out e = absurd (let z : ◌≡◌ {A = ℕ} 0 1 = cc in omega (arith, z))

    -- all of it, from the file's start

    pub reads_below : (last : ℕ)
        → GivesUpto vol m st
        (record {
          reader = start_of st s id record {
            count = length (G s);
            first = (segment_at (G s) 0).chunk;
            partial = (link_for st.head.chunk s (G s) 0).partial;
            records = (link_for st.head.chunk s (G s) 0).records;
            last = last;
          };
          limit = limit;
        })
        (below size limit (parts_of (G s)))
    unfolding start_of
    reads_below last =
        let h : 1 ≤ length (G s) = d.held s name id s< is in
        upto (below size limit (parts_of (G s))) 0 0 (omega (arith, h)) (omega arith) (until_all size limit (G s) h)
