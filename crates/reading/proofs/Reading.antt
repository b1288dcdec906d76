-- A file read from its start gives its payloads in order, with no hole, then the end, at the number behind its last record. Assumes nothing.
use Rattle.std.specs.Prelude.{Ok, Result}
use Rattle.medium.specs.declared.Error.{Error}
use mathlib.Core.Path.{◌≡◌, refl, ap, sym, ◌∙◌}
use mathlib.Core.Bool.{true}
use mathlib.Core.List.{List, [], ◌∷◌}
use Prim.Native.Nat.{ℕ, zero, suc, ◌+◌, ◌≤◌, ◌<◌}
use native.Mathlib.Omega.{arith}
use borrow.Author.Tests.{le-ltb}
use lib.ListN.{length, get_or}
use Rattle.le.specs.Choice.{pick}
use Rattle.le.specs.Part.{part, over}
use Rattle.le.proofs.Parts.{part_over}
use Rattle.medium.specs.declared.Medium.{Medium}
use Rattle.medium.specs.Refusal.{on_done, ok}
use Rattle.medium.specs.Sector.{sectors_of, read_of}
use Rattle.handles.specs.declared.Store.{Store}
use Rattle.handles.specs.Handles.{store_ok}
use Rattle.table.specs.Table.{locate_of, place_at}
use Rattle.record.specs.Record.{number_at}
use Rattle.reader.specs.declared.Reader.{Reader}
use Rattle.reader.specs.declared.Found.{Found}
use Rattle.reader.specs.declared.Found.TheVariants as found
use Rattle.reader.specs.Reader.{start_of}
use Rattle.reader.specs.Next.{tells, NextOut, next_of}
use Rattle.reader.specs.Blank.{counted_of}
use Rattle.reader.specs.Calls.{payload, end, next_answer, next_call}
use Rattle.reader.specs.Upto.{stands_at}
use Rattle.reader.proofs.Finds.{next_full}
use Rattle.layout.specs.Views.{named, disk_of}
use Rattle.layout.specs.Segments.{Segment, segment_at, payloads_of, link_for, Good}
use Rattle.layout.proofs.Facts.{case}
use Rattle.reading.specs.Gives.{Gives}
use Rattle.reading.specs.GivesTo.{GivesTo}
use Rattle.reading.specs.Below.{parts_of, end_number}
use Rattle.reading.proofs.Turns.{usable, next_alike, next_here}
use Rattle.reading.proofs.Rest.{rest, rest_here, rest_next, rest_end, rest_all, end_number_lem}
use Rattle.reading.proofs.Places.{end_last, reader_at, Filed, fits, accepted, stands, arrived, going_on, taken, taken_end}

-- what is given with a number at the end is given
pub gives_of : (vol : List ℕ) (m : Medium) (st : Store) (l : List (List ℕ)) (rd : Reader) (n : ℕ) → GivesTo vol m st rd l n → Gives vol m st rd l
unfolding Gives GivesTo
gives_of vol m st [] rd n g = λ out e. (g out e).0
gives_of vol m st (x ∷ xs) rd n g = λ out e. let a = g out e in (a.0, a.1, gives_of vol m st xs (next_call vol m st rd out).reader n a.2)

module _ (vol : List ℕ) (m : Medium) (st : Store) (G : ℕ → List Segment) (s id : ℕ) (name : List ℕ)
    (readable : (j : ℕ) → j < sectors_of vol → read_of m j ≡ Ok tt) (sound : store_ok st (sectors_of vol) ≡ true) (d : Good (disk_of vol st) G)
    (s< : s < 64) (is : (disk_of vol st).entry s ≡ named name id)
    (located : (p : ℕ) → p < length (G s) → locate_of vol m st s p ≡ Ok (place_at (segment_at (G s) p).chunk (link_for st.head.chunk s (G s) p))) where
  abbrev f : Filed vol m st G s id name
  f = record { readable = readable; sound = sound; good = d; slot = s<; entry = is; located = located }

  abbrev size : ℕ
  size = st.head.chunk

  abbrev count : ℕ → ℕ
  count p = length (segment_at (G s) p).payloads

  abbrev at : ℕ → ℕ → Reader
  at p i = reader_at st s id (G s) p i

  -- ---- a turn: a record, the next chunk, the end

  a_record_lem : (p i : ℕ) (out : List ℕ) → p < length (G s) → i < count p
      → next_of vol m st (at p i) out ≡ record {
        out = over 0 (get_or (segment_at (G s) p).payloads i []) out;
        ans = tells (Ok (found.Payload (length (get_or (segment_at (G s) p).payloads i [])))) (at p (i + 1));
      }
  a_record_lem p i out h k = next_here vol m st (at p i) out (arrived f p i h (λ l. k) (λ e. absurd (omega (arith, k, fits f p h, e)))) ∙ taken f p i out h k

  a_chunk : (p i : ℕ) (out : List ℕ) → p + 1 < length (G s) → i ≡ count p → next_of vol m st (at p i) out ≡ next_of vol m st (at (p + 1) 0) out
  a_chunk p i out h e = next_alike vol m st (at p i) (at (p + 1) 0) out (going_on f p i h e)

  abbrev ending : ℕ
  ending = end_number size (parts_of (G s))

  abbrev Ends : NextOut → Type 0
  Ends o = (o.ans.next ≡ Ok found.End) × (stands_at st o.ans.reader ≡ ending)

  at_ending : (p i : ℕ) → p + 1 ≡ length (G s) → i ≡ count p → stands_at st (at p i) ≡ ending
  unfolding stands_at number_at
  at_ending p i h e = rw e (sym (end_number_lem size (G s) p h))

  the_end : (p i : ℕ) (out : List ℕ) → p + 1 ≡ length (G s) → i ≡ count p → Ends (next_of vol m st (at p i) out)
  the_end p i out h e =
      let l : p < length (G s) = omega (arith, h) in
      case i size
      (λ q. rw (next_full vol m st (at p i) out l (end_last size s (G s) p h) q) (refl, at_ending p i h e))
      (λ q.
      let b : i < size = omega (arith, e, fits f p l, q) in
      let a = next_here vol m st (at p i) out (arrived f p i l (λ z. absurd (omega (arith, h, z))) q) ∙ taken_end f p i out h e b in
      rw a (refl, at_ending p i h e))

  -- ---- the way on from a place: the first payload of those left, or the end

  record Turn (p i : ℕ) (l : List (List ℕ)) : Type 0 where
    q : ℕ
    j : ℕ
    x : List ℕ
    more : List (List ℕ)
    in_file_lem : q < length (G s)
    in_chunk : j ≤ count q
    short : length x ≤ 486
    left : rest (G s) q j ≡ more
    first : l ≡ x ∷ more
    answer : (out : List ℕ) → next_of vol m st (at p i) out ≡ record { out = over 0 x out; ans = tells (Ok (found.Payload (length x))) (at q j) }

  data Onward (p i : ℕ) (l : List (List ℕ)) : Type 0 where
    one : Turn p i l → Onward p i l
    over_now : l ≡ [] → ((out : List ℕ) → Ends (next_of vol m st (at p i) out)) → Onward p i l

  onward : (n p i : ℕ) → p < length (G s) → i ≤ count p → length (G s) ≤ p + n → (l : List (List ℕ)) → rest (G s) p i ≡ l → Onward p i l
  onward zero p i h k o l r = absurd (omega (arith, h, o))
  onward (suc n) p i h k o l r = case i (count p)
      (λ a. case (p + 1) (length (G s))
      (λ b. over_now (sym r ∙ rw a (rest_end (G s) p b)) (λ out. the_end p i out b a))
      (λ b.
      let c : p + 1 < length (G s) = omega (arith, h, b) in
      enter (onward n (p + 1) 0 c (omega arith) (omega (arith, o)) l (sym (rest_next (G s) p c) ∙ rw (← a) r)) c a))
      (λ a.
      let b : i < count p = omega (arith, k, a) in
      one (record {
        q = p;
        j = i + 1;
        x = get_or (segment_at (G s) p).payloads i [];
        more = rest (G s) p (i + 1);
        in_file_lem = h;
        in_chunk = omega (arith, b);
        short = (stands f p i h b).most;
        left = refl;
        first = sym r ∙ rest_here (G s) p i b;
        answer = λ out. a_record_lem p i out h b;
      }))
    where
      enter : Onward (p + 1) 0 l → p + 1 < length (G s) → i ≡ count p → Onward p i l
      enter (one t) c a = one (record {
        q = t.q;
        j = t.j;
        x = t.x;
        more = t.more;
        in_file_lem = t.in_file_lem;
        in_chunk = t.in_chunk;
        short = t.short;
        left = t.left;
        first = t.first;
        answer = λ out. a_chunk p i out c a ∙ t.answer out;
      })
      enter (over_now x y) c a = over_now x (λ out. rw (a_chunk p i out c a) (y out))

  called : (p i : ℕ) (out : List ℕ) → p < length (G s) → i ≤ count p → 486 ≤ length out
      → next_call vol m st (at p i) out ≡ record {
        answer = next_answer (counted_of vol st (next_of vol m st (at p i) out).ans.reader (next_of vol m st (at p i) out).ans.next);
        reader = (next_of vol m st (at p i) out).ans.reader;
        out = (next_of vol m st (at p i) out).out;
        medium = m;
      }
  unfolding next_call pick on_done
  called p i out h k e = rw (le-ltb (length out) 486 e, usable vol m st (at p i) sound (accepted f p i h k) refl refl)

  gives : (l : List (List ℕ)) (p i : ℕ) → p < length (G s) → i ≤ count p → rest (G s) p i ≡ l → GivesTo vol m st (at p i) l ending
  unfolding GivesTo counted_of
  gives [] p i h k r = go (onward (length (G s)) p i h k (omega arith) [] r)
    where
      go : Onward p i [] → (out : List ℕ) → 486 ≤ length out → ((next_call vol m st (at p i) out).answer ≡ ok end) × (stands_at st (next_call vol m st (at p i) out).reader ≡ ending)
      go (one t) out e = absurd (let a : ◌≡◌ {A = List (List ℕ)} [] (t.x ∷ t.more) = t.first in let z : ◌≡◌ {A = ℕ} 0 1 = cc in omega (arith, z))
      go (over_now a b) out e =
          rw (called p i out h k e) (ap (λ (x : Result Found Error). next_answer (counted_of vol st (next_of vol m st (at p i) out).ans.reader x)) (b out).0, (b out).1)
  gives (x ∷ xs) p i h k r = go (λ q j a b c. gives xs q j a b c) (onward (length (G s)) p i h k (omega arith) (x ∷ xs) r)
    where
      go : ((q j : ℕ) → q < length (G s) → j ≤ count q → rest (G s) q j ≡ xs → GivesTo vol m st (at q j) xs ending) → Onward p i (x ∷ xs) → (out : List ℕ) → 486 ≤ length out
          → ((next_call vol m st (at p i) out).answer ≡ ok (payload (length x))) × (part 0 (length x) (next_call vol m st (at p i) out).out ≡ x)
          × GivesTo vol m st (next_call vol m st (at p i) out).reader xs ending
      go ih (one t) out e =
          let f : x ∷ xs ≡ t.x ∷ t.more = t.first in
          let u : t.x ≡ x = cc in
          let v : t.more ≡ xs = cc in
          let w : length x ≤ 486 = rw u at t.short in
          let a : next_of vol m st (at p i) out ≡ record { out = over 0 x out; ans = tells (Ok (found.Payload (length x))) (at t.q t.j) } = rw u at (t.answer out) in
          rw (called p i out h k e, a) (refl, part_over 0 x out (omega (arith, w, e)), ih t.q t.j t.in_file_lem t.in_chunk (t.left ∙ v))
      go ih (over_now a b) out e = absurd (let z : ◌≡◌ {A = ℕ} 0 1 = cc in omega (arith, z))

  -- from the file's start, and where it ends
  pub reads_to : (last : ℕ)
      → GivesTo vol m st
      (start_of st s id record {
        count = length (G s);
        first = (segment_at (G s) 0).chunk;
        partial = (link_for st.head.chunk s (G s) 0).partial;
        records = (link_for st.head.chunk s (G s) 0).records;
        last = last;
      })
      (payloads_of (G s)) (end_number st.head.chunk (parts_of (G s)))
  unfolding start_of
  reads_to last =
      let h : 1 ≤ length (G s) = d.held s name id s< is in
      gives (payloads_of (G s)) 0 0 (omega (arith, h)) (omega arith) (rest_all (G s) h)

  pub reads_all : (last : ℕ)
      → Gives vol m st
      (start_of st s id record {
        count = length (G s);
        first = (segment_at (G s) 0).chunk;
        partial = (link_for st.head.chunk s (G s) 0).partial;
        records = (link_for st.head.chunk s (G s) 0).records;
        last = last;
      })
      (payloads_of (G s))
  reads_all last = gives_of vol m st (payloads_of (G s)) _ (end_number st.head.chunk (parts_of (G s))) (reads_to last)
