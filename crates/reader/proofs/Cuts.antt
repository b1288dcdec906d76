-- S-1: a reader up to a record number. Each law is a way out of its function, over plain values. Assumes nothing.
use Rattle.std.specs.Prelude.{Err, Ok, Result, Option, Some, None}
use mathlib.Core.Path.{◌≡◌, refl, ap, ◌∙◌}
use mathlib.Core.Bool.{Bool, true, false, false≢true}
use mathlib.Core.List.{List}
use Prim.Native.Nat.{ℕ, ◌+◌, ◌*◌, ◌≤◌, ◌<◌}
use native.Mathlib.Omega.{arith}
use borrow.Author.Tests.{ltb-false, leb-true, leb-false, lt-ltb, le-ltb, lt-leb}
use lib.Dec.{ltb, leb}
use lib.ListN.{length}
use Rattle.le.specs.Choice.{pick}
use Rattle.le.proofs.Turns.{told}
use Rattle.medium.specs.declared.Error.{Error}
use Rattle.medium.specs.declared.Error.TheVariants.{Range}
use Rattle.medium.specs.declared.Medium.{Medium}
use Rattle.medium.specs.Refusal.{on_done}
use Rattle.medium.specs.Sector.{sectors_of}
use Rattle.medium.proofs.Laws.{not_done}
use Rattle.handles.specs.declared.Store.{Store}
use Rattle.handles.specs.Handles.{store_ok}
use Rattle.record.specs.Record.{on_result, number_at}
use Rattle.reader.proofs.Earlier.{through}
use Rattle.reader.specs.declared.Reader.{Reader}
use Rattle.reader.specs.declared.Arrived.{Arrived}
use Rattle.reader.specs.declared.Found.TheVariants as found
use Rattle.reader.specs.declared.Next.{Next}
use Rattle.reader.specs.declared.Read.{Read}
use Rattle.reader.specs.declared.Taken.{Taken}
use Rattle.reader.specs.declared.Upto.{Upto}
use Rattle.reader.specs.Reader.{reader_ok}
use Rattle.reader.specs.Next.{arrive_of, tells, take_of, next_of}
use Rattle.reader.specs.Blank.{counted_of}
use Rattle.reader.specs.Calls.{usable_of, read_answer, NextCall, next_call}
use Rattle.reader.specs.Upto.{stands_at, readable_of, cut_at, cut_out, below_of, is_given, cut_upto, next_upto, read_call, UptoCall, upto_answer, same_limit, below_call}
use Rattle.reader.proofs.Facts.{usable_facts}
use Rattle.reader.proofs.Finds.{next_refused, next_end, next_taken}

-- ---- the cut

-- the chunk's first number is not past the limit
pub base_below : (st : Store) (rd : Reader) (limit : Option ℕ) {base n : ℕ} → base ≡ number_at rd.position st.head.chunk 0 → limit ≡ Some n → is_given limit (stands_at st rd) ≡ false
    → base ≤ n
unfolding stands_at number_at is_given
base_below st rd limit {base} {n} e q h = go (rd.position * st.head.chunk) e (leb-false _ _ (rw q at h))
  where
    go : (b : ℕ) {base : ℕ} → base ≡ b + 0 → b + rd.index < n → base ≤ n
    go b p k = omega (arith, p, k)

-- ---- the way there, with a limit or without one

-- a number that was not given is below the limit
below_all : (limit n : ℕ) → leb limit n ≡ false → ltb n limit ≡ true
below_all limit n e = lt-ltb n limit (leb-false limit n e)

abbrev Gives : Option ℕ → List ℕ → Medium → Store → Reader → List ℕ → List ℕ → Taken → Type 0
Gives limit vol m st rd out l t = (l ≡ (next_upto limit vol m st rd out).out) × (t ≡ (next_upto limit vol m st rd out).ans)

pub upto_given : (limit : Option ℕ) (vol : List ℕ) (m : Medium) (st : Store) (rd : Reader) (out : List ℕ) → is_given limit (stands_at st rd) ≡ true
    → Gives limit vol m st rd out out (tells (Ok found.End) rd)
unfolding is_given next_upto below_of pick
upto_given None vol m st rd out h = absurd (false≢true h)
upto_given (Some limit) vol m st rd out h = rw h (refl, refl)

pub upto_refused : (limit : Option ℕ) (vol : List ℕ) (m : Medium) (st : Store) (rd : Reader) (out : List ℕ) {a : Arrived} {e : Error} → is_given limit (stands_at st rd) ≡ false
    → a ≡ arrive_of vol m st rd → a.more ≡ Err e → Gives limit vol m st rd out out (tells (Err e) a.reader)
unfolding is_given next_upto below_of pick on_result
upto_refused None vol m st rd out h came q = next_refused vol m st rd out came q
upto_refused (Some limit) vol m st rd out h came q = rw (h, ← came, q) (refl, refl)

pub upto_end : (limit : Option ℕ) (vol : List ℕ) (m : Medium) (st : Store) (rd : Reader) (out : List ℕ) {a : Arrived} → is_given limit (stands_at st rd) ≡ false
    → a ≡ arrive_of vol m st rd → a.more ≡ Ok false → Gives limit vol m st rd out out (tells (Ok found.End) a.reader)
unfolding is_given next_upto below_of pick on_result
upto_end None vol m st rd out h came q = next_end vol m st rd out came q
upto_end (Some limit) vol m st rd out h came q = rw (h, ← came, q) (refl, refl)

pub upto_passed : (limit : Option ℕ) (vol : List ℕ) (m : Medium) (st : Store) (rd : Reader) (out : List ℕ) {a : Arrived} → is_given limit (stands_at st rd) ≡ false
    → a ≡ arrive_of vol m st rd → a.more ≡ Ok true → is_given limit (stands_at st a.reader) ≡ true → Gives limit vol m st rd out out (tells (Ok found.End) a.reader)
unfolding is_given next_upto below_of pick on_result
upto_passed None vol m st rd out h came q t = absurd (false≢true t)
upto_passed (Some limit) vol m st rd out {a} h came q t = rw (h, ← came, q, le-ltb (stands_at st a.reader) limit (leb-true limit (stands_at st a.reader) t)) (refl, refl)

pub upto_taken : (limit : Option ℕ) (vol : List ℕ) (m : Medium) (st : Store) (rd : Reader) (out : List ℕ) {a : Arrived} {l : List ℕ} {t r : Taken}
    → is_given limit (stands_at st rd) ≡ false → a ≡ arrive_of vol m st rd → a.more ≡ Ok true → is_given limit (stands_at st a.reader) ≡ false
    → l ≡ (take_of vol m st a.reader out).out → t ≡ (take_of vol m st a.reader out).ans → r ≡ cut_upto limit st a.reader t → Gives limit vol m st rd out l r
unfolding is_given next_upto below_of cut_out cut_upto pick on_result
upto_taken None vol m st rd out h came q t e f c = next_taken vol m st rd out came q e (c ∙ f)
upto_taken (Some limit) vol m st rd out {a} h came q t e f c =
    rw (h, ← came, q, below_all limit (stands_at st a.reader) t) (e, c ∙ ap (λ (x : Taken). cut_at limit st a.reader x x.next) f)

-- it gives what the reader gives: where that arrives at a record below the number, what next then gives, a hole that crosses the number ending there
pub below_next : (limit : ℕ) (vol : List ℕ) (m : Medium) (st : Store) (rd : Reader) (out : List ℕ) → stands_at st rd < limit
    → (arrive_of vol m st rd).more ≡ Ok true → stands_at st (arrive_of vol m st rd).reader < limit
    → below_of limit vol m st rd out ≡ cut_out limit st (arrive_of vol m st rd).reader (next_of vol m st rd out)
unfolding below_of next_of pick on_result
below_next limit vol m st rd out h more k = rw (lt-leb limit (stands_at st rd) h, more, lt-ltb (stands_at st (arrive_of vol m st rd).reader) limit k)

-- ---- the calls

module _ (limit : Option ℕ) (vol : List ℕ) (m : Medium) (st : Store) (rd : Reader) (out : List ℕ) {o : Result Unit Error} (asked : o ≡ readable_of (length out) vol st rd) where
  -- accepted, the store value and the reader pass, and the output has room
  pub read_needs : o ≡ Ok tt → (store_ok st (sectors_of vol) ≡ true) × (reader_ok rd st ≡ true) × (486 ≤ length out)
  unfolding readable_of pick
  read_needs q = go (ltb (length out) 486) refl (told asked q)
    where
      go : (b : Bool) → ltb (length out) 486 ≡ b → pick b (Err Range) (usable_of vol st rd) ≡ Ok tt → (store_ok st (sectors_of vol) ≡ true) × (reader_ok rd st ≡ true) × (486 ≤ length out)
      go true t w = not_done w
      go false t w = let u = usable_facts vol st rd refl w in (u.0, u.1, ltb-false (length out) 486 t)

  pub read_refused : {e : Error} → o ≡ Err e → read_answer (record { next = Err e; reader = rd; medium = m }) out ≡ read_call limit vol m st rd out
  unfolding read_call on_done
  read_refused q = rw (← asked, q)

  pub read_done : {t : Taken} {l : List ℕ} {n : Result Next Error} → o ≡ Ok tt → l ≡ (next_upto limit vol m st rd out).out
      → t ≡ (next_upto limit vol m st rd out).ans → n ≡ counted_of vol st t.reader t.next
      → read_answer (record { next = n; reader = t.reader; medium = m }) l ≡ read_call limit vol m st rd out
  unfolding read_call on_done
  read_done q e f k = rw (← asked, q, e, k, f)

-- with no limit it is the reader's call, and with one that of the reader up to it
choose : {A : Type 0} (b : Bool) (o : Result Unit Error) (y : A) (f : Error → A) → on_done (pick b (Err Range) o) y f ≡ pick b (f Range) (on_done o y f)
unfolding pick on_done
choose true o y f = refl
choose false o y f = refl

pub read_all : (vol : List ℕ) (m : Medium) (st : Store) (rd : Reader) (out : List ℕ) → read_call None vol m st rd out ≡ next_call vol m st rd out
unfolding read_call readable_of next_call next_upto
read_all vol m st rd out = choose (ltb (length out) 486) (usable_of vol st rd) _ _

abbrev as_upto : Upto → NextCall → UptoCall
as_upto u c = record { answer = c.answer; upto = same_limit u c.reader; out = c.out; medium = c.medium }

pub read_upto : (vol : List ℕ) (m : Medium) (st : Store) (u : Upto) (out l : List ℕ) (r : Read) → read_answer r l ≡ read_call (Some u.limit) vol m st u.reader out
    → upto_answer (record { next = r.next; upto = same_limit u r.reader; medium = r.medium }) l ≡ below_call vol m st u out
unfolding read_call readable_of below_call next_upto
read_upto vol m st u out l r e =
    ap (as_upto u) e ∙ ap (as_upto u) (choose (ltb (length out) 486) (usable_of vol st u.reader) _ _)
    ∙ through (as_upto u) (ltb (length out) 486) (usable_of vol st u.reader) _ _ _
