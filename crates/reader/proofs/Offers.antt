-- The calls on offer: each way out of its function, over plain values, and what a call hands back. Assumes nothing.
use Rattle.std.specs.Prelude.{Err, Ok, Result}
use mathlib.Core.Path.{◌≡◌, refl, ap}
use mathlib.Core.Bool.{true}
use mathlib.Core.List.{List}
use Prim.Native.Nat.{ℕ, ◌≤◌}
use native.Mathlib.Omega.{arith}
use borrow.Author.Tests.{ltb-false}
use lib.Dec.{ltb}
use lib.ListN.{length}
use Rattle.le.proofs.Choices.{pick_keeps_by}
use Rattle.medium.specs.declared.Error.{Error}
use Rattle.medium.specs.declared.Medium.{Medium}
use Rattle.medium.specs.Refusal.{number_of, ok, refused, on_done}
use Rattle.medium.specs.Sector.{sectors_of}
use Rattle.medium.proofs.Laws.{on_done_keeps}
use Rattle.record.specs.Record.{on_result}
use Rattle.record.proofs.Laws.{on_result_keeps}
use Rattle.handles.specs.declared.Store.{Store}
use Rattle.handles.proofs.Laws.{store_facts}
use Rattle.reader.specs.declared.Reader.{Reader}
use Rattle.reader.specs.declared.Found.{Found}
use Rattle.reader.specs.declared.Found.TheVariants as found
use Rattle.reader.specs.Reader.{reader_ok, seek_of}
use Rattle.reader.specs.Next.{next_of}
use Rattle.reader.specs.Blank.{counted_of}
use Rattle.reader.specs.Calls.{usable_of, payload, next_answer, NextCall, next_call, SeekCall, sought_answer, seek_call}
use Rattle.reader.proofs.Facts.{reader_facts, reader_ok_lem, usable_facts}
use Rattle.reader.proofs.Moves.{seek_reads}
use Rattle.reader.proofs.Finds.{Finds, next_finds}

-- ---- seek

-- what seeking answers: the reader moved, or the one that was given
module _ (vol : List ℕ) (m : Medium) (st : Store) (rd : Reader) (number : ℕ) {d : Result Reader Error} (asked : d ≡ on_done (usable_of vol st rd) (seek_of vol m st rd number) Err) where
  through : (o : Result Unit Error) (s : Result Reader Error) (f : Error → SeekCall) (g : Reader → SeekCall) → on_done o (on_result s f g) f ≡ on_result (on_done o s Err) f g
  unfolding on_done on_result
  through (Ok tt) s f g = refl
  through (Err e) s f g = refl

  pub seek_refused : {e : Error} → d ≡ Err e → sought_answer (record { outcome = Err e; reader = rd; medium = m }) ≡ seek_call vol m st rd number
  unfolding seek_call on_result
  seek_refused q = rw (through (usable_of vol st rd) (seek_of vol m st rd number) _ _, ← asked, q)

  pub seek_done : {r : Reader} → d ≡ Ok r → sought_answer (record { outcome = Ok tt; reader = r; medium = m }) ≡ seek_call vol m st rd number
  unfolding seek_call on_result
  seek_done q = rw (through (usable_of vol st rd) (seek_of vol m st rd number) _ _, ← asked, q)

-- the reader handed back passes refusal 3 again
pub seek_ok : (vol : List ℕ) (m : Medium) (st : Store) (rd : Reader) (number : ℕ) → reader_ok rd st ≡ true → reader_ok (seek_call vol m st rd number).reader st ≡ true
unfolding seek_call
seek_ok vol m st rd number r =
    on_done_keeps (λ (c : SeekCall). reader_ok c.reader st ≡ true) (usable_of vol st rd) _ _
    (λ q. on_result_keeps (λ (c : SeekCall). reader_ok c.reader st ≡ true) (seek_of vol m st rd number) _ _ (λ e o. r)
    (λ b o. reader_ok_lem b st (seek_reads vol m st rd number (store_facts st (sectors_of vol) (usable_facts vol st rd refl q).0).head.size_least (reader_facts rd st r) o)))
    (λ e q. r)

-- ---- next

-- what it hands back: a reader that passes, an output of the same length, and no more payload than a record has
pub record Offered (st : Store) (out : List ℕ) (c : NextCall) : Type 0 where
  pub reader : reader_ok c.reader st ≡ true
  pub kept : length c.out ≡ length out
  pub size : (n : ℕ) → c.answer ≡ ok (payload n) → (1 ≤ n) × (n ≤ 486)

payload_only : (vol : List ℕ) (st : Store) (rd : Reader) (x : Result Found Error) (n : ℕ) → next_answer (counted_of vol st rd x) ≡ ok (payload n) → x ≡ Ok (found.Payload n)
unfolding counted_of
payload_only vol st rd (Err e) n q = absurd (let z : ◌≡◌ {A = ℕ} 0 1 = cc in omega arith)
payload_only vol st rd (Ok (found.Payload k)) n q = let z : k ≡ n = cc in ap (λ (x : ℕ). Ok (found.Payload x)) z
payload_only vol st rd (Ok (found.Hole a b)) n q = absurd (let z : ◌≡◌ {A = ℕ} 0 1 = cc in omega arith)
payload_only vol st rd (Ok found.End) n q = absurd (let z : ◌≡◌ {A = ℕ} 0 1 = cc in omega arith)

module _ (vol : List ℕ) (m : Medium) (st : Store) (rd : Reader) (out : List ℕ) (r : reader_ok rd st ≡ true) where
  declined : (n : ℕ) → Offered st out (record { answer = refused n; reader = rd; out = out; medium = m })
  declined n = record { reader = r; kept = refl; size = λ k q. absurd (let z : ◌≡◌ {A = ℕ} 0 1 = cc in omega arith) }

  pub next_offered : Offered st out (next_call vol m st rd out)
  unfolding next_call
  next_offered =
      pick_keeps_by (Offered st out) (ltb (length out) 486) _ _ (λ t. declined 2)
      (λ t. on_done_keeps (Offered st out) (usable_of vol st rd) _ _
      (λ q.
      let f : Finds st out (next_of vol m st rd out) = next_finds vol m st out (usable_facts vol st rd refl q).0 (ltb-false _ _ t) rd (reader_facts rd st r) in
      record {
        reader = reader_ok_lem _ st f.reads;
        kept = f.kept;
        size = λ n w. f.size n (payload_only vol st (next_of vol m st rd out).ans.reader (next_of vol m st rd out).ans.next n w);
      })
      (λ e q. declined (number_of e)))
