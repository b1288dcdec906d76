-- 01, "Edges": appending 485, 486 and 487 bytes, by the laws of runs of bytes. Assumes nothing.
use Rattle.std.specs.Prelude.{Ok}
use mathlib.Core.Path.{◌≡◌, refl, sym, ap, ◌∙◌}
use mathlib.Core.List.{List, [], ◌∷◌, ◌++◌}
use Prim.Native.Nat.{ℕ, ◌+◌, ◌-◌, ◌≤◌, ◌<◌}
use native.Mathlib.Omega.{arith}
use borrow.Author.Tests.{ne_eqb, lt-ltb, le-leb}
use lib.Dec.{lit≤}
use lib.ListN.{length, replicate, take, drop, length-take, length-drop, take-append-drop}
use Rattle.le.proofs.Choices.{pick_true, pick_false}
use Rattle.le.proofs.Parts.{length_over}
use Rattle.medium.specs.declared.Medium.{Medium}
use Rattle.medium.specs.declared.Written.{Written}
use Rattle.medium.specs.Refusal.{ok, outcome_of}
use Rattle.medium.specs.Sector.{spend_of, write_of}
use Rattle.medium.proofs.Laws.{on_done_done}
use Rattle.handles.specs.declared.Store.{Store}
use Rattle.plan.specs.Copy.{Step}
use Rattle.append.specs.declared.Appender.{Appender}
use Rattle.append.specs.declared.Tail.TheVariants.{At}
use Rattle.append.specs.Flush.{AppOut, after, and_then, done, with_run, record_out, on_tail, write_out, flush_of, append_of}
use Rattle.append.specs.Calls.{call_of, offered, append_call, room_call}
use Rattle.append.proofs.Runs.{run_short, run_fills}
use Rattle.append.proofs.Then.{then_done, append_parts}
use Rattle.store.specs.Edges.{a_record, Wrote, Ready}

-- ---- a record with a write left

spend_done : (m : Medium) → 1 ≤ m.left → (spend_of m).outcome ≡ Ok tt
unfolding spend_of
spend_done m h = ap (λ (w : Written). w.outcome) (pick_false _ _ (ne_eqb m.left 0 (λ q. omega arith)))

spend_left : (m : Medium) → 1 ≤ m.left → (spend_of m).medium.left + 1 ≡ m.left
unfolding spend_of
spend_left m h = rw (pick_false _ _ (ne_eqb m.left 0 (λ q. omega arith))) (omega arith)

-- the appender goes on behind its record
pub record Recorded (m : Medium) (o : AppOut) (a : Appender) : Type 0 where
  pub done : o.ans.outcome ≡ Ok tt
  pub step : o.steps ≡ a_record ∷ []
  pub spent : o.ans.medium.left + 1 ≡ m.left
  pub empty : o.ans.appender.fill ≡ 0
  pub kept : o.ans.appender.buffer ≡ a.buffer

-- with room in the chunk a record goes there
pub write_here : (vol : List ℕ) (m : Medium) (st : Store) (a : Appender) (i : ℕ) → a.tail ≡ At i → i < st.head.chunk
    → write_out vol m st a ≡ record_out i vol m st a
unfolding write_out on_tail
write_here vol m st a i t h = rw t (pick_true _ _ (lt-ltb i st.head.chunk h))

module _ (vol : List ℕ) (m : Medium) (st : Store) (a : Appender) (i : ℕ) (left : 1 ≤ m.left) where
  recorded_at : Recorded m (record_out i vol m st a) a
  unfolding record_out write_of
  recorded_at = rw (on_done_done _ _ (spend_done m left)) (record { done = refl; step = refl; spent = spend_left m left; empty = refl; kept = refl })

  flushed : a.tail ≡ At i → i < st.head.chunk → Recorded m (flush_of vol m st a) a
  unfolding flush_of
  flushed t h = rw (write_here vol m st a i t h, on_done_done _ _ recorded_at.done) recorded_at

-- ---- the call

room_left : (a : Appender) {n : ℕ} → a.fill ≡ n → n ≤ 486 → room_call a ≡ ok (486 - n)
unfolding room_call
room_left a {n} e h = rw e (pick_true _ _ (le-leb n 486 h))

module _ (vol : List ℕ) (m : Medium) (st : Store) (a : Appender) (bytes : List ℕ) (ready : Ready vol m st a) where
  called : append_call vol m st a bytes ≡ call_of (append_of bytes vol m st a)
  unfolding append_call offered
  called = on_done_done _ _ ready.may

  wrote : (o : AppOut) (records n : ℕ) → append_of bytes vol m st a ≡ o → o.ans.outcome ≡ Ok tt → o.steps ≡ replicate records a_record → o.ans.medium.left + records ≡ m.left → o.ans.appender.fill ≡ n → n ≤ 486
      → Wrote m (append_call vol m st a bytes) records (486 - n)
  wrote o records n e d s l f h = rw (called, e) (ap outcome_of d, s, l, room_left o.ans.appender f h)

  pub append_485 : length bytes ≡ 485 → Wrote m (append_call vol m st a bytes) 0 1
  append_485 h =
      let n : a.fill + length bytes ≡ 485 = omega (arith, ready.empty) in
      wrote (done vol m st (with_run bytes a)) 0 485 (run_short bytes vol m st a ready.size (omega arith)) refl refl (omega arith) n (lit≤ tt)

-- 486 bytes are a record
module _ (vol : List ℕ) (m : Medium) (st : Store) (a : Appender) (bytes : List ℕ) (ready : Ready vol m st a) (size : length bytes ≡ 486) where
  fills : append_of bytes vol m st a ≡ flush_of vol m st (with_run bytes a)
  fills = run_fills bytes vol m st a ready.size (omega arith) (omega (arith, ready.empty))

  filled : Recorded m (flush_of vol m st (with_run bytes a)) (with_run bytes a)
  filled = flushed vol m st (with_run bytes a) ready.index ready.left ready.at ready.room

  -- the buffer keeps its size
  buffer_kept : length (with_run bytes a).buffer ≡ 486
  buffer_kept = length_over a.fill bytes a.buffer (omega (arith, ready.empty, ready.size)) ∙ ready.size

  pub append_486 : Wrote m (append_call vol m st a bytes) 1 486
  append_486 = wrote vol m st a bytes ready (flush_of vol m st (with_run bytes a)) 1 0 fills filled.done filled.step filled.spent filled.empty (lit≤ tt)

module _ (vol : List ℕ) (m : Medium) (st : Store) (a : Appender) (bytes : List ℕ) (ready : Ready vol m st a) (size : length bytes ≡ 487) where
  pub append_487 : Wrote m (append_call vol m st a bytes) 1 485
  append_487 =
      let xs : List ℕ = take 486 bytes in
      let ys : List ℕ = drop 486 bytes in
      let p : length xs ≡ 486 = simp length-take (omega arith) in
      let q : length ys ≡ 1 = simp length-drop (omega arith) in
      let x : AppOut = flush_of vol m st (with_run xs a) in
      let r : Recorded m x (with_run xs a) = filled vol m st a xs ready p in
      let b : Appender = x.ans.appender in
      let l : length b.buffer ≡ 486 = ap length r.kept ∙ buffer_kept vol m st a xs ready p in
      let n : b.fill + length ys ≡ 1 = omega (arith, r.empty) in
      let y : AppOut = done x.vol x.ans.medium x.ans.store (with_run ys b) in
      let e : append_of bytes vol m st a ≡ after x.steps y =
      ap (λ (z : List ℕ). append_of z vol m st a) (sym (take-append-drop 486 bytes))
      ∙ append_parts xs ys vol m st a
      ∙ ap (λ (o : AppOut). and_then o (append_of ys)) (fills vol m st a xs ready p)
      ∙ then_done x (append_of ys) r.done
      ∙ ap (after x.steps) (run_short ys x.vol x.ans.medium x.ans.store b l (omega arith)) in
      wrote vol m st a bytes ready (after x.steps y) 1 1 e refl (ap (λ (k : List Step). k ++ []) r.step) r.spent n (lit≤ tt)
