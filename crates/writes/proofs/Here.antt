-- Records that go into the appender's own chunk: a write each, and nothing else. On any volume, with any handle. Assumes nothing.
use Rattle.std.specs.Prelude.{Ok}
use Prim.Native.Nat.{ℕ, suc, ◌+◌, ◌/◌, ◌≤◌, ◌<◌}
use mathlib.Core.Path.{◌≡◌, refl, sym, subst}
use mathlib.Core.Bool.{true, false}
use mathlib.Core.List.{List, [], ◌∷◌}
use native.Mathlib.Nat.{zero-add}
use native.Mathlib.Omega.{arith}
use borrow.Author.Tests.{eqb-true, eqb-false}
use lib.Dec.{eqb}
use lib.ListN.{length}
use Rattle.le.specs.Part.{part}
use Rattle.le.proofs.Choices.{pick_keeps, pick_keeps_by}
use Rattle.medium.specs.declared.Medium.{Medium}
use Rattle.medium.specs.Refusal.{on_done}
use Rattle.medium.proofs.Laws.{on_done_keeps}
use Rattle.handles.specs.declared.Store.{Store}
use Rattle.record.specs.Record.{data_at, record_of, number_at}
use Rattle.append.specs.declared.Appender.{Appender}
use Rattle.append.specs.declared.Tail.TheVariants.{At}
use Rattle.append.specs.Flush.{AppOut, done, and_then, record_out, write_out, flush_of, pushed, put_byte, append_of, sync_of}
use Rattle.append.specs.Calls.{AppCall, may_write, offered, append_call, sync_call}
use Rattle.append.proofs.Facts.{may_facts}
use Rattle.store.proofs.Appends.{write_here}
use Rattle.safe.proofs.Frame.{clash}
use Rattle.writes.specs.Writes.{Most}
use Rattle.writes.proofs.Copies.{write_most}

-- one write; accepted, the next record follows in the same chunk
pub record Here (i : ℕ) (m : Medium) (st : Store) (o : AppOut) : Type 0 where
  pub one : Most 1 m o.ans.medium
  pub store : o.ans.outcome ≡ Ok tt → o.ans.store ≡ st
  pub tail : o.ans.outcome ≡ Ok tt → o.ans.appender.tail ≡ At (i + 1)
  pub fill : o.ans.outcome ≡ Ok tt → o.ans.appender.fill ≡ 0

module _ (vol : List ℕ) (m : Medium) (st : Store) (a : Appender) (i : ℕ) (at : a.tail ≡ At i) (room : i < st.head.chunk) where
  record_here_lem : Here i m st (record_out i vol m st a)
  unfolding record_out
  record_here_lem =
      let l = write_most vol m (data_at st a.chunk i) (record_of st.head.id a.id (number_at a.position st.head.chunk i) (part 0 a.fill a.buffer)) in
      on_done_keeps (Here i m st) _ _ _
      (λ _. record { one = l; store = λ _. refl; tail = λ _. refl; fill = λ _. refl })
      (λ e _. record { one = l; store = clash refl; tail = clash refl; fill = clash refl })

  flush_here : Here i m st (flush_of vol m st a)
  unfolding flush_of
  flush_here =
      let x : Here i m st (write_out vol m st a) = subst (Here i m st) (sym (write_here vol m st a i at room)) record_here_lem in
      on_done_keeps (Here i m st) (write_out vol m st a).ans.outcome _ _ (λ _. x)
      (λ e _. record { one = x.one; store = clash refl; tail = clash refl; fill = clash refl })

-- ---- an append, record by record

module _ (b : ℕ) (bs : List ℕ) (st : Store)
    (rest : (v : List ℕ) (u : Medium) (x : Appender) (j : ℕ) → x.tail ≡ At j → x.fill < 486 → j + (x.fill + length bs) / 486 ≤ st.head.chunk
    → Most ((x.fill + length bs) / 486) u (append_of bs v u st x).ans.medium)
    (vol : List ℕ) (m : Medium) (a : Appender) (i : ℕ) (at : a.tail ≡ At i) (h : a.fill < 486) (room : i + (a.fill + length (b ∷ bs)) / 486 ≤ st.head.chunk) where
  abbrev Adds : AppOut → Type 0
  Adds o = Most ((a.fill + length (b ∷ bs)) / 486) m o.ans.medium

  filled : eqb (a.fill + 1) 486 ≡ true → Adds (and_then (flush_of vol m st (pushed b a)) (append_of bs))
  unfolding and_then
  filled t =
      let o : AppOut = flush_of vol m st (pushed b a) in
      let many : (a.fill + length (b ∷ bs)) / 486 ≡ suc (length bs / 486) = omega (arith, eqb-true (a.fill + 1) 486 t) in
      let x = flush_here vol m st (pushed b a) i at (omega (arith, room, many)) in
      on_done_keeps Adds o.ans.outcome _ _
      (λ d.
      let z = x.fill d in
      let n : (o.ans.appender.fill + length bs) / 486 ≡ length bs / 486 = rw (z, zero-add (length bs)) refl in
      let y = rest o.vol o.ans.medium o.ans.appender (i + 1) (x.tail d) (omega (arith, z)) (omega (arith, n, room, many)) in
      let w : Most ((o.ans.appender.fill + length bs) / 486) o.ans.medium (append_of bs o.vol o.ans.medium o.ans.store o.ans.appender).ans.medium =
      subst (λ (s : Store). Most ((o.ans.appender.fill + length bs) / 486) o.ans.medium (append_of bs o.vol o.ans.medium s o.ans.appender).ans.medium) (sym (x.store d)) y in
      omega (arith, x.one, w, n, many))
      (λ e _. omega (arith, x.one, many))

  kept : eqb (a.fill + 1) 486 ≡ false → Adds (and_then (done vol m st (pushed b a)) (append_of bs))
  unfolding and_then on_done
  kept t =
      let n : a.fill + 1 + length bs ≡ a.fill + length (b ∷ bs) = omega arith in
      subst (λ (k : ℕ). Most (k / 486) m (append_of bs vol m st (pushed b a)).ans.medium) n
      (rest vol m (pushed b a) i at (omega (arith, h, eqb-false (a.fill + 1) 486 t)) (rw n room))

  byte_adds : Adds (and_then (put_byte b vol m st a) (append_of bs))
  unfolding put_byte
  byte_adds = pick_keeps_by (λ (o : AppOut). Adds (and_then o (append_of bs))) (eqb (a.fill + 1) 486) _ _ filled kept

append_adds : (bytes vol : List ℕ) (m : Medium) (st : Store) (a : Appender) (i : ℕ) → a.tail ≡ At i → a.fill < 486
    → i + (a.fill + length bytes) / 486 ≤ st.head.chunk → Most ((a.fill + length bytes) / 486) m (append_of bytes vol m st a).ans.medium
unfolding append_of
append_adds [] vol m st a i at h room = omega arith
append_adds (b ∷ bs) vol m st a i at h room = byte_adds b bs st (λ v u x j. append_adds bs v u st x j) vol m a i at h room

-- ---- the calls

module _ (vol : List ℕ) (m : Medium) (st : Store) (a : Appender) (i : ℕ) (at : a.tail ≡ At i) where
  -- an append whose records all go into the chunk: as many writes
  pub append_here : length a.buffer ≡ 486 → (bytes : List ℕ) → i + (a.fill + length bytes) / 486 ≤ st.head.chunk
      → Most ((a.fill + length bytes) / 486) m (append_call vol m st a bytes).call.medium
  unfolding append_call offered
  append_here full bytes room =
      on_done_keeps (λ (x : AppCall). Most ((a.fill + length bytes) / 486) m x.call.medium) (may_write vol st a) _ _
      (λ q. append_adds bytes vol m st a i at (may_facts vol st a full q).room room)
      (λ e _. omega arith)

  -- a sync: one
  pub sync_here : i < st.head.chunk → Most 1 m (sync_call vol m st a).call.medium
  unfolding sync_call offered sync_of
  sync_here room =
      on_done_keeps (λ (x : AppCall). Most 1 m x.call.medium) (may_write vol st a) _ _
      (λ _. pick_keeps (λ (o : AppOut). Most 1 m o.ans.medium) (eqb a.fill 0) _ _ (omega arith) (flush_here vol m st a i at room).one)
      (λ e _. omega arith)
