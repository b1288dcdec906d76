-- A run of bytes goes as its bytes one by one: one that does not fill the buffer, and one that does. Assumes nothing.
use Rattle.std.specs.Prelude.{Err, Ok}
use mathlib.Core.Path.{◌≡◌, refl, sym, ap, ap₂, ◌∙◌}
use mathlib.Core.Bool.{Bool, true, false}
use mathlib.Core.List.{List, [], ◌∷◌, ◌++◌}
use Prim.Native.Nat.{ℕ, suc, ◌+◌, ◌-◌, ◌≤◌, ◌<◌}
use native.Mathlib.Numerals.{add-one}
use native.Mathlib.Omega.{arith}
use borrow.Author.Tests.{eq-eqb, ne_eqb, eqb-true, eqb-false, ltb-true, ltb-false}
use lib.Dec.{eqb, ltb}
use lib.ListN.{length, set, take, drop, length-set, length-take, length-drop, take-append-drop, drop_of_length-le}
use lib.Seq.{sets-eq, drop-drop}
use Rattle.le.specs.Part.{over}
use Rattle.le.proofs.Parts.{length_over}
use Rattle.le.proofs.Choices.{pick_true, pick_false, pick_keeps, pick_keeps_by}
use Rattle.medium.specs.declared.Error.{Error}
use Rattle.medium.specs.declared.Medium.{Medium}
use Rattle.medium.proofs.Laws.{on_done_keeps}
use Rattle.handles.specs.declared.Store.{Store}
use Rattle.remove.proofs.Keeps.{Good, stands_none}
use Rattle.append.specs.declared.Appender.{Appender}
use Rattle.append.specs.declared.Handed.{Handed}
use Rattle.append.specs.Appender.{Fit}
use Rattle.append.specs.Flush.{AppOut, done, after, and_then, flush_of, holding, pushed, put_byte, append_of, sync_of, with_run, run_of}
use Rattle.append.proofs.Then.{GivesA, Same, along, then_done, then_no, then_nothing, append_parts}
use Rattle.append.proofs.Keeps.{Goes, goes_more, flush_goes, flush_empties}

-- ---- the buffer

over_none : (i : ℕ) (l : List ℕ) → i ≤ length l → over i [] l ≡ l
unfolding over
over_none i l h = sym (sets-eq [] l i (omega arith))

over_more : (i b : ℕ) (bs l : List ℕ) → i + suc (length bs) ≤ length l → over (i + 1) bs (set l i b) ≡ over i (b ∷ bs) l
unfolding over
over_more i b bs l h =
    let n : length (set l i b) ≡ length l = length-set l i b in
    let f : suc i + length bs ≤ length (set l i b) = rw n (omega arith) in
    rw add-one (sym (sets-eq bs (set l i b) (suc i) f) ∙ sets-eq (b ∷ bs) l i h)

run_none : (a : Appender) → a.fill ≤ length a.buffer → with_run [] a ≡ a
run_none a h = let z : a.fill + 0 ≡ a.fill = omega arith in ap₂ (holding a) z (over_none a.fill a.buffer h)

run_more : (b : ℕ) (bs : List ℕ) (a : Appender) → a.fill + suc (length bs) ≤ length a.buffer → with_run bs (pushed b a) ≡ with_run (b ∷ bs) a
run_more b bs a h =
    let z : a.fill + 1 + length bs ≡ a.fill + suc (length bs) = omega arith in
    ap₂ (holding a) z (over_more a.fill b bs a.buffer h)

-- ---- the bytes

byte_kept : (b : ℕ) (vol : List ℕ) (m : Medium) (st : Store) (a : Appender) → (a.fill + 1 ≡ 486 → ⊥) → put_byte b vol m st a ≡ done vol m st (pushed b a)
unfolding put_byte
byte_kept b vol m st a n = pick_false _ _ (ne_eqb _ _ n)

byte_last : (b : ℕ) (vol : List ℕ) (m : Medium) (st : Store) (a : Appender) → a.fill + 1 ≡ 486 → put_byte b vol m st a ≡ flush_of vol m st (pushed b a)
unfolding put_byte
byte_last b vol m st a n = pick_true _ _ (eq-eqb _ _ n)

-- a byte that does not fill the buffer, and those after it
byte_first : (b : ℕ) (bs vol : List ℕ) (m : Medium) (st : Store) (a : Appender) → (a.fill + 1 ≡ 486 → ⊥) → append_of (b ∷ bs) vol m st a ≡ append_of bs vol m st (pushed b a)
unfolding append_of
byte_first b bs vol m st a n =
    ap (λ (o : AppOut). and_then o (append_of bs)) (byte_kept b vol m st a n) ∙ then_done (done vol m st (pushed b a)) (append_of bs) refl

pub run_short : (bs vol : List ℕ) (m : Medium) (st : Store) (a : Appender) → length a.buffer ≡ 486 → a.fill + length bs < 486
    → append_of bs vol m st a ≡ done vol m st (with_run bs a)
unfolding append_of
run_short [] vol m st a l h = ap (done vol m st) (sym (run_none a (rw l (omega arith))))
run_short (b ∷ bs) vol m st a l h =
    byte_first b bs vol m st a (λ q. omega arith)
    ∙ run_short bs vol m st (pushed b a) (length-set a.buffer a.fill b ∙ l) (omega arith)
    ∙ ap (done vol m st) (run_more b bs a (rw l (omega arith)))

pub run_full : (b : ℕ) (bs vol : List ℕ) (m : Medium) (st : Store) (a : Appender) → length a.buffer ≡ 486 → a.fill + suc (length bs) ≡ 486
    → append_of (b ∷ bs) vol m st a ≡ flush_of vol m st (with_run (b ∷ bs) a)
unfolding append_of
run_full b [] vol m st a l h =
    let p : with_run [] (pushed b a) ≡ with_run (b ∷ []) a = run_more b [] a (rw l (omega arith)) in
    let n : a.fill + 1 ≤ length (set a.buffer a.fill b) = rw (length-set a.buffer a.fill b, l) (omega arith) in
    let e : pushed b a ≡ with_run (b ∷ []) a = sym (run_none (pushed b a) n) ∙ p in
    ap (λ (o : AppOut). and_then o (append_of [])) (byte_last b vol m st a (omega arith) ∙ ap (flush_of vol m st) e) ∙ then_nothing (flush_of vol m st (with_run (b ∷ []) a))
run_full b (c ∷ bs) vol m st a l h =
    byte_first b (c ∷ bs) vol m st a (λ q. omega arith)
    ∙ run_full c bs vol m st (pushed b a) (length-set a.buffer a.fill b ∙ l) (omega arith)
    ∙ ap (flush_of vol m st) (run_more b (c ∷ bs) a (rw l (omega arith)))

pub run_fills : (bs vol : List ℕ) (m : Medium) (st : Store) (a : Appender) → length a.buffer ≡ 486 → 1 ≤ length bs → a.fill + length bs ≡ 486
    → append_of bs vol m st a ≡ flush_of vol m st (with_run bs a)
run_fills [] vol m st a l one h = absurd (omega arith)
run_fills (b ∷ bs) vol m st a l one h = run_full b bs vol m st a l h

-- ---- the ways out of a run

module _ (bs vol : List ℕ) (m : Medium) (st : Store) (a : Appender) (l : length a.buffer ≡ 486) {x : Appender} (hx : x ≡ with_run bs a) where
  pub put_full : {v : List ℕ} {r : Handed} → 1 ≤ length bs → x.fill ≡ 486 → GivesA v r (flush_of vol m st x) → GivesA v r (append_of bs vol m st a)
  put_full one f g =
      let n : a.fill + length bs ≡ 486 = sym (ap (λ (y : Appender). y.fill) hx) ∙ f in
      along g (ap (flush_of vol m st) hx ∙ sym (run_fills bs vol m st a l one n))

  pub put_kept : a.fill + length bs ≤ 486 → (x.fill ≡ 486 → ⊥) → GivesA vol (record { outcome = Ok tt; medium = m; store = st; appender = x }) (append_of bs vol m st a)
  put_kept h f =
      let n : a.fill + length bs ≡ 486 → ⊥ = λ q. f (ap (λ (y : Appender). y.fill) hx ∙ q) in
      let e : append_of bs vol m st a ≡ done vol m st (with_run bs a) = run_short bs vol m st a l (omega arith) in
      along (refl, ap (λ (y : Appender). record { outcome = Ok tt; medium = m; store = st; appender = y }) hx) (sym e)

-- a run that fills the record, said in the words of the code, so that the check finds it under any condition of the code
pub run_filled : (bs vol : List ℕ) (m : Medium) (st : Store) (a : Appender) (v : List ℕ) (r : Handed) (b : List ℕ) → Fit a st → 1 ≤ length bs → a.fill + length bs ≡ 486
    → b ≡ over a.fill bs a.buffer → v ≡ (flush_of vol m st (holding a (a.fill + length bs) b)).vol → r ≡ (flush_of vol m st (holding a (a.fill + length bs) b)).ans
    → (v ≡ (append_of bs vol m st a).vol) × (r ≡ (append_of bs vol m st a).ans)
run_filled bs vol m st a v r b fit one n e p q = put_full bs vol m st a fit.full (ap (holding a (a.fill + length bs)) e) one n (p, q)

run_fit : (bs : List ℕ) (a : Appender) (st : Store) → Fit a st → a.fill + length bs ≤ 486 → Fit (with_run bs a) st
run_fit bs a st f h = record { slot = f.slot; chunk = f.chunk; position = f.position; fill = h; full = length_over a.fill bs a.buffer (rw f.full h) ∙ f.full; tail = f.tail; dir = f.dir }

pub with_fit : (bs : List ℕ) (a : Appender) (st : Store) {x : Appender} → x ≡ with_run bs a → Fit a st → a.fill + length bs ≤ 486 → Fit x st
with_fit bs a st hx f h = rw hx (run_fit bs a st f h)

-- what a run leaves: room, where it was accepted
pub record Puts (vol : List ℕ) (m : Medium) (st : Store) (o : AppOut) : Type 0 where
  pub goes : Goes vol m st o
  pub room : o.ans.outcome ≡ Ok tt → o.ans.appender.fill < 486

module _ (bs vol : List ℕ) (m : Medium) (st : Store) (a : Appender) (good : Good vol st) (fit : Fit a st) (one : 1 ≤ length bs) (h : a.fill + length bs ≤ 486) where
  pub run_puts : Puts vol m st (append_of bs vol m st a)
  run_puts = go (eqb (a.fill + length bs) 486) refl
    where
      go : (t : Bool) → eqb (a.fill + length bs) 486 ≡ t → Puts vol m st (append_of bs vol m st a)
      go true q =
          let e : append_of bs vol m st a ≡ flush_of vol m st (with_run bs a) = run_fills bs vol m st a fit.full one (eqb-true _ _ q) in
          let g : Goes vol m st (flush_of vol m st (with_run bs a)) = flush_goes vol m st (with_run bs a) good (run_fit bs a st fit h) in
          rw e (record { goes = g; room = λ d. let z = flush_empties vol m st (with_run bs a) d in omega (arith, z) })
      go false q =
          let n : a.fill + length bs ≡ 486 → ⊥ = eqb-false _ _ q in
          let e : append_of bs vol m st a ≡ done vol m st (with_run bs a) = run_short bs vol m st a fit.full (omega arith) in
          rw e (record { goes = (stands_none vol m st good, run_fit bs a st fit h); room = λ d. omega arith })

-- ---- what append and sync keep

pub pushed_fit : (b : ℕ) (a : Appender) (st : Store) → Fit a st → a.fill < 486 → Fit (pushed b a) st
pushed_fit b a st f h =
    record {
      slot = f.slot;
      chunk = f.chunk;
      position = f.position;
      fill = omega arith;
      full = length-set a.buffer a.fill b ∙ f.full;
      tail = f.tail;
      dir = f.dir;
    }

module _ (vol : List ℕ) (m : Medium) (st : Store) (a : Appender) (good : Good vol st) (fit : Fit a st) (h : a.fill < 486) where
  pub byte_puts : (b : ℕ) → Puts vol m st (put_byte b vol m st a)
  unfolding put_byte
  byte_puts b =
      let x : Appender = pushed b a in
      let f : Fit x st = pushed_fit b a st fit h in
      pick_keeps_by (Puts vol m st) (eqb (a.fill + 1) 486) _ _
      (λ _. record { goes = flush_goes vol m st x good f; room = λ d. let z = flush_empties vol m st x d in omega (arith, z) })
      (λ t. let n : a.fill + 1 ≡ 486 → ⊥ = eqb-false _ _ t in record { goes = (stands_none vol m st good, f); room = λ _. omega arith })

  pub sync_puts : Puts vol m st (sync_of vol m st a)
  unfolding sync_of
  sync_puts =
      pick_keeps (Puts vol m st) (eqb a.fill 0) _ _
      (record { goes = (stands_none vol m st good, fit); room = λ _. h })
      (record { goes = flush_goes vol m st a good fit; room = λ d. let z = flush_empties vol m st a d in omega (arith, z) })

pub append_puts : (bytes vol : List ℕ) (m : Medium) (st : Store) (a : Appender) → Good vol st → Fit a st → a.fill < 486 → Puts vol m st (append_of bytes vol m st a)
unfolding append_of and_then
append_puts [] vol m st a good fit h = record { goes = (stands_none vol m st good, fit); room = λ _. h }
append_puts (b ∷ bs) vol m st a good fit h =
    let o : AppOut = put_byte b vol m st a in
    let p : Puts vol m st o = byte_puts vol m st a good fit h b in
    let x : AppOut = append_of bs o.vol o.ans.medium o.ans.store o.ans.appender in
    on_done_keeps (Puts vol m st) o.ans.outcome _ _
    (λ q.
    let n : Puts o.vol o.ans.medium o.ans.store x = append_puts bs o.vol o.ans.medium o.ans.store o.ans.appender p.goes.0.good p.goes.1 (p.room q) in
    record { goes = goes_more x p.goes.0 n.goes; room = n.room })
    (λ _ _. p)

-- ---- the loop over the bytes

pub run_size : (fill left : ℕ) → fill < 486 → 1 ≤ left → (1 ≤ run_of fill left) × (run_of fill left ≤ left) × (fill + run_of fill left ≤ 486)
unfolding run_of
run_size fill left h one =
    pick_keeps_by (λ (n : ℕ). (1 ≤ n) × (n ≤ left) × (fill + n ≤ 486)) (ltb left (486 - fill)) _ _
    (λ t. let q : left < 486 - fill = ltb-true _ _ t in (one, omega arith, omega arith))
    (λ t. let q : 486 - fill ≤ left = ltb-false _ _ t in (omega arith, q, omega arith))

module _ (bytes : List ℕ) (i : ℕ) (vol : List ℕ) (m : Medium) (st : Store) (a : Appender) where
  pub put_end : length bytes ≤ i → GivesA vol (record { outcome = Ok tt; medium = m; store = st; appender = a }) (append_of (drop i bytes) vol m st a)
  unfolding append_of
  put_end h = rw (drop_of_length-le bytes h) (refl, refl)

  module _ (n : ℕ) {v : List ℕ} {r : Handed} (g : GivesA v r (append_of (take (i + n - i) (drop i bytes)) vol m st a)) where
    parts : append_of (drop i bytes) vol m st a ≡ and_then (append_of (take (i + n - i) (drop i bytes)) vol m st a) (append_of (drop (i + n) bytes))
    parts =
        let k : i + n - i ≡ n = omega arith in
        let e : take (i + n - i) (drop i bytes) ++ drop (i + n) bytes ≡ drop i bytes = rw (k, ← drop-drop n i bytes) (take-append-drop n (drop i bytes)) in
        ap (λ (l : List ℕ). append_of l vol m st a) (sym e) ∙ append_parts (take (i + n - i) (drop i bytes)) (drop (i + n) bytes) vol m st a

    pub put_stopped : {e : Error} → r.outcome ≡ Err e → GivesA v r (append_of (drop i bytes) vol m st a)
    put_stopped d = along g (sym (parts ∙ then_no _ _ (ap (λ (f : Handed). f.outcome) (sym g.1) ∙ d)))

    pub put_turn : r.outcome ≡ Ok tt → Same (append_of (drop (i + n) bytes) v r.medium r.store r.appender) (append_of (drop i bytes) vol m st a)
    put_turn d =
        let o : AppOut = append_of (take (i + n - i) (drop i bytes)) vol m st a in
        let rest : List ℕ = drop (i + n) bytes in
        let q : o.ans.outcome ≡ (Ok tt) = ap (λ (f : Handed). f.outcome) (sym g.1) ∙ d in
        let e : append_of (drop i bytes) vol m st a ≡ after o.steps (append_of rest o.vol o.ans.medium o.ans.store o.ans.appender) = parts ∙ then_done o (append_of rest) q in
        let f : append_of rest v r.medium r.store r.appender ≡ append_of rest o.vol o.ans.medium o.ans.store o.ans.appender =
        ap₂ (λ (w : List ℕ) (x : Handed). append_of rest w x.medium x.store x.appender) g.0 g.1 in
        (ap (λ (x : AppOut). x.vol) f ∙ sym (ap (λ (x : AppOut). x.vol) e), ap (λ (x : AppOut). x.ans) f ∙ sym (ap (λ (x : AppOut). x.ans) e))

-- what the loop keeps: from here the definition gives what it gives from the start
pub record Going (bytes vol₀ : List ℕ) (m₀ : Medium) (s₀ : Store) (a₀ : Appender) (vol : List ℕ) (m : Medium) (s : Store) (a : Appender) (i : ℕ) : Type 0 where
  pub low : i ≤ length bytes
  pub size : length vol ≡ length vol₀
  pub good : Good vol s
  pub fit : Fit a s
  pub room : a.fill < 486
  pub same : Same (append_of (drop i bytes) vol m s a) (append_of bytes vol₀ m₀ s₀ a₀)

-- a turn's run: it is inside the bytes, and fits
pub turn_fits : (bytes : List ℕ) (i fill : ℕ) {n : ℕ} → n ≡ run_of fill (length bytes - i) → fill < 486 → i < length bytes
    → (i + n ≤ length bytes) × (1 ≤ n) × (1 ≤ length (take (i + n - i) (drop i bytes))) × (fill + length (take (i + n - i) (drop i bytes)) ≤ 486)
turn_fits bytes i fill {n} e h k =
    let left : ℕ = length bytes - i in
    let t : (1 ≤ n) × (n ≤ left) × (fill + n ≤ 486) = rw e (run_size fill left h (omega arith)) in
    let low : i + n ≤ length bytes = omega (arith, t.1) in
    let size : length (take (i + n - i) (drop i bytes)) ≡ n = simp (length-take, length-drop) (omega arith) in
    (low, t.0, rw size t.0, rw size t.2)

pub again : (bytes vol₀ : List ℕ) (m₀ : Medium) (s₀ : Store) (a₀ : Appender) (vol : List ℕ) (m : Medium) (s : Store) (a : Appender) (i n : ℕ) {v : List ℕ} {r : Handed}
    → Going bytes vol₀ m₀ s₀ a₀ vol m s a i → n ≡ run_of a.fill (length bytes - i) → i < length bytes
    → GivesA v r (append_of (take (i + n - i) (drop i bytes)) vol m s a) → r.outcome ≡ Ok tt → Going bytes vol₀ m₀ s₀ a₀ v r.medium r.store r.appender (i + n)
again bytes vol₀ m₀ s₀ a₀ vol m s a i n {v} {r} w e k g d =
    let bs : List ℕ = take (i + n - i) (drop i bytes) in
    let t = turn_fits bytes i a.fill e w.room k in
    let p : Puts vol m s (append_of bs vol m s a) = run_puts bs vol m s a w.good w.fit t.2 t.3 in
    let q : (append_of bs vol m s a).ans.outcome ≡ (Ok tt) = ap (λ (f : Handed). f.outcome) (sym g.1) ∙ d in
    let x : Same (append_of (drop (i + n) bytes) v r.medium r.store r.appender) (append_of (drop i bytes) vol m s a) = put_turn bytes i vol m s a n g d in
    record {
      low = t.0;
      size = ap length g.0 ∙ p.goes.0.size ∙ w.size;
      good = rw (g.0, g.1) p.goes.0.good;
      fit = rw g.1 p.goes.1;
      room = rw g.1 (p.room q);
      same = (x.0 ∙ w.same.0, x.1 ∙ w.same.1);
    }
