-- The loop of appends, turn by turn. Assumes nothing.
use Rattle.std.specs.Prelude.{Err, Ok, Result}
use Rattle.medium.specs.declared.Error.{Error}
use Prim.Native.Nat.{ℕ, zero, suc, ◌+◌, ◌-◌, ◌≤◌, ◌<◌}
use mathlib.Core.Path.{◌≡◌, refl, ap, subst, ◌∙◌}
use mathlib.Core.List.{List}
use native.Mathlib.Omega.{arith}
use lib.ListN.{length}
use Rattle.medium.specs.declared.Medium.{Medium}
use Rattle.medium.specs.Refusal.{outcome_of}
use Rattle.handles.specs.declared.Store.{Store}
use Rattle.append.specs.declared.Appender.{Appender}
use Rattle.append.specs.declared.Handed.{Handed}
use Rattle.append.specs.Calls.{app_answer, append_call}
use Rattle.bench_port.specs.Appends.{once_of, appends_of}

pub once_most : (o : Result Unit Error) → once_of (outcome_of o) ≤ 1
once_most (Ok tt) = omega arith
once_most (Err e) = omega arith

-- what the loop keeps: from here the definition gives what it gives from the start
pub record Going (times : ℕ) (bytes vol₀ : List ℕ) (m₀ : Medium) (s₀ : Store) (a₀ : Appender) (vol : List ℕ) (m : Medium) (s : Store) (a : Appender) (n left : ℕ) : Type 0 where
  pub few : n + left ≤ times
  pub size : length vol ≡ length vol₀
  pub same : appends_of left n bytes vol m s a ≡ appends_of times 0 bytes vol₀ m₀ s₀ a₀

appends_turn : (k n : ℕ) (bytes vol : List ℕ) (m : Medium) (s : Store) (a : Appender) {v : List ℕ} (r : Handed)
    → (v ≡ (append_call vol m s a bytes).vol) × (app_answer r ≡ (append_call vol m s a bytes).call)
    → appends_of k (n + once_of (outcome_of r.outcome)) bytes v r.medium r.store r.appender ≡ appends_of (suc k) n bytes vol m s a
unfolding appends_of
appends_turn k n bytes vol m s a r h = rw (h.0, ← h.1)

pub appends_end : (n left : ℕ) (bytes vol : List ℕ) (m : Medium) (s : Store) (a : Appender) → left ≤ 0 → (n, vol) ≡ appends_of left n bytes vol m s a
unfolding appends_of
appends_end n zero bytes vol m s a h = refl
appends_end n (suc k) bytes vol m s a h = absurd (omega arith)

pub again : (times : ℕ) (bytes vol₀ : List ℕ) (m₀ : Medium) (s₀ : Store) (a₀ : Appender) (vol : List ℕ) (m : Medium) (s : Store) (a : Appender) (n left : ℕ)
    {v : List ℕ} (r : Handed) {x : ℕ} → Going times bytes vol₀ m₀ s₀ a₀ vol m s a n left → 0 < left → length v ≡ length vol
    → (v ≡ (append_call vol m s a bytes).vol) × (app_answer r ≡ (append_call vol m s a bytes).call) → x ≡ once_of (outcome_of r.outcome)
    → Going times bytes vol₀ m₀ s₀ a₀ v r.medium r.store r.appender (n + x) (left - 1)
again times bytes vol₀ m₀ s₀ a₀ vol m s a n left r g some size h q =
    let one = once_most r.outcome in
    let e : suc (left - 1) ≡ left = omega arith in
    record {
      few = rw q (omega (arith, one, g.few));
      size = size ∙ g.size;
      same = rw q (appends_turn (left - 1) n bytes vol m s a r h ∙ ap (λ (l : ℕ). appends_of l n bytes vol m s a) e ∙ g.same);
    }

pub going_start : (times : ℕ) (bytes vol : List ℕ) (m : Medium) (s : Store) (a : Appender) → Going times bytes vol m s a vol m s a 0 (times - 0)
going_start times bytes vol m s a =
    let e : times - 0 ≡ times = omega arith in
    record { few = omega (arith, e); size = refl; same = ap (λ (l : ℕ). appends_of l 0 bytes vol m s a) e }

-- one turn fewer is left behind turn i
pub going_on : {times : ℕ} (i : ℕ) → i < times → {bytes vol₀ : List ℕ} {m₀ : Medium} {s₀ : Store} {a₀ : Appender} {vol : List ℕ} {m : Medium} {s : Store} {a : Appender} {n : ℕ}
    → Going times bytes vol₀ m₀ s₀ a₀ vol m s a n (times - i - 1) → Going times bytes vol₀ m₀ s₀ a₀ vol m s a n (times - (i + 1))
going_on {times} i h {bytes} {vol₀} {m₀} {s₀} {a₀} {vol} {m} {s} {a} {n} g =
    let e : times - i - 1 ≡ times - (i + 1) = omega arith in
    subst (Going times bytes vol₀ m₀ s₀ a₀ vol m s a n) e g
