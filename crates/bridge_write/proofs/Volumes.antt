-- The volume before what a call answers in numbers. Assumes nothing.
use Rattle.std.proofs.Common.{◌≡◌, ℕ, List, ap}
use Rattle.append.specs.Calls.{AppTold}
use Rattle.store.specs.Reading.{StoreCall}
use Rattle.bridge.specs.Numbers.{code_of, store_words, medium_words}
use Rattle.bridge.specs.Calls.{mount_words}
use Rattle.bridge_write.specs.Writing.{appender_words, open_words}

module _ (v : List ℕ) {n : ℕ} {st crcs m : List ℕ} where
  pub told_too : (s : StoreCall) → ◌≡◌ {A = ℕ × List ℕ × List ℕ × List ℕ} (n, st, crcs, m) (mount_words s)
      → ◌≡◌ {A = List ℕ × ℕ × List ℕ × List ℕ × List ℕ} (v, n, st, crcs, m) (v, code_of s.answer, store_words s.store, s.store.head.crcs, medium_words s.medium)
  told_too s e = ap (λ (t : ℕ × List ℕ × List ℕ × List ℕ). (v, t.0, t.1, t.2, t.3)) e

  pub handed_too : (a : AppTold) {row buffer dir : List ℕ}
      → ◌≡◌ {A = ℕ × List ℕ × List ℕ × List ℕ × List ℕ × List ℕ × List ℕ} (n, st, crcs, row, buffer, dir, m) (open_words a)
      → ◌≡◌ {A = List ℕ × ℕ × List ℕ × List ℕ × List ℕ × List ℕ × List ℕ × List ℕ} (v, n, st, crcs, row, buffer, dir, m)
      (v, code_of a.answer, store_words a.store, a.store.head.crcs, appender_words a.appender, a.appender.buffer, a.appender.dir.bytes, medium_words a.medium)
  handed_too a e = ap (λ (t : ℕ × List ℕ × List ℕ × List ℕ × List ℕ × List ℕ × List ℕ). (v, t.0, t.1, t.2, t.3, t.4, t.5, t.6)) e
