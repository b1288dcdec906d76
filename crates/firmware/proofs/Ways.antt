-- The calls, by the way that they go: a law for each return, over plain values. Assumes nothing.
use Rattle.std.specs.Prelude.{Err, Ok}
use mathlib.Core.Path.{◌≡◌}
use mathlib.Core.Bool.{Bool, true, false, not}
use mathlib.Core.List.{List}
use Prim.Native.Nat.{ℕ, ◌≤◌, ◌<◌}
use borrow.Author.Tests.{lt-ltb, le-ltb, not-true, not-false}
use lib.ListN.{length}
use Rattle.le.specs.Choice.{pick}
use Rattle.le.specs.Part.{zeros}
use Rattle.names.specs.Names.{name_ok, dir_ok}
use Rattle.medium.specs.declared.Error.{Error}
use Rattle.medium.specs.declared.Error.TheVariants.{Name, Range}
use Rattle.medium.specs.declared.Medium.{Medium}
use Rattle.medium.specs.Refusal.{number_of, on_ok, outcome_of}
use Rattle.header.specs.Copies.{mount_of}
use Rattle.store.proofs.Mounts.{mounted_ok}
use Rattle.store.specs.Asked.{asked_of}
use Rattle.store.specs.declared.StoreAnswer.{StoreAnswer}
use Rattle.store.specs.declared.ListAnswer.{ListAnswer}
use Rattle.store.specs.Reading.{store_answer, mount_call, list_answer, list_call}
use Rattle.store.specs.Writing.{format_call, delete_call}
use Rattle.firmware.specs.Calls.{code_of, giving, mount_host, format_host, delete_host, list_host}

-- ---- mount and format

module _ (vol : List ℕ) {m n : Medium} (k : n ≡ m) (s : StoreAnswer) {x r : ℕ} (h : x ≡ s.store.head.chunks) (q : r ≡ code_of (giving (outcome_of s.outcome) x)) where
  pub mount_told : store_answer s ≡ mount_call vol n → r ≡ mount_host vol m
  unfolding mount_host
  mount_told g = rw (q, h, ← k, ← g)

  pub format_told : (size seed : ℕ) {v : List ℕ} → (v ≡ (format_call vol n size seed).vol) × (store_answer s ≡ (format_call vol n size seed).call) → (r, v) ≡ format_host vol m size seed
  unfolding format_host
  format_told size seed g = rw (q, h, ← k, ← g.0, ← g.1)

-- ---- delete

module _ (vol : List ℕ) (m : Medium) (name : List ℕ) {fine : Bool} (f : fine ≡ name_ok name) where
  pub name_refused : not fine ≡ true → {r : ℕ} → r ≡ number_of Name → (r, vol) ≡ delete_host vol m name
  unfolding delete_host pick
  name_refused t q = rw (q, ← f, not-true fine t)

  module _ (t : not fine ≡ false) {n : Medium} (k : n ≡ m) (s : StoreAnswer) (g : store_answer s ≡ mount_call vol n) where
    pub delete_unmounted : {e : Error} → s.outcome ≡ Err e → {r : ℕ} → r ≡ number_of e → (r, vol) ≡ delete_host vol m name
    unfolding delete_host pick on_ok
    delete_unmounted o q = rw (q, ← f, not-false fine t, ← k, ← g, o)

    pub delete_told_lem : s.outcome ≡ Ok tt → (d : StoreAnswer) {v : List ℕ}
        → (v ≡ (delete_call vol s.medium s.store name).vol) × (store_answer d ≡ (delete_call vol s.medium s.store name).call)
        → {r : ℕ} → r ≡ code_of (giving (outcome_of d.outcome) 0) → (r, v) ≡ delete_host vol m name
    unfolding delete_host pick on_ok
    delete_told_lem o d w q = rw (q, ← f, not-false fine t, ← k, ← g, o, ← w.0, ← w.1)

-- ---- list

module _ (vol : List ℕ) (m : Medium) (dir rows : List ℕ) where
  pub rows_refused : length rows < 3072 → {r : ℕ} → r ≡ number_of Range → (r, rows) ≡ list_host vol m dir rows
  unfolding list_host pick
  rows_refused t q = rw (q, lt-ltb _ _ t)

  module _ (long : 3072 ≤ length rows) {fine : Bool} (f : fine ≡ dir_ok dir) where
    pub dir_refused : not fine ≡ true → {r : ℕ} → r ≡ number_of Name → (r, rows) ≡ list_host vol m dir rows
    unfolding list_host pick
    dir_refused t q = rw (q, le-ltb (length rows) 3072 long, ← f, not-true fine t)

    module _ (t : not fine ≡ false) {n : Medium} (k : n ≡ m) (s : StoreAnswer) (g : store_answer s ≡ mount_call vol n) where
      pub list_unmounted : {e : Error} → s.outcome ≡ Err e → {r : ℕ} → r ≡ number_of e → (r, rows) ≡ list_host vol m dir rows
      unfolding list_host pick on_ok
      list_unmounted o q = rw (q, le-ltb (length rows) 3072 long, ← f, not-false fine t, ← k, ← g, o)

      pub list_told_lem : s.outcome ≡ Ok tt → (l : ListAnswer) {counts after : List ℕ}
          → list_answer l counts after ≡ list_call vol s.medium s.store dir (zeros 64) rows
          → {r : ℕ} → r ≡ code_of (giving (outcome_of l.outcome) l.count) → (r, after) ≡ list_host vol m dir rows
      unfolding list_host pick on_ok
      list_told_lem o l w q = rw (q, le-ltb (length rows) 3072 long, ← f, not-false fine t, ← k, ← g, o, ← w)

-- the store of an accepted mount is never refused with 3: of the tests of the input, a name that passes leaves nothing to refuse
pub mounted_asked : (vol : List ℕ) (m : Medium) → (mount_of vol m).outcome ≡ Ok tt → asked_of vol (mount_call vol m).store true ≡ Ok tt
unfolding asked_of pick
mounted_asked vol m o = rw (mounted_ok vol m o)
