-- The places of the two copies, and what a store value that passes refusal 3 tells. Assumes nothing.
use Rattle.std.specs.Prelude.{Ok, Result}
use Rattle.medium.specs.declared.Error.{Error}
use mathlib.Core.Path.{◌≡◌, refl}
use mathlib.Core.Bool.{Bool, true}
use mathlib.Core.List.{List}
use Prim.Native.Nat.{ℕ, ◌+◌, ◌-◌, ◌*◌, ◌^◌, ◌≤◌, ◌<◌}
use native.Mathlib.Nat.{mul-le-mul}
use native.Mathlib.Omega.{arith}
use borrow.Author.Tests.{ltb-true, leb-true, eqb-false, not-true, lt-ltb}
use lib.Dec.{eqb, lit≤}
use Rattle.le.proofs.Choices.{pick_keeps}
use Rattle.le.proofs.Bools.{and_true}
use Rattle.freemap.specs.Map.{map_ok}
use Rattle.medium.specs.declared.Medium.{Medium}
use Rattle.medium.specs.Sector.{read_of}
use Rattle.medium.proofs.Laws.{on_done_keeps}
use Rattle.medium.proofs.Stale.{NotStale, no_stale, read_not_stale}
use Rattle.handles.specs.declared.Header.{Header}
use Rattle.handles.specs.declared.Store.{Store}
use Rattle.handles.specs.Handles.{base_of, sane_of, store_ok}
use Rattle.handles.specs.Body.{body_at, check_of, due_of}

-- the product of two numbers of 32 bits, and 64 more, fit 64 bits
pub product_fits : (a b : ℕ) → a < 2 ^ 32 → b < 2 ^ 32 → 64 + a * b < 2 ^ 64
product_fits a b ha hb =
    let p : a * b ≤ (2 ^ 32 - 1) * (2 ^ 32 - 1) = mul-le-mul {n₂ = 2 ^ 32 - 1} {m₂ = 2 ^ 32 - 1} (omega arith) (omega arith) in
    omega arith

-- a number that is not the last of 64 bits has a next one
pub next_fits : (g : ℕ) → g < 2 ^ 64 → (g ≡ 2 ^ 64 - 1 → ⊥) → g + 1 < 2 ^ 64
next_fits g h f = omega arith

-- the header of either copy lies in the first 33 sectors
pub base_most : (copy : ℕ) → base_of copy ≤ 32
unfolding base_of
base_most copy = pick_keeps (λ (b : ℕ). b ≤ 32) (eqb copy 0) 0 32 (lit≤ tt) (lit≤ tt)

-- a header that is not foreign on a volume of so many sectors
pub record Sane (h : Header) (sectors : ℕ) : Type 0 where
  pub id : h.id ≡ 0 → ⊥
  pub next : h.next_id ≡ 0 → ⊥
  pub cursor : h.cursor < h.chunks
  pub chunks_least : 1 ≤ h.chunks
  pub chunks_most : h.chunks ≤ 2048
  pub size_least : 1 ≤ h.chunk
  pub size_most : h.chunk ≤ 512
  pub room : 64 + h.chunks * h.chunk ≤ sectors

pub sane_facts : (h : Header) (sectors : ℕ) → sane_of h sectors ≡ true → Sane h sectors
unfolding sane_of
sane_facts h sectors e =
    let a = and_true _ _ e in
    let b = and_true _ _ a.1 in
    let c = and_true _ _ b.1 in
    let d = and_true _ _ c.1 in
    let d' = and_true _ _ d.0 in
    let f = and_true _ _ d.1 in
    let f' = and_true _ _ f.0 in
    record {
      id = eqb-false _ _ (not-true _ a.0);
      next = eqb-false _ _ (not-true _ b.0);
      cursor = ltb-true _ _ c.0;
      chunks_least = leb-true _ _ d'.0;
      chunks_most = leb-true _ _ d'.1;
      size_least = leb-true _ _ f'.0;
      size_most = leb-true _ _ f'.1;
      room = leb-true _ _ f.1;
    }

-- a store value that passes
pub record Held (st : Store) (sectors : ℕ) : Type 0 where
  pub copy : st.copy < 2
  pub head : Sane st.head sectors
  pub enough : 64 ≤ sectors
  pub map : map_ok st.free st.head.chunks ≡ true

pub store_facts : (st : Store) (sectors : ℕ) → store_ok st sectors ≡ true → Held st sectors
unfolding store_ok
store_facts st sectors e =
    let a = and_true _ _ e in
    let b = and_true _ _ a.1 in
    let s : Sane st.head sectors = sane_facts st.head sectors b.0 in
    record { copy = ltb-true _ _ a.0; head = s; enough = omega (arith, s.room); map = b.1 }

-- and what makes one pass
pub store_ok_lem : (st : Store) (sectors : ℕ) → st.copy < 2 → sane_of st.head sectors ≡ true → map_ok st.free st.head.chunks ≡ true → store_ok st sectors ≡ true
unfolding store_ok
store_ok_lem st sectors c s m = rw (lt-ltb st.copy 2 c, s, m)

-- a sector that passes its check passes where a walk enters it and where it does not
pub due_done : (vol : List ℕ) (m : Medium) (st : Store) (enters : Bool) (k : ℕ) → check_of vol m st k ≡ Ok tt → due_of vol m st enters k ≡ Ok tt
unfolding due_of
due_done vol m st enters k e = pick_keeps (λ (o : Result Unit Error). o ≡ Ok tt) enters _ _ e refl

-- the check of a sector never gives 11
pub check_not_stale : (vol : List ℕ) (m : Medium) (st : Store) (k : ℕ) → NotStale (check_of vol m st k)
unfolding check_of
check_not_stale vol m st k =
    on_done_keeps NotStale (read_of m (body_at st k)) _ _ (λ _. pick_keeps NotStale _ _ _ tt refl) (λ e q. no_stale (read_not_stale m (body_at st k)) q)

pub due_not_stale : (vol : List ℕ) (m : Medium) (st : Store) (enters : Bool) (k : ℕ) → NotStale (due_of vol m st enters k)
unfolding due_of
due_not_stale vol m st enters k = pick_keeps NotStale enters _ _ (check_not_stale vol m st k) tt
