-- A format that passes its tests is done where enough writes are left: one for each body sector and two for the header. Assumes nothing.
use Rattle.std.specs.Prelude.{Ok}
use mathlib.Core.Path.{◌≡◌, refl, ap, ◌∙◌}
use mathlib.Core.List.{List}
use Prim.Native.Nat.{ℕ, zero, suc, ◌+◌, ◌-◌, ◌^◌, ◌≤◌}
use native.Mathlib.Omega.{arith}
use borrow.Author.Tests.{le-leb, ne_eqb}
use Rattle.le.specs.Choice.{pick}
use Rattle.le.specs.Part.{zeros}
use Rattle.medium.specs.declared.Medium.{Medium}
use Rattle.medium.specs.Sector.{sectors_of, spend_of, WriteOut, write_of}
use Rattle.medium.proofs.Laws.{on_done_done}
use Rattle.handles.specs.declared.Header.{Header}
use Rattle.handles.specs.Handles.{body_of, base_of, no_store}
use Rattle.header.specs.declared.answers.Copies.{Copies}
use Rattle.header.specs.Copies.{headers_of}
use Rattle.header.specs.Header.{encode_of, unmarked_of}
use Rattle.plan.specs.Copy.{BodyOut, Out, refused_out, body_from, last_of, copy_out}
use Rattle.format.specs.Format.{chunks_of, copy_for, newest_of, format_head, Zeroed, format_plan, made_of, format_over, format_of}
use Rattle.format.proofs.Crcs.{head_zeroed}
use Rattle.format.proofs.Writes.{zeroed_from, zero_write, zero_more}

-- a write, after which r are left
write_done : (vol : List ℕ) (m : Medium) (k : ℕ) (bytes : List ℕ) {r : ℕ} → suc r ≤ m.left
    → ((write_of vol m k bytes).ans.outcome ≡ Ok tt) × (r ≤ (write_of vol m k bytes).ans.medium.left)
unfolding write_of spend_of pick
write_done vol m k bytes h = let z = ne_eqb m.left 0 (λ e. omega arith) in rw z (refl, omega arith)

module _ (copy : ℕ) (h : Header) (sums : Zeroed h) where
  zero_done : (n k r : ℕ) (vol : List ℕ) (m : Medium) → k + n ≤ body_of h.chunks → n + r ≤ m.left
      → ((zeroed_from copy h n k vol m).ans.outcome ≡ Ok tt) × (r ≤ (zeroed_from copy h n k vol m).ans.medium.left)
  unfolding body_from
  zero_done zero k r vol m i l = (refl, omega arith)
  zero_done (suc n) k r vol m i l =
      let w : WriteOut = zero_write copy k vol m in
      let s = write_done vol m (base_of copy + 1 + k) (zeros 512) {r = n + r} (omega arith) in
      rw (zero_more copy h sums n k vol m (omega arith), on_done_done (zeroed_from copy h n (k + 1) w.vol w.ans.medium) _ s.0)
      (zero_done n (k + 1) r w.vol w.ans.medium (omega arith) s.1)

  pub made_done : (vol : List ℕ) (m : Medium) → body_of h.chunks + 2 ≤ m.left → (made_of copy h vol m).ans.outcome ≡ Ok tt
  unfolding copy_out last_of format_plan
  made_done vol m l =
      let n : ℕ = body_of h.chunks in
      let z : WriteOut = write_of vol m (base_of copy) (unmarked_of h) in
      let s₁ = write_done vol m (base_of copy) (unmarked_of h) {r = n + 1} (omega arith) in
      let b : BodyOut = zeroed_from copy h n 0 z.vol z.ans.medium in
      let s₂ = zero_done n 0 1 z.vol z.ans.medium (omega arith) s₁.1 in
      let w : WriteOut = write_of b.vol b.ans.medium (base_of copy) (encode_of b.ans.head) in
      let s₃ = write_done b.vol b.ans.medium (base_of copy) (encode_of b.ans.head) {r = 0} s₂.1 in
      ap (λ (o : Out). o.ans.outcome) (on_done_done _ _ s₁.0 ∙ on_done_done _ _ s₂.0 ∙ on_done_done _ _ s₃.0)

-- what the tests let through
module _ (size seed : ℕ) (vol : List ℕ) (m : Medium) (headers : (headers_of vol m).outcome ≡ Ok tt) (least : 1 ≤ size) (most : size ≤ 512) where
  pub format_over_lem : format_of size seed vol m ≡ format_over (headers_of vol m) size seed vol m
  unfolding format_of pick
  format_over_lem =
      rw (le-leb 1 size least, le-leb size 512 most)
      (on_done_done (format_over (headers_of vol m) size seed vol m) (refused_out no_store vol m) headers)

  pub format_is : (chunks_of (sectors_of vol) size ≡ 0 → ⊥) → (newest_of (headers_of vol m) ≡ 2 ^ 64 - 1 → ⊥)
      → format_of size seed vol m ≡ made_of (copy_for (headers_of vol m)) (format_head (headers_of vol m) m (chunks_of (sectors_of vol) size) size seed) vol m
  unfolding format_over pick
  format_is some less = rw (format_over_lem, ne_eqb (chunks_of (sectors_of vol) size) 0 some, ne_eqb (newest_of (headers_of vol m)) (2 ^ 64 - 1) less)

  pub format_done : (chunks_of (sectors_of vol) size ≡ 0 → ⊥) → (newest_of (headers_of vol m) ≡ 2 ^ 64 - 1 → ⊥) → body_of (chunks_of (sectors_of vol) size) + 2 ≤ m.left
      → (format_of size seed vol m).ans.outcome ≡ Ok tt
  unfolding format_head
  format_done some less l =
      let c : Copies = headers_of vol m in
      let n : ℕ = chunks_of (sectors_of vol) size in
      rw (format_is some less) (made_done (copy_for c) (format_head c m n size seed) (head_zeroed c m n size seed) vol m l)
