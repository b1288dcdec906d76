-- What a format leaves as it was, however many writes are left: the length, every sector outside the copy that it writes, the bytes past the last whole
-- sector, and of the medium record all but writes left. Assumes nothing.
use mathlib.Core.Path.{◌≡◌, refl}
use mathlib.Core.Bool.{◌&&◌}
use mathlib.Core.List.{List}
use Prim.Native.Nat.{ℕ, ◌+◌, ◌-◌, ◌^◌, ◌≤◌}
use native.Mathlib.Omega.{arith}
use lib.Dec.{eqb, leb, lit≤}
use Rattle.le.proofs.Choices.{pick_keeps}
use Rattle.medium.specs.declared.Medium.{Medium}
use Rattle.medium.specs.Sector.{sectors_of}
use Rattle.medium.specs.Frame.{Kept, Spends}
use Rattle.medium.proofs.Laws.{on_done_keeps}
use Rattle.medium.proofs.Frame.{rest_of, kept_none, kept_rest, spends_none}
use Rattle.handles.specs.declared.Header.{Header}
use Rattle.handles.specs.Handles.{body_of, base_of}
use Rattle.handles.proofs.Laws.{base_most}
use Rattle.header.specs.declared.answers.Copies.{Copies}
use Rattle.header.specs.Copies.{headers_of}
use Rattle.header.proofs.Accepted.{headers_both}
use Rattle.header.proofs.Fill.{length_unmarked}
use Rattle.plan.specs.Copy.{Plan, Out}
use Rattle.plan.proofs.Whole.{Copied, copy_copied}
use Rattle.format.specs.Format.{chunks_of, copy_for, newest_of, format_head, format_plan, format_over, format_of}
use Rattle.format.proofs.Crcs.{length_crcs}
use Rattle.format.proofs.Numbers.{chunks_most}

module _ (size seed : ℕ) (vol : List ℕ) (m : Medium) where
  abbrev Left : Copies → Out → Type 0
  Left c o = Kept (base_of (copy_for c)) 25 vol o.vol × Spends m o.ans.medium × (rest_of o.vol ≡ rest_of vol)

  -- nothing was written
  none : (c : Copies) → Kept (base_of (copy_for c)) 25 vol vol × Spends m m × (rest_of vol ≡ rest_of vol)
  none c = (kept_none (base_of (copy_for c)) 25 vol, spends_none m, refl)

  over_keeps : (c : Copies) → 64 ≤ sectors_of vol → Left c (format_over c size seed vol m)
  unfolding format_over format_head format_plan
  over_keeps c enough =
      let n : ℕ = chunks_of (sectors_of vol) size in
      let most : n ≤ 2048 = chunks_most (sectors_of vol) size in
      let h : Header = format_head c m n size seed in
      let p : Plan = format_plan (copy_for c) h in
      let count = length_crcs (body_of n) (omega arith) in
      let k : Copied p vol m _ = copy_copied p vol m (record { short = lit≤ tt; enough = enough }) most count (length_unmarked h count most) in
      let below : base_of (copy_for c) + 25 ≤ sectors_of vol = omega (arith, base_most (copy_for c)) in
      pick_keeps (Left c) (eqb n 0) _ _ (none c)
      (pick_keeps (Left c) (eqb (newest_of c) (2 ^ 64 - 1)) _ _ (none c) (k.frame, k.medium, kept_rest below k.frame))

  -- refused before its first write, it leaves all as it was
  pub format_keeps : Kept (base_of (copy_for (headers_of vol m))) 25 vol (format_of size seed vol m).vol × Spends m (format_of size seed vol m).ans.medium
      × (rest_of (format_of size seed vol m).vol ≡ rest_of vol)
  unfolding format_of
  format_keeps =
      let c : Copies = headers_of vol m in
      pick_keeps (Left c) (leb 1 size && leb size 512) _ _
      (on_done_keeps (Left c) c.outcome _ _ (λ q. over_keeps c (headers_both vol m q).enough) (λ e _. none c))
      (none c)
