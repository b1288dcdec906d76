-- The starred edges of 01 that format decides. Assumes nothing.
use Rattle.std.specs.Prelude.{Ok}
use mathlib.Core.Path.{◌≡◌, refl, ap, ◌∙◌}
use mathlib.Core.List.{List}
use Prim.Native.Nat.{ℕ, ◌-◌, ◌^◌, ◌≤◌}
use native.Mathlib.Omega.{arith}
use lib.Dec.{lit≤}
use Rattle.le.specs.Choice.{pick}
use Rattle.medium.specs.declared.Error.TheVariants.{Range}
use Rattle.medium.specs.declared.Medium.{Medium}
use Rattle.medium.specs.Refusal.{refused, outcome_of}
use Rattle.medium.specs.Sector.{sectors_of}
use Rattle.handles.specs.declared.Store.{Store}
use Rattle.handles.specs.Handles.{no_store}
use Rattle.header.specs.Copies.{headers_of}
use Rattle.plan.specs.Copy.{refused_out}
use Rattle.format.specs.Format.{chunks_of, newest_of, format_head, format_over, format_of}
use Rattle.format.proofs.Accepted.{format_made}
use Rattle.format.proofs.Enough.{format_over_lem, format_done}

-- size 512: 575 sectors have no chunk, 576 have one
pub chunks_575 : chunks_of 575 512 ≡ 0
unfolding chunks_of
chunks_575 = refl

pub chunks_576 : chunks_of 576 512 ≡ 1
unfolding chunks_of
chunks_576 = refl

-- whatever the volume holds, as long as both headers are accepted
module _ (seed : ℕ) (vol : List ℕ) (m : Medium) (headers : (headers_of vol m).outcome ≡ Ok tt) where
  pub none_575 : sectors_of vol ≡ 575 → (format_of 512 seed vol m ≡ refused_out no_store vol m Range) × (outcome_of (format_of 512 seed vol m).ans.outcome ≡ refused 2)
  unfolding format_over pick
  none_575 s =
      let e : format_of 512 seed vol m ≡ refused_out no_store vol m Range = format_over_lem 512 seed vol m headers (lit≤ tt) (lit≤ tt) ∙ rw (s, chunks_575) in
      (e, rw e)

  -- with the 11 writes of a body of 9 sectors left, and another generation to give
  pub one_576 : sectors_of vol ≡ 576 → (newest_of (headers_of vol m) ≡ 2 ^ 64 - 1 → ⊥) → 11 ≤ m.left
      → ((format_of 512 seed vol m).ans.outcome ≡ Ok tt) × ((format_of 512 seed vol m).ans.store.head.chunks ≡ 1)
  unfolding format_head
  one_576 s less l =
      let n : chunks_of (sectors_of vol) 512 ≡ 1 = rw s chunks_576 in
      let d = format_done 512 seed vol m headers (lit≤ tt) (lit≤ tt) (λ e. omega arith) less (rw n l) in
      (d, ap (λ (st : Store). st.head.chunks) (format_made 512 seed vol m d).store ∙ n)
