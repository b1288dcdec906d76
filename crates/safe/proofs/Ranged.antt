-- The headers of the valid copies have their widths on a volume of bytes, and keep them while a copy is written anew, whatever the writes left. Assumes nothing.
use Rattle.std.specs.Prelude.{Ok}
use mathlib.Core.Path.{◌≡◌, refl, sym, ap, ◌∙◌, subst}
use mathlib.Core.List.{List}
use mathlib.Core.Logic.{◌⊎◌, inl, inr, ⊎_elim}
use Prim.Native.Nat.{ℕ, zero, suc, ◌-◌, ◌<◌}
use native.Mathlib.Omega.{arith}
use borrow.Author.Tests.{ne_eqb}
use Rattle.le.specs.Choice.{pick}
use Rattle.medium.specs.declared.Medium.{Medium}
use Rattle.medium.specs.Frame.{Kept}
use Rattle.medium.specs.Sector.{sectors_of}
use Rattle.handles.specs.declared.Header.{Header}
use Rattle.handles.specs.Handles.{base_of}
use Rattle.handles.proofs.Laws.{base_most, sane_facts}
use Rattle.header.specs.declared.codec.Decoded.{Decoded}
use Rattle.header.specs.declared.codec.Replica.TheVariants.{Absent}
use Rattle.header.specs.Header.{ours, bare, Bytes, InRange}
use Rattle.header.specs.Copies.{copy_of}
use Rattle.header.proofs.Accepted.{copy_sane, copy_range}
use Rattle.plan.specs.Copy.{Plan, copy_out}
use Rattle.safe.specs.Copy.{Good}
use Rattle.safe.specs.Mounts.{Newest}
use Rattle.safe.specs.Inv.{Ranged}
use Rattle.safe.proofs.Copy.{copy_frame, copy_finished}
use Rattle.safe.proofs.Sums.{finished_range}
use Rattle.safe.proofs.Mounts.{beside, gone, finished_stands}

-- there are two places
pub either : (a c : ℕ) → c < 2 → (base_of a ≡ base_of c) ⊎ (base_of a ≡ base_of (1 - c))
unfolding base_of pick
either zero zero l = inl refl
either zero (suc zero) l = inr refl
either (suc a) zero l = inr (rw (ne_eqb (suc a) 0 (λ e. omega arith)))
either (suc a) (suc zero) l = inl (rw (ne_eqb (suc a) 0 (λ e. omega arith)))
either a (suc (suc c)) l = absurd (let f : ⊥ = omega arith in f)

-- a valid copy lies inside the volume
pub bytes_ranged : (vol : List ℕ) → Bytes vol → Ranged vol
bytes_ranged vol small c h e =
    copy_range vol (base_of c) h e (omega (arith, base_most c, (sane_facts h (sectors_of vol) (copy_sane vol (base_of c) h e)).room)) small

-- ---- one copy is written

module _ {vol v : List ℕ} (b : ℕ) (two : b < 2) (kept : Kept (base_of b) 25 vol v) where
  ranged_beside : ((h : Header) → copy_of v (base_of b) ≡ ours h → InRange h) → Ranged vol → Ranged v
  ranged_beside new old c h e =
      ⊎_elim
      (λ q. new h (ap (copy_of v) (sym q) ∙ e))
      (λ q. old (1 - b) h (sym (beside (1 - b) b (omega arith) kept) ∙ ap (copy_of v) (sym q) ∙ e))
      (either c b two)

  -- stopped
  pub ranged_stopped : (copy_of v (base_of b) ≡ copy_of vol (base_of b)) ⊎ (copy_of v (base_of b) ≡ bare Absent) → Ranged vol → Ranged v
  ranged_stopped o old = ranged_beside (λ h e. ⊎_elim (λ a. old b h (sym a ∙ e)) (λ a. gone (sym a ∙ e)) o) old

-- finished
pub ranged_finished : (p : Plan) (vol : List ℕ) (m : Medium) → Good p vol → Newest p vol → (copy_out p vol m).ans.outcome ≡ Ok tt → Ranged vol → Ranged (copy_out p vol m).vol
ranged_finished p vol m good new q =
    ranged_beside p.copy new.number (copy_frame p vol m good)
    (λ h e. subst InRange (ap (λ (d : Decoded). d.head) (sym (finished_stands p vol m good new q).found ∙ e)) (finished_range (copy_finished p vol m good q) new.range))
