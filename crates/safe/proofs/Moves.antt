-- The decisions of a plan are functions of the volume before it. Assumes nothing.
use mathlib.Core.Path.{◌≡◌, refl, sym, ◌∙◌}
use mathlib.Core.Bool.{Bool, true, false}
use mathlib.Core.List.{List}
use Prim.Native.Nat.{ℕ, ◌<◌}
use Rattle.le.specs.Choice.{pick}
use Rattle.le.specs.Part.{zeros}
use Rattle.le.proofs.Choices.{pick_true}
use Rattle.medium.specs.declared.Medium.{Medium}
use Rattle.medium.specs.Frame.{Kept}
use Rattle.header.proofs.Range.{no_way}
use Rattle.plan.specs.declared.Edit.{Edit}
use Rattle.plan.specs.declared.Edit.TheVariants.{Format, Create, Extend, Remove}
use Rattle.plan.specs.Edit.{changes_of, edit_of}
use Rattle.plan.specs.Copy.{Plan, is_format, due_bytes, move_of}
use Rattle.plan.proofs.Keeps.{Ready}
use Rattle.plan.proofs.Decides.{move_decides}
use Rattle.safe.specs.Copy.{target, Good}
use Rattle.safe.proofs.Frame.{body_beside}

-- ---- a format reads nothing

is_format_lem : (e : Edit) → is_format e ≡ true → e ≡ Format
unfolding is_format
is_format_lem Format q = refl
is_format_lem (Create slot id chunk) q = no_way q
is_format_lem (Extend slot position next last partial records) q = no_way q
is_format_lem (Remove slot) q = no_way q

pub due_format : (p : Plan) (vol : List ℕ) (k : ℕ) → is_format p.edit ≡ true → due_bytes p vol k ≡ zeros 512
unfolding due_bytes changes_of edit_of pick
due_format p vol k q = rw (is_format_lem p.edit q)

-- a plan that fits is one that can be carried out
pub good_ready : {p : Plan} {vol : List ℕ} → Good p vol → Ready p vol
good_ready good = record { short = good.name; enough = good.enough }

-- what is decided and due does not change while the copy is written
module _ (p : Plan) (vol : List ℕ) (good : Good p vol) (k : ℕ) (within : k < 24) {v : List ℕ} (kept : Kept (target p) 25 vol v) (m u : Medium) (same : u.unreadable ≡ m.unreadable) where
  pub move_before : move_of p v u k ≡ move_of p vol m k
  unfolding move_of
  move_before = go (is_format p.edit) refl
    where
      go : (b : Bool) → is_format p.edit ≡ b → move_of p v u k ≡ move_of p vol m k
      go true q = pick_true _ _ q ∙ sym (pick_true _ _ q)
      go false q = move_decides p k vol v (body_beside p.store.copy p.copy (good.own q) kept k within) m u same
