-- The order of the writes, and why a stop is harmless: from the first write to the last the header sector of the copy holds the first image, so it is
-- no copy where that image is none. Assumes nothing.
use Rattle.std.specs.Prelude.{Err, Ok}
use mathlib.Core.Path.{◌≡◌, sym, ap, ◌∙◌}
use mathlib.Core.List.{List}
use mathlib.Core.Logic.{◌⊎◌, inl, inr}
use Prim.Native.Nat.{ℕ, ◌≤◌, ◌<◌}
use native.Mathlib.Omega.{arith}
use lib.ListN.{length}
use Rattle.medium.specs.declared.Error.{Error}
use Rattle.medium.specs.declared.Medium.{Medium}
use Rattle.medium.specs.Sector.{sectors_of, sector_at, WriteOut}
use Rattle.medium.proofs.Laws.{on_done_keeps, not_done}
use Rattle.medium.proofs.Frame.{write_none, write_there, write_kept}
use Rattle.handles.specs.declared.Header.{Header}
use Rattle.freemap.specs.declared.FreeMap.{FreeMap}
use Rattle.handles.specs.Handles.{body_of, base_of}
use Rattle.plan.specs.Copy.{Skipped, Plan, body_from, Out, last_of, first_of, copy_out}
use Rattle.handles.proofs.Laws.{base_most}
use Rattle.plan.proofs.Keeps.{Ready, ready_still, body_stays}

-- ---- the law

-- refused nothing was written, or the header sector holds the first image
abbrev pub Stopped : Plan → List ℕ → Out → Type 0
Stopped p vol o = (e : Error) → o.ans.outcome ≡ Err e → (o.vol ≡ vol) ⊎ (sector_at o.vol (base_of p.copy) ≡ p.first)

module _ (p : Plan) (vol : List ℕ) (m : Medium) (r : Ready p vol) (most : p.head.chunks ≤ 2048) (size : length p.first ≡ 512) where
  inside : base_of p.copy < sectors_of vol
  inside = omega (arith, base_most p.copy, r.enough)

  -- the first write: accepted the first image is there, refused nothing changes
  pub first_there : (first_of p vol m).ans.outcome ≡ Ok tt → sector_at (first_of p vol m).vol (base_of p.copy) ≡ p.first
  first_there q = write_there vol m (base_of p.copy) p.first size inside q

  pub first_none : {e : Error} → (first_of p vol m).ans.outcome ≡ Err e → (first_of p vol m).vol ≡ vol
  first_none q = write_none vol m (base_of p.copy) p.first q

  first_ready : Ready p (first_of p vol m).vol
  first_ready = ready_still p vol (first_of p vol m).vol (write_kept vol m (base_of p.copy) p.first size inside).size r

  -- the last one, on a volume where the first image is still there
  last_stopped : (free : FreeMap) (skipped : List Skipped) (v : List ℕ) (u : Medium) (h : Header) → sector_at v (base_of p.copy) ≡ p.first → Stopped p vol (last_of p free skipped v u h)
  unfolding last_of
  last_stopped free skipped v u h there =
      on_done_keeps (Stopped p vol) _ _ _ (λ _ e q. not_done (sym q))
      (λ e d _ _. inr (ap (λ (w : List ℕ). sector_at w (base_of p.copy)) (write_none v u _ _ d) ∙ there))

  pub copy_order : Stopped p vol (copy_out p vol m)
  unfolding copy_out
  copy_order =
      let z : WriteOut = first_of p vol m in
      let body : sector_at (body_from p (body_of p.head.chunks) 0 z.vol z.ans.medium p.head).vol (base_of p.copy) ≡ sector_at z.vol (base_of p.copy) =
      (body_stays p (body_of p.head.chunks) 0 z.vol z.ans.medium p.head first_ready (omega arith)).frame.same (base_of p.copy) (inl (omega arith)) in
      on_done_keeps (Stopped p vol) z.ans.outcome _ _
      (λ d. on_done_keeps (Stopped p vol) _ _ _ (λ _. last_stopped _ _ _ _ _ (body ∙ first_there d)) (λ e _ _ _. inr (body ∙ first_there d)))
      (λ e d _ _. inl (first_none d))
