-- S-3: where every sector of the table passes and no link is refused, the map that mount makes is that of the free links, and else the unfit one.
-- Assumes nothing.
use Rattle.std.specs.Prelude.{Err, Ok, Result}
use Prim.Native.Nat.{ℕ, ◌*◌, ◌<◌}
use mathlib.Core.Path.{◌≡◌, refl, sym, ◌∙◌, subst}
use mathlib.Core.List.{List}
use native.Mathlib.Omega.{arith}
use Rattle.medium.specs.declared.Error.{Error}
use Rattle.medium.specs.declared.Medium.{Medium}
use Rattle.freemap.specs.Map.{map_of, unfit_of}
use Rattle.handles.specs.declared.Store.{Store}
use Rattle.table.specs.Link.{link_held}
use Rattle.table.specs.Table.{links_of}
use Rattle.table.specs.Free.{checked_of, map_at}
use Rattle.table.proofs.Tells.{is_free, Met, Passes, passes_sound, Filled, whole, broken, mount_fills}
use Rattle.table.proofs.Mapped.{CheckedAs, checked_result, failing}
use Rattle.table.proofs.Walks.{link_checked}

module _ (vol : List ℕ) (m : Medium) (st : Store) where
  -- every sector of the table passes, and no link is refused
  pub record AllPass : Type 0 where
    pub checked : checked_of vol m st ≡ Ok tt
    pub sound : (c : ℕ) → c < links_of st.head.chunks → (e : Error) → link_held vol st c ≡ Err e → ⊥

  -- so it is where the walk meets no refusal
  passes_all : Passes vol m st (links_of st.head.chunks) → AllPass
  passes_all p = record { checked = go (checked_of vol m st) refl (checked_result vol m st); sound = passes_sound vol m st p }
    where
      go : (o : Result Unit Error) → checked_of vol m st ≡ o → CheckedAs vol m st o → checked_of vol m st ≡ Ok tt
      go (Ok tt) q r = q
      go (Err e) q f = absurd (subst (Met vol m st) (failing vol m st f) (p (128 * f.at) (omega (arith, f.inside))))

  -- if so, a bit is set exactly where the chunk's link is free; else the map is unfit, and no bit is set
  pub map_fit : AllPass → map_at vol m st ≡ map_of (λ c. is_free (link_held vol st c))
  map_fit k = go (mount_fills vol m st)
    where
      go : Filled vol m st (map_at vol m st) → map_at vol m st ≡ map_of (λ c. is_free (link_held vol st c))
      go (whole p q) = q
      go (broken {c} {e} h r q) =
          absurd (k.sound c h e (sym (link_checked vol m st _ (subst (CheckedAs vol m st) k.checked (checked_result vol m st)) c (omega arith)) ∙ r))

  pub map_unfit : (AllPass → ⊥) → map_at vol m st ≡ unfit_of
  map_unfit n = go (mount_fills vol m st)
    where
      go : Filled vol m st (map_at vol m st) → map_at vol m st ≡ unfit_of
      go (whole p q) = absurd (n (passes_all p))
      go (broken h r q) = q
