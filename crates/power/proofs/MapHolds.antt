-- S-3's law over histories: after each of them the chunk chosen and the free count are the table walk's. Assumes nothing.
use Prim.Native.Nat.{ℕ, ◌<◌}
use mathlib.Core.Path.{◌≡◌, refl, ap}
use mathlib.Core.Bool.{Bool, true, false}
use mathlib.Core.List.{List, [], ◌∷◌}
use lib.ListN.{get_or}
use Rattle.medium.specs.declared.Medium.{Medium}
use Rattle.medium.specs.Refusal.{ok}
use Rattle.medium.specs.Sector.{sectors_of}
use Rattle.medium.proofs.Laws.{done_told}
use Rattle.handles.specs.declared.Store.{Store}
use Rattle.handles.proofs.Laws.{Sane, sane_facts}
use Rattle.header.proofs.Accepted.{copy_sane}
use Rattle.table.proofs.Tells.{Mapped}
use Rattle.table.proofs.Mapped.{unfit_free, unfit_count, mapped_free, mapped_count}
use Rattle.plan.specs.Copy.{Skipped}
use Rattle.format.specs.Format.{format_of}
use Rattle.format.proofs.Accepted.{format_fresh}
use Rattle.append.specs.declared.Appender.{Appender}
use Rattle.safe.proofs.Ranged.{bytes_ranged}
use Rattle.views.proofs.Stays.{links_stay}
use Rattle.views.proofs.Maps.{mapped_kept}
use Rattle.store.specs.Writing.{format_call}
use Rattle.power.specs.Calls.{Call}
use Rattle.power.specs.History.{World, ran, after, is_ok, Honest, Premise}
use Rattle.power.specs.Claim.{started}
use Rattle.power.specs.Map.{at_cursor, AsWalked, Starts, mounted, formatted, EachCall, MapHolds}
use Rattle.power.proofs.Lasts.{Buffered}
use Rattle.power.proofs.Fitted.{Fitted, mount_fitted, format_fitted, fitted_lasts}
use Rattle.power.proofs.Kept.{mount_closed, unopened, lasts}

-- an unfit map asks the walk, and a fit one that tells the table answers as it
fitted_walked : {vol : List ℕ} {st : Store} → Fitted vol st → AsWalked vol st
fitted_walked {vol} {st} h = go st.free.fit refl
  where
    go : (t : Bool) → st.free.fit ≡ t → AsWalked vol st
    go false f = record { chunk = λ m k _. unfit_free vol m (at_cursor k st) f; count = λ m. unfit_count vol m st f }
    go true f =
        let sane : Sane st.head (sectors_of vol) = sane_facts st.head (sectors_of vol) (copy_sane vol _ st.head (h.stands f).found) in
        let at : (k : ℕ) → Mapped vol (at_cursor k st) = λ k. mapped_kept refl (links_stay vol st vol (at_cursor k st) refl refl (λ i l. refl)) refl h.map in
        record {
          chunk = λ m k l. mapped_free vol m (at_cursor k st) sane.chunks_most h.ok (at k) l;
          count = λ m. mapped_count vol m st sane.chunks_most h.ok h.map;
        }

-- ---- where a history starts

starts_fitted : (w : World) → Starts w → Fitted w.vol w.store × Buffered w
unfolding format_call
starts_fitted w (mounted vol m x bytes a) = (mount_fitted vol m (bytes_ranged vol bytes), unopened (mount_closed vol m))
starts_fitted w (formatted vol m size seed x bytes a) = (
  format_fitted vol m size seed (ap is_ok a) (bytes_ranged vol bytes),
  unopened (format_fresh size seed vol m (done_told (format_of size seed vol m).ans.outcome a)).1,
)

pub map_holds : MapHolds
map_holds w s cs left = let h = starts_fitted w s in fitted_walked (lasts fitted_lasts cs w h.0 h.1 left)

-- ---- in every history of demand 3, since its premise is more

premise_each : (P : Skipped → Type 0) (cs : List Call) (w : World) → Premise P w cs → EachCall P w cs
unfolding Premise EachCall
premise_each P [] w p = tt
premise_each P (c ∷ cs) w p = (p.1, premise_each P cs (ran w c).world p.2)

pub histories_walked : (vol : List ℕ) (m : Medium) (size seed : ℕ) (ap₀ : Appender) (cs : List Call) → ((k : ℕ) → get_or vol k 0 < 256)
    → (format_call vol m size seed).call.answer ≡ ok tt → (let w : World = started (format_call vol m size seed) ap₀ in Premise Honest w cs → AsWalked (after w cs).vol (after w cs).store)
histories_walked vol m size seed ap₀ cs bytes a p = map_holds _ (formatted vol m size seed ap₀ bytes a) cs (premise_each Honest cs _ p)
