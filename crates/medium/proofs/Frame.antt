-- What a sector write, and writes one after another, leave of the volume and of the medium record. Assumes nothing.
use Rattle.std.specs.Prelude.{Err, Ok}
use mathlib.Core.Path.{◌≡◌, refl, sym, ap, ◌∙◌}
use mathlib.Core.List.{List}
use mathlib.Core.Logic.{inl, inr, ⊎_elim}
use Prim.Native.Nat.{ℕ, ◌+◌, ◌*◌, ◌<◌, ◌≤◌}
use native.Mathlib.Nat.{le_refl, le_trans}
use native.Mathlib.Omega.{arith}
use lib.Dec.{eqb}
use lib.ListN.{length, drop, length-drop}
use lib.Seq.{take_all}
use Rattle.le.specs.Part.{part}
use Rattle.le.proofs.Choices.{pick_keeps}
use Rattle.medium.specs.declared.Error.{Error}
use Rattle.medium.specs.declared.Medium.{Medium}
use Rattle.medium.specs.declared.Written.{Written}
use Rattle.medium.specs.Sector.{sectors_of, sector_at, spend_of, write_of}
use Rattle.medium.specs.Frame.{Kept, Spends}
use Rattle.medium.proofs.Laws.{length_write, sector_same, sector_other, write_refused, write_done, on_done_keeps}

-- ---- nothing written; one after another; more sectors

pub kept_none : (lo n : ℕ) (vol : List ℕ) → Kept lo n vol vol
kept_none lo n vol = record { size = refl; same = λ j o. refl }

pub kept_more : {lo n : ℕ} {vol v w : List ℕ} → Kept lo n vol v → Kept lo n v w → Kept lo n vol w
kept_more p q = record { size = q.size ∙ p.size; same = λ j o. q.same j o ∙ p.same j o }

pub kept_wide : {lo n lo' n' : ℕ} {vol v : List ℕ} → lo' ≤ lo → lo + n ≤ lo' + n' → Kept lo n vol v → Kept lo' n' vol v
kept_wide {lo} {n} {lo'} {n'} a b k =
    record { size = k.size; same = λ j o. k.same j (⊎_elim (λ (h : j < lo'). inl (omega arith)) (λ (h : lo' + n' ≤ j). inr (omega arith)) o) }

-- as many sectors as before
pub kept_sectors : {lo n : ℕ} {vol v : List ℕ} → Kept lo n vol v → sectors_of v ≡ sectors_of vol
kept_sectors k = rw k.size

-- the bytes past the last whole sector: what sector S has
abbrev pub rest_of : List ℕ → List ℕ
rest_of vol = drop (512 * sectors_of vol) vol

sector_rest : (vol : List ℕ) → sector_at vol (sectors_of vol) ≡ rest_of vol
unfolding sector_at part
sector_rest vol = take_all 512 (rest_of vol) (simp length-drop (omega arith))

-- writes below S leave them
pub kept_rest : {lo n : ℕ} {vol v : List ℕ} → lo + n ≤ sectors_of vol → Kept lo n vol v → rest_of v ≡ rest_of vol
kept_rest {vol = vol} {v = v} h k = sym (sector_rest v) ∙ ap (sector_at v) (kept_sectors k) ∙ k.same (sectors_of vol) (inr h) ∙ sector_rest vol

pub spends_none : (m : Medium) → Spends m m
spends_none m = record { left = le_refl m.left; unreadable = refl; entropy = refl; token = refl }

pub spends_more : {m a b : Medium} → Spends m a → Spends a b → Spends m b
spends_more p q =
    record {
      left = le_trans q.left p.left;
      unreadable = q.unreadable ∙ p.unreadable;
      entropy = q.entropy ∙ p.entropy;
      token = q.token ∙ p.token;
    }

-- ---- a sector write

module _ (vol : List ℕ) (m : Medium) (k : ℕ) (bytes : List ℕ) where
  pub write_spends : Spends m (write_of vol m k bytes).ans.medium
  unfolding write_of spend_of
  write_spends =
      pick_keeps (λ (w : Written). Spends m w.medium) (eqb m.left 0) _ _
      (spends_none m)
      (record { left = omega arith; unreadable = refl; entropy = refl; token = refl })

  -- refused it changes nothing
  pub write_none : {e : Error} → (write_of vol m k bytes).ans.outcome ≡ Err e → (write_of vol m k bytes).vol ≡ vol
  unfolding write_of
  write_none q = sym (write_refused vol m k bytes refl q).0

  module _ (size : length bytes ≡ 512) (inside : k < sectors_of vol) where
    -- accepted its bytes are there
    pub write_there : (write_of vol m k bytes).ans.outcome ≡ Ok tt → sector_at (write_of vol m k bytes).vol k ≡ bytes
    unfolding write_of
    write_there q = ap (λ (v : List ℕ). sector_at v k) (sym (write_done vol m k bytes refl q refl).0) ∙ sector_same vol k bytes size inside

    -- and all else is as it was, either way
    pub write_kept : Kept k 1 vol (write_of vol m k bytes).vol
    unfolding write_of
    write_kept =
        on_done_keeps (Kept k 1 vol) _ _ _
        (λ _. record {
          size = length_write vol k bytes size inside;
          same = λ j o. sector_other vol k bytes size inside j (⊎_elim (λ (h : j < k). inl h) (λ (h : k + 1 ≤ j). inr (omega arith)) o);
        })
        (λ e _. kept_none k 1 vol)
