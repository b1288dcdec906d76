-- What a body sector gives, by the way that it goes: a law for each return of `write_body_sector`, over plain values, whose premises are what the
-- callees ensure and what the tests say. Assumes nothing.
use Rattle.std.specs.Prelude.{Err, Ok, Result}
use mathlib.Core.Path.{◌≡◌, refl, ap, ◌∙◌}
use mathlib.Core.Bool.{Bool, true, false, not, ◌&&◌}
use mathlib.Core.List.{List}
use Prim.Native.Nat.{ℕ, ◌+◌}
use borrow.Author.Tests.{eq-eqb, ne_eqb}
use lib.Dec.{eqb}
use lib.ListN.{get_or}
use Rattle.le.specs.Choice.{pick}
use Rattle.le.proofs.Turns.{told}
use Rattle.checksum.specs.Crc.{crc32_of}
use Rattle.medium.specs.declared.Error.{Error}
use Rattle.medium.specs.declared.Error.TheVariants.{Corrupt}
use Rattle.medium.specs.declared.Medium.{Medium}
use Rattle.medium.specs.declared.Written.{Written}
use Rattle.medium.specs.Refusal.{on_done}
use Rattle.medium.specs.Sector.{WriteOut, sector_at, read_of, write_of}
use Rattle.handles.specs.declared.Header.{Header}
use Rattle.handles.specs.declared.Store.{Store}
use Rattle.handles.specs.Body.{body_at, check_of}
use Rattle.handles.specs.Handles.{base_of}
use Rattle.plan.specs.declared.BodyWritten.{BodyWritten}
use Rattle.plan.specs.Edit.{changes_of, edit_of}
use Rattle.plan.specs.Copy.{Plan, unread, matched, put, bad, BodyOut, due_bytes, lists, due_move, is_format, move_of, with_crc, act_of, body_sector_of}

-- the volume and the answer are what a definition gives
abbrev pub Gives : List ℕ → BodyWritten → BodyOut → Type 0
Gives vol a o = (vol ≡ o.vol) × (a ≡ o.ans)

abbrev pub GivesW : List ℕ → Written → WriteOut → Type 0
GivesW vol a o = (vol ≡ o.vol) × (a ≡ o.ans)

-- the same, of an answer that a function of its own made
pub made_of : {A : Type 0} {v w : List ℕ} {r s t : A} → r ≡ s → (v ≡ w) × (s ≡ t) → (v ≡ w) × (r ≡ t)
made_of e g = (g.0, e ∙ g.1)

-- ---- a body sector read

-- what reading sector k leaves in a buffer that held z
abbrev pub left_in : List ℕ → Medium → List ℕ → ℕ → List ℕ
left_in vol m z k = on_done (read_of m k) (sector_at vol k) (λ _. z)

module _ (vol : List ℕ) (m : Medium) (st : Store) (k : ℕ) (z : List ℕ) {base : ℕ} {o : Result Unit Error} {s : List ℕ} (ha : base ≡ base_of st.copy)
    (ho : o ≡ read_of m (base + 1 + k)) (hs : s ≡ left_in vol m z (base + 1 + k)) where
  pub not_read : {e : Error} → o ≡ Err e → (Err e ≡ check_of vol m st k) × (s ≡ left_in vol m z (body_at st k))
  unfolding check_of on_done
  not_read q = (rw (← ha, told ho q), rw (← ha) hs)

  module _ (d : o ≡ Ok tt) {c : ℕ} (hc : c ≡ crc32_of s) where
    same : c ≡ crc32_of (sector_at vol (body_at st k))
    unfolding on_done
    same = rw (← ha) (hc ∙ ap crc32_of (hs ∙ rw (told ho d)))

    pub passed : c ≡ get_or st.head.crcs k 0 → ((Ok tt) ≡ check_of vol m st k) × (s ≡ left_in vol m z (body_at st k))
    unfolding check_of on_done pick
    passed q = (rw (← same, ← ha, told ho d, eq-eqb _ _ q), rw (← ha) hs)

    pub damaged : (c ≡ get_or st.head.crcs k 0 → ⊥) → (Err Corrupt ≡ check_of vol m st k) × (s ≡ left_in vol m z (body_at st k))
    unfolding check_of on_done pick
    damaged q = (rw (← same, ← ha, told ho d, ne_eqb _ _ q), rw (← ha) hs)

-- a sector that passed was read
check_read : (vol : List ℕ) (m : Medium) (st : Store) (k : ℕ) → check_of vol m st k ≡ Ok tt → read_of m (body_at st k) ≡ Ok tt
unfolding check_of on_done
check_read vol m st k e = go (read_of m (body_at st k)) _ e
  where
    go : (o x : Result Unit Error) → on_done o x Err ≡ Ok tt → o ≡ Ok tt
    go (Ok tt) x q = refl
    go (Err r) x q = q

-- ---- one body sector

module _ (p : Plan) (vol : List ℕ) (m : Medium) (h : Header) (k : ℕ) (edits : is_format p.edit ≡ false) {b l : Bool} (hb : b ≡ changes_of p.edit k)
    (hl : l ≡ (p.known && eqb (get_or p.listed k 0) (get_or p.store.head.crcs k 0))) where
  move : move_of p vol m k ≡ pick (not b && l) unread (on_done (check_of vol m p.store k) (due_move p k (due_bytes p vol k)) bad)
  unfolding move_of lists pick
  move = rw (edits, ← hb, ← hl)

  pub skipped : (not b && l) ≡ true → Gives vol (record { outcome = Ok tt; medium = m; head = h }) (body_sector_of p vol m h k)
  unfolding body_sector_of act_of pick
  skipped t = rw (move, t) (refl, refl)

  module _ (t : (not b && l) ≡ false) {o : Result Unit Error} (ho : o ≡ check_of vol m p.store k) where
    pub refused : {e : Error} → o ≡ Err e → Gives vol (record { outcome = Err e; medium = m; head = h }) (body_sector_of p vol m h k)
    unfolding body_sector_of act_of pick on_done
    refused q = rw (move, t, told ho q) (refl, refl)

    module _ (d : o ≡ Ok tt) (z : List ℕ) {s s' : List ℕ} {c : ℕ} {l' : Bool}
        (hs : s ≡ left_in vol m z (body_at p.store k)) (hs' : s' ≡ pick b (edit_of p.edit p.name k s) s)
        (hc : c ≡ crc32_of s') (hl' : l' ≡ (p.known && eqb (get_or p.listed k 0) c)) where
      due : s' ≡ due_bytes p vol k
      unfolding due_bytes on_done
      due =
          let r : s ≡ sector_at vol (body_at p.store k) = hs ∙ rw (check_read vol m p.store k (told ho d)) in
          hs' ∙ rw (r, hb)

      decided : move_of p vol m k ≡ pick l' (matched c) (put c s')
      unfolding pick on_done due_move lists
      decided = rw (move, t, told ho d, ← due, ← hc, ← hl')

      pub kept : l' ≡ true → Gives vol (record { outcome = Ok tt; medium = m; head = with_crc h k c }) (body_sector_of p vol m h k)
      unfolding body_sector_of act_of pick
      kept q = rw (decided, q) (refl, refl)

      pub written : {base : ℕ} {vol' : List ℕ} {w : Written} → l' ≡ false → base ≡ base_of p.copy → GivesW vol' w (write_of vol m (base + 1 + k) s')
          → Gives vol' (record { outcome = w.outcome; medium = w.medium; head = with_crc h k c }) (body_sector_of p vol m h k)
      unfolding body_sector_of act_of pick
      written q ha g = rw (decided, q, ← ha, ← g.0, ← g.1) (refl, refl)
