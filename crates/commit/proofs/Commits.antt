-- What a commit gives, by the way that it goes: a law for a turn of the loop over the body, and for each return of `write_body`, `rewrite` and
-- `commit`, over plain values. Assumes nothing.
use Rattle.std.specs.Prelude.{Err, Ok}
use mathlib.Core.Path.{◌≡◌, refl, ap, ◌∙◌}
use mathlib.Core.Bool.{Bool, true, false}
use mathlib.Core.List.{List}
use Prim.Native.Nat.{ℕ, zero, suc, ◌+◌, ◌-◌, ◌^◌, ◌<◌, ◌≤◌}
use native.Mathlib.Omega.{arith}
use borrow.Author.Tests.{eq-eqb, ne_eqb}
use lib.ListN.{length}
use Rattle.le.specs.Choice.{pick}
use Rattle.le.proofs.Turns.{told}
use Rattle.medium.specs.declared.Error.{Error}
use Rattle.medium.specs.declared.Error.TheVariants.{Stale, Spent}
use Rattle.medium.specs.declared.Medium.{Medium}
use Rattle.medium.specs.declared.Written.{Written}
use Rattle.medium.specs.Refusal.{on_done}
use Rattle.medium.specs.Sector.{sectors_of, write_of}
use Rattle.freemap.specs.declared.FreeMap.{FreeMap}
use Rattle.handles.specs.declared.Header.{Header}
use Rattle.handles.specs.declared.Store.{Store}
use Rattle.handles.specs.Handles.{body_of, base_of, store_ok}
use Rattle.header.specs.declared.answers.Current.{Current}
use Rattle.header.specs.Header.{encode_of}
use Rattle.header.specs.Copies.{current_of}
use Rattle.plan.specs.declared.Committed.{Committed}
use Rattle.plan.specs.declared.Edit.{Edit}
use Rattle.plan.specs.declared.BodyWritten.{BodyWritten}
use Rattle.plan.specs.Copy.{skipped_from, Plan, BodyOut, body_sector_of, body_from, Out, free_after, last_of, copy_out}
use Rattle.plan.proofs.Keeps.{Ready, body_stays}
use Rattle.commit.specs.Commit.{is_current, commit_plan, commit_of}
use Rattle.commit.proofs.Steps.{Gives, GivesW}

abbrev pub GivesC : List ℕ → Committed → Out → Type 0
GivesC vol a o = (vol ≡ o.vol) × (a ≡ o.ans)

pub along : {v : List ℕ} {s : BodyWritten} {x y : BodyOut} → Gives v s x → x ≡ y → Gives v s y
along g e = (g.0 ∙ ap (λ (o : BodyOut). o.vol) e, g.1 ∙ ap (λ (o : BodyOut). o.ans) e)

-- ---- the loop over the body: from here the definition gives what it gives from the start

module _ (p : Plan) (n k : ℕ) (vol : List ℕ) (m : Medium) (h : Header) where
  module _ (below : k < n) {vol' : List ℕ} {s : BodyWritten} (g : Gives vol' s (body_sector_of p vol m h k)) where
    less : n - k ≡ suc (n - (k + 1))
    less = omega arith

    pub turn : s.outcome ≡ Ok tt → body_from p (n - k) k vol m h ≡ body_from p (n - (k + 1)) (k + 1) vol' s.medium s.head
    unfolding body_from on_done
    turn d = rw (less, ← g.0, ← g.1, d)

    pub stop : {e : Error} → s.outcome ≡ Err e → Gives vol' s (body_from p (n - k) k vol m h)
    unfolding body_from on_done
    stop d =
        let o : (body_sector_of p vol m h k).ans.outcome ≡ _ = told (ap (λ (a : BodyWritten). a.outcome) g.1) d in
        let q : body_sector_of p vol m h k ≡ body_from p (n - k) k vol m h = rw (less, o) in
        along g q

  pub ended : n ≤ k → Gives vol (record { outcome = Ok tt; medium = m; head = h }) (body_from p (n - k) k vol m h)
  unfolding body_from
  ended above = let e : n - k ≡ zero = omega arith in rw e (refl, refl)

pub begun : (p : Plan) {n b : ℕ} (vol : List ℕ) (m : Medium) {h g : Header} → n ≡ b → h ≡ g → body_from p (n - 0) 0 vol m h ≡ body_from p b 0 vol m g
begun p {n = n} vol m e q = let z : n - 0 ≡ n = omega arith in rw (z, e, q)

-- a volume of the same length holds the store value as well
pub fits_still : (st : Store) (v w : List ℕ) → length w ≡ length v → store_ok st (sectors_of v) ≡ true → store_ok st (sectors_of w) ≡ true
fits_still st v w e ok = rw e ok

-- the body leaves the count of chunks, so that the header made can be written
pub body_chunks : (p : Plan) (vol : List ℕ) (m : Medium) {v : List ℕ} {b : BodyWritten} → Gives v b (body_from p (body_of p.head.chunks) 0 vol m p.head) → Ready p vol
    → p.head.chunks ≤ 2048 → b.head.chunks ≡ p.head.chunks
body_chunks p vol m g r most =
    ap (λ (s : BodyWritten). s.head.chunks) g.1
    ∙ ap (λ (h : Header). h.chunks) (body_stays p (body_of p.head.chunks) 0 vol m p.head r (omega arith)).numbers

-- ---- the copy: its first image, the body, the whole header

module _ (p : Plan) (vol : List ℕ) (m : Medium) {at : ℕ} {vz : List ℕ} {z : Written} (ha : at ≡ base_of p.copy) (gz : GivesW vz z (write_of vol m at p.first)) where
  pub first_refused : {e : Error} → z.outcome ≡ Err e → GivesC vz (record { outcome = Err e; medium = z.medium; store = p.store }) (copy_out p vol m)
  unfolding copy_out on_done
  first_refused d = rw (← ha, ← gz.0, ← gz.1, d) (refl, refl)

  module _ (dz : z.outcome ≡ Ok tt) {vb : List ℕ} {b : BodyWritten} (gb : Gives vb b (body_from p (body_of p.head.chunks) 0 vz z.medium p.head)) where
    pub body_refused : {e : Error} → b.outcome ≡ Err e → GivesC vb (record { outcome = Err e; medium = b.medium; store = p.store }) (copy_out p vol m)
    unfolding copy_out on_done
    body_refused d = rw (← ha, ← gz.0, ← gz.1, dz, ← gb.0, ← gb.1, d) (refl, refl)

    module _ (db : b.outcome ≡ Ok tt) {vw : List ℕ} {w : Written} (gw : GivesW vw w (write_of vb b.medium (base_of p.copy) (encode_of b.head))) where
      last : copy_out p vol m ≡ last_of p (free_after p vol) (skipped_from p vol m (body_of p.head.chunks) 0) vb b.medium b.head
      unfolding copy_out on_done
      last = rw (← ha, ← gz.0, ← gz.1, dz, ← gb.0, ← gb.1, db)

      pub last_refused : {e : Error} → w.outcome ≡ Err e → GivesC vw (record { outcome = Err e; medium = w.medium; store = p.store }) (copy_out p vol m)
      unfolding last_of on_done
      last_refused d = rw (last, ← gw.0, ← gw.1, d) (refl, refl)

      pub made : {f : FreeMap} → f ≡ free_after p vol → w.outcome ≡ Ok tt
          → GivesC vw (record { outcome = Ok tt; medium = w.medium; store = record { copy = p.copy; head = b.head; writer = p.store.writer; free = f } }) (copy_out p vol m)
      unfolding last_of on_done
      made e d = rw (e, last, ← gw.0, ← gw.1, d) (refl, refl)

-- ---- before the first write

module _ (edit : Edit) (name vol : List ℕ) (m : Medium) (st : Store) {c : Current} (hc : c ≡ current_of vol m) where
  pub unfound : {e : Error} → c.outcome ≡ Err e → GivesC vol (record { outcome = Err e; medium = m; store = st }) (commit_of edit name vol m st)
  unfolding commit_of on_done
  unfound d = rw (← hc, d) (refl, refl)

  module _ (d : c.outcome ≡ Ok tt) {b : Bool} (hb : b ≡ is_current c st) where
    pub stale : b ≡ false → GivesC vol (record { outcome = Err Stale; medium = m; store = st }) (commit_of edit name vol m st)
    unfolding commit_of on_done pick
    stale t = rw (← hc, ← hb, t, d) (refl, refl)

    module _ (t : b ≡ true) where
      pub spent : st.head.generation ≡ 2 ^ 64 - 1 → GivesC vol (record { outcome = Err Spent; medium = m; store = st }) (commit_of edit name vol m st)
      unfolding commit_of on_done pick
      spent g = rw (← hc, ← hb, t, eq-eqb _ _ g, d) (refl, refl)

      pub rewritten : {v : List ℕ} {r : Committed} → (st.head.generation ≡ 2 ^ 64 - 1 → ⊥) → GivesC v r (copy_out (commit_plan c edit name st) vol m)
          → GivesC v r (commit_of edit name vol m st)
      unfolding commit_of commit_plan on_done pick
      rewritten g w = rw (← hc, ← hb, t, ne_eqb _ _ g, d) w
