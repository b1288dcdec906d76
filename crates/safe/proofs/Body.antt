-- The body of a copy, sector by sector: ONE induction, whose conclusion holds however it ends. Assumes nothing.
use Rattle.std.specs.Prelude.{Err, Ok}
use mathlib.Core.Path.{◌≡◌, refl, sym, ◌∙◌, subst}
use mathlib.Core.Bool.{Bool, true, false}
use mathlib.Core.List.{List}
use mathlib.Core.Logic.{◌⊎◌, inl, inr, ⊎_elim}
use Prim.Native.Nat.{ℕ, zero, suc, ◌+◌, ◌<◌, ◌≤◌}
use native.Mathlib.Omega.{arith}
use borrow.Author.Tests.{eqb-true, eqb-false}
use lib.Dec.{eqb}
use lib.ListN.{length, get_or, set}
use lib.Seq.{get_or-set_same, get_or-set_other}
use Rattle.medium.specs.declared.Error.{Error}
use Rattle.medium.specs.declared.Medium.{Medium}
use Rattle.medium.specs.Sector.{sectors_of, sector_at}
use Rattle.medium.specs.Frame.{Kept}
use Rattle.medium.proofs.Laws.{on_done_keeps}
use Rattle.medium.proofs.Frame.{kept_more, kept_wide, kept_sectors, write_there}
use Rattle.handles.specs.declared.Header.{Header}
use Rattle.handles.proofs.Laws.{base_most}
use Rattle.plan.specs.Copy.{Plan, Move, unread, put, bad, move_of, act_of, body_from, matched, BodyOut, body_sector_of}
use Rattle.safe.specs.Copy.{target, target_at, Good, Made}
use Rattle.safe.proofs.Frame.{clash}
use Rattle.safe.proofs.Moves.{move_before, good_ready}
use Rattle.plan.proofs.Keeps.{Fills, move_fills, Ready, ready_still, Stays, sector_stays, stays_wide, stays_more, body_stays}

-- what n body sectors from k on leave of the volume v, the medium u and the header h, where the move at i is f i
pub record Left (p : Plan) (f : ℕ → Move) (k n : ℕ) (v : List ℕ) (u : Medium) (h : Header) (o : BodyOut) : Type 0 where
  pub stays : Stays p k n v u h o
  pub rest : (i : ℕ) → (i < k) ⊎ (k + n ≤ i) → get_or o.ans.head.crcs i 0 ≡ get_or h.crcs i 0
  pub made : o.ans.outcome ≡ Ok tt → (i : ℕ) → k ≤ i → i < k + n
      → Made (f i) (sector_at v (target_at p i)) (get_or h.crcs i 0) (sector_at o.vol (target_at p i)) (get_or o.ans.head.crcs i 0)

pub made_same : (mv : Move) {s t s' t' : List ℕ} {c d c' d' : ℕ} → s ≡ t → c ≡ d → s' ≡ t' → c' ≡ d' → Made mv s c s' c' → Made mv t d t' d'
made_same mv a b x y made = rw (← a, ← b, ← x, ← y) made

-- ---- one sector

only : (P : ℕ → Type 0) (k : ℕ) → P k → (i : ℕ) → k ≤ i → i < k + 1 → P i
only P k x i a b = let e : k ≡ i = omega arith in subst P e x

module _ (p : Plan) (f : ℕ → Move) (k : ℕ) (v : List ℕ) (u : Medium) (h : Header) (inside : target_at p k < sectors_of v) (listed : k < length h.crcs) where
  beside : (c i : ℕ) → (i < k) ⊎ (k + 1 ≤ i) → get_or (set h.crcs k c) i 0 ≡ get_or h.crcs i 0
  beside c i o = get_or-set_other h.crcs k i c 0 (⊎_elim (λ (l : i < k). omega arith) (λ (l : k + 1 ≤ i). omega arith) o)

  act_left : (mv : Move) → Fills mv → f k ≡ mv → Stays p k 1 v u h (act_of p mv v u h k) → Left p f k 1 v u h (act_of p mv v u h k)
  unfolding act_of Made
  act_left unread size e s = record { stays = s; rest = λ i w. refl; made = λ q. only _ k (rw e (refl, refl)) }
  act_left (matched c) size e s =
      record { stays = s; rest = beside c; made = λ q. only _ k (rw e (refl, get_or-set_same h.crcs k c 0 listed)) }
  act_left (put c bytes) size e s =
      record {
        stays = s;
        rest = beside c;
        made = λ q. only _ k (rw e (write_there v u (target_at p k) bytes size inside q, get_or-set_same h.crcs k c 0 listed));
      }
  act_left (bad x) size e s = record { stays = s; rest = λ i w. refl; made = λ q. clash refl q }

-- ---- sector after sector

-- k, and those after it
from : (P : ℕ → Type 0) (k n : ℕ) → P k → ((i : ℕ) → k + 1 ≤ i → i < k + 1 + n → P i) → (i : ℕ) → k ≤ i → i < k + suc n → P i
from P k n x more i a b = go (eqb i k) refl
  where
    go : (t : Bool) → eqb i k ≡ t → P i
    go true e = subst P (sym (eqb-true i k e)) x
    go false e = more i (omega (arith, eqb-false i k e)) (omega arith)

module _ {p : Plan} {f : ℕ → Move} {k : ℕ} (n : ℕ) {v : List ℕ} {u : Medium} {h : Header} {s : BodyOut} (one : Left p f k 1 v u h s) where
  -- refused: as it stands
  left_stop : {e : Error} → s.ans.outcome ≡ Err e → Left p f k (suc n) v u h s
  left_stop q =
      record {
        stays = stays_wide one.stays;
        rest = λ i o. one.rest i (⊎_elim (λ (l : i < k). inl l) (λ (l : k + suc n ≤ i). inr (omega arith)) o);
        made = λ d. clash q d;
      }

  left_more : {o : BodyOut} → s.ans.outcome ≡ Ok tt → Left p f (k + 1) n s.vol s.ans.medium s.ans.head o → Left p f k (suc n) v u h o
  left_more {o} q more =
      record {
        stays = stays_more s o one.stays more.stays;
        rest = λ i w.
            more.rest i (⊎_elim (λ (l : i < k). inl (omega arith)) (λ (l : k + suc n ≤ i). inr (omega arith)) w)
            ∙ one.rest i (⊎_elim (λ (l : i < k). inl l) (λ (l : k + suc n ≤ i). inr (omega arith)) w);
        made = λ d. from _ k n
            (made_same (f k) refl refl (sym (more.stays.frame.same (target_at p k) (inl (omega arith)))) (sym (more.rest k (inl (omega arith)))) (one.made q k (omega arith) (omega arith)))
            (λ i a b. made_same (f i) (one.stays.frame.same (target_at p i) (inr (omega arith))) (one.rest i (inr (omega arith))) refl refl (more.made d i a b));
      }

-- THE BODY: whatever the writes left
module _ (p : Plan) (vol : List ℕ) (m : Medium) (good : Good p vol) where
  sector_left : (k : ℕ) (v : List ℕ) (u : Medium) (h : Header) → k < 24 → Kept (target p) 25 vol v → u.unreadable ≡ m.unreadable → length h.crcs ≡ 24
      → Left p (move_of p vol m) k 1 v u h (body_sector_of p v u h k)
  unfolding body_sector_of
  sector_left k v u h within kept same count =
      let inside : target_at p k < sectors_of v = rw (kept_sectors kept) (omega (arith, base_most p.copy, good.enough)) in
      let ready : Ready p v = ready_still p vol v kept.size (good_ready good) in
      let now : move_of p v u k ≡ move_of p vol m k = move_before p vol good k within kept m u same in
      act_left p (move_of p vol m) k v u h inside (omega arith) (move_of p v u k) (move_fills p v u k ready within) (sym now) (sector_stays p v u h k ready within)

  pub body_left : (n k : ℕ) (v : List ℕ) (u : Medium) (h : Header) → k + n ≤ 24 → Kept (target p) 25 vol v → u.unreadable ≡ m.unreadable → length h.crcs ≡ 24
      → Left p (move_of p vol m) k n v u h (body_from p n k v u h)
  unfolding body_from
  body_left zero k v u h fits kept same count =
      record {
        stays = body_stays p 0 k v u h (ready_still p vol v kept.size (good_ready good)) fits;
        rest = λ i w. refl;
        made = λ q i a b. absurd (let x : ⊥ = omega arith in x);
      }
  body_left (suc n) k v u h fits kept same count =
      let s : BodyOut = body_sector_of p v u h k in
      let one : Left p (move_of p vol m) k 1 v u h s = sector_left k v u h (omega arith) kept same count in
      on_done_keeps (Left p (move_of p vol m) k (suc n) v u h) _ _ _
      (λ q. left_more n one q
      (body_left n (k + 1) s.vol s.ans.medium s.ans.head (omega arith)
      (kept_more kept (kept_wide (omega arith) (omega arith) one.stays.frame)) (one.stays.medium.unreadable ∙ same) (one.stays.count ∙ count)))
      (λ e q. left_stop n one q)
