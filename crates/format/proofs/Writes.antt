-- The writes of a format: the zeroed body, a turn at a time, and the ways through the three parts. Assumes nothing.
use Rattle.std.specs.Prelude.{None}
use Rattle.std.specs.Prelude.{Err, Ok}
use mathlib.Core.Path.{◌≡◌, refl, sym, ap, ◌∙◌}
use mathlib.Core.List.{List, []}
use Prim.Native.Nat.{ℕ, zero, suc, ◌+◌, ◌-◌, ◌≤◌, ◌<◌}
use native.Mathlib.Nat.{sub-zero}
use native.Mathlib.Omega.{arith}
use lib.ListN.{set}
use lib.Seq.{set-get_or}
use Rattle.le.specs.Choice.{pick}
use Rattle.le.specs.Part.{zeros}
use Rattle.checksum.specs.Crc.{crc32_of}
use Rattle.medium.specs.declared.Error.{Error}
use Rattle.medium.specs.declared.Medium.{Medium}
use Rattle.medium.specs.declared.Written.{Written}
use Rattle.medium.specs.Refusal.{on_done}
use Rattle.medium.specs.Sector.{WriteOut, write_of}
use Rattle.medium.proofs.Laws.{on_done_keeps}
use Rattle.freemap.specs.declared.FreeMap.{FreeMap}
use Rattle.freemap.specs.Map.{full_of}
use Rattle.handles.specs.declared.Header.{Header}
use Rattle.handles.specs.Handles.{body_of, base_of, no_store}
use Rattle.header.specs.Header.{encode_of, unmarked_of}
use Rattle.plan.specs.declared.Committed.{Committed}
use Rattle.plan.specs.declared.BodyWritten.{BodyWritten}
use Rattle.plan.specs.Copy.{BodyOut, is_format, move_of, with_crc, act_of, body_sector_of, body_from, refused_out, mark_after, map_after, last_of, copy_out}
use Rattle.format.specs.Format.{Zeroed, format_plan, made_of}

-- n body sectors from k on
abbrev pub zeroed_from : ℕ → Header → ℕ → ℕ → List ℕ → Medium → BodyOut
zeroed_from copy h n k vol m = body_from (format_plan copy h) n k vol m h

abbrev pub zero_write : ℕ → ℕ → List ℕ → Medium → WriteOut
zero_write copy k vol m = write_of vol m (base_of copy + 1 + k) (zeros 512)

-- a write beside which the header stays
abbrev leaving : Header → WriteOut → BodyOut
leaving h w = record { vol = w.vol; ans = record { outcome = w.ans.outcome; medium = w.ans.medium; head = h } }

module _ (copy : ℕ) (h : Header) (sums : Zeroed h) where
  -- the checksum that is set is there already
  crc_same : (k : ℕ) → k < body_of h.chunks → with_crc h k (crc32_of (zeros 512)) ≡ h
  crc_same k i =
      let e : set h.crcs k (crc32_of (zeros 512)) ≡ h.crcs = rw (← sums k i) (set-get_or h.crcs k 0) in
      ap (λ (l : List ℕ). record { id = h.id; generation = h.generation; next_id = h.next_id; cursor = h.cursor; chunks = h.chunks; chunk = h.chunk; crcs = l }) e

  zero_sector : (k : ℕ) (vol : List ℕ) (m : Medium) → k < body_of h.chunks → body_sector_of (format_plan copy h) vol m h k ≡ leaving h (zero_write copy k vol m)
  unfolding body_sector_of move_of act_of is_format format_plan pick
  zero_sector k vol m i = ap (λ (x : Header). leaving x (zero_write copy k vol m)) (crc_same k i)

  -- one sector, and the rest where it was written
  pub zero_more : (n k : ℕ) (vol : List ℕ) (m : Medium) → k < body_of h.chunks
      → zeroed_from copy h (suc n) k vol m
      ≡ on_done (zero_write copy k vol m).ans.outcome (zeroed_from copy h n (k + 1) (zero_write copy k vol m).vol (zero_write copy k vol m).ans.medium) (λ e. leaving h (zero_write copy k vol m))
  unfolding body_from
  zero_more n k vol m i = rw (zero_sector k vol m i)

  -- the loop over b sectors
  pub zero_start : (vol : List ℕ) (m : Medium) {b : ℕ} → b ≡ body_of h.chunks → zeroed_from copy h (b - 0) 0 vol m ≡ zeroed_from copy h (body_of h.chunks) 0 vol m
  zero_start vol m e = rw (sub-zero, e)

  -- a turn: zeros were written after the header in sector s, and o is what the loop gives
  module _ (vol : List ℕ) (m : Medium) {b k s : ℕ} {vol' : List ℕ} {w : Written} {o : BodyOut} (eb : b ≡ body_of h.chunks) (i : k < b) (es : s ≡ base_of copy)
      (ev : vol' ≡ (write_of vol m (s + 1 + k) (zeros 512)).vol) (ew : w ≡ (write_of vol m (s + 1 + k) (zeros 512)).ans) (inv : zeroed_from copy h (b - k) k vol m ≡ o) where
    turn : on_done w.outcome (zeroed_from copy h (b - (k + 1)) (k + 1) vol' w.medium) (λ e. record { vol = vol'; ans = record { outcome = w.outcome; medium = w.medium; head = h } }) ≡ o
    turn =
        let n : b - k ≡ suc (b - (k + 1)) = omega arith in
        rw (ev, ew, es) (sym (zero_more (b - (k + 1)) k vol m (rw eb at i)) ∙ rw n at inv)

    pub zero_turn : w.outcome ≡ Ok tt → zeroed_from copy h (b - (k + 1)) (k + 1) vol' w.medium ≡ o
    unfolding on_done
    zero_turn q = rw q at turn

    pub zero_stop : {e : Error} → w.outcome ≡ Err e → (vol' ≡ o.vol) × (record { outcome = Err e; medium = w.medium; head = h } ≡ o.ans)
    unfolding on_done
    zero_stop q = let t = rw q at turn in (ap (λ (x : BodyOut). x.vol) t, ap (λ (x : BodyOut). x.ans) t)

  pub zero_end : (vol : List ℕ) (m : Medium) {b k : ℕ} {o : BodyOut} → b ≤ k → zeroed_from copy h (b - k) k vol m ≡ o
      → (vol ≡ o.vol) × (record { outcome = Ok tt; medium = m; head = h } ≡ o.ans)
  unfolding body_from
  zero_end vol m {b} {k} g inv = let n : b - k ≡ 0 = omega arith in let t = rw n at inv in (ap (λ (x : BodyOut). x.vol) t, ap (λ (x : BodyOut). x.ans) t)

  -- no step changes the header
  pub zero_head : (n k : ℕ) (vol : List ℕ) (m : Medium) → k + n ≤ body_of h.chunks → (zeroed_from copy h n k vol m).ans.head ≡ h
  unfolding body_from
  zero_head zero k vol m i = refl
  zero_head (suc n) k vol m i =
      rw (zero_more n k vol m (omega arith))
      (on_done_keeps (λ (o : BodyOut). o.ans.head ≡ h) _ _ _ (λ _. zero_head n (k + 1) _ _ (omega arith)) (λ e _. refl))

-- ---- the ways through the three parts: each premise is what a call ensures

module _ (copy : ℕ) (h : Header) (vol : List ℕ) (m : Medium) {v : List ℕ} {z : Written}
    (ev : v ≡ (write_of vol m (base_of copy) (unmarked_of h)).vol) (ez : z ≡ (write_of vol m (base_of copy) (unmarked_of h)).ans) where
  pub first_refused : {e : Error} {r : Committed} → z.outcome ≡ Err e → r ≡ (refused_out no_store [] z.medium e).ans → (v ≡ (made_of copy h vol m).vol) × (r ≡ (made_of copy h vol m).ans)
  unfolding copy_out format_plan on_done
  first_refused q er = rw (← ez, q) (ev, er)

  module _ (sums : Zeroed h) (qz : z.outcome ≡ Ok tt) {v₁ : List ℕ} {b : BodyWritten}
      (ev₁ : v₁ ≡ (zeroed_from copy h (body_of h.chunks) 0 v z.medium).vol) (eb : b ≡ (zeroed_from copy h (body_of h.chunks) 0 v z.medium).ans) where
    pub body_refused : {e : Error} {r : Committed} → b.outcome ≡ Err e → r ≡ (refused_out no_store [] b.medium e).ans → (v₁ ≡ (made_of copy h vol m).vol) × (r ≡ (made_of copy h vol m).ans)
    unfolding copy_out format_plan on_done
    body_refused q er = rw (← ez, ← ev, qz, ← eb, q) (ev₁, er)

    module _ (qb : b.outcome ≡ Ok tt) {v₂ : List ℕ} {w : Written}
        (ev₂ : v₂ ≡ (write_of v₁ b.medium (base_of copy) (encode_of h)).vol) (ew : w ≡ (write_of v₁ b.medium (base_of copy) (encode_of h)).ans) where
      kept : b.head ≡ h
      kept = rw eb (zero_head copy h sums (body_of h.chunks) 0 v z.medium (omega arith))

      pub last_refused : {e : Error} {r : Committed} → w.outcome ≡ Err e → r ≡ (refused_out no_store [] w.medium e).ans → (v₂ ≡ (made_of copy h vol m).vol) × (r ≡ (made_of copy h vol m).ans)
      unfolding copy_out last_of format_plan on_done
      last_refused q er = rw (← ez, ← ev, qz, ← eb, qb, ← ev₁, kept, ← ew, q) (ev₂, er)

      pub made : {f : FreeMap} → f ≡ full_of h.chunks → w.outcome ≡ Ok tt
          → (v₂ ≡ (made_of copy h vol m).vol) × (record { outcome = Ok tt; medium = w.medium; store = record { copy = copy; head = h; writer = None; free = f } } ≡ (made_of copy h vol m).ans)
      unfolding copy_out last_of map_after mark_after format_plan no_store is_format pick on_done
      made e q = rw (e, ← ez, ← ev, qz, ← eb, qb, ← ev₁, kept, ← ew, q) (ev₂, refl)
