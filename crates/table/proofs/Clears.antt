-- A sector of the table with the links of a slot cleared, link by link. Assumes nothing.
use Prim.Native.Nat.{ℕ, ◌+◌, ◌*◌, ◌%◌, ◌<◌, ◌≤◌, zero-le}
use mathlib.Core.Path.{◌≡◌, refl, sym, ap, ◌∙◌, subst}
use mathlib.Core.Bool.{Bool, true, false}
use mathlib.Core.List.{List}
use mathlib.Core.Logic.{◌⊎◌, inl, inr, ⊎_elim}
use native.Mathlib.Nat.{add-zero, le_refl}
use native.Mathlib.Omega.{arith}
use borrow.Author.Count.{below_more, below_none}
use borrow.Author.Tests.{eq-eqb, ne_eqb}
use lib.ListN.{length}
use Rattle.le.specs.Choice.{pick}
use Rattle.le.specs.Part.{part, over, zeros}
use Rattle.le.specs.Field.{le_number, get_le}
use Rattle.le.proofs.Choices.{pick_keeps, pick_true, pick_false}
use Rattle.le.proofs.Parts.{length_over, length_zeros, part_over, part_before, part_after, part_part}
use Rattle.walk.specs.Walk.{visits}
use Rattle.walk.proofs.Laws.{walk_keeps}
use Rattle.table.specs.Link.{owned_by, clear_link, cleared_of}

-- the owner's field of a link is a field of the sector
pub owner_field : (k : ℕ) (t : List ℕ) → get_le 2 (4 * k) t ≡ get_le 2 0 (part (4 * k) 4 t)
unfolding get_le
owner_field k t = ap le_number (sym (part_part (4 * k) 4 0 2 t (omega arith) ∙ ap (λ (o : ℕ). part o 2 t) (add-zero (4 * k))))

-- one link: zeroed where it is the slot's, else as it was
module _ (slot k : ℕ) (t : List ℕ) where
  pub clear_owned : {after : List ℕ} → get_le 2 (4 * k) t % 128 ≡ slot + 1 → after ≡ over (4 * k) (zeros 4) t → after ≡ clear_link slot k t
  unfolding clear_link owned_by
  clear_owned q e = e ∙ sym (pick_true _ t (eq-eqb _ _ (ap (λ (n : ℕ). n % 128) (sym (owner_field k t)) ∙ q)))

  pub clear_kept : (get_le 2 (4 * k) t % 128 ≡ slot + 1 → ⊥) → t ≡ clear_link slot k t
  unfolding clear_link owned_by
  clear_kept q = sym (pick_false (over (4 * k) (zeros 4) t) t (ne_eqb _ _ (λ e. q (ap (λ (n : ℕ). n % 128) (owner_field k t) ∙ e))))

module _ (slot k : ℕ) (t : List ℕ) (long : length t ≡ 512) (h : k < 128) where
  room : 4 * k + length (zeros 4) ≤ length t
  room = rw (length_zeros 4) (omega arith)

  clear_length : length (clear_link slot k t) ≡ 512
  unfolding clear_link
  clear_length = pick_keeps (λ (x : List ℕ). length x ≡ 512) _ (over (4 * k) (zeros 4) t) t (length_over (4 * k) (zeros 4) t room ∙ long) long

  clear_same : part (4 * k) 4 (clear_link slot k t) ≡ pick (owned_by slot (part (4 * k) 4 t)) (zeros 4) (part (4 * k) 4 t)
  unfolding clear_link pick
  clear_same = go (owned_by slot (part (4 * k) 4 t))
    where
      go : (b : Bool) → part (4 * k) 4 (pick b (over (4 * k) (zeros 4) t) t) ≡ pick b (zeros 4) (part (4 * k) 4 t)
      go true = ap (λ (n : ℕ). part (4 * k) n (over (4 * k) (zeros 4) t)) (sym (length_zeros 4)) ∙ part_over (4 * k) (zeros 4) t room
      go false = refl

  clear_other : (i : ℕ) → (i < k) ⊎ (k < i) → part (4 * i) 4 (clear_link slot k t) ≡ part (4 * i) 4 t
  unfolding clear_link
  clear_other i d =
      pick_keeps (λ (x : List ℕ). part (4 * i) 4 x ≡ part (4 * i) 4 t) _ (over (4 * k) (zeros 4) t) t
      (⊎_elim
      (λ (q : i < k). part_before (4 * k) (zeros 4) t room (4 * i) 4 (omega arith))
      (λ (q : k < i). part_after (4 * k) (zeros 4) t room (4 * i) 4 (rw (length_zeros 4) (omega arith))) d)
      refl

module _ (slot : ℕ) (l : List ℕ) where
  abbrev cleared : List ℕ → List ℕ
  cleared bytes = pick (owned_by slot bytes) (zeros 4) bytes

  -- links below n are cleared, those from n on as they were
  record Upto (n : ℕ) (t : List ℕ) : Type 0 where
    pub long : length t ≡ 512
    pub done : (i : ℕ) → i < n → part (4 * i) 4 t ≡ cleared (part (4 * i) 4 l)
    pub left : (i : ℕ) → n ≤ i → i < 128 → part (4 * i) 4 t ≡ part (4 * i) 4 l

  step : (k : ℕ) (t : List ℕ) → k < 128 → Upto k t → Upto (k + 1) (clear_link slot k t)
  step k t h p =
      record {
        long = clear_length slot k t p.long h;
        done =
            below_more (λ (i : ℕ). part (4 * i) 4 (clear_link slot k t) ≡ cleared (part (4 * i) 4 l)) k
            (λ i q. clear_other slot k t p.long h i (inl q) ∙ p.done i q)
            (clear_same slot k t p.long h ∙ ap cleared (p.left k (le_refl k) h));
        left = λ i q b. clear_other slot k t p.long h i (inr (omega arith)) ∙ p.left i (omega arith) b;
      }

  all : length l ≡ 512 → Upto 128 (cleared_of slot l)
  unfolding cleared_of visits
  all e =
      walk_keeps _ _ 128 Upto (Upto 128)
      (λ k t u h p q. let z : clear_link slot k t ≡ u = cc in subst (Upto (k + 1)) z (step k t h p))
      (λ k t r h p q. absurd (let z : ◌≡◌ {A = ℕ} 0 1 = cc in omega arith))
      (λ t p. p) 0 l zero-le (record { long = e; done = below_none _; left = λ i a b. refl })

  pub length_cleared : length l ≡ 512 → length (cleared_of slot l) ≡ 512
  length_cleared e = (all e).long

  pub part_cleared : length l ≡ 512 → (i : ℕ) → i < 128 → part (4 * i) 4 (cleared_of slot l) ≡ pick (owned_by slot (part (4 * i) 4 l)) (zeros 4) (part (4 * i) 4 l)
  part_cleared e = (all e).done
