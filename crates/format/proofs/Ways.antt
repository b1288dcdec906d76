-- The ways through format, from what the calls on each ensure. Assumes nothing.
use Rattle.std.specs.Prelude.{Err, Ok}
use mathlib.Core.Path.{◌≡◌, refl}
use mathlib.Core.Bool.{true, false, not, ◌&&◌}
use mathlib.Core.List.{List, []}
use Prim.Native.Nat.{ℕ, ◌-◌, ◌^◌, ◌≤◌}
use borrow.Author.Tests.{eq-eqb, ne_eqb, leb-true, not-true, not-false}
use lib.Dec.{eqb, leb}
use Rattle.le.specs.Choice.{pick}
use Rattle.le.proofs.Bools.{and_true}
use Rattle.medium.specs.declared.Error.{Error}
use Rattle.medium.specs.declared.Error.TheVariants.{Range, Spent}
use Rattle.medium.specs.declared.Medium.{Medium}
use Rattle.medium.specs.Refusal.{on_done}
use Rattle.medium.specs.Sector.{sectors_of}
use Rattle.medium.proofs.Laws.{on_done_done}
use Rattle.handles.specs.declared.Header.{Header}
use Rattle.handles.specs.Handles.{no_store}
use Rattle.header.specs.declared.answers.Copies.{Copies}
use Rattle.header.specs.Copies.{headers_of}
use Rattle.header.proofs.Accepted.{headers_both}
use Rattle.plan.specs.declared.Committed.{Committed}
use Rattle.plan.specs.Copy.{Out, refused_out}
use Rattle.format.specs.Format.{chunks_of, copy_for, newest_of, format_head, Zeroed, made_of, format_over, format_of}
use Rattle.format.proofs.Crcs.{head_zeroed}

-- the volume and the answer are those of a definition
abbrev pub Gives : Out → List ℕ → Committed → Type 0
Gives o vol r = (vol ≡ o.vol) × (r ≡ o.ans)

-- ---- once both headers are read: s is the count of sectors, n that of chunks

module _ (c : Copies) (size seed : ℕ) (vol : List ℕ) (m : Medium) {s n : ℕ} (es : s ≡ sectors_of vol) (en : n ≡ chunks_of s size) where
  over_is : format_over c size seed vol m
      ≡ pick (eqb n 0) (refused_out no_store vol m Range)
      (pick (eqb (newest_of c) (2 ^ 64 - 1)) (refused_out no_store vol m Spent) (made_of (copy_for c) (format_head c m n size seed) vol m))
  unfolding format_over
  over_is = rw (en, es)

  pub no_chunks : {r : Committed} → n ≡ 0 → r ≡ (refused_out no_store [] m Range).ans → Gives (format_over c size seed vol m) vol r
  unfolding pick
  no_chunks z er = rw (over_is, eq-eqb n 0 z) (refl, er)

  module _ {g : ℕ} (some : n ≡ 0 → ⊥) (eg : g ≡ newest_of c) where
    pub spent : {r : Committed} → g ≡ 2 ^ 64 - 1 → r ≡ (refused_out no_store [] m Spent).ans → Gives (format_over c size seed vol m) vol r
    unfolding pick
    spent z er = rw (over_is, ne_eqb n 0 some, ← eg, eq-eqb g (2 ^ 64 - 1) z) (refl, er)

    pub over : {k : ℕ} {h : Header} {v : List ℕ} {r : Committed} → (g ≡ 2 ^ 64 - 1 → ⊥) → h ≡ format_head c m n size seed → k ≡ copy_for c → Gives (made_of k h vol m) v r
        → Gives (format_over c size seed vol m) v r
    unfolding pick
    over less eh ek made = rw (over_is, ne_eqb n 0 some, ← eg, ne_eqb g (2 ^ 64 - 1) less, ← eh, ← ek) made

-- what writing requires of the header
pub head_fits : (c : Copies) (m : Medium) (n size seed : ℕ) {h : Header} → n ≤ 2048 → h ≡ format_head c m n size seed → (h.chunks ≤ 2048) × Zeroed h
unfolding format_head
head_fits c m n size seed most eh = rw eh (most, head_zeroed c m n size seed)

-- ---- from the start

module _ (size seed : ℕ) (vol : List ℕ) (m : Medium) where
  pub wrong_size : {r : Committed} → not (leb 1 size && leb size 512) ≡ true → r ≡ (refused_out no_store [] m Range).ans → Gives (format_of size seed vol m) vol r
  unfolding format_of pick
  wrong_size t er = rw (not-true (leb 1 size && leb size 512) t) (refl, er)

  module _ {c : Copies} (t : not (leb 1 size && leb size 512) ≡ false) (ec : c ≡ headers_of vol m) where
    pub unread : {e : Error} {r : Committed} → c.outcome ≡ Err e → r ≡ (refused_out no_store [] m e).ans → Gives (format_of size seed vol m) vol r
    unfolding format_of pick on_done
    unread q er = rw (not-false (leb 1 size && leb size 512) t, ← ec, q) (refl, er)

    pub enough : c.outcome ≡ Ok tt → (64 ≤ sectors_of vol) × (1 ≤ size)
    enough q =
        ((headers_both vol m (rw (← ec) q)).enough, leb-true 1 size (and_true (leb 1 size) (leb size 512) (not-false (leb 1 size && leb size 512) t)).0)

    pub whole : {v : List ℕ} {r : Committed} → c.outcome ≡ Ok tt → Gives (format_over c size seed vol m) v r → Gives (format_of size seed vol m) v r
    unfolding format_of pick
    whole q over = rw (not-false (leb 1 size && leb size 512) t, ← ec, on_done_done (format_over c size seed vol m) (refused_out no_store vol m) q) over
