-- The input in parts: a line's answer, a piece up to a line's end, and a part piece by piece. Assumes nothing.
use Rattle.std.specs.Prelude.{Option, Some, None, is_some, unwrap_or}
use Prim.Native.Nat.{ℕ, ◌≤◌}
use mathlib.Core.Path.{◌≡◌, refl, sym, ap, ◌∙◌}
use mathlib.Core.Bool.{Bool, true, false}
use mathlib.Core.List.{List, [], ◌∷◌}
use native.Mathlib.Omega.{arith}
use borrow.Author.Tests.{eq-eqb, ne_eqb}
use lib.Dec.{eqb}
use lib.ListN.{length, take, drop}
use Rattle.le.specs.Choice.{pick}
use Rattle.le.specs.Part.{zeros}
use Rattle.le.proofs.Parts.{length_zeros}
use Rattle.le.proofs.Turns.{drop_end}
use Rattle.decimal.specs.Decimal.{Put}
use Rattle.session.specs.declared.Session.{Session}
use Rattle.session.specs.declared.Told.{Told}
use Rattle.session.specs.Session.{Turn, turn_of, said_of, step_of}
use Rattle.lines.specs.declared.input.Gathered.{Gathered}
use Rattle.lines.specs.declared.Passed.{Passed}
use Rattle.lines.specs.Text.{said_text, Few}
use Rattle.lines.specs.Input.{kept_of, gather_of, GatheredAt}
use Rattle.lines.specs.Program.{line_turn, line_text, Held, held, after_line, piece_of, PassedAt, FedPart, saying, feed_of, last_text}
use Rattle.lines.proofs.Pens.{put_none}
use Rattle.lines.proofs.Counts.{step_few}

-- ---- a line

module _ (vol : List ℕ) (s : Session) (line : List ℕ) (t : Told) {v rows : List ℕ} (g : (turn_of v t, rows) ≡ step_of vol s (zeros 3072) line) where
  pub reply_few : Few (said_of t.reply)
  reply_few = rw (ap (λ (p : Turn × List ℕ). p.0.said) g) (step_few vol s (zeros 3072) line (rw (length_zeros 3072) (omega arith)))

  pub answered : (before : List ℕ) {after : List ℕ} {n : ℕ} → Put 0 (said_text (said_of t.reply) rows) before after n × (n ≤ 8192)
      → (v ≡ (line_turn vol s line).0.vol) × (t.session ≡ (line_turn vol s line).0.session) × Put 0 (line_text vol s line) before after n × (n ≤ 8192)
  unfolding line_text
  answered before p = (ap (λ (q : Turn × List ℕ). q.0.vol) g, ap (λ (q : Turn × List ℕ). q.0.session) g, rw (← g) p.0, p.1)

-- ---- a piece

module _ (h : Held) (bytes : List ℕ) where
  ended_piece : (gather_of h.line bytes).ended ≡ true
      → piece_of h bytes ≡ record { held = after_line h (gather_of h.line bytes).line; text = line_text h.vol h.session (gather_of h.line bytes).line; rest = (gather_of h.line bytes).rest }
  unfolding piece_of pick
  ended_piece e = rw e

  open_piece : (gather_of h.line bytes).ended ≡ false
      → piece_of h bytes ≡ record { held = held h.vol h.session (gather_of h.line bytes).line; text = []; rest = (gather_of h.line bytes).rest }
  unfolding piece_of pick
  open_piece e = rw e

module _ (vol : List ℕ) (s : Session) (start bytes : List ℕ) (at : ℕ) (line : List ℕ) (r : Gathered) (g : GatheredAt r bytes line (gather_of start (drop at bytes))) where
  pub passed_open : r.next ≡ None → (out : List ℕ)
      → PassedAt (record { session = s; at = length bytes; fill = r.fill; count = 0 }) vol bytes line out out (piece_of (held vol s start) (drop at bytes))
  passed_open e out =
      rw (open_piece (held vol s start) (drop at bytes) (sym g.1 ∙ ap is_some e))
      (ap (held vol s) g.0, put_none 0 out (omega arith), ap (λ (o : Option ℕ). drop (unwrap_or o (length bytes)) bytes) (sym e) ∙ g.2)

  pub passed_ended : {next : ℕ} → r.next ≡ Some next → (before : List ℕ) {v after : List ℕ} {t : Session} {n : ℕ}
      → (v ≡ (line_turn vol s (take r.fill line)).0.vol) × (t ≡ (line_turn vol s (take r.fill line)).0.session) × Put 0 (line_text vol s (take r.fill line)) before after n × (n ≤ 8192)
      → PassedAt (record { session = t; at = next; fill = 0; count = n }) v bytes line before after (piece_of (held vol s start) (drop at bytes))
  passed_ended {next} e before a =
      rw (ended_piece (held vol s start) (drop at bytes) (sym g.1 ∙ ap is_some e), ← g.0, a.0, a.1)
      (refl, a.2, ap (λ (o : Option ℕ). drop (unwrap_or o (length bytes)) bytes) (sym e) ∙ g.2)

-- ---- a part of the input, piece by piece

pub feed_piece : (h : Held) (bytes : List ℕ) → feed_of h bytes ≡ saying (piece_of h bytes).text (feed_of (piece_of h bytes).held (piece_of h bytes).rest)
unfolding feed_of piece_of gather_of pick
feed_piece h [] = refl
feed_piece h (b ∷ bs) = go (eqb b 10) refl (feed_piece (held h.vol h.session (kept_of h.line b)) bs)
  where
    h2 : Held
    h2 = held h.vol h.session (kept_of h.line b)

    go : (t : Bool) → eqb b 10 ≡ t → feed_of h2 bs ≡ saying (piece_of h2 bs).text (feed_of (piece_of h2 bs).held (piece_of h2 bs).rest)
        → feed_of h (b ∷ bs) ≡ saying (piece_of h (b ∷ bs)).text (feed_of (piece_of h (b ∷ bs)).held (piece_of h (b ∷ bs)).rest)
    go true e rest = rw e
    go false e rest = rw e rest

-- one turn of the loop
pub feed_turn : (h : Held) (bytes : List ℕ) (at : ℕ) (r : Passed) (vol line before : List ℕ) {after : List ℕ} → PassedAt r vol bytes line before after (piece_of h (drop at bytes))
    → (feed_of (held vol r.session (take r.fill line)) (drop r.at bytes)).held ≡ (feed_of h (drop at bytes)).held
feed_turn h bytes at r vol line before p = rw (p.0, p.2) (sym (ap (λ (f : FedPart). f.held) (feed_piece h (drop at bytes))))

pub feed_none : (h : Held) (bytes : List ℕ) (at : ℕ) → length bytes ≤ at → (feed_of h (drop at bytes)).held ≡ h
unfolding feed_of
feed_none h bytes at e = rw (drop_end bytes at e)

-- ---- the end of the input

module _ (vol : List ℕ) (s : Session) (line out : List ℕ) where
  pub last_empty : length line ≡ 0 → Put 0 (last_text (held vol s line)) out out 0
  unfolding last_text pick
  last_empty e = rw (eq-eqb (length line) 0 e) (put_none 0 out (omega arith))

  pub last_line : (length line ≡ 0 → ⊥) → {after : List ℕ} {n : ℕ} → Put 0 (line_text vol s line) out after n → Put 0 (last_text (held vol s line)) out after n
  unfolding last_text pick
  last_line e p = rw (ne_eqb (length line) 0 e) p
