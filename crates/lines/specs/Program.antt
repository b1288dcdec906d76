-- 01, "Hosts", the line program: what it prints for an input, over a zeroed volume of 128 sectors. Then the same as the program goes, which gets the
-- input in parts and keeps little of it: proofs/Whole has that the two are one. Assumes nothing.
use Rattle.std.specs.Prelude.{ℕ, ◌≡◌, List, [], ◌∷◌, ◌++◌, eqb, length, take, drop}
use Rattle.le.specs.Choice.{pick}
use Rattle.le.specs.Part.{zeros}
use Rattle.decimal.specs.Decimal.{Put}
use Rattle.session.specs.declared.Session.{Session}
use Rattle.session.specs.Session.{Turn, start_of, step_of}
use Rattle.lines.specs.declared.Passed.{Passed}
use Rattle.lines.specs.Text.{said_text}
use Rattle.lines.specs.Input.{lines_of, kept_of, Gathering, gather_of}

-- ---- line by line

-- what a line gives, its rows in a buffer of 64 of them; and what is printed
abbrev pub line_turn : List ℕ → Session → List ℕ → Turn × List ℕ
line_turn vol s line = step_of vol s (zeros 3072) line

unfoldable pub line_text : List ℕ → Session → List ℕ → List ℕ
line_text vol s line = said_text (line_turn vol s line).0.said (line_turn vol s line).1

unfoldable pub printed_from : List ℕ → Session → List (List ℕ) → List ℕ
printed_from vol s [] = []
printed_from vol s (l ∷ ls) = line_text vol s l ++ printed_from (line_turn vol s l).0.vol (line_turn vol s l).0.session ls

-- 128 sectors of 512 bytes
unfoldable pub printed_of : List ℕ → List ℕ
printed_of input = printed_from (zeros 65536) start_of (lines_of input)

-- ---- byte by byte

-- between two bytes of the input: the volume, the session, and the line so far
pub record Held : Type 0 where
  pub vol : List ℕ
  pub session : Session
  pub line : List ℕ

abbrev pub held : List ℕ → Session → List ℕ → Held
held vol s line = record { vol = vol; session = s; line = line }

abbrev pub after_line : Held → List ℕ → Held
after_line h line = held (line_turn h.vol h.session line).0.vol (line_turn h.vol h.session line).0.session []

-- up to the end of a line, or of what is there: what is held, what is printed, and what is left
pub record Piece : Type 0 where
  pub held : Held
  pub text : List ℕ
  pub rest : List ℕ

unfoldable pub piece_of : Held → List ℕ → Piece
piece_of h bytes =
    let g : Gathering = gather_of h.line bytes in
    pick g.ended
    (record { held = after_line h g.line; text = line_text h.vol h.session g.line; rest = g.rest })
    (record { held = held h.vol h.session g.line; text = []; rest = g.rest })

-- what is held after a part of the input, and what is printed
pub record FedPart : Type 0 where
  pub held : Held
  pub text : List ℕ

abbrev pub saying : List ℕ → FedPart → FedPart
saying text f = record { held = f.held; text = text ++ f.text }

unfoldable pub feed_of : Held → List ℕ → FedPart
feed_of h [] = record { held = h; text = [] }
feed_of h (b ∷ bs) =
    pick (eqb b 10)
    (saying (line_text h.vol h.session h.line) (feed_of (after_line h h.line) bs))
    (feed_of (held h.vol h.session (kept_of h.line b)) bs)

-- what an error in the middle of a part leaves: the volume is what a first part of its bytes made
abbrev pub StoppedIn : Held → List ℕ → List ℕ → Type 0
StoppedIn h bytes vol = (fed : List ℕ) × (rest : List ℕ) × (bytes ≡ fed ++ rest) × ((feed_of h fed).held.vol ≡ vol)

-- at the end of the input
unfoldable pub last_text : Held → List ℕ
last_text h = pick (eqb (length h.line) 0) [] (line_text h.vol h.session h.line)

abbrev pub held_first : Held
held_first = held (zeros 65536) start_of []

-- what the code passed of a part of the input, as places: what is held, the text at the start of `out`, and what is left
abbrev pub PassedAt : Passed → List ℕ → List ℕ → List ℕ → List ℕ → List ℕ → Piece → Type 0
PassedAt r vol bytes line before after p =
    (held vol r.session (take r.fill line) ≡ p.held) × Put 0 p.text before after r.count × (drop r.at bytes ≡ p.rest)
