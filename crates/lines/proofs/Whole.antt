-- The program as it goes is the program line by line: an input in any parts gives what 01 asks of its lines, though of a line no more than 601 bytes
-- are kept. Assumes nothing.
use Prim.Native.Nat.{ℕ, ◌+◌, ◌≤◌, ◌<◌, min}
use mathlib.Core.Path.{◌≡◌, refl, sym, ap, ap₂, ◌∙◌}
use mathlib.Core.Bool.{Bool, true, false}
use mathlib.Core.List.{List, [], ◌∷◌, ◌++◌, append_assoc, append-nil}
use native.Mathlib.Omega.{arith}
use borrow.Author.Tests.{ne_eqb, lt-ltb, le-ltb, ltb-true, ltb-false}
use lib.Dec.{eqb, ltb}
use lib.ListN.{length, take, length-append, length-take}
use lib.Seq.{take_all, length-take-le, take-append-le}
use Rattle.le.specs.Choice.{pick}
use Rattle.le.specs.Part.{zeros}
use Rattle.runs.specs.Split.{longer}
use Rattle.words.specs.Words.{line_of}
use Rattle.words.proofs.Split.{too_long}
use Rattle.session.specs.declared.Session.{Session}
use Rattle.session.specs.Session.{Turn, start_of, allowed_of, line_step, step_of}
use Rattle.lines.specs.Input.{lines_of, kept_of}
use Rattle.lines.specs.Program.{line_turn, line_text, printed_from, printed_of, Held, held, after_line, saying, feed_of, last_text, held_first}

-- ---- of a line, 601 bytes are enough

cut_line : (l : List ℕ) → line_of (take 601 l) ≡ line_of l
cut_line l = go (ltb 600 (length l)) refl
  where
    go : (t : Bool) → ltb 600 (length l) ≡ t → line_of (take 601 l) ≡ line_of l
    go true e =
        let h : 600 < length l = ltb-true 600 (length l) e in
        let k : 600 < length (take 601 l) = rw (length-take-le 601 l (omega (arith, h))) (omega arith) in
        too_long (take 601 l) k ∙ sym (too_long l h)
    go false e = ap line_of (take_all 601 l (omega (arith, ltb-false 600 (length l) e)))

pub cut_turn : (vol : List ℕ) (s : Session) (l : List ℕ) → line_turn vol s (take 601 l) ≡ line_turn vol s l
unfolding step_of
cut_turn vol s l = ap (line_step vol (allowed_of s) (zeros 3072)) (cut_line l)

cut_text : (vol : List ℕ) (s : Session) (l : List ℕ) → line_text vol s (take 601 l) ≡ line_text vol s l
unfolding line_text
cut_text vol s l = rw (cut_turn vol s l)

-- a byte kept after a line's first 601
kept_cut : (p : List ℕ) (b : ℕ) → kept_of (take 601 p) b ≡ take 601 (p ++ (b ∷ []))
unfolding kept_of pick
kept_cut p b = go (ltb (length p) 601) refl
  where
    short : length p < 601 → kept_of p b ≡ p ++ (b ∷ [])
    short h = rw (lt-ltb (length p) 601 h)

    long : (l : List ℕ) → length l ≡ 601 → kept_of l b ≡ l
    long l e = rw (le-ltb (length l) 601 (omega (arith, e)))

    go : (t : Bool) → ltb (length p) 601 ≡ t → kept_of (take 601 p) b ≡ take 601 (p ++ (b ∷ []))
    go true e =
        let h : length p < 601 = ltb-true (length p) 601 e in
        let k : length (p ++ (b ∷ [])) ≡ length p + 1 = length-append p (b ∷ []) in
        ap (λ (l : List ℕ). kept_of l b) (take_all 601 p (omega arith)) ∙ short h ∙ sym (take_all 601 (p ++ (b ∷ [])) (omega (arith, k, h)))
    go false e =
        let h : 601 ≤ length p = ltb-false (length p) 601 e in
        long (take 601 p) (length-take-le 601 p h) ∙ sym (take-append-le 601 p (b ∷ []) h)

-- ---- the lines of an input whose first bytes were read before

unfoldable after : List ℕ → List (List ℕ) → List (List ℕ)
after [] [] = []
after (b ∷ bs) [] = (b ∷ bs) ∷ []
after p (l ∷ ls) = (p ++ l) ∷ ls

after_none : (ls : List (List ℕ)) → after [] ls ≡ ls
unfolding after
after_none [] = refl
after_none (l ∷ ls) = refl

after_some : (p : List ℕ) (b : ℕ) → after (p ++ (b ∷ [])) [] ≡ (p ++ (b ∷ [])) ∷ []
unfolding after
after_some [] b = refl
after_some (x ∷ xs) b = refl

after_line_lem : (p l : List ℕ) (ls : List (List ℕ)) → after p (l ∷ ls) ≡ (p ++ l) ∷ ls
unfolding after
after_line_lem [] l ls = refl
after_line_lem (x ∷ xs) l ls = refl

after_longer : (p : List ℕ) (b : ℕ) (ls : List (List ℕ)) → after p (longer b ls) ≡ after (p ++ (b ∷ [])) ls
unfolding longer
after_longer p b [] = after_line_lem p (b ∷ []) [] ∙ sym (after_some p b)
after_longer p b (l ∷ ls) =
    after_line_lem p (b ∷ l) ls ∙ ap (λ (x : List ℕ). x ∷ ls) (sym (append_assoc p (b ∷ []) l)) ∙ sym (after_line_lem (p ++ (b ∷ [])) l ls)

-- ---- what is printed for a part of the input and, at its end, for the last line

abbrev said : Held → List ℕ → List ℕ
said h bytes = (feed_of h bytes).text ++ last_text (feed_of h bytes).held

at_end : (vol : List ℕ) (s : Session) (p : List ℕ) → said (held vol s (take 601 p)) [] ≡ printed_from vol s (after p [])
unfolding feed_of last_text printed_from pick after
at_end vol s [] = refl
at_end vol s (b ∷ bs) =
    let k : length (take 601 (b ∷ bs)) ≡ min 601 (length (b ∷ bs)) = length-take 601 (b ∷ bs) in
    rw (ne_eqb (length (take 601 (b ∷ bs))) 0 (λ z. omega (arith, z, k))) (cut_text vol s (b ∷ bs) ∙ sym (append-nil (line_text vol s (b ∷ bs))))

module _ (vol : List ℕ) (s : Session) (p : List ℕ) (b : ℕ) (bs : List ℕ) where
  feed_line : eqb b 10 ≡ true → said (held vol s (take 601 p)) (b ∷ bs) ≡ line_text vol s (take 601 p) ++ said (after_line (held vol s (take 601 p)) (take 601 p)) bs
  unfolding feed_of pick
  feed_line e = rw (e, append_assoc (line_text vol s (take 601 p)) (feed_of (after_line (held vol s (take 601 p)) (take 601 p)) bs).text (last_text (feed_of (after_line (held vol s (take 601 p)) (take 601 p)) bs).held))

  feed_byte : eqb b 10 ≡ false → said (held vol s (take 601 p)) (b ∷ bs) ≡ said (held vol s (take 601 (p ++ (b ∷ [])))) bs
  unfolding feed_of pick
  feed_byte e = rw (e, kept_cut p b)

  lines_end : eqb b 10 ≡ true → lines_of (b ∷ bs) ≡ [] ∷ lines_of bs
  unfolding lines_of pick
  lines_end e = rw e

  lines_byte : eqb b 10 ≡ false → lines_of (b ∷ bs) ≡ longer b (lines_of bs)
  unfolding lines_of pick
  lines_byte e = rw e

  -- a line's end: its answer, then the lines after it
  line_said : eqb b 10 ≡ true
      → said (held (line_turn vol s p).0.vol (line_turn vol s p).0.session []) bs ≡ printed_from (line_turn vol s p).0.vol (line_turn vol s p).0.session (lines_of bs)
      → said (held vol s (take 601 p)) (b ∷ bs) ≡ printed_from vol s (after p (lines_of (b ∷ bs)))
  unfolding printed_from
  line_said e rest =
      feed_line e
      ∙ ap₂ (λ (x : List ℕ) (t : Turn × List ℕ). x ++ said (held t.0.vol t.0.session []) bs) (cut_text vol s p) (cut_turn vol s p)
      ∙ ap (λ (x : List ℕ). line_text vol s p ++ x) rest
      ∙ ap (printed_from vol s) (sym (ap (after p) (lines_end e) ∙ after_line_lem p [] (lines_of bs) ∙ ap (λ (x : List ℕ). x ∷ lines_of bs) (append-nil p)))

said_lines : (vol : List ℕ) (s : Session) (p bytes : List ℕ) → said (held vol s (take 601 p)) bytes ≡ printed_from vol s (after p (lines_of bytes))
unfolding lines_of
said_lines vol s p [] = at_end vol s p
said_lines vol s p (b ∷ bs) =
    go (eqb b 10) refl (said_lines (line_turn vol s p).0.vol (line_turn vol s p).0.session [] bs) (said_lines vol s (p ++ (b ∷ [])) bs)
  where
    go : (t : Bool) → eqb b 10 ≡ t
        → said (held (line_turn vol s p).0.vol (line_turn vol s p).0.session []) bs ≡ printed_from (line_turn vol s p).0.vol (line_turn vol s p).0.session (after [] (lines_of bs))
        → said (held vol s (take 601 (p ++ (b ∷ [])))) bs ≡ printed_from vol s (after (p ++ (b ∷ [])) (lines_of bs))
        → said (held vol s (take 601 p)) (b ∷ bs) ≡ printed_from vol s (after p (lines_of (b ∷ bs)))
    go true e line more = line_said vol s p b bs e (line ∙ ap (printed_from _ _) (after_none (lines_of bs)))
    go false e line more =
        feed_byte vol s p b bs e ∙ more ∙ ap (printed_from vol s) (sym (ap (after p) (lines_byte vol s p b bs e) ∙ after_longer p b (lines_of bs)))

-- the whole input, byte by byte and then its end, prints what its lines ask for
pub printed_whole : (input : List ℕ) → (feed_of held_first input).text ++ last_text (feed_of held_first input).held ≡ printed_of input
unfolding printed_of
printed_whole input = said_lines (zeros 65536) start_of [] input ∙ ap (printed_from _ _) (after_none (lines_of input))

-- two parts of the input, one after the other, are the one input
pub feed_parts : (h : Held) (a b : List ℕ) → feed_of h (a ++ b) ≡ saying (feed_of h a).text (feed_of (feed_of h a).held b)
unfolding feed_of pick
feed_parts h [] b = refl
feed_parts h (x ∷ xs) b =
    go (eqb x 10) refl (feed_parts (after_line h h.line) xs b) (feed_parts (held h.vol h.session (kept_of h.line x)) xs b)
  where
    h1 : Held
    h1 = after_line h h.line

    h2 : Held
    h2 = held h.vol h.session (kept_of h.line x)

    go : (t : Bool) → eqb x 10 ≡ t → feed_of h1 (xs ++ b) ≡ saying (feed_of h1 xs).text (feed_of (feed_of h1 xs).held b)
        → feed_of h2 (xs ++ b) ≡ saying (feed_of h2 xs).text (feed_of (feed_of h2 xs).held b)
        → feed_of h (x ∷ (xs ++ b)) ≡ saying (feed_of h (x ∷ xs)).text (feed_of (feed_of h (x ∷ xs)).held b)
    go true e p q = rw (e, p, append_assoc (line_text h.vol h.session h.line) (feed_of h1 xs).text (feed_of (feed_of h1 xs).held b).text)
    go false e p q = rw (e, q)

-- over any volume and session, before a line's first byte
pub printed_any : (vol : List ℕ) (s : Session) (input : List ℕ) → (feed_of (held vol s []) input).text ++ last_text (feed_of (held vol s []) input).held ≡ printed_from vol s (lines_of input)
printed_any vol s input = said_lines vol s [] input ∙ ap (printed_from vol s) (after_none (lines_of input))
