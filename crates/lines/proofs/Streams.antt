-- What is written of an input that comes in parts, and what is read of it. Assumes nothing.
use Rattle.std.proofs.Common.{◌≡◌, ℕ, ◌+◌, ◌-◌, ◌^◌, ◌≤◌, ◌<◌, List, [], ◌∷◌, ◌++◌, refl, sym, ap, ◌∙◌, replicate, append_assoc, append-nil, length, length-append, take, drop, arith}
use Rattle.std.proofs.lemmas.List.{take_at, length-take-le, nil_from_length}
use mathlib.Core.Path.{subst}
use mathlib.Core.Bool.{Bool, true, false}
use lib.Dec.{eqb}
use Rattle.le.specs.Choice.{pick}
use Rattle.std.specs.Prelude.{None, Some, IfSome, Ok, Err, OnOk, OnErr}
use Rattle.std.specs.Io.KnownBytes.{Appends, Consumes, IsAtEnd}
use Rattle.std.specs.declared.option.Option.{Option}
use Rattle.std.specs.declared.result.Result.{Result}
use Rattle.le.specs.Part.{zeros, over}
use Rattle.le.proofs.Turns.{drop_end}
use Rattle.decimal.specs.Decimal.{Put}
use Rattle.session.specs.Session.{start_of}
use Rattle.lines.specs.declared.Passed.{Passed}
use Rattle.lines.specs.Input.{kept_of, gather_of, lines_of}
use Rattle.lines.specs.Program.{printed_from, printed_of, Held, held, piece_of, PassedAt, FedPart, saying, feed_of, StoppedIn, last_text}
use Rattle.lines.proofs.Feeds.{feed_piece, feed_none}
use Rattle.lines.proofs.Whole.{feed_parts, printed_any}

-- ---- what a writer holds

pub appends_none : (k : Option (List ℕ)) → Appends k k []
appends_none None = tt
appends_none (Some xs) = sym (append-nil xs)

pub appends_more : (a b c : Option (List ℕ)) (t u : List ℕ) → Appends a b t → Appends b c u → Appends a c (t ++ u)
appends_more None b c t u p q = tt
appends_more (Some xs) None c t u p q = absurd p
appends_more (Some xs) (Some ys) None t u p q = absurd q
appends_more (Some xs) (Some ys) (Some zs) t u p q = q ∙ ap (λ (y : List ℕ). y ++ u) p ∙ append_assoc xs t u

-- ---- a part of the input, piece by piece

-- what was written so far, and what the rest gives, is what the whole part gives
pub record Fed (old new : Option (List ℕ)) (rest whole : FedPart) : Type 0 where
  pub text : List ℕ
  pub written : Appends old new text
  pub same : saying text rest ≡ whole

pub fed_none : (k : Option (List ℕ)) (f : FedPart) → Fed k k f f
fed_none k f = record { text = []; written = appends_none k; same = refl }

put_taken : (text before : List ℕ) {after : List ℕ} {n : ℕ} → Put 0 text before after n → take n after ≡ text
unfolding over
put_taken text before {after} {n} (e, k) = ap (take n) e ∙ take_at text (drop (0 + length text) before) n (omega (arith, k))

saying_twice : (a b : List ℕ) (f : FedPart) → saying (a ++ b) f ≡ saying a (saying b f)
saying_twice a b f = ap (λ (t : List ℕ). record { held = f.held; text = t }) (append_assoc a b f.text)

passed_on : (h : Held) (bytes : List ℕ) (at : ℕ) (r : Passed) (vol line before : List ℕ) {after : List ℕ} → PassedAt r vol bytes line before after (piece_of h (drop at bytes))
    → feed_of h (drop at bytes) ≡ saying (piece_of h (drop at bytes)).text (feed_of (held vol r.session (take r.fill line)) (drop r.at bytes))
passed_on h bytes at r vol line before p = rw (p.0, p.2) (feed_piece h (drop at bytes))

-- one turn of the loop
pub fed_more : (a b c : Option (List ℕ)) {whole : FedPart} (h : Held) (bytes : List ℕ) (at : ℕ) (r : Passed) (vol line before : List ℕ) {after : List ℕ}
    → Fed a b (feed_of h (drop at bytes)) whole → PassedAt r vol bytes line before after (piece_of h (drop at bytes)) → Appends b c (take r.count after)
    → Fed a c (feed_of (held vol r.session (take r.fill line)) (drop r.at bytes)) whole
fed_more a b c h bytes at r vol line before f p w =
    record {
      text = f.text ++ (piece_of h (drop at bytes)).text;
      written = appends_more a b c f.text (piece_of h (drop at bytes)).text f.written (subst (Appends b c) (put_taken (piece_of h (drop at bytes)).text before p.1) w);
      same = saying_twice f.text _ _ ∙ ap (saying f.text) (sym (passed_on h bytes at r vol line before p)) ∙ f.same;
    }

-- a first part of the bytes gives what is held after a piece
piece_first : (h : Held) (bytes : List ℕ) → (fed : List ℕ) × (bytes ≡ fed ++ (piece_of h bytes).rest) × ((feed_of h fed).held ≡ (piece_of h bytes).held)
unfolding feed_of piece_of gather_of pick
piece_first h [] = ([], refl, refl)
piece_first h (b ∷ bs) = go (eqb b 10) refl (piece_first (held h.vol h.session (kept_of h.line b)) bs)
  where
    h2 : Held
    h2 = held h.vol h.session (kept_of h.line b)

    go : (t : Bool) → eqb b 10 ≡ t → (fed : List ℕ) × (bs ≡ fed ++ (piece_of h2 bs).rest) × ((feed_of h2 fed).held ≡ (piece_of h2 bs).held)
        → (fed : List ℕ) × (b ∷ bs ≡ fed ++ (piece_of h (b ∷ bs)).rest) × ((feed_of h fed).held ≡ (piece_of h (b ∷ bs)).held)
    go true e f = (b ∷ [], rw e refl, rw e refl)
    go false e f = (b ∷ f.0, rw e (ap (λ (l : List ℕ). b ∷ l) f.1), rw e f.2)

-- the bytes before a place of the part make what is held there
pub record Made (first now : Held) (bytes : List ℕ) (at : ℕ) : Type 0 where
  pub fed : List ℕ
  pub part : bytes ≡ fed ++ drop at bytes
  pub holds : (feed_of first fed).held ≡ now

pub made_none : (h : Held) (bytes : List ℕ) → Made h h bytes 0
unfolding feed_of
made_none h bytes = record { fed = []; part = refl; holds = refl }

pub made_more : {first : Held} (h : Held) (bytes : List ℕ) (at : ℕ) (r : Passed) (vol line before : List ℕ) {after : List ℕ}
    → Made first h bytes at → PassedAt r vol bytes line before after (piece_of h (drop at bytes)) → Made first (held vol r.session (take r.fill line)) bytes r.at
made_more {first = first} h bytes at r vol line before m p =
    let f = piece_first h (drop at bytes) in
    let whole : feed_of first (m.fed ++ f.0) ≡ saying (feed_of first m.fed).text (feed_of h f.0) = feed_parts first m.fed f.0 ∙ ap (λ (x : Held). saying (feed_of first m.fed).text (feed_of x f.0)) m.holds in
    record {
      fed = m.fed ++ f.0;
      part = m.part ∙ ap (λ (l : List ℕ). m.fed ++ l) (f.1 ∙ ap (λ (l : List ℕ). f.0 ++ l) (sym p.2)) ∙ sym (append_assoc m.fed f.0 (drop r.at bytes));
      holds = ap (λ (x : FedPart). x.held) whole ∙ f.2 ∙ sym p.0;
    }

pub made_stopped : {first now : Held} {bytes : List ℕ} {at : ℕ} → Made first now bytes at → StoppedIn first bytes now.vol
made_stopped {bytes = bytes} {at = at} m = (m.fed, drop at bytes, m.part, ap (λ (x : Held). x.vol) m.holds)

pub on_error : {T E : Type 0} (result : Result T E) {P : Type 0} → P → OnErr result P
on_error (Ok x) p = tt
on_error (Err e) p = p

-- at the end of the part
pub fed_end : (a b : Option (List ℕ)) {whole : FedPart} (h : Held) (bytes : List ℕ) (at : ℕ) → length bytes ≤ at → Fed a b (feed_of h (drop at bytes)) whole
    → (h ≡ whole.held) × Appends a b whole.text
unfolding feed_of
fed_end a b h bytes at e f =
    let n : feed_of h (drop at bytes) ≡ record { held = h; text = [] } = rw (drop_end bytes at e) in
    let w : record { held = h; text = f.text ++ [] } ≡ _ = sym (ap (saying f.text) n) ∙ f.same in
    (sym (feed_none h bytes at e) ∙ ap (λ (x : FedPart). x.held) f.same, subst (λ (x : FedPart). Appends a b x.text) w (rw append-nil f.written))

-- ---- the whole input, part by part

consumes_more : (a b c : Option (List ℕ)) (t u : List ℕ) → Consumes a b t → Consumes b c u → Consumes a c (t ++ u)
consumes_more None b c t u p q = tt
consumes_more (Some xs) None c t u p q = absurd p
consumes_more (Some xs) (Some ys) None t u p q = absurd q
consumes_more (Some xs) (Some ys) (Some zs) t u p q = p ∙ ap (λ (y : List ℕ). t ++ y) q ∙ sym (append_assoc t u zs)

consumes_none : (k : Option (List ℕ)) → Consumes k k []
consumes_none None = tt
consumes_none (Some xs) = refl

-- before a part: what was fed so far is read, held and written, and each turn fed a byte at least
pub record Ran (given left a b : Option (List ℕ)) (first now : Held) (turns : ℕ) : Type 0 where
  pub fed : List ℕ
  pub read : Consumes given left fed
  pub holds : (feed_of first fed).held ≡ now
  pub written : Appends a b (feed_of first fed).text
  pub many : turns ≤ length fed

pub ran_first : (given k : Option (List ℕ)) (first now : Held) → now ≡ first → Ran given given k k first now 0
unfolding feed_of
ran_first given k first now same = record { fed = []; read = consumes_none given; holds = sym same; written = appends_none k; many = omega arith }

-- one turn of the loop: a part is read, and fed
pub ran_more : (given left next a b c : Option (List ℕ)) (first h h2 : Held) (n : ℕ) (bytes : List ℕ) (turns : ℕ)
    → Ran given left a b first h turns → (n ≡ 0 → ⊥) → n ≤ length bytes → Consumes left next (take n bytes)
    → h2 ≡ (feed_of h (take n bytes)).held → Appends b c (feed_of h (take n bytes)).text
    → Ran given next a c first h2 (turns + 1)
ran_more given left next a b c first h h2 n bytes turns r some room m e w =
    let part : List ℕ = take n bytes in
    let whole : feed_of first (r.fed ++ part) ≡ saying (feed_of first r.fed).text (feed_of h part) = feed_parts first r.fed part ∙ ap (λ (x : Held). saying (feed_of first r.fed).text (feed_of x part)) r.holds in
    let l : length (r.fed ++ part) ≡ length r.fed + length part = length-append r.fed part in
    let l2 : length part ≡ n = length-take-le n bytes room in
    record {
      fed = r.fed ++ part;
      read = consumes_more given left next r.fed part r.read m;
      holds = ap (λ (f : FedPart). f.held) whole ∙ sym e;
      written = subst (Appends a c) (sym (ap (λ (f : FedPart). f.text) whole)) (appends_more a b c (feed_of first r.fed).text (feed_of h part).text r.written w);
      many = omega (arith, r.many, l, l2, some);
    }

-- behind the loop: all of an input that no run of so many turns passes by is held and written
abbrev pub Through : Option (List ℕ) → Option (List ℕ) → Option (List ℕ) → Held → Held → ℕ → Type 0
Through given a b first now size =
    IfSome given (λ xs. 0 < size → length xs < 2 ^ 64 - 1 → ((feed_of first xs).held ≡ now) × Appends a b (feed_of first xs).text)

-- a read of no byte was the end of the input
pub through_end : (given left next a b : Option (List ℕ)) (first h : Held) (n : ℕ) (bytes : List ℕ) (turns size : ℕ) → Ran given left a b first h turns
    → n ≡ 0 → n ≤ length bytes → Consumes left next (take n bytes) → (n ≡ 0 → 0 < size → IsAtEnd next) → Through given a b first h size
through_end None left next a b first h n bytes turns size r z room m end = tt
through_end (Some xs) None next a b first h n bytes turns size r z room m end = absurd r.read
through_end (Some xs) (Some ys) None a b first h n bytes turns size r z room m end = absurd m
through_end (Some xs) (Some ys) (Some zs) a b first h n bytes turns size r z room m end = λ some few.
    let none : take n bytes ≡ [] = nil_from_length (take n bytes) (length-take-le n bytes room ∙ z) in
    let left : ys ≡ [] = m ∙ ap (λ (l : List ℕ). l ++ zs) none ∙ end z some in
    let fed : xs ≡ r.fed = r.read ∙ ap (λ (l : List ℕ). r.fed ++ l) left ∙ append-nil r.fed in
    subst (λ (l : List ℕ). ((feed_of first l).held ≡ h) × Appends a b (feed_of first l).text) (sym fed) (r.holds, r.written)

-- the turns are used up by no such input
pub through_turns : (given left a b : Option (List ℕ)) (first h : Held) (turns size : ℕ) → Ran given left a b first h turns → 2 ^ 64 - 1 ≤ turns → Through given a b first h size
through_turns None left a b first h turns size r z = tt
through_turns (Some xs) None a b first h turns size r z = absurd r.read
through_turns (Some xs) (Some ys) a b first h turns size r z = λ some few.
    let l : length xs ≡ length r.fed + length ys = ap length r.read ∙ length-append r.fed ys in
    absurd (omega (arith, l, few, z, r.many))

-- the end of the input ends a last line
ran_whole : (given a b c : Option (List ℕ)) (vol : List ℕ) (h : Held) (size : ℕ) (before after : List ℕ) (k : ℕ)
    → Through given a b (held vol start_of []) h size → Put 0 (last_text h) before after k → Appends b c (take k after)
    → IfSome given (λ xs. 0 < size → length xs < 2 ^ 64 - 1 → Appends a c (printed_from vol start_of (lines_of xs)))
ran_whole None a b c vol h size before after k t p w = tt
ran_whole (Some xs) a b c vol h size before after k t p w = λ some few.
    let g = t some few in
    let f : FedPart = feed_of (held vol start_of []) xs in
    let text : Appends a c (f.text ++ last_text h) = appends_more a b c f.text (last_text h) g.1 (subst (Appends b c) (put_taken (last_text h) before p) w) in
    subst (Appends a c) (ap (λ (x : Held). f.text ++ last_text x) (sym g.0) ∙ printed_any vol start_of xs) text

pub ran_done : {T E : Type 0} (result : Result T E) (given a b c : Option (List ℕ)) (vol : List ℕ) (h : Held) (size : ℕ) (before after : List ℕ) (k : ℕ)
    → Through given a b (held vol start_of []) h size → Put 0 (last_text h) before after k → OnOk result (Appends b c (take k after))
    → OnOk result (IfSome given (λ xs. 0 < size → length xs < 2 ^ 64 - 1 → Appends a c (printed_from vol start_of (lines_of xs))))
ran_done (Ok x) given a b c vol h size before after k t p w = ran_whole given a b c vol h size before after k t p w
ran_done (Err e) given a b c vol h size before after k t p w = tt

-- over a zeroed volume
pub printed_all : {T E : Type 0} (result : Result T E) (given a c : Option (List ℕ)) (vol : List ℕ) (size : ℕ) → vol ≡ zeros 65536 → 0 < size
    → OnOk result (IfSome given (λ xs. 0 < size → length xs < 2 ^ 64 - 1 → Appends a c (printed_from vol start_of (lines_of xs))))
    → OnOk result (IfSome given (λ xs. length xs < 2 ^ 64 - 1 → Appends a c (printed_of xs)))
unfolding printed_of
printed_all (Err e) given a c vol size same some p = tt
printed_all (Ok x) None a c vol size same some p = tt
printed_all (Ok x) (Some xs) a c vol size same some p = λ few. subst (λ (v : List ℕ). Appends a c (printed_from v start_of (lines_of xs))) same (p some few)

pub zeros_are : (n : ℕ) → replicate n 0 ≡ zeros n
unfolding zeros
zeros_are n = refl
