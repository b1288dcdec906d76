-- S-4: the judge's answer: blank exactly where the bytes are, and all else as 01 has it. Assumes nothing.
use Rattle.std.specs.Prelude.{Some, None}
use mathlib.Core.Path.{◌≡◌, refl, sym, ◌∙◌}
use mathlib.Core.Bool.{Bool, true, false, not, ◌&&◌, ◌||◌, true≢false, false≢true, or-false}
use mathlib.Core.List.{List}
use Prim.Native.Nat.{ℕ, ◌<◌}
use native.Mathlib.Omega.{arith}
use borrow.Author.Tests.{eqb-true, eqb-false, not-true}
use lib.Dec.{eqb}
use lib.ListN.{length, get_or}
use Rattle.le.specs.Choice.{pick}
use Rattle.le.specs.Field.{get_le}
use Rattle.le.proofs.Bools.{and_true, or_right}
use Rattle.runs.specs.Run.{starts_with, all_same}
use Rattle.runs.proofs.Tests.{all_first, all_starts}
use Rattle.seal.specs.Seal.{is_sealed}
use Rattle.record.specs.declared.Verdict.TheVariants.{Valid, Blank, Other}
use Rattle.record.specs.Record.{mark, matches_of, judge_of, is_blank, verdict_of, heard_of}

-- ---- a blank sector by its first byte

module _ (s : List ℕ) (some : 0 < length s) where
  pub blank_neither : (not (eqb (get_or s 0 0) 0) && not (eqb (get_or s 0 0) 255)) ≡ true → is_blank s ≡ false
  unfolding is_blank
  blank_neither h =
      let n = and_true _ _ h in
      rw (all_first 0 s some (eqb-false _ _ (not-true _ n.0)), all_first 255 s some (eqb-false _ _ (not-true _ n.1)))

  pub blank_first : (not (eqb (get_or s 0 0) 0) && not (eqb (get_or s 0 0) 255)) ≡ false → all_same (get_or s 0 0) s ≡ is_blank s
  unfolding is_blank
  blank_first h = go (eqb (get_or s 0 0) 0) (eqb (get_or s 0 0) 255) refl refl
    where
      go : (a b : Bool) → eqb (get_or s 0 0) 0 ≡ a → eqb (get_or s 0 0) 255 ≡ b → all_same (get_or s 0 0) s ≡ (all_same 0 s || all_same 255 s)
      go true b p q =
          let e : get_or s 0 0 ≡ 0 = eqb-true _ _ p in
          rw (e, all_first 255 s some (omega arith)) (sym (or-false (all_same 0 s)))
      go false true p q =
          let e : get_or s 0 0 ≡ 255 = eqb-true _ _ q in
          rw (e, all_first 0 s some (omega arith))
      go false false p q = absurd (true≢false (rw (p, q) at h))

-- ---- it has no record's mark

mark_apart : (s : List ℕ) → is_blank s ≡ true → starts_with mark s ≡ false
unfolding is_blank
mark_apart s e = go (all_same 0 s) refl
  where
    go : (b : Bool) → all_same 0 s ≡ b → starts_with mark s ≡ false
    go true q = all_starts 0 67 _ s (omega arith) q
    go false q = all_starts 255 67 _ s (omega arith) (or_right (all_same 0 s) (all_same 255 s) e q)

module _ (id file number : ℕ) (s : List ℕ) where
  blank_apart : is_blank s ≡ true → matches_of id file number s ≡ false
  unfolding matches_of
  blank_apart e = rw (mark_apart s e)

  pub matched_apart : matches_of id file number s ≡ true → is_blank s ≡ false
  matched_apart h = go (is_blank s) refl
    where
      go : (b : Bool) → is_blank s ≡ b → b ≡ false
      go true q = absurd (false≢true (sym (blank_apart q) ∙ h))
      go false q = refl

  -- ---- the verdict is blank exactly there

  pub verdict_blank : is_blank s ≡ true → verdict_of id file number s ≡ Blank
  unfolding verdict_of pick
  verdict_blank e = rw (blank_apart e, e)

  pub blank_verdict : verdict_of id file number s ≡ Blank → is_blank s ≡ true
  unfolding verdict_of pick
  blank_verdict e = go (get_le 2 20 s) (matches_of id file number s && is_sealed s) (is_blank s) e
    where
      go : (n : ℕ) (b c : Bool) → pick b (Valid n) (pick c Blank Other) ≡ Blank → c ≡ true
      go n true c q = absurd (let z : ◌≡◌ {A = ℕ} 0 1 = cc in omega arith)
      go n false true q = refl
      go n false false q = absurd (let z : ◌≡◌ {A = ℕ} 0 1 = cc in omega arith)

  -- ---- and all else is as 01 judges

  pub heard_judged : heard_of (verdict_of id file number s) ≡ judge_of id file number s
  unfolding verdict_of judge_of heard_of pick
  heard_judged = go (get_le 2 20 s) (matches_of id file number s && is_sealed s) (is_blank s)
    where
      go : (n : ℕ) (b c : Bool) → heard_of (pick b (Valid n) (pick c Blank Other)) ≡ pick b (Some n) None
      go n true c = refl
      go n false true = refl
      go n false false = refl
