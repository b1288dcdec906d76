-- 02, S-4: the edges of a blank sector, made of the definitions. One statement has them all; proofs/Edges proves it. Assumes nothing.
use Rattle.std.specs.Prelude.{ℕ, ◌≡◌, true, false, List, [], ◌∷◌, ◌++◌, replicate}
use Rattle.record.specs.declared.Verdict.TheVariants.{Blank, Other}
use Rattle.record.specs.Record.{is_blank, verdict_of}

-- 511 bytes alike
abbrev but_one : ℕ → List ℕ
but_one b = replicate 511 b

pub record Edges : Type 0 where
  pub zeros : is_blank (replicate 512 0) ≡ true
  pub erased : is_blank (replicate 512 255) ≡ true
  pub sevens : is_blank (replicate 512 7) ≡ false
  -- one byte off, the first or the last
  pub zeros_first : is_blank (255 ∷ but_one 0) ≡ false
  pub zeros_last : is_blank (but_one 0 ++ (1 ∷ [])) ≡ false
  pub erased_first : is_blank (0 ∷ but_one 255) ≡ false
  pub erased_last : is_blank (but_one 255 ++ (254 ∷ [])) ≡ false
  -- for any store, file and number
  pub judged_zeros : (id file number : ℕ) → verdict_of id file number (replicate 512 0) ≡ Blank
  pub judged_erased : (id file number : ℕ) → verdict_of id file number (replicate 512 255) ≡ Blank
  pub judged_sevens : (id file number : ℕ) → verdict_of id file number (replicate 512 7) ≡ Other
