use borrow.Author.Rules.{rules}
use mathlib.Core.Path.{◌≡◌, ap, ◌∙◌}
use Prim.Native.Nat.{ℕ, ◌*◌, ◌/◌, ◌%◌, ◌^◌}
use native.Mathlib.Nat.{one-mul, mod-eq_of_lt}
use native.Mathlib.Omega.{arith}
use lib.Bits.{bit_xor}
use lib.ListN.{length, get_or, set}
use lib.Pow.{pow-lt}
use Rattle.freemap.specs.Map.{marks}
use Rattle.freemap.proofs.Puts.{put_same, put_turned, beq_true, beq_false}
use Rattle.freemap.proofs.put.Goals as goal

pub returns-then-w-c : goal.returns-then-w-c
unfolding marks
returns-then-w-c c =
    let a = c.args in
    let long : length a.words.now ≡ 32 = search rules in
    put_same a.words.now a.c a.free long (λ j. (c.slice_known-1.given j).fits) (beq_true (marks a.words.now a.c) a.free c.if-w-c.true)

pub returns : goal.returns
unfolding marks
returns c =
    let a = c.args in
    let long : length a.words.now ≡ 32 = search rules in
    let one : 1 * 2 ^ (a.c % 64) % 2 ^ 64 ≡ 2 ^ (a.c % 64)
    = ap (λ (x : ℕ). x % 2 ^ 64) (one-mul (2 ^ (a.c % 64))) ∙ mod-eq_of_lt (pow-lt {i = a.c % 64} {j = 64} (omega arith)) in
    ap (λ (x : ℕ). set a.words.now (a.c / 64) (bit_xor (get_or a.words.now (a.c / 64) 0) x)) one
    ∙ put_turned a.words.now a.c a.free long (λ j. (c.slice_known-1.given j).fits) c.requires
    (beq_false (marks a.words.now a.c) a.free c.if-w-c.false)
