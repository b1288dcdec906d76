-- The name that delete_oldest tells, in numbers: a law for each way. Assumes nothing.
use Rattle.std.specs.Prelude.{Err, Ok}
use mathlib.Core.Path.{◌≡◌, refl, sym, ap, ◌∙◌}
use mathlib.Core.Bool.{true, false}
use mathlib.Core.List.{List, [], ◌∷◌}
use Prim.Native.Nat.{ℕ, ◌≤◌, ◌<◌, ◌-◌}
use native.Mathlib.Omega.{arith}
use lib.ListN.{length, take, drop}
use lib.Seq.{take_all}
use Rattle.le.specs.Choice.{pick}
use Rattle.le.specs.Part.{part}
use Rattle.le.proofs.Parts.{length_part}
use Rattle.medium.specs.declared.Error.{Error}
use Rattle.medium.specs.Refusal.{on_done}
use Rattle.remove.specs.declared.Gone.{Gone}
use Rattle.store.specs.Writing.{gone_answer, went_of}
use Rattle.bridge_write.specs.Writing.{went_name, went_words}

-- the first r bytes are the name that went
abbrev pub NameAt : Gone → ℕ → Type 0
NameAt g r = (part 0 r g.name ≡ went_name (gone_answer g).answer) × (r ≡ length (went_name (gone_answer g).answer)) × (r ≤ 40)

pub name_refused : (g : Gone) {e : Error} → g.outcome ≡ Err e → NameAt g 0
unfolding on_done part
name_refused g h = rw (h) (refl, refl, omega arith)

pub name_none : (g : Gone) → g.outcome ≡ Ok tt → g.any ≡ false → NameAt g 0
unfolding on_done part went_of pick
name_none g h k = rw (h, k) (refl, refl, omega arith)

whole : (g : Gone) → g.outcome ≡ Ok tt → g.any ≡ true → went_name (gone_answer g).answer ≡ part 0 g.length g.name
unfolding on_done went_of pick
whole g h k = rw (h, k)

pub name_short : (g : Gone) → g.outcome ≡ Ok tt → g.any ≡ true → length g.name ≡ 40 → g.length < 40 → NameAt g g.length
name_short g h k n s =
    let w = whole g h k in
    rw (w) (refl, sym (length_part 0 g.length g.name (omega arith)), omega arith)

long : (l : List ℕ) (n : ℕ) → length l ≡ 40 → 40 ≤ n → part 0 40 l ≡ part 0 n l
unfolding part
long l n h s = take_all 40 l (omega arith) ∙ sym (take_all n l (omega arith))

pub name_long : (g : Gone) → g.outcome ≡ Ok tt → g.any ≡ true → length g.name ≡ 40 → 40 ≤ g.length → NameAt g 40
name_long g h k n s =
    let w = whole g h k in
    let e = long g.name g.length n s in
    rw (w, ← e) (refl, sym (length_part 0 40 g.name (omega arith)), omega arith)

pub words_refused : (g : Gone) {e : Error} → g.outcome ≡ Err e → 0 ∷ 0 ∷ 0 ∷ [] ≡ went_words (gone_answer g).answer
unfolding on_done
words_refused g h = rw (h)

pub words_none : (g : Gone) → g.outcome ≡ Ok tt → g.any ≡ false → 0 ∷ 0 ∷ 0 ∷ [] ≡ went_words (gone_answer g).answer
unfolding on_done went_of pick
words_none g h k = rw (h, k)

pub words_went : (g : Gone) {n : ℕ} → g.outcome ≡ Ok tt → g.any ≡ true → NameAt g n → 1 ∷ n ∷ 0 ∷ [] ≡ went_words (gone_answer g).answer
unfolding on_done went_of pick
words_went g h k w = rw (w.1, h, k)

-- a slice from the start
pub from_start : (n : ℕ) (l : List ℕ) → take (n - 0) (drop 0 l) ≡ part 0 n l
unfolding part
from_start n l = let e : n - 0 ≡ n = omega arith in ap (λ (k : ℕ). take k (drop 0 l)) e
