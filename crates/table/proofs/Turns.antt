-- The turns of a loop over the links, as its invariant `At` has them: a refusal ends the walk, and a link takes it on. Assumes nothing.
use Rattle.std.specs.Prelude.{Result, Ok, Err}
use mathlib.Core.Path.{◌≡◌, refl, sym, ap, ◌∙◌}
use Prim.Native.Nat.{ℕ, ◌+◌, ◌<◌}
use Rattle.walk.specs.Walk.{next}
use Rattle.walk.proofs.Laws.{At, at_next, at_stop}
use Rattle.medium.specs.declared.Error.{Error}
use Rattle.table.specs.declared.Link.{Link}
use Rattle.table.specs.declared.LinkAt.{LinkAt}
use Rattle.table.specs.declared.LinkAt.TheVariants.{Past, Free, Linked}
use Rattle.table.specs.Table.{TableVisit, on_link}

module _ {S R : Type 0} {v : TableVisit S R} {item : ℕ → Result LinkAt Error} {n : ℕ} {whole : R} {i : ℕ} {s : S}
    (before : At (on_link v) item v.done n whole i s) (inside : i < n) {r : Result LinkAt Error} (asked : r ≡ item i) where
  abbrev After : S → Type 0
  After = At (on_link v) item v.done n whole (i + 1)

  pub refused_turn : {e : Error} → r ≡ Err e → v.refuse e s ≡ whole
  refused_turn q = at_stop before inside asked q refl

  module _ {x : LinkAt} {t : S} (found : r ≡ Ok x) where
    pub linked_turn : {l : Link} → x ≡ Linked l → t ≡ v.linked i l s → After t
    linked_turn q e = at_next before inside asked (found ∙ ap Ok q) (ap next (sym e))

    pub free_turn : x ≡ Free → t ≡ v.free i s → After t
    free_turn q e = at_next before inside asked (found ∙ ap Ok q) (ap next (sym e))

    past_turn : x ≡ Past → t ≡ s → After t
    past_turn q e = at_next before inside asked (found ∙ ap Ok q) (ap next (sym e))

    -- where the walk passes free chunks by, a chunk that is not linked; and where it passes linked ones by, one that is not free
    pub unlinked_turn : ((k : ℕ) (u : S) → v.free k u ≡ u) → ((l : Link) → x ≡ Linked l → ⊥) → t ≡ s → After t
    unlinked_turn p ne e = go x refl
      where
        go : (y : LinkAt) → x ≡ y → After t
        go Past q = past_turn q e
        go Free q = free_turn q (e ∙ sym (p i s))
        go (Linked l) q = absurd (ne l q)

    pub unfree_turn : ((k : ℕ) (l : Link) (u : S) → v.linked k l u ≡ u) → (x ≡ Free → ⊥) → t ≡ s → After t
    unfree_turn p ne e = go x refl
      where
        go : (y : LinkAt) → x ≡ y → After t
        go Past q = past_turn q e
        go Free q = absurd (ne q)
        go (Linked l) q = linked_turn q (e ∙ sym (p i l s))
