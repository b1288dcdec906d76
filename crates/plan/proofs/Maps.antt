-- The map after an edit: the bits that the code puts one by one are those that the definition tells, and a map that passes refusal 3 passes it still.
-- Assumes nothing.
use Prim.Native.Nat.{ℕ, ◌≤◌}
use mathlib.Core.Path.{◌≡◌, refl, sym, ap, ◌∙◌}
use mathlib.Core.Bool.{Bool, true, false, not, ◌&&◌, ◌||◌, or-false}
use mathlib.Core.List.{List}
use native.Mathlib.Omega.{arith}
use borrow.Author.Tests.{le-ltb, not-true, not-false}
use lib.Dec.{eqb}
use Rattle.le.specs.Choice.{pick}
use Rattle.le.proofs.Bools.{or_second}
use Rattle.le.proofs.Choices.{pick_true, pick_false, pick_keeps_by}
use Rattle.freemap.specs.declared.FreeMap.{FreeMap}
use Rattle.freemap.specs.Map.{marks, words_of, map_of, put_of, map_ok}
use Rattle.freemap.proofs.Words.{words_alike, put_words}
use Rattle.freemap.proofs.Upto.{upto}
use Rattle.freemap.proofs.Rule.{ok_none, ok_told}
use Rattle.handles.specs.declared.Store.{Store}
use Rattle.table.specs.Link.{link_part, owned_by}
use Rattle.plan.specs.declared.Edit.{Edit}
use Rattle.plan.specs.declared.Edit.TheVariants.{Format, Create, Extend, Remove}
use Rattle.plan.specs.Copy.{is_format, mark_after, map_after}

-- the fit map of these words
abbrev pub fitted : List ℕ → FreeMap
fitted ws = record { fit = true; words = ws }

-- ---- chunks taken

one_cleared : (t b : Bool) → pick t false b ≡ (b && not (t || false))
unfolding pick
one_cleared true true = refl
one_cleared true false = refl
one_cleared false true = refl
one_cleared false false = refl

two_cleared : (s t b : Bool) → pick s false (pick t false b) ≡ (b && not (t || s))
unfolding pick
two_cleared true true true = refl
two_cleared true true false = refl
two_cleared true false true = refl
two_cleared true false false = refl
two_cleared false true true = refl
two_cleared false true false = refl
two_cleared false false true = refl
two_cleared false false false = refl

module _ (ws : List ℕ) (next last : ℕ) where
  abbrev pub clears : Bool → ℕ → Bool
  clears partial c = marks ws c && not (eqb c next || (partial && eqb c last))

  pub taken_one : put_of ws next false ≡ words_of (clears false)
  taken_one = words_alike _ (clears false) (λ c _. one_cleared (eqb c next) (marks ws c))

  pub taken_two : put_of (put_of ws next false) last false ≡ words_of (clears true)
  taken_two = put_words _ last false ∙ words_alike _ (clears true) (λ c _. two_cleared (eqb c last) (eqb c next) (marks ws c))

-- ---- the map after an edit

module _ (vol : List ℕ) (st : Store) (chunks : ℕ) (edit : Edit) where
  pub unfit_after : is_format edit ≡ false → not st.free.fit ≡ true → st.free ≡ map_after edit vol st chunks
  unfolding map_after
  unfit_after f u = sym (pick_false _ _ (rw (f, not-true st.free.fit u)))

  module _ (fit : not st.free.fit ≡ false) {map : FreeMap} where
    after_fit : (f : ℕ → Bool) → ((c : ℕ) → f c ≡ mark_after edit vol st chunks c) → map ≡ map_of f → map ≡ map_after edit vol st chunks
    unfolding map_after
    after_fit f same e =
        e ∙ ap fitted (words_alike f (mark_after edit vol st chunks) (λ c _. same c)) ∙ sym (pick_true _ _ (or_second (is_format edit) st.free.fit (not-false _ fit)))

    pub created_map : {slot id chunk : ℕ} → edit ≡ Create slot id chunk → map ≡ map_of (clears st.free.words chunk 0 false) → map ≡ map_after edit vol st chunks
    unfolding mark_after
    created_map {chunk = chunk} q = after_fit _ (λ c. rw q (ap (λ (t : Bool). marks st.free.words c && not t) (or-false (eqb c chunk))))

    pub extended_map : {slot position next last records : ℕ} {partial : Bool} → edit ≡ Extend slot position next last partial records
        → map ≡ map_of (clears st.free.words next last partial) → map ≡ map_after edit vol st chunks
    unfolding mark_after
    extended_map q = after_fit _ (λ c. rw q refl)

    pub removed_map : {slot : ℕ} → edit ≡ Remove slot
        → map ≡ map_of (upto (marks st.free.words) (λ c. owned_by slot (link_part vol st c)) chunks) → map ≡ map_after edit vol st chunks
    unfolding mark_after
    removed_map q = after_fit _ (λ c. rw q refl)

-- no bit is set past the chunks
past_after : (edit : Edit) (vol : List ℕ) (st : Store) (c : ℕ) → st.head.chunks ≤ c → marks st.free.words c ≡ false → mark_after edit vol st st.head.chunks c ≡ false
unfolding mark_after
past_after Format vol st c h q = le-ltb c st.head.chunks h
past_after (Create slot id chunk) vol st c h q = rw q refl
past_after (Extend slot position next last partial records) vol st c h q = rw q refl
past_after (Remove slot) vol st c h q = rw (q, le-ltb c st.head.chunks h) refl

pub map_after_ok : (edit : Edit) (vol : List ℕ) (st : Store) → map_ok st.free st.head.chunks ≡ true → map_ok (map_after edit vol st st.head.chunks) st.head.chunks ≡ true
unfolding map_after
map_after_ok edit vol st ok =
    pick_keeps_by (λ (m : FreeMap). map_ok m st.head.chunks ≡ true) (is_format edit || st.free.fit) _ _
    (λ _. ok_told (mark_after edit vol st st.head.chunks) st.head.chunks
    (λ c h l. past_after edit vol st c h (ok_none st.free st.head.chunks ok c (at_most st.free.fit c h) l)))
    (λ _. ok)
  where
    at_most : (t : Bool) (c : ℕ) → st.head.chunks ≤ c → pick t st.head.chunks 0 ≤ c
    at_most t c h = pick_keeps_by (λ (n : ℕ). n ≤ c) t st.head.chunks 0 (λ _. h) (λ _. omega arith)
