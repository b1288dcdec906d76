-- The chunk that `walk_free_of` picks is free, and no free chunk is nearer after the cursor. Assumes nothing.
use Rattle.std.specs.Prelude.{Option, Some, None, Result, Ok, Err}
use Prim.Native.Nat.{ℕ, ◌+◌, ◌-◌, ◌%◌, ◌<◌, ◌≤◌}
use mathlib.Core.Path.{◌≡◌, refl, sym, ◌∙◌, ap, subst}
use mathlib.Core.Bool.{Bool, true, false, ◌&&◌}
use mathlib.Core.List.{List}
use native.Mathlib.Nat.{mod-eq_of_lt, mod-eq-sub-mod, le_refl}
use native.Mathlib.Omega.{arith}
use borrow.Author.Tests.{ltb-true, ltb-false, leb-true, leb-false, lt-ltb, le-ltb}
use borrow.Author.Count.{below_more, below_none}
use lib.Dec.{ltb, leb}
use Rattle.le.proofs.Choices.{pick_true, pick_false, pick_keeps_by}
use Rattle.medium.specs.declared.Error.{Error}
use Rattle.medium.specs.declared.Medium.{Medium}
use Rattle.handles.specs.declared.Store.{Store}
use Rattle.table.specs.declared.LinkAt.{LinkAt}
use Rattle.table.specs.declared.LinkAt.TheVariants as link
use Rattle.table.specs.Link.{link_at}
use Rattle.table.specs.Table.{links_of, distance_of, free_step, free_v, walk_free_of, Before}
use Rattle.table.proofs.Numbers.{found_free}
use Rattle.table.proofs.Walks.{table_keeps}

-- ---- of two chunks in order the later is nearer only where the cursor lies between them

module _ (cursor chunks : ℕ) (inside : cursor < chunks) where
  pub from_before : (i : ℕ) → i < cursor → distance_of cursor chunks i ≡ i + (chunks - cursor)
  unfolding distance_of
  from_before i h = mod-eq_of_lt (omega arith)

  pub from_after : (i : ℕ) → cursor ≤ i → i < chunks → distance_of cursor chunks i ≡ i - cursor
  unfolding distance_of
  from_after i h k =
      let a : chunks ≤ i + (chunks - cursor) = omega arith in
      let e : i + (chunks - cursor) - chunks ≡ i - cursor = omega arith in
      mod-eq-sub-mod a ∙ ap (λ (n : ℕ). n % chunks) e ∙ mod-eq_of_lt (omega arith)

  module _ (i b : ℕ) (h : i < chunks) (k : b < i) where
    abbrev nearer : Bool
    nearer = ltb (distance_of cursor chunks i) (distance_of cursor chunks b)

    between : (p q : Bool) → ltb b cursor ≡ p → leb cursor i ≡ q → nearer ≡ (p && q)
    between true true e f =
        let x : b < cursor = ltb-true _ _ e in
        let y : cursor ≤ i = leb-true _ _ f in
        rw (from_after i y h, from_before b x) (lt-ltb (i - cursor) (b + (chunks - cursor)) (omega arith))
    between true false e f =
        let x : b < cursor = ltb-true _ _ e in
        let y : i < cursor = leb-false _ _ f in
        rw (from_before i y, from_before b x) (le-ltb (i + (chunks - cursor)) (b + (chunks - cursor)) (omega arith))
    between false q e f =
        let x : cursor ≤ b = ltb-false _ _ e in
        let y : cursor ≤ i = omega arith in
        let z : b < chunks = omega arith in
        rw (from_after i y h, from_after b x z) (le-ltb (i - cursor) (b - cursor) (omega arith))

    pub later_nearer : (t : Bool) → (ltb b cursor && leb cursor i) ≡ t → nearer ≡ t
    later_nearer t e = between _ _ refl refl ∙ e

pub later_near : (cursor chunks i b : ℕ) → cursor < chunks → i < chunks → b < i → (ltb b cursor && leb cursor i) ≡ true → Some i ≡ free_step cursor chunks i (Some b)
unfolding free_step
later_near cursor chunks i b c h k e = sym (pick_true _ _ (later_nearer cursor chunks c i b h k true e))

pub later_far : (cursor chunks i b : ℕ) → cursor < chunks → i < chunks → b < i → (ltb b cursor && leb cursor i) ≡ false → Some b ≡ free_step cursor chunks i (Some b)
unfolding free_step
later_far cursor chunks i b c h k e = sym (pick_false _ _ (later_nearer cursor chunks c i b h k false e))

pub before_more : (i : ℕ) (s : Option ℕ) → Before i s → Before (i + 1) s
before_more i None h = tt
before_more i (Some b) h = omega arith

pub before_step : (cursor chunks i : ℕ) (s : Option ℕ) → Before i s → Before (i + 1) (free_step cursor chunks i s)
unfolding free_step
before_step cursor chunks i None h = omega arith
before_step cursor chunks i (Some b) h = pick_keeps_by (Before (i + 1)) _ (Some i) (Some b) (λ q. omega arith) (λ q. omega arith)

-- ---- the pick is free, and no free chunk is nearer

module _ (vol : List ℕ) (m : Medium) (st : Store) where
  abbrev pub dist : ℕ → ℕ
  dist = distance_of st.head.cursor st.head.chunks

  -- of the chunks below n: none is free; or b is, and none is nearer
  abbrev Near : ℕ → Option ℕ → Type 0
  Near n None = (j : ℕ) → j < n → link_at vol m st j ≡ Ok link.Free → ⊥
  Near n (Some b) = (link_at vol m st b ≡ Ok link.Free) × ((j : ℕ) → j < n → link_at vol m st j ≡ Ok link.Free → dist b ≤ dist j)

  abbrev pub Nearest : ℕ → Result (Option ℕ) Error → Type 0
  Nearest n (Err e) = Unit
  Nearest n (Ok t) = Near n t

  -- a chunk that is not free changes nothing
  other : (k : ℕ) (t : Option ℕ) (x : Result LinkAt Error) → link_at vol m st k ≡ x → (x ≡ Ok link.Free → ⊥) → Near k t → Near (k + 1) t
  other k None x q h p = below_more (λ (j : ℕ). link_at vol m st j ≡ Ok link.Free → ⊥) k p (λ f. h (sym q ∙ f))
  other k (Some b) x q h p = (p.0, below_more (λ (j : ℕ). link_at vol m st j ≡ Ok link.Free → dist b ≤ dist j) k p.1 (λ f. absurd (h (sym q ∙ f))))

  met : (k : ℕ) (t : Option ℕ) → Near k t → link_at vol m st k ≡ Ok link.Free → Near (k + 1) (free_step st.head.cursor st.head.chunks k t)
  unfolding free_step
  met k None p h = (h, below_more (λ (j : ℕ). link_at vol m st j ≡ Ok link.Free → dist k ≤ dist j) k (λ j l f. absurd (p j l f)) (λ f. le_refl _))
  met k (Some b) p h =
      pick_keeps_by (Near (k + 1)) (ltb (dist k) (dist b)) (Some k) (Some b)
      (λ q. (h, below_more (λ (j : ℕ). link_at vol m st j ≡ Ok link.Free → dist k ≤ dist j) k (λ j l f. omega (arith, ltb-true (dist k) (dist b) q, p.1 j l f)) (λ f. le_refl _)))
      (λ q. (p.0, below_more (λ (j : ℕ). link_at vol m st j ≡ Ok link.Free → dist b ≤ dist j) k p.1 (λ f. ltb-false (dist k) (dist b) q)))

  pub free_nearest : Nearest (links_of st.head.chunks) (walk_free_of vol m st)
  unfolding walk_free_of
  free_nearest =
      table_keeps (free_v st.head.cursor st.head.chunks) vol m st Near (Nearest (links_of st.head.chunks))
      (λ k t e h p q. tt)
      (λ k t p q. other k t (Ok link.Past) q (λ e. let z : ◌≡◌ {A = ℕ} 0 1 = cc in omega arith) p)
      (λ k t p h q. met k t p q)
      (λ k l t p h d q. other k t (Ok (link.Linked l)) q (λ e. let z : ◌≡◌ {A = ℕ} 0 1 = cc in omega arith) p)
      (λ t p. p) None (below_none _)

  pub walk_range : {c : ℕ} → walk_free_of vol m st ≡ Ok (Some c) → c < st.head.chunks
  walk_range {c} e = found_free vol m st c refl (subst (Nearest (links_of st.head.chunks)) e free_nearest).0
