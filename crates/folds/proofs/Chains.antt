-- The chain of a slot by the layout: its count, its first chunk with its mark, and its last chunk. Assumes nothing.
use Rattle.std.specs.Prelude.{Option, Some, Ok}
use Prim.Native.Nat.{ℕ, ◌+◌, ◌-◌, ◌<◌, ◌≤◌}
use mathlib.Core.Path.{◌≡◌, refl, sym, ap, ap₂, ◌∙◌, subst}
use mathlib.Core.Logic.{◌≢◌}
use mathlib.Core.Bool.{Bool, true, false}
use mathlib.Core.List.{List}
use native.Mathlib.Nat.{le_refl}
use native.Mathlib.Omega.{arith}
use borrow.Author.Tests.{eqb-true, eqb-false, eq-eqb, ne_eqb, ltb-true, ltb-false}
use lib.Dec.{eqb, ltb}
use lib.ListN.{length}
use Rattle.le.specs.Choice.{pick}
use Rattle.le.specs.Tally.{tally}
use Rattle.le.proofs.Choices.{pick_keeps_by, pick_true}
use Rattle.le.proofs.Bools.{or_false, or_right}
use Rattle.le.proofs.Tallies.{tally_start}
use Rattle.medium.specs.declared.Medium.{Medium}
use Rattle.handles.specs.declared.Store.{Store}
use Rattle.table.specs.declared.Link.{Link}
use Rattle.table.specs.declared.LinkAt.TheVariants as link
use Rattle.table.specs.declared.Place.{Place}
use Rattle.table.specs.declared.ChainState.{ChainState}
use Rattle.table.specs.Table.{locate_step, first_step, higher, chain_more, chain_step, chain_end, whole_of, chain_v, no_chain, chain_of, place_at}
use Rattle.layout.specs.Views.{disk_of, link_view}
use Rattle.layout.specs.Segments.{Segment, segment_at, link_for, Good}
use Rattle.layout.proofs.Facts.{case, same_link, free≢linked, link_slot, one_place}
use Rattle.folds.specs.Checked.{Checked}
use Rattle.folds.specs.Chain.{chain_for}
use Rattle.folds.proofs.Walked.{table_views}
use Rattle.folds.proofs.Chunks.{of_slot, counts_free, counts_here, counts_other, owns, at_link, Met, met_free, met_link}

-- a step of the chain's first chunk is one of the chunk at position 0
first_mine : (s c : ℕ) (l : Link) (f : Option Place) → l.slot ≡ s → locate_step s 0 c l f ≡ first_step c l f
unfolding locate_step first_step
first_mine s c l f e = rw (eq-eqb l.slot s e)

first_other : (s c : ℕ) (l : Link) (f : Option Place) → l.slot ≢ s → locate_step s 0 c l f ≡ f
unfolding locate_step pick
first_other s c l f e = rw (ne_eqb l.slot s e)

module _ (vol : List ℕ) (st : Store) (G : ℕ → List Segment) (good : Good (disk_of vol st) G) (s : ℕ) (h : s < 64) (some : 1 ≤ length (G s)) where
  abbrev at : ℕ → ℕ
  at p = (segment_at (G s) p).chunk

  abbrev Starts : ℕ → Option Place → Type 0
  Starts = Met vol st G good s 0 h some

  -- of the chunks below n: how many are the slot's, its first, and the one with the largest position
  record Chain (n : ℕ) (t : ChainState) : Type 0 where
    pub count : t.count ≡ tally (of_slot vol st s) n
    pub first : Starts n t.first
    pub top : 1 ≤ t.count → (t.top < length (G s)) × (at t.top ≡ t.last)
    pub most : (p : ℕ) → p < length (G s) → at p < n → (1 ≤ t.count) × (p ≤ t.top)

  -- chunk c is not the slot's
  passed : (c : ℕ) (t : ChainState) → tally (of_slot vol st s) (c + 1) ≡ tally (of_slot vol st s) c → Starts (c + 1) t.first
      → ((p : ℕ) → p < length (G s) → c ≡ at p → ⊥) → Chain c t → Chain (c + 1) t
  passed c t n f none p =
      record {
        count = p.count ∙ sym n;
        first = f;
        top = p.top;
        most = λ q b k. let e : c ≡ at q → ⊥ = none q b in p.most q b (omega arith);
      }

  at_free : (c : ℕ) (t : ChainState) → Chain c t → link_view vol st c ≡ Ok link.Free → Chain (c + 1) t
  at_free c t p q =
      passed c t (counts_free vol st s c q) (met_free vol st G good s 0 h some c t.first p.first q)
      (λ k b e. free≢linked q (at_link vol st G good s k h b c e)) p

  -- chunk c has the link l
  module _ (c : ℕ) (l : Link) (t : ChainState) (i : c < st.head.chunks) (p : Chain c t) (q : link_view vol st c ≡ Ok (link.Linked l)) where
    starts : Starts (c + 1) (locate_step s 0 c l t.first)
    starts = met_link vol st G good s 0 h some c l t.first i p.first q

    at_other : l.slot ≢ s → Chain (c + 1) t
    at_other e =
        passed c t (counts_other vol st s c q e) (subst (Starts (c + 1)) (first_other s c l t.first e) starts)
        (λ k b f. e (ap (λ (x : Link). x.slot) (same_link q (at_link vol st G good s k h b c f)) ∙ link_slot st.head.chunk s (G s) k)) p

    module _ (e : l.slot ≡ s) where
      in_file : l.position < length (G s)
      in_file = (owns vol st G good c l i q s l.position e refl).0

      there : at l.position ≡ c
      there = (owns vol st G good c l i q s l.position e refl).1

      abbrev top' : ℕ
      top' = pick (higher l t) l.position t.top

      top_held : (b : Bool) → higher l t ≡ b → (pick b l.position t.top < length (G s)) × (at (pick b l.position t.top) ≡ pick b c t.last)
      unfolding pick
      top_held true x = (in_file, there)
      top_held false x = let z : t.count ≡ 0 → ⊥ = eqb-false _ _ (or_false (eqb t.count 0) (ltb t.top l.position) x).0 in p.top (omega arith)

      position_most : l.position ≤ top'
      position_most =
          pick_keeps_by (λ (n : ℕ). l.position ≤ n) (higher l t) l.position t.top (λ x. le_refl _)
          (λ x. ltb-false _ _ (or_false (eqb t.count 0) (ltb t.top l.position) x).1)

      top_most : 1 ≤ t.count → t.top ≤ top'
      top_most k =
          pick_keeps_by (λ (n : ℕ). t.top ≤ n) (higher l t) l.position t.top
          (λ x. let y : t.top < l.position = ltb-true _ _ (or_right (eqb t.count 0) (ltb t.top l.position) x (ne_eqb t.count 0 (omega arith))) in omega arith)
          (λ x. le_refl _)

      at_mine : Chain (c + 1) (chain_more c l t)
      unfolding chain_more
      at_mine =
          record {
            count = ap (λ (n : ℕ). n + 1) p.count ∙ sym (counts_here vol st s c q e);
            first = subst (Starts (c + 1)) (first_mine s c l t.first e) starts;
            top = λ k. top_held (higher l t) refl;
            most = λ r b k.
                case (at r) c
                (λ f. (omega arith, rw (one_place good s r s l.position h h b in_file (f ∙ sym there)).1 position_most))
                (λ f. let o = p.most r b (omega arith) in (omega arith, omega (arith, o.1, top_most o.0)));
          }

    at_link_of : Chain (c + 1) (chain_step s c l t)
    unfolding chain_step
    at_link_of =
        pick_keeps_by (Chain (c + 1)) (eqb l.slot s) (chain_more c l t) t (λ e. at_mine (eqb-true _ _ e)) (λ e. at_other (eqb-false _ _ e))

  abbrev mark : Link
  mark = link_for st.head.chunk s (G s) 0

  ended : (t : ChainState) → Chain st.head.chunks t → chain_end t ≡ Ok (chain_for st.head.chunk s (G s))
  unfolding chain_end
  ended t p =
      let n : t.count ≡ length (G s) = p.count ∙ good.counted s h in
      let f : t.first ≡ Some (place_at (at 0) mark) = p.first (good.inside s 0 h some) in
      let k = p.top (omega arith) in
      let a : length (G s) - 1 ≤ t.top = (p.most (length (G s) - 1) (omega arith) (good.inside s (length (G s) - 1) h (omega arith))).1 in
      let z : t.top ≡ length (G s) - 1 = omega (arith, k.0) in
      let e : t.top + 1 ≡ t.count = omega arith in
      ap (whole_of t) f ∙ pick_true _ _ (eq-eqb _ _ e)
      ∙ ap₂ (λ (x y : ℕ). Ok (record { count = x; first = at 0; partial = mark.partial; records = mark.records; last = y })) n (sym k.1 ∙ ap at z)

pub chain_view : (vol : List ℕ) (m : Medium) (st : Store) → Checked vol m st → (G : ℕ → List Segment) → Good (disk_of vol st) G → (s : ℕ) → s < 64 → 1 ≤ length (G s)
    → chain_of vol m st s ≡ Ok (chain_for st.head.chunk s (G s))
unfolding chain_of
chain_view vol m st ok G good s h some =
    let r = table_views vol m st ok G good (chain_v s) (Chain vol st G good s h some) (λ c t i p q. at_free vol st G good s h some c t p q)
    (λ c l t i p q. at_link_of vol st G good s h some c l t i p q) no_chain
    (record { count = sym (tally_start _); first = λ k. absurd (omega arith); top = λ k. absurd (omega arith); most = λ p b k. absurd (omega arith) }) in
    r.1 ∙ ended vol st G good s h some r.0 r.2
