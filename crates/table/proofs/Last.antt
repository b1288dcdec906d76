-- The last chunk of a chain that passes: no link of the slot has a larger position, and no lower chunk of the slot has that position, on any table.
-- Assumes nothing.
use Rattle.std.specs.Prelude.{Option, Some, None, Result, Ok, Err}
use Prim.Native.Nat.{ℕ, ◌+◌, ◌<◌, ◌≤◌}
use mathlib.Core.Path.{◌≡◌, refl, sym, ◌∙◌, subst}
use mathlib.Core.Bool.{Bool, true, false}
use mathlib.Core.List.{List}
use native.Mathlib.Nat.{le_refl}
use native.Mathlib.Omega.{arith}
use borrow.Author.Tests.{eqb-true, eqb-false, ltb-true, ltb-false}
use borrow.Author.Count.{below_more}
use lib.Dec.{eqb, ltb}
use Rattle.le.specs.Choice.{pick}
use Rattle.le.proofs.Choices.{pick_keeps_by}
use Rattle.le.proofs.Bools.{or_false}
use Rattle.medium.specs.declared.Error.{Error}
use Rattle.medium.specs.declared.Medium.{Medium}
use Rattle.handles.specs.declared.Store.{Store}
use Rattle.table.specs.declared.Link.{Link}
use Rattle.table.specs.declared.LinkAt.{LinkAt}
use Rattle.table.specs.declared.LinkAt.TheVariants as link
use Rattle.table.specs.declared.Place.{Place}
use Rattle.table.specs.declared.ChainState.{ChainState}
use Rattle.table.specs.declared.ChainParts.{ChainParts}
use Rattle.table.specs.Link.{link_at}
use Rattle.table.specs.Table.{links_of, first_step, higher, chain_more, chain_step, chain_v, chain_end, chain_of, whole_of, no_chain}
use Rattle.table.proofs.Walks.{table_keeps}

module _ (vol : List ℕ) (m : Medium) (st : Store) (slot : ℕ) where
  -- P holds of the position of chunk j, if it is the slot's; and so of the chunks below n
  abbrev Position : (ℕ → Type 0) → ℕ → Type 0
  Position P j = (k : Link) → link_at vol m st j ≡ Ok (link.Linked k) → k.slot ≡ slot → P k.position

  abbrev pub Positions : (ℕ → Type 0) → ℕ → Type 0
  Positions P n = (j : ℕ) → j < n → Position P j

  -- of the chunks below n
  record Largest (n : ℕ) (s : ChainState) : Type 0 where
    pub none : s.count ≡ 0 → Positions (λ p. ⊥) n
    pub most : Positions (λ p. p ≤ s.top) n
    pub lowest : Positions (λ p. p < s.top) s.last

  -- chunk n is not the slot's
  module _ (n : ℕ) (x : Result LinkAt Error) (e : link_at vol m st n ≡ x) (other : (k : Link) → x ≡ Ok (link.Linked k) → k.slot ≡ slot → ⊥) where
    passed : (P : ℕ → Type 0) → Positions P n → Positions P (n + 1)
    passed P f = below_more (Position P) n f (λ k q o. absurd (other k (sym e ∙ q) o))

    unchanged : (s : ChainState) → Largest n s → Largest (n + 1) s
    unchanged s p = record { none = λ z. passed (λ q. ⊥) (p.none z); most = passed (λ q. q ≤ s.top) p.most; lowest = p.lowest }

  -- it is linked
  module _ (n : ℕ) (l : Link) (s : ChainState) (p : Largest n s) (e : link_at vol m st n ≡ Ok (link.Linked l)) where
    more : (P : ℕ → Type 0) → Positions P n → P l.position → Positions P (n + 1)
    more P f h = below_more (Position P) n f (λ k q o. let z : l ≡ k = cc in subst (λ (x : Link). P x.position) z h)

    above : higher l s ≡ true → Positions (λ q. q < l.position) n
    above t = go (eqb s.count 0) refl
      where
        go : (b : Bool) → eqb s.count 0 ≡ b → Positions (λ q. q < l.position) n
        go true c j a k q o = absurd (p.none (eqb-true _ _ c) j a k q o)
        go false c j a k q o =
            let z : ltb s.top l.position ≡ true = rw c at t in
            omega (arith, p.most j a k q o, ltb-true s.top l.position z)

    met : Largest (n + 1) (chain_more n l s)
    unfolding chain_more pick
    met = go (higher l s) refl
      where
        go : (b : Bool) → higher l s ≡ b
            → Largest (n + 1)
            (record { count = s.count + 1; first = first_step n l s.first; top = pick b l.position s.top; last = pick b n s.last })
        go true t =
            record {
              none = λ z. absurd (omega arith);
              most = more (λ q. q ≤ l.position) (λ j a k q o. omega (arith, above t j a k q o)) (le_refl l.position);
              lowest = above t;
            }
        go false t =
            record {
              none = λ z. absurd (omega arith);
              most = more (λ q. q ≤ s.top) p.most (ltb-false s.top l.position (or_false (eqb s.count 0) (ltb s.top l.position) t).1);
              lowest = p.lowest;
            }

    met_or_not : Largest (n + 1) (chain_step slot n l s)
    unfolding chain_step
    met_or_not =
        pick_keeps_by (Largest (n + 1)) (eqb l.slot slot) (chain_more n l s) s (λ t. met)
        (λ t. unchanged n (Ok (link.Linked l)) e (λ k q o. let z : l.slot ≡ slot = cc in eqb-false _ _ t z) s p)

  -- what a chain tells of its last chunk: a position is at most the count - 1, and less in a lower chunk
  pub record LastFacts (p : ChainParts) : Type 0 where
    pub largest : Positions (λ q. q + 1 ≤ p.count) (links_of st.head.chunks)
    pub lowest : Positions (λ q. q + 1 < p.count) p.last

  abbrev LastOk : Result ChainParts Error → Type 0
  LastOk (Err e) = Unit
  LastOk (Ok p) = LastFacts p

  whole : (s : ChainState) (f : Option Place) → Largest (links_of st.head.chunks) s → LastOk (whole_of s f)
  whole s None p = tt
  whole s (Some f) p =
      pick_keeps_by LastOk (eqb (s.top + 1) s.count) _ _
      (λ t.
      let e : s.top + 1 ≡ s.count = eqb-true _ _ t in
      record { largest = λ j a k q o. omega (arith, p.most j a k q o); lowest = λ j a k q o. omega (arith, p.lowest j a k q o) })
      (λ t. tt)

  last_ok : LastOk (chain_of vol m st slot)
  unfolding chain_of chain_end
  last_ok =
      table_keeps (chain_v slot) vol m st Largest LastOk
      (λ k t e h p q. tt)
      (λ k t p q. unchanged k (Ok link.Past) q (λ l e o. let z : ◌≡◌ {A = ℕ} 0 1 = cc in omega arith) t p)
      (λ k t p h q. unchanged k (Ok link.Free) q (λ l e o. let z : ◌≡◌ {A = ℕ} 0 1 = cc in omega arith) t p)
      (λ k l t p h d q. met_or_not k l t p q)
      (λ t p. whole t t.first p)
      no_chain (record { none = λ z j a. absurd (omega arith); most = λ j a. absurd (omega arith); lowest = λ j a. absurd (omega arith) })

  pub chain_last : {p : ChainParts} → chain_of vol m st slot ≡ Ok p → LastFacts p
  chain_last e = subst LastOk e last_ok
