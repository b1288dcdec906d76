-- The counts of a list: those that a buffer of 64 numbers gets, with what lies past them as it was; and none passes the store's chunks. Assumes nothing.
use Rattle.std.specs.Prelude.{Result, Ok, Err}
use Prim.Native.Nat.{ℕ, ◌+◌, ◌<◌, ◌≤◌, zero-le}
use mathlib.Core.Path.{◌≡◌, refl, ap, ◌∙◌}
use mathlib.Core.List.{List, ◌++◌}
use native.Mathlib.Omega.{arith}
use lib.ListN.{length, get_or, set, length-set, get_or-append}
use lib.Seq.{set-append_left}
use Rattle.medium.specs.declared.Error.{Error}
use Rattle.medium.specs.declared.Medium.{Medium}
use Rattle.handles.specs.declared.Store.{Store}
use Rattle.walk.specs.Walk.{visits}
use Rattle.walk.proofs.Laws.{Both, walks_beside}
use Rattle.table.specs.declared.Link.{Link}
use Rattle.table.specs.declared.LinkAt.{LinkAt}
use Rattle.table.specs.declared.LinkAt.TheVariants as link
use Rattle.table.specs.Link.{link_at}
use Rattle.table.specs.Table.{on_link, links_of, Counted, count_v, count_of}
use Rattle.table.proofs.Numbers.{found_link}
use Rattle.table.proofs.Walks.{table_keeps, count_below}

-- one more at a slot
abbrev counted : List ℕ → ℕ → List ℕ
counted l s = set l s (get_or l s 0 + 1)

module _ (vol : List ℕ) (m : Medium) (st : Store) where
  -- ---- numbers past the 64th

  module _ (past : List ℕ) where
    -- the counts of 64 numbers, and those of a longer buffer
    abbrev Longer : List ℕ → List ℕ → Type 0
    Longer s t = (length s ≡ 64) × (t ≡ s ++ past)

    -- what is answered of them
    pub record LongerCounted (a b : Counted) : Type 0 where
      pub outcome : b.outcome ≡ a.outcome
      pub size : length a.counts ≡ 64
      pub counts : b.counts ≡ a.counts ++ past

    counted_longer : (k : ℕ) (s t : List ℕ) → k < 64 → Longer s t → Longer (counted s k) (counted t k)
    counted_longer k s t h p =
        let b : k < length s = omega (arith, p.0) in (
          length-set s k _ ∙ p.0,
          ap (λ (l : List ℕ). counted l k) p.1 ∙ ap (λ (n : ℕ). set (s ++ past) k (n + 1)) (get_or-append s past 0 k b) ∙ set-append_left s past k _ b,
        )

    visited : (k : ℕ) (s t : List ℕ) (x : Result LinkAt Error) → link_at vol m st k ≡ x → Longer s t → Both Longer LongerCounted (on_link count_v k s x) (on_link count_v k t x)
    visited k s t (Err e) q p = record { outcome = refl; size = p.0; counts = p.1 }
    visited k s t (Ok link.Past) q p = p
    visited k s t (Ok link.Free) q p = p
    visited k s t (Ok (link.Linked l)) q p = counted_longer l.slot s t (found_link vol m st k refl q).1.slot p

    pub count_past : (l : List ℕ) → length l ≡ 64 → LongerCounted (count_of vol m st l) (count_of vol m st (l ++ past))
    unfolding count_of visits
    count_past l h =
        walks_beside _ _ count_v.done count_v.done (links_of st.head.chunks) (λ k. Longer) LongerCounted (λ k s t b p. visited k s t (link_at vol m st k) refl p)
        (λ s t p. record { outcome = refl; size = p.0; counts = p.1 }) 0 l (l ++ past) zero-le (h, refl)

  -- ---- how large a count is

  -- of the chunks below n
  record Few (n : ℕ) (t : List ℕ) : Type 0 where
    pub room : 64 ≤ length t
    pub passed : (k : ℕ) → k < 64 → get_or t k 0 ≤ n
    pub most : (k : ℕ) → k < 64 → get_or t k 0 ≤ st.head.chunks

  more : (n : ℕ) (t : List ℕ) → Few n t → Few (n + 1) t
  more n t p = record { room = p.room; passed = λ k h. omega (arith, p.passed k h); most = p.most }

  linked : (n : ℕ) (l : Link) (t : List ℕ) → Few n t → n < st.head.chunks → l.slot < 64 → Few (n + 1) (counted t l.slot)
  linked n l t p h b =
      let c : (k : ℕ) → k < 64 → get_or (counted t l.slot) k 0 ≤ n + 1 = count_below t l.slot n b (omega (arith, p.room)) p.passed in
      record { room = rw (length-set t l.slot (get_or t l.slot 0 + 1)) p.room; passed = c; most = λ k d. omega (arith, c k d) }

  pub count_most : (l : List ℕ) → 64 ≤ length l → ((k : ℕ) → k < 64 → get_or l k 0 ≡ 0) → (k : ℕ) → k < 64 → get_or (count_of vol m st l).counts k 0 ≤ st.head.chunks
  unfolding count_of
  count_most l room clear =
      table_keeps count_v vol m st Few (λ r. (k : ℕ) → k < 64 → get_or r.counts k 0 ≤ st.head.chunks) (λ k t e h p q. p.most) (λ k t p q. more k t p)
      (λ k t p h q. more k t p) (λ k a t p h d q. linked k a t p h d.slot) (λ t p. p.most) l
      (record { room = room; passed = λ k h. omega (arith, clear k h); most = λ k h. omega (arith, clear k h) })
