-- The walks of the table by the layout: the free chunk, the chunk at a position of a file, the counts. Assumes nothing.
use Rattle.std.specs.Prelude.{Option, Some, None, Result, Ok, Err}
use Rattle.std.specs.Option.{ok_or}
use Prim.Native.Nat.{ℕ, ◌+◌, ◌<◌, ◌≤◌}
use mathlib.Core.Path.{◌≡◌, refl, sym, ap, ap₂, ◌∙◌, subst}
use mathlib.Core.Logic.{◌≢◌}
use mathlib.Core.Bool.{Bool, true}
use mathlib.Core.List.{List}
use native.Mathlib.Omega.{arith}
use borrow.Author.Count.{below_more, below_none}
use borrow.Author.Tests.{eqb-true, eq-eqb}
use lib.Dec.{eqb}
use lib.ListN.{length, get_or, set, drop, length-set, get_or-append}
use lib.Seq.{get_or-set_same, get_or-set_other}
use Rattle.le.specs.Part.{over, zeros}
use Rattle.le.specs.Tally.{tally}
use Rattle.le.proofs.Choices.{pick_keeps, pick_keeps_by}
use Rattle.le.proofs.Parts.{length_zeros, length_over, get_or_zeros}
use Rattle.le.proofs.Bools.{and_true}
use Rattle.le.proofs.Tallies.{tally_yes, tally_no, tally_start}
use Rattle.medium.specs.declared.Error.{Error}
use Rattle.medium.specs.declared.Error.TheVariants.{Corrupt}
use Rattle.medium.specs.declared.Medium.{Medium}
use Rattle.handles.specs.declared.Store.{Store}
use Rattle.handles.proofs.Laws.{Held}
use Rattle.table.specs.declared.Link.{Link}
use Rattle.table.specs.declared.LinkAt.TheVariants as link
use Rattle.table.specs.declared.Place.{Place}
use Rattle.table.specs.Table.{links_of, sought, locate_step, locate_v, locate_of, free_step, free_v, walk_free_of, Counted, count_v, count_of, place_at}
use Rattle.table.specs.Free.{free_of}
use Rattle.table.proofs.Nearest.{Nearest, free_nearest, walk_range}
use Rattle.table.proofs.Tells.{Mapped, met_held}
use Rattle.table.proofs.Mapped.{mapped_free}
use Rattle.layout.specs.Views.{disk_of, link_view}
use Rattle.layout.specs.Segments.{Segment, segment_at, link_for, is_of, Good}
use Rattle.layout.proofs.Facts.{case, same_link, free≢linked, link_slot, link_position, is_of_lem, not_of, free_of_lem, true≢false}
use Rattle.folds.specs.Checked.{Checked}
use Rattle.folds.proofs.Walked.{table_views}

get_or_cleared : (l : List ℕ) (s : ℕ) → s < 64 → get_or (over 0 (zeros 64) l) s 0 ≡ 0
unfolding over
get_or_cleared l s h = get_or-append (zeros 64) (drop (0 + length (zeros 64)) l) 0 s (rw (length_zeros 64) h) ∙ get_or_zeros 64 s

-- ---- how many chunks below n are a slot's, with chunk n

abbrev pub of_slot : List ℕ → Store → ℕ → ℕ → Bool
of_slot vol st s c = is_of s (link_view vol st c)

module _ (vol : List ℕ) (st : Store) (s n : ℕ) where
  pub counts_free : link_view vol st n ≡ Ok link.Free → tally (of_slot vol st s) (n + 1) ≡ tally (of_slot vol st s) n
  counts_free q = tally_no (of_slot vol st s) n (free_of_lem s q)

  pub counts_here : {l : Link} → link_view vol st n ≡ Ok (link.Linked l) → l.slot ≡ s → tally (of_slot vol st s) (n + 1) ≡ tally (of_slot vol st s) n + 1
  counts_here q e = tally_yes (of_slot vol st s) n (is_of_lem s q e)

  pub counts_other : {l : Link} → link_view vol st n ≡ Ok (link.Linked l) → l.slot ≢ s → tally (of_slot vol st s) (n + 1) ≡ tally (of_slot vol st s) n
  counts_other q e = tally_no (of_slot vol st s) n (not_of s q e)

-- ---- the chunk at a position of a file

module _ (vol : List ℕ) (st : Store) (G : ℕ → List Segment) (good : Good (disk_of vol st) G) where
  -- a link of the slot and position is that of the segment
  pub owns : (c : ℕ) (l : Link) → c < st.head.chunks → link_view vol st c ≡ Ok (link.Linked l) → (s p : ℕ) → l.slot ≡ s → l.position ≡ p
      → (p < length (G s)) × ((segment_at (G s) p).chunk ≡ c)
  owns c l h q s p a b = let o = good.owned c l h q in (rw (a, b) at o.in_file, rw (a, b) at o.there)

  module _ (s p : ℕ) (h : s < 64) (b : p < length (G s)) where
    abbrev at : ℕ
    at = (segment_at (G s) p).chunk

    abbrev mark : Link
    mark = link_for st.head.chunk s (G s) p

    pub at_link : (c : ℕ) → c ≡ at → link_view vol st c ≡ Ok (link.Linked mark)
    at_link c e = rw e (good.linked s p h b)

    sought_mark : sought s p mark ≡ true
    sought_mark = rw (link_slot st.head.chunk s (G s) p, link_position st.head.chunk s (G s) p, eq-eqb s s refl, eq-eqb p p refl)

    -- passed, it is the answer
    abbrev pub Met : ℕ → Option Place → Type 0
    Met n t = at < n → t ≡ Some (place_at at mark)

    pub met_free : (c : ℕ) (t : Option Place) → Met c t → link_view vol st c ≡ Ok link.Free → Met (c + 1) t
    met_free c t p q k = let n : c ≡ at → ⊥ = λ e. free≢linked q (at_link c e) in p (omega arith)

    pub met_link : (c : ℕ) (l : Link) (t : Option Place) → c < st.head.chunks → Met c t → link_view vol st c ≡ Ok (link.Linked l) → Met (c + 1) (locate_step s p c l t)
    unfolding locate_step
    met_link c l t i r q =
        pick_keeps_by (Met (c + 1)) (sought s p l) (Some (place_at c l)) t
        (λ e k.
        let a = and_true (eqb l.slot s) (eqb l.position p) e in
        let o = owns c l i q s p (eqb-true _ _ a.0) (eqb-true _ _ a.1) in
        ap₂ (λ (x : ℕ) (k : Link). Some (place_at x k)) (sym o.1) (same_link q (at_link c (sym o.1))))
        (λ e k.
        let n : c ≡ at → ⊥ = λ f. true≢false (ap (sought s p) (same_link q (at_link c f)) ∙ sought_mark) e in
        r (omega arith))

-- the counts hold the chunks of each slot
pub record Counts (G : ℕ → List Segment) (size : ℕ) (r : Counted) : Type 0 where
  pub outcome : r.outcome ≡ Ok tt
  pub same : length r.counts ≡ size
  pub number : (s : ℕ) → s < 64 → get_or r.counts s 0 ≡ length (G s)

-- ---- the free chunk, on any table

module _ (vol : List ℕ) (m : Medium) (st : Store) where
  walked_chunk : {c : ℕ} → walk_free_of vol m st ≡ Ok (Some c) → (c < st.head.chunks) × (link_view vol st c ≡ Ok link.Free)
  unfolding link_view
  walked_chunk {c} e = (walk_range vol m st e, met_held vol m st c (Ok link.Free) tt (subst (Nearest vol m st (links_of st.head.chunks)) e (free_nearest vol m st)).0)

  -- S-3: by the map it is the walk's, where the map tells the table
  module _ {n : ℕ} (held : Held st n) (mapped : Mapped vol st) where
    walks : free_of vol m st ≡ walk_free_of vol m st
    walks = mapped_free vol m st held.head.chunks_most held.map mapped held.head.cursor

    pub free_chunk : {c : ℕ} → free_of vol m st ≡ Ok (Some c) → (c < st.head.chunks) × (link_view vol st c ≡ Ok link.Free)
    free_chunk e = walked_chunk (sym walks ∙ e)

module _ (vol : List ℕ) (m : Medium) (st : Store) (ok : Checked vol m st) (G : ℕ → List Segment) (good : Good (disk_of vol st) G) where
  -- ---- the free chunk, or that there is none

  abbrev Used : ℕ → Type 0
  Used c = link_view vol st c ≡ Ok link.Free → ⊥

  -- of the chunks below n: one that is free, or none is
  abbrev FreeOf : ℕ → Option ℕ → Type 0
  FreeOf n None = (c : ℕ) → c < n → Used c
  FreeOf n (Some b) = (b < n) × (link_view vol st b ≡ Ok link.Free)

  abbrev pub Free : ℕ → Result (Option ℕ) Error → Type 0
  Free n (Err e) = ⊥
  Free n (Ok t) = FreeOf n t

  used_more : (n : ℕ) (t : Option ℕ) → Used n → FreeOf n t → FreeOf (n + 1) t
  used_more n None u p = below_more Used n p u
  used_more n (Some b) u p = (omega (arith, p.0), p.1)

  free_more : (n : ℕ) (t : Option ℕ) → link_view vol st n ≡ Ok link.Free → FreeOf n t → FreeOf (n + 1) (free_step st.head.cursor st.head.chunks n t)
  unfolding free_step
  free_more n None q p = (omega arith, q)
  free_more n (Some b) q p = pick_keeps (FreeOf (n + 1)) _ _ _ (omega arith, q) (omega (arith, p.0), p.1)

  walk_found : Free st.head.chunks (walk_free_of vol m st)
  unfolding walk_free_of
  walk_found =
      let r = table_views vol m st ok G good (free_v st.head.cursor st.head.chunks) FreeOf (λ c t h p q. free_more c t q p)
      (λ c l t h p q. used_more c t (λ f. free≢linked f q) p) None (below_none _) in
      subst (Free st.head.chunks) (sym r.1) r.2

  pub free_found : {n : ℕ} → Held st n → Mapped vol st → Free st.head.chunks (free_of vol m st)
  free_found held mapped = subst (Free st.head.chunks) (sym (walks vol m st held mapped)) walk_found

  -- ---- the chunk at a position of a file

  pub locate_view : (s p : ℕ) → s < 64 → p < length (G s) → locate_of vol m st s p ≡ Ok (place_at (segment_at (G s) p).chunk (link_for st.head.chunk s (G s) p))
  unfolding locate_of
  locate_view s p h b =
      let r = table_views vol m st ok G good (locate_v s p) (Met vol st G good s p h b) (λ c t i x q. met_free vol st G good s p h b c t x q)
      (λ c l t i x q. met_link vol st G good s p h b c l t i x q) _ (λ k. absurd (omega arith)) in
      r.1 ∙ ap (λ (x : Option Place). ok_or x Corrupt) (r.2 (good.inside s p h b))

  -- ---- the counts

  module _ (l : List ℕ) (room : 64 ≤ length l) (clear : (s : ℕ) → s < 64 → get_or l s 0 ≡ 0) where
    -- of the chunks below n
    record Upto (n : ℕ) (t : List ℕ) : Type 0 where
      pub same : length t ≡ length l
      pub number : (s : ℕ) → s < 64 → get_or t s 0 ≡ tally (of_slot vol st s) n

    count_free : (c : ℕ) (t : List ℕ) → Upto c t → link_view vol st c ≡ Ok link.Free → Upto (c + 1) t
    count_free c t p q = record { same = p.same; number = λ s h. rw (counts_free vol st s c q) (p.number s h) }

    count_link : (c : ℕ) (k : Link) (t : List ℕ) → c < st.head.chunks → Upto c t → link_view vol st c ≡ Ok (link.Linked k)
        → Upto (c + 1) (set t k.slot (get_or t k.slot 0 + 1))
    count_link c k t h p q =
        let b = (good.owned c k h q).slot in
        record {
          same = length-set t k.slot _ ∙ p.same;
          number = λ s i.
              case s k.slot
              (λ e.
              rw (e, counts_here vol st k.slot c q refl, get_or-set_same t k.slot (get_or t k.slot 0 + 1) 0 (omega (arith, p.same)))
              (omega (arith, p.number k.slot b)))
              (λ e.
              rw (counts_other vol st s c q (λ f. e (sym f)), get_or-set_other t k.slot s (get_or t k.slot 0 + 1) 0 e)
              (p.number s i));
        }

    pub count_view : Counts G (length l) (count_of vol m st l)
    unfolding count_of
    count_view =
        let r = table_views vol m st ok G good count_v Upto (λ c t i p q. count_free c t p q) (λ c k t i p q. count_link c k t i p q) l
        (record { same = refl; number = λ s h. rw (tally_start (of_slot vol st s)) (clear s h) }) in
        rw r.1 (record { outcome = refl; same = r.2.same; number = λ s h. r.2.number s h ∙ good.counted s h })

  -- from zeros, as the calls have it
  pub counts_view : (l : List ℕ) → 64 ≤ length l → Counts G (length l) (count_of vol m st (over 0 (zeros 64) l))
  counts_view l room =
      let n : length (over 0 (zeros 64) l) ≡ length l = length_over 0 (zeros 64) l (rw (length_zeros 64) (omega arith)) in
      subst (λ (k : ℕ). Counts G k (count_of vol m st (over 0 (zeros 64) l))) n (count_view (over 0 (zeros 64) l) (omega arith) (get_or_cleared l))
