-- S-3: the answers by the map are the walk's where the map tells the table, whatever the cursor and whatever the medium reads. Assumes nothing.
use Rattle.std.specs.Prelude.{Err, Ok, Result, Option, Some, None}
use Prim.Native.Nat.{ℕ, zero, suc, ◌+◌, ◌-◌, ◌*◌, ◌/◌, ◌%◌, ◌<◌, ◌≤◌}
use mathlib.Core.Path.{◌≡◌, refl, sym, ap, ◌∙◌, subst}
use mathlib.Core.Bool.{Bool, true, false, false≢true}
use mathlib.Core.List.{List}
use native.Mathlib.Nat.{add-zero}
use native.Mathlib.Omega.{arith}
use borrow.Author.Count.{below_more, below_none}
use borrow.Author.Tests.{ltb-true, ltb-false, lt-ltb, le-ltb, eq-eqb}
use lib.Dec.{ltb}
use Rattle.std.specs.Bool.{then_some}
use Rattle.le.specs.Choice.{pick}
use Rattle.le.specs.Tally.{tally}
use Rattle.le.proofs.Choices.{pick_true, pick_false, pick_keeps_by}
use Rattle.le.proofs.Tallies.{tally_ext, tally_yes, tally_no, tally_start}
use Rattle.medium.specs.declared.Error.{Error}
use Rattle.medium.specs.declared.Medium.{Medium}
use Rattle.medium.proofs.Laws.{on_done_no, on_done_keeps}
use Rattle.freemap.specs.Map.{marks, ones_of, map_ok}
use Rattle.freemap.proofs.First.{Chosen, ahead, round, none, chosen_of_lem}
use Rattle.freemap.proofs.Rule.{ok_none}
use Rattle.handles.specs.declared.Store.{Store}
use Rattle.handles.specs.Body.{check_of, due_of}
use Rattle.handles.specs.Handles.{table_of}
use Rattle.walk.specs.Walk.{next, stop, visits}
use Rattle.walk.proofs.Laws.{walk_keeps}
use Rattle.table.specs.declared.LinkAt.{LinkAt}
use Rattle.table.specs.declared.LinkAt.TheVariants as link
use Rattle.table.specs.Link.{link_held, link_at}
use Rattle.table.specs.Table.{TableVisit, over_table, links_of, free_v, walk_free_of}
use Rattle.table.specs.Free.{on_check, checked_of, pick_of, free_of, free_count_v, walk_count_of, free_count_of}
use Rattle.table.proofs.Tells.{is_free, is_free_lem, Tells, Mapped, met_held, outside}
use Rattle.table.proofs.Numbers.{found_free}
use Rattle.table.proofs.Walks.{table_keeps, link_checked}
use Rattle.table.proofs.Ways.{as_walked}
use Rattle.table.proofs.Nearest.{from_before, from_after, Nearest, dist, free_nearest, walk_range}

-- ---- the sectors of the table: all pass, or one is the first that does not

module _ (vol : List ℕ) (m : Medium) (st : Store) where
  abbrev pub Passed : ℕ → Type 0
  Passed n = (t : ℕ) → t < n → check_of vol m st (8 + t) ≡ Ok tt

  -- the first that fails
  pub record Fails (e : Error) : Type 0 where
    pub at : ℕ
    pub inside : at < table_of st.head.chunks
    before : Passed at
    there : check_of vol m st (8 + at) ≡ Err e

  abbrev pub CheckedAs : Result Unit Error → Type 0
  CheckedAs (Ok tt) = Passed (table_of st.head.chunks)
  CheckedAs (Err e) = Fails e

  pub checked_result : CheckedAs (checked_of vol m st)
  unfolding checked_of visits
  checked_result =
      walk_keeps _ _ (table_of st.head.chunks) (λ k s. Passed k) CheckedAs (λ k t u h p g. goes k p (check_of vol m st (8 + k)) refl g)
      (λ k t r h p g. stops k r h p (check_of vol m st (8 + k)) refl g) (λ t p. p) 0 tt (omega arith) (below_none _)
    where
      goes : (k : ℕ) → Passed k → (o : Result Unit Error) → check_of vol m st (8 + k) ≡ o → {u : Unit} → on_check o ≡ next u → Passed (k + 1)
      goes k p (Ok tt) q g = below_more (λ (t : ℕ). check_of vol m st (8 + t) ≡ Ok tt) k p q
      goes k p (Err e) q g = absurd (let z : ◌≡◌ {A = ℕ} 0 1 = cc in omega arith)

      stops : (k : ℕ) (r : Result Unit Error) → k < table_of st.head.chunks → Passed k → (o : Result Unit Error) → check_of vol m st (8 + k) ≡ o → on_check o ≡ stop r → CheckedAs r
      stops k r h p (Ok tt) q g = absurd (let z : ◌≡◌ {A = ℕ} 0 1 = cc in omega arith)
      stops k r h p (Err e) q g = let z : Err e ≡ r = cc in subst CheckedAs z (record { at = k; inside = h; before = p; there = q })

  -- the first link of the sector that fails
  pub failing : {e : Error} (f : Fails e) → link_at vol m st (128 * f.at) ≡ Err e
  unfolding link_at due_of
  failing f =
      let i : 128 * f.at / 128 ≡ f.at = omega arith in
      let z : 128 * f.at % 128 ≡ 0 = omega arith in
      rw (z, i) (on_done_no _ _ (pick_true _ _ (eq-eqb 0 0 refl) ∙ f.there))

  -- ---- where no link is refused as bytes, a walk is refused only by a sector, and at the first that fails

  module _ (sound : (c : ℕ) → c < links_of st.head.chunks → (e : Error) → link_held vol st c ≡ Err e → ⊥) where
    -- before the sector that fails nothing is refused
    early : {e : Error} (f : Fails e) (k : ℕ) → k < 128 * f.at → (x : Error) → link_at vol m st k ≡ Err x → ⊥
    early f k h x q = sound k (omega (arith, f.inside)) x (sym (link_checked vol m st f.at f.before k (omega arith)) ∙ q)

    module _ {S R : Type 0} (v : TableVisit S R) (refuse : Error → R) (same : (e : Error) (s : S) → v.refuse e s ≡ refuse e) {e : Error} (f : Fails e) where
      on_met : (k : ℕ) (x : Result LinkAt Error) → k ≤ 128 * f.at → link_at vol m st k ≡ x → ((z : Error) → x ≡ Err z → ⊥) → k + 1 ≤ 128 * f.at
      on_met k x h q ne = go (ltb k (128 * f.at)) refl
        where
          go : (t : Bool) → ltb k (128 * f.at) ≡ t → k + 1 ≤ 128 * f.at
          go true l = let a : k < 128 * f.at = ltb-true _ _ l in omega arith
          go false l =
              let a : 128 * f.at ≤ k = ltb-false _ _ l in
              let i : k ≡ 128 * f.at = omega arith in
              absurd (ne e (sym q ∙ ap (link_at vol m st) i ∙ failing f))

      walk_fails : (s : S) → over_table v vol m st s ≡ refuse e
      walk_fails s =
          table_keeps v vol m st (λ k t. k ≤ 128 * f.at) (λ r. r ≡ refuse e)
          (λ k t x i h q. same x t ∙ ap refuse (at_fail k x h q))
          (λ k t h q. on_met k (Ok link.Past) h q (λ z w. let n : ◌≡◌ {A = ℕ} 0 1 = cc in absurd (omega arith)))
          (λ k t h l q. on_met k (Ok link.Free) h q (λ z w. let n : ◌≡◌ {A = ℕ} 0 1 = cc in absurd (omega arith)))
          (λ k l t h i d q. on_met k (Ok (link.Linked l)) h q (λ z w. let n : ◌≡◌ {A = ℕ} 0 1 = cc in absurd (omega arith)))
          (λ t h. absurd (omega (arith, f.inside, h))) s (omega arith)
        where
          at_fail : (k : ℕ) (x : Error) → k ≤ 128 * f.at → link_at vol m st k ≡ Err x → x ≡ e
          at_fail k x h q = go (ltb k (128 * f.at)) refl
            where
              go : (t : Bool) → ltb k (128 * f.at) ≡ t → x ≡ e
              go true l = absurd (early f k (ltb-true _ _ l) x q)
              go false l =
                  let a : 128 * f.at ≤ k = ltb-false _ _ l in
                  let i : k ≡ 128 * f.at = omega arith in
                  let w : link_at vol m st (128 * f.at) ≡ Err x = sym (ap (link_at vol m st) i) ∙ q in
                  let z = failing f in
                  cc

    -- where every sector passes, the walk's pick is the nearest marked chunk, and its count that of the marked ones
    module _ (p : Passed (table_of st.head.chunks)) where
      reads : (c : ℕ) → c < links_of st.head.chunks → link_at vol m st c ≡ link_held vol st c
      reads c h = link_checked vol m st _ p c (omega arith)

      never : {A : Type 0} (k : ℕ) (e : Error) → k < links_of st.head.chunks → link_at vol m st k ≡ Err e → A
      never k e h q = absurd (sound k h e (sym (reads k h) ∙ q))

      abbrev Picked : Result (Option ℕ) Error → Type 0
      Picked (Err e) = ⊥
      Picked (Ok t) = Unit

      walk_picks : Picked (walk_free_of vol m st)
      unfolding walk_free_of
      walk_picks =
          table_keeps (free_v st.head.cursor st.head.chunks) vol m st (λ k t. Unit) Picked (λ k t e i h q. never k e i q)
          (λ k t h q. tt) (λ k t h l q. tt) (λ k l t h i d q. tt) (λ t h. tt) None tt

      walk_counts : walk_count_of vol m st ≡ Ok (tally (λ c. is_free (link_held vol st c)) (links_of st.head.chunks))
      unfolding walk_count_of is_free
      walk_counts =
          table_keeps free_count_v vol m st (λ k n. n ≡ tally (λ c. is_free (link_held vol st c)) k) (λ r. r ≡ Ok (tally (λ c. is_free (link_held vol st c)) (links_of st.head.chunks)))
          (λ k n e i h q. never k e i q)
          (λ k n h q. h ∙ sym (tally_no _ k (ap is_free (met_held vol m st k (Ok link.Past) tt q))))
          (λ k n h l q. ap (λ (x : ℕ). x + 1) h ∙ sym (tally_yes _ k (ap is_free (met_held vol m st k (Ok link.Free) tt q))))
          (λ k l n h i d q. h ∙ sym (tally_no _ k (ap is_free (met_held vol m st k (Ok (link.Linked l)) tt q))))
          (λ n h. ap Ok h) 0 (sym (tally_start _))

-- ---- counts

tally_rest : (f : ℕ → Bool) (n d : ℕ) → ((c : ℕ) → n ≤ c → c < n + d → f c ≡ false) → tally f (n + d) ≡ tally f n
tally_rest f n zero h = ap (tally f) (add-zero n)
tally_rest f n (suc d) h =
    let e : n + suc d ≡ (n + d) + 1 = omega arith in
    ap (tally f) e ∙ tally_no f (n + d) (h (n + d) (omega arith) (omega arith)) ∙ tally_rest f n d (λ c a b. h c a (omega arith))

-- ---- an unfit map has the walk's answers

pub unfit_free : (vol : List ℕ) (m : Medium) (st : Store) → st.free.fit ≡ false → free_of vol m st ≡ walk_free_of vol m st
unfolding free_of
unfit_free vol m st f = pick_false _ _ f

pub unfit_count : (vol : List ℕ) (m : Medium) (st : Store) → st.free.fit ≡ false → free_count_of vol m st ≡ walk_count_of vol m st
unfolding free_count_of
unfit_count vol m st f = pick_false _ _ f

-- past the chunks no bit of a fit map is set
pub past_none : (st : Store) → map_ok st.free st.head.chunks ≡ true → st.free.fit ≡ true → (c : ℕ) → st.head.chunks ≤ c → c < 2048 → marks st.free.words c ≡ false
unfolding pick
past_none st ok fit c h l = ok_none st.free st.head.chunks ok c (rw fit h) l

-- ---- a fit one too, where it tells the table

module _ (vol : List ℕ) (m : Medium) (st : Store) (most : st.head.chunks ≤ 2048) (ok : map_ok st.free st.head.chunks ≡ true)
    (fit : st.free.fit ≡ true) (tells : Tells vol st st.free.words) where
  abbrev ws : List ℕ
  ws = st.free.words

  past : (c : ℕ) → st.head.chunks ≤ c → c < 2048 → marks ws c ≡ false
  past = past_none st ok fit

  -- a marked chunk is one of the store, and free
  marked : (c : ℕ) → c < 2048 → marks ws c ≡ true → (c < st.head.chunks) × (link_held vol st c ≡ Ok link.Free)
  marked c l q = go (ltb c st.head.chunks) refl
    where
      go : (t : Bool) → ltb c st.head.chunks ≡ t → (c < st.head.chunks) × (link_held vol st c ≡ Ok link.Free)
      go true e = let h = ltb-true c st.head.chunks e in (h, is_free_lem (link_held vol st c) (sym (tells.bits c h) ∙ q))
      go false e = absurd (false≢true (sym (past c (ltb-false _ _ e) l) ∙ q))

  -- ---- where every sector passes

  module _ (inside : st.head.cursor < st.head.chunks) (p : Passed vol m st (table_of st.head.chunks)) where
    met_free : (c : ℕ) → c < 2048 → marks ws c ≡ true → (c < st.head.chunks) × (link_at vol m st c ≡ Ok link.Free)
    met_free c l q = let k = marked c l q in (k.0, reads vol m st tells.sound p c (omega (arith, k.0)) ∙ k.1)

    free_marked : (c : ℕ) → link_at vol m st c ≡ Ok link.Free → (c < st.head.chunks) × (marks ws c ≡ true)
    unfolding is_free
    free_marked c q =
        let h : c < st.head.chunks = found_free vol m st c refl q in
        (h, tells.bits c h ∙ ap is_free (met_held vol m st c (Ok link.Free) tt q))

    abbrev near : ℕ → ℕ
    near = dist vol m st

    -- of two marked chunks that are each the first, by the search and by the walk
    same_ahead : (b r : ℕ) → b < st.head.chunks → r < st.head.chunks → st.head.cursor ≤ r → near b ≤ near r
        → ((c : ℕ) → st.head.cursor ≤ c → c < r → marks ws c ≡ false) → marks ws b ≡ true → b ≡ r
    same_ahead b r hb hr lo less off mb = go (ltb b st.head.cursor) (ltb b r) refl refl
      where
        there : near r ≡ r - st.head.cursor
        there = from_after st.head.cursor st.head.chunks inside r lo hr

        go : (t u : Bool) → ltb b st.head.cursor ≡ t → ltb b r ≡ u → b ≡ r
        go true u e f =
            let x : near b ≡ b + (st.head.chunks - st.head.cursor) = from_before st.head.cursor st.head.chunks inside b (ltb-true _ _ e) in
            absurd (let z : ⊥ = omega (arith, x, there, less) in z)
        go false true e f = absurd (false≢true (sym (off b (ltb-false _ _ e) (ltb-true _ _ f)) ∙ mb))
        go false false e f =
            let x : near b ≡ b - st.head.cursor = from_after st.head.cursor st.head.chunks inside b (ltb-false _ _ e) hb in
            omega (arith, x, there, less, ltb-false b r f, ltb-false b st.head.cursor e)

    same_round : (b r : ℕ) → b < st.head.chunks → r < st.head.cursor → near b ≤ near r
        → ((c : ℕ) → st.head.cursor ≤ c → c < 2048 → marks ws c ≡ false) → ((c : ℕ) → c < r → marks ws c ≡ false) → marks ws b ≡ true → b ≡ r
    same_round b r hb hr less off low mb = go (ltb b st.head.cursor) (ltb b r) refl refl
      where
        go : (t u : Bool) → ltb b st.head.cursor ≡ t → ltb b r ≡ u → b ≡ r
        go false u e f = absurd (false≢true (sym (off b (ltb-false _ _ e) (omega arith)) ∙ mb))
        go true true e f = absurd (false≢true (sym (low b (ltb-true _ _ f)) ∙ mb))
        go true false e f =
            let x : near b ≡ b + (st.head.chunks - st.head.cursor) = from_before st.head.cursor st.head.chunks inside b (ltb-true _ _ e) in
            let y : near r ≡ r + (st.head.chunks - st.head.cursor) = from_before st.head.cursor st.head.chunks inside r hr in
            omega (arith, x, y, less, ltb-false b r f)

    at_pick : (r : ℕ) → r < 2048 → pick_of r ≡ Some r
    unfolding pick_of
    at_pick r h = rw (lt-ltb r 2048 h)

    no_pick : (r : ℕ) → r ≡ 2048 → pick_of r ≡ None
    unfolding pick_of
    no_pick r e = rw (le-ltb r 2048 (omega (arith, e)))

    same_pick : (t : Result (Option ℕ) Error) → Nearest vol m st (links_of st.head.chunks) t → Picked vol m st tells.sound p t
        → (r : ℕ) → Chosen ws st.head.cursor r → Ok (pick_of r) ≡ t
    same_pick (Err e) n h r k = absurd h
    same_pick (Ok None) n h r (ahead lo hi q off) = let f = met_free r hi q in absurd (n r (omega (arith, f.0)) f.1)
    same_pick (Ok None) n h r (round lo q off low) = let f = met_free r (omega arith) q in absurd (n r (omega (arith, f.0)) f.1)
    same_pick (Ok None) n h r (none e off) = ap Ok (no_pick r e)
    same_pick (Ok (Some b)) n h r (ahead lo hi q off) =
        let f = met_free r hi q in
        let g = free_marked b n.0 in
        ap Ok (at_pick r hi ∙ ap Some (sym (same_ahead b r g.0 f.0 lo (n.1 r (omega (arith, f.0)) f.1) off g.1)))
    same_pick (Ok (Some b)) n h r (round lo q off low) =
        let f = met_free r (omega arith) q in
        let g = free_marked b n.0 in
        ap Ok (at_pick r (omega arith) ∙ ap Some (sym (same_round b r g.0 lo (n.1 r (omega (arith, f.0)) f.1) off low g.1)))
    same_pick (Ok (Some b)) n h r (none e off) = let g = free_marked b n.0 in absurd (false≢true (sym (off b (omega (arith, g.0))) ∙ g.1))

  -- as many bits as free links
  same_count : ones_of ws ≡ tally (λ c. is_free (link_held vol st c)) (links_of st.head.chunks)
  same_count =
      let n : ℕ = links_of st.head.chunks in
      let d : ℕ = 2048 - n in
      let e : 2048 ≡ n + d = omega arith in
      ap (tally (marks ws)) e ∙ tally_rest (marks ws) n d (λ c h l. past c (omega arith) (omega arith)) ∙ tally_ext (marks ws) (λ c. is_free (link_held vol st c)) n each
    where
      go : (c : ℕ) → c < 2048 → (t : Bool) → ltb c st.head.chunks ≡ t → marks ws c ≡ is_free (link_held vol st c)
      go c l true e = tells.bits c (ltb-true _ _ e)
      go c l false e = let h : st.head.chunks ≤ c = ltb-false _ _ e in past c h l ∙ sym (outside vol st c h)

      each : (c : ℕ) → c < links_of st.head.chunks → marks ws c ≡ is_free (link_held vol st c)
      each c h = go c (omega arith) (ltb c st.head.chunks) refl

module _ (vol : List ℕ) (m : Medium) (st : Store) (most : st.head.chunks ≤ 2048) (ok : map_ok st.free st.head.chunks ≡ true) (mapped : Mapped vol st) where
  -- what is known of the sectors, by the outcome of their checks
  known : {o : Result Unit Error} → checked_of vol m st ≡ o → CheckedAs vol m st o
  known q = subst (CheckedAs vol m st) q (checked_result vol m st)

  -- the chunk chosen, and the free count
  pub mapped_free : st.head.cursor < st.head.chunks → free_of vol m st ≡ walk_free_of vol m st
  unfolding free_of walk_free_of
  mapped_free inside =
      as_walked vol m st _ _ _
      (λ f q. same_pick vol m st most ok f (mapped f) inside (known q) (walk_free_of vol m st) (free_nearest vol m st)
      (walk_picks vol m st (mapped f).sound (known q)) _ (chosen_of_lem st.free.words st.head.cursor))
      (λ f e q. sym (walk_fails vol m st (mapped f).sound (free_v st.head.cursor st.head.chunks) Err (λ x s. refl) (known q) None))

  pub mapped_count : free_count_of vol m st ≡ walk_count_of vol m st
  unfolding free_count_of walk_count_of
  mapped_count =
      as_walked vol m st _ _ _
      (λ f q. ap Ok (same_count vol m st most ok f (mapped f)) ∙ sym (walk_counts vol m st (mapped f).sound (known q)))
      (λ f e q. sym (walk_fails vol m st (mapped f).sound free_count_v Err (λ x s. refl) (known q) 0))

-- ---- the chunk chosen is one of the store, whatever the map says

chosen_marked : (ws : List ℕ) (cursor r : ℕ) → Chosen ws cursor r → r < 2048 → marks ws r ≡ true
chosen_marked ws cursor r (ahead lo hi q off) h = q
chosen_marked ws cursor r (round lo q off low) h = q
chosen_marked ws cursor r (none e off) h = absurd (omega (arith, e, h))

module _ (vol : List ℕ) (m : Medium) (st : Store) (ok : map_ok st.free st.head.chunks ≡ true) where
  inside_chunks : (r : ℕ) → st.free.fit ≡ true → r < 2048 → marks st.free.words r ≡ true → r < st.head.chunks
  inside_chunks r f h q = go (ltb r st.head.chunks) refl
    where
      go : (t : Bool) → ltb r st.head.chunks ≡ t → r < st.head.chunks
      go true e = ltb-true _ _ e
      go false e = absurd (false≢true (sym (past_none st ok f r (ltb-false _ _ e) h) ∙ q))

  in_range : (r : ℕ) → st.free.fit ≡ true → Chosen st.free.words st.head.cursor r → (t : Bool) → ltb r 2048 ≡ t → {c : ℕ} → ◌≡◌ {A = Result (Option ℕ) Error} (Ok (then_some t r)) (Ok (Some c)) → c < st.head.chunks
  in_range r f k true l {c} e =
      let i : r ≡ c = cc in
      let h : r < 2048 = ltb-true r 2048 l in
      let q : marks st.free.words r ≡ true = chosen_marked st.free.words st.head.cursor r k h in
      subst (λ (x : ℕ). x < st.head.chunks) i (inside_chunks r f h q)
  in_range r f k false l e = absurd (let z : ◌≡◌ {A = ℕ} 0 1 = cc in omega arith)

  pub free_range : {c : ℕ} → free_of vol m st ≡ Ok (Some c) → c < st.head.chunks
  unfolding free_of pick_of
  free_range {c} =
      pick_keeps_by (λ (p : Result (Option ℕ) Error). p ≡ Ok (Some c) → c < st.head.chunks) st.free.fit _ _
      (λ f. on_done_keeps (λ (p : Result (Option ℕ) Error). p ≡ Ok (Some c) → c < st.head.chunks) (checked_of vol m st) _ Err
      (λ _. in_range _ f (chosen_of_lem st.free.words st.head.cursor) _ refl)
      (λ e _ q. absurd (let z : ◌≡◌ {A = ℕ} 0 1 = cc in omega arith)))
      (λ _. walk_range vol m st)
