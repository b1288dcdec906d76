-- Laws of the walks of the table: a property that each chunk keeps holds of the answer; the ranges of what each walk answers; and volumes whose
-- table sectors agree give the same walks. Assumes nothing.
use Rattle.std.specs.Prelude.{Option, Some, None, Result, Ok, Err}
use Rattle.std.specs.Option.{ok_or}
use Prim.Native.Nat.{ℕ, ◌+◌, ◌-◌, ◌/◌, ◌%◌, ◌<◌, ◌≤◌, zero-le}
use mathlib.Core.Path.{◌≡◌, refl, sym, ap, ap₂, ◌∙◌, subst}
use mathlib.Core.Bool.{Bool, true, false}
use mathlib.Core.List.{List}
use native.Mathlib.Decide.{ℕ_discrete}
use native.Mathlib.Omega.{arith}
use borrow.Author.Tests.{eqb-true, eqb-false}
use borrow.Author.Count.{below_more}
use lib.Dec.{eqb}
use lib.ListN.{length, get_or, set}
use lib.Seq.{get_or-set_same, get_or-set_other}
use Rattle.le.specs.Choice.{pick}
use Rattle.le.proofs.Choices.{pick_keeps_by}
use Rattle.le.proofs.Bools.{and_true, or_false}
use Rattle.medium.specs.declared.Error.{Error}
use Rattle.medium.specs.declared.Error.TheVariants.{Corrupt}
use Rattle.medium.specs.declared.Medium.{Medium}
use Rattle.medium.specs.Sector.{sector_at}
use Rattle.medium.proofs.Laws.{on_done_done}
use Rattle.handles.specs.declared.Store.{Store}
use Rattle.handles.specs.Body.{body_at, check_of, due_of}
use Rattle.handles.specs.Handles.{table_of}
use Rattle.handles.proofs.Laws.{due_done}
use Rattle.walk.specs.Walk.{next, stop, visits}
use Rattle.walk.proofs.Laws.{walk_keeps, visits_alike}
use Rattle.table.specs.declared.Link.{Link}
use Rattle.table.specs.declared.LinkAt.{LinkAt}
use Rattle.table.specs.declared.LinkAt.TheVariants as link
use Rattle.table.specs.declared.Place.{Place}
use Rattle.table.specs.declared.ChainState.{ChainState}
use Rattle.table.specs.declared.ChainParts.{ChainParts}
use Rattle.table.specs.Link.{link_part, link_held, link_at}
use Rattle.table.specs.Table.{TableVisit, on_link, links_of, over_table, sought, locate_step, locate_v, locate_of, first_step, higher, chain_more, chain_step, chain_v, chain_end, chain_of, whole_of, no_chain, place_at}
use Rattle.table.proofs.Numbers.{Sound, found_free, found_link}

-- ---- a property that each chunk keeps

module _ {S R : Type 0} (v : TableVisit S R) (vol : List ℕ) (m : Medium) (st : Store) (P : ℕ → S → Type 0) (Q : R → Type 0)
    (refuses : (k : ℕ) (t : S) (e : Error) → k < links_of st.head.chunks → P k t → link_at vol m st k ≡ Err e → Q (v.refuse e t))
    (pasts : (k : ℕ) (t : S) → P k t → link_at vol m st k ≡ Ok link.Past → P (k + 1) t)
    (frees : (k : ℕ) (t : S) → P k t → k < st.head.chunks → link_at vol m st k ≡ Ok link.Free → P (k + 1) (v.free k t))
    (links : (k : ℕ) (l : Link) (t : S) → P k t → k < st.head.chunks → Sound l st.head.chunk → link_at vol m st k ≡ Ok (link.Linked l) → P (k + 1) (v.linked k l t))
    (ends : (t : S) → P (links_of st.head.chunks) t → Q (v.done t)) where
  goes : (k : ℕ) (t u : S) (x : Result LinkAt Error) → link_at vol m st k ≡ x → P k t → on_link v k t x ≡ next u → P (k + 1) u
  goes k t u (Err e) q p g = absurd (let z : ◌≡◌ {A = ℕ} 0 1 = cc in omega arith)
  goes k t u (Ok link.Past) q p g = let z : t ≡ u = cc in subst (P (k + 1)) z (pasts k t p q)
  goes k t u (Ok link.Free) q p g = let z : v.free k t ≡ u = cc in subst (P (k + 1)) z (frees k t p (found_free vol m st k (sym q) refl) q)
  goes k t u (Ok (link.Linked l)) q p g =
      let z : v.linked k l t ≡ u = cc in
      let f = found_link vol m st k (sym q) refl in
      subst (P (k + 1)) z (links k l t p f.0 f.1 q)

  stops : (k : ℕ) (t : S) (r : R) (x : Result LinkAt Error) → k < links_of st.head.chunks → link_at vol m st k ≡ x → P k t → on_link v k t x ≡ stop r → Q r
  stops k t r (Err e) h q p g = let z : v.refuse e t ≡ r = cc in subst Q z (refuses k t e h p q)
  stops k t r (Ok link.Past) h q p g = absurd (let z : ◌≡◌ {A = ℕ} 0 1 = cc in omega arith)
  stops k t r (Ok link.Free) h q p g = absurd (let z : ◌≡◌ {A = ℕ} 0 1 = cc in omega arith)
  stops k t r (Ok (link.Linked l)) h q p g = absurd (let z : ◌≡◌ {A = ℕ} 0 1 = cc in omega arith)

  pub table_keeps : (s : S) → P 0 s → Q (over_table v vol m st s)
  unfolding visits
  table_keeps s p =
      walk_keeps _ _ (links_of st.head.chunks) P Q (λ k t u h p g. goes k t u (link_at vol m st k) refl p g)
      (λ k t r h p g. stops k t r (link_at vol m st k) h refl p g) ends 0 s zero-le p

-- ---- volumes whose table sectors agree

module _ (vol vol' : List ℕ) (m : Medium) (st : Store)
    (same : (t : ℕ) → t < table_of st.head.chunks → sector_at vol (body_at st (8 + t)) ≡ sector_at vol' (body_at st (8 + t))) where
  pub link_alike : (c : ℕ) → c < links_of st.head.chunks → link_at vol m st c ≡ link_at vol' m st c
  unfolding link_at link_part due_of check_of
  link_alike c h = rw (same (c / 128) (omega arith))

  pub table_frame : {S R : Type 0} (v : TableVisit S R) (s : S) → over_table v vol m st s ≡ over_table v vol' m st s
  table_frame v s = visits_alike (on_link v) (link_at vol m st) (link_at vol' m st) v.done (links_of st.head.chunks) link_alike 0 s zero-le

-- ---- where the first n table sectors pass their checks, a link in them is what its bytes say

pub link_checked : (vol : List ℕ) (m : Medium) (st : Store) (n : ℕ) → ((t : ℕ) → t < n → check_of vol m st (8 + t) ≡ Ok tt) → (c : ℕ) → c / 128 < n
    → link_at vol m st c ≡ link_held vol st c
unfolding link_at
link_checked vol m st n pass c h = on_done_done _ _ (due_done vol m st (eqb (c % 128) 0) (8 + c / 128) (pass (c / 128) h))

-- ---- locate: the chunk is linked to the slot at the position, and no higher one is

module _ (vol : List ℕ) (m : Medium) (st : Store) (slot position : ℕ) where
  -- of the chunks below n
  pub record Located (n c : ℕ) (l : Link) : Type 0 where
    pub chunk : c < st.head.chunks
    pub sound : Sound l st.head.chunk
    pub held : link_at vol m st c ≡ Ok (link.Linked l)
    pub fits : sought slot position l ≡ true
    pub highest : (j : ℕ) → j < n → c < j → (k : Link) → link_at vol m st j ≡ Ok (link.Linked k) → sought slot position k ≡ false

  abbrev PlaceOk : ℕ → Option Place → Type 0
  PlaceOk n None = Unit
  PlaceOk n (Some p) = Located n p.chunk p.link

  -- chunk n has no such link
  passed : (n : ℕ) (s : Option Place) → ((k : Link) → link_at vol m st n ≡ Ok (link.Linked k) → sought slot position k ≡ false) → PlaceOk n s → PlaceOk (n + 1) s
  passed n None h p = tt
  passed n (Some s) h p =
      record {
        chunk = p.chunk;
        sound = p.sound;
        held = p.held;
        fits = p.fits;
        highest = below_more (λ (j : ℕ). s.chunk < j → (k : Link) → link_at vol m st j ≡ Ok (link.Linked k) → sought slot position k ≡ false) n p.highest (λ q. h);
      }

  -- it is not linked
  unlinked : (n : ℕ) (s : Option Place) (x : Result LinkAt Error) → link_at vol m st n ≡ x → ((k : Link) → x ≡ Ok (link.Linked k) → ⊥) → PlaceOk n s → PlaceOk (n + 1) s
  unlinked n s x e h p = passed n s (λ k q. absurd (h k (sym e ∙ q))) p

  -- it is linked
  module _ (n : ℕ) (l : Link) (s : Option Place) (p : PlaceOk n s) (h : n < st.head.chunks) (d : Sound l st.head.chunk) (e : link_at vol m st n ≡ Ok (link.Linked l)) where
    other : sought slot position l ≡ false → PlaceOk (n + 1) s
    other t = passed n s (λ k q. let z : k ≡ l = cc in ap (sought slot position) z ∙ t) p

    met : PlaceOk (n + 1) (locate_step slot position n l s)
    unfolding locate_step
    met =
        pick_keeps_by (PlaceOk (n + 1)) (sought slot position l) (Some (place_at n l)) s
        (λ t. record { chunk = h; sound = d; held = e; fits = t; highest = λ j a b. absurd (omega arith) }) other

  -- what is answered, of the whole table
  abbrev PlaceFound : Result Place Error → Type 0
  PlaceFound (Err e) = Unit
  PlaceFound (Ok p) = Located (links_of st.head.chunks) p.chunk p.link

  answered : (s : Option Place) → PlaceOk (links_of st.head.chunks) s → PlaceFound (ok_or s Corrupt)
  answered None p = tt
  answered (Some s) p = p

  locate_ok : PlaceFound (locate_of vol m st slot position)
  unfolding locate_of
  locate_ok =
      table_keeps (locate_v slot position) vol m st PlaceOk PlaceFound
      (λ k t e h p q. tt)
      (λ k t p q. unlinked k t (Ok link.Past) q (λ l e. let z : ◌≡◌ {A = ℕ} 0 1 = cc in omega arith) p)
      (λ k t p h q. unlinked k t (Ok link.Free) q (λ l e. let z : ◌≡◌ {A = ℕ} 0 1 = cc in omega arith) p)
      (λ k l t p h d q. met k l t p h d q)
      answered None tt

  pub locate_range : {c : ℕ} {l : Link} → locate_of vol m st slot position ≡ Ok (place_at c l) → Located (links_of st.head.chunks) c l
  locate_range e = subst PlaceFound e locate_ok

-- ---- chain: the ranges of its numbers, the links of its first and its last chunk

-- a chunk adds at most one to the count
pub chain_below : (k : ℕ) (l : Link) (s : ChainState) (i : ℕ) → s.count ≤ i → (chain_more k l s).count ≤ i + 1
unfolding chain_more
chain_below k l s i h = omega arith

module _ (vol : List ℕ) (m : Medium) (st : Store) (slot : ℕ) where
  -- the last chunk and the largest position belong to one link of the slot
  pub record Tail (last top : ℕ) : Type 0 where
    pub tail : Link
    pub held : link_at vol m st last ≡ Ok (link.Linked tail)
    pub chunk : last < st.head.chunks
    pub owner : tail.slot ≡ slot
    pub at : tail.position ≡ top

  record Seen (n : ℕ) (s : ChainState) : Type 0 where
    pub passed : s.count ≤ n
    pub most : s.count ≤ st.head.chunks
    pub first : PlaceOk vol m st slot 0 n s.first
    pub last : 1 ≤ s.count → Tail s.last s.top

  unseen : (n : ℕ) (s : ChainState) → PlaceOk vol m st slot 0 (n + 1) s.first → Seen n s → Seen (n + 1) s
  unseen n s f p = record { passed = omega (arith, p.passed); most = p.most; first = f; last = p.last }

  module _ (n : ℕ) (l : Link) (s : ChainState) (p : Seen n s) (h : n < st.head.chunks) (d : Sound l st.head.chunk) (e : link_at vol m st n ≡ Ok (link.Linked l)) where
    tail_step : l.slot ≡ slot → Tail (pick (higher l s) n s.last) (pick (higher l s) l.position s.top)
    unfolding pick
    tail_step q = go (higher l s) refl
      where
        go : (b : Bool) → higher l s ≡ b → Tail (pick b n s.last) (pick b l.position s.top)
        go true t = record { tail = l; held = e; chunk = h; owner = q; at = refl }
        go false t = let z : s.count ≡ 0 → ⊥ = eqb-false _ _ (or_false _ _ t).0 in p.last (omega arith)

    first_same : eqb l.slot slot ≡ true → locate_step slot 0 n l s.first ≡ first_step n l s.first
    unfolding locate_step first_step
    first_same t = rw t

    seen_step : Seen (n + 1) (chain_step slot n l s)
    unfolding chain_step chain_more
    seen_step =
        pick_keeps_by (Seen (n + 1)) (eqb l.slot slot) _ s
        (λ t. record {
          passed = omega (arith, p.passed);
          most = omega (arith, p.passed);
          first = subst (PlaceOk vol m st slot 0 (n + 1)) (first_same t) (met vol m st slot 0 n l s.first p.first h d e);
          last = λ a. tail_step (eqb-true _ _ t);
        })
        (λ t. unseen n s (other vol m st slot 0 n l s.first p.first h d e (rw t)) p)

  -- what a chain tells
  pub record ChainFacts (p : ChainParts) : Type 0 where
    pub least : 1 ≤ p.count
    pub most : p.count ≤ st.head.chunks
    pub first : p.first < st.head.chunks
    pub records : p.records < st.head.chunk
    pub head : link_at vol m st p.first ≡ Ok (link.Linked (record { slot = slot; position = 0; partial = p.partial; records = p.records }))
    pub last : p.last < st.head.chunks
    pub tail : Tail p.last (p.count - 1)

  abbrev ChainOk : Result ChainParts Error → Type 0
  ChainOk (Err e) = Unit
  ChainOk (Ok p) = ChainFacts p

  whole : (s : ChainState) (f : Option Place) → PlaceOk vol m st slot 0 (links_of st.head.chunks) f → Seen (links_of st.head.chunks) s → ChainOk (whole_of s f)
  whole s None g p = tt
  whole s (Some f) g p =
      pick_keeps_by ChainOk (eqb (s.top + 1) s.count) _ _
      (λ t.
      let e : s.top + 1 ≡ s.count = eqb-true _ _ t in
      let a = and_true (eqb f.link.slot slot) (eqb f.link.position 0) g.fits in
      let k : Tail s.last s.top = p.last (omega arith) in
      record {
        least = omega arith;
        most = p.most;
        first = g.chunk;
        records = g.sound.records;
        head = g.held ∙ ap₂ (λ (x y : ℕ). Ok (link.Linked (record { slot = x; position = y; partial = f.link.partial; records = f.link.records }))) (eqb-true _ _ a.0) (eqb-true _ _ a.1);
        last = k.chunk;
        tail = subst (Tail s.last) (omega arith) k;
      })
      (λ t. tt)

  chain_ok : ChainOk (chain_of vol m st slot)
  unfolding chain_of chain_end
  chain_ok =
      table_keeps (chain_v slot) vol m st Seen ChainOk
      (λ k t e h p q. tt)
      (λ k t p q. unseen k t (unlinked vol m st slot 0 k t.first (Ok link.Past) q (λ l e. let z : ◌≡◌ {A = ℕ} 0 1 = cc in omega arith) p.first) p)
      (λ k t p h q. unseen k t (unlinked vol m st slot 0 k t.first (Ok link.Free) q (λ l e. let z : ◌≡◌ {A = ℕ} 0 1 = cc in omega arith) p.first) p)
      (λ k l t p h d q. seen_step k l t p h d q)
      (λ t p. whole t t.first p.first p)
      no_chain (record { passed = zero-le; most = zero-le; first = tt; last = λ a. absurd (omega arith) })

  pub chain_range : {p : ChainParts} → chain_of vol m st slot ≡ Ok p → ChainFacts p
  chain_range e = subst ChainOk e chain_ok

-- ---- counts

-- one more at a slot: no count is above the chunks passed
pub count_below : (l : List ℕ) (s i : ℕ) → s < 64 → s < length l → ((k : ℕ) → k < 64 → get_or l k 0 ≤ i) → (k : ℕ) → k < 64 → get_or (set l s (get_or l s 0 + 1)) k 0 ≤ i + 1
count_below l s i b h a k d = go (ℕ_discrete k s)
  where
    go : Dec (k ≡ s) → get_or (set l s (get_or l s 0 + 1)) k 0 ≤ i + 1
    go (yes e) = rw (e, get_or-set_same l s (get_or l s 0 + 1) 0 h) (omega (arith, a s b))
    go (no n) = rw (get_or-set_other l s k (get_or l s 0 + 1) 0 n) (omega (arith, a k d))
