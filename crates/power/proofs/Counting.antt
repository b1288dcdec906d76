-- A slot is vacant where the book has fewer files than there are slots, and only there. A chunk is free where its files have not all of them, and only
-- there. Assumes nothing.
use Rattle.std.specs.Prelude.{Ok}
use Prim.Native.Nat.{ℕ, zero, suc, ◌+◌, ◌<◌, ◌≤◌}
use mathlib.Core.Path.{◌≡◌, refl, sym, ap, ◌∙◌}
use mathlib.Core.Logic.{◌⊎◌, inl, inr}
use mathlib.Core.Bool.{Bool, true, false, not, ◌&&◌}
use mathlib.Core.List.Memᴰ
use mathlib.Core.List.{List, [], ◌∷◌}
use native.Mathlib.Omega.{arith}
use borrow.Author.Count.{below_more, below_none}
use borrow.Author.Tests.{not-true, eq-eqb, ne_eqb}
use lib.Dec.{eqb}
use lib.ListN.{length}
use Rattle.le.specs.Choice.{pick}
use Rattle.le.specs.Tally.{tally}
use Rattle.le.proofs.Choices.{pick_keeps, pick_true, pick_false}
use Rattle.le.proofs.Bools.{and_true}
use Rattle.le.proofs.Tallies.{tally_le, tally_none}
use Rattle.table.specs.declared.Link.{Link}
use Rattle.table.specs.declared.LinkAt.TheVariants as link
use Rattle.layout.specs.Views.{Entry, vacant, broken, named, Disk}
use Rattle.layout.specs.Segments.{Segment, is_of, Good}
use Rattle.layout.proofs.Facts.{case, is_of_lem, not_of, free_of_lem, same_id, free≢linked, true≢false}
use Rattle.layout.proofs.Tallies.{tally_more}
use Rattle.folds.specs.Rows.{listed_in}
use Rattle.power.specs.Book.{File, keep}
use Rattle.power.specs.Room.{chunks_in}
use Rattle.power.proofs.Whole.{Apart, Ties}
use Rattle.power.proofs.Members.{Mem}
use Rattle.power.proofs.Ties.{vacant_counts, named_counts}

-- ---- numbers below n

-- one of them is, or all are not
some_or_all : {P Q : ℕ → Type 0} (n : ℕ) → ((c : ℕ) → c < n → P c ⊎ Q c) → ((c : ℕ) × (c < n) × P c) ⊎ ((c : ℕ) → c < n → Q c)
some_or_all {P} {Q} zero h = inr (below_none _)
some_or_all {P} {Q} (suc n) h = go (some_or_all {P = P} {Q = Q} n (λ c l. h c (omega arith))) (h n (omega arith))
  where
    go : ((c : ℕ) × (c < n) × P c) ⊎ ((c : ℕ) → c < n → Q c) → P n ⊎ Q n → ((c : ℕ) × (c < suc n) × P c) ⊎ ((c : ℕ) → c < suc n → Q c)
    go (inl x) y = inl (x.0, omega (arith, x.1), x.2)
    go (inr all) (inl p) = inl (n, omega arith, p)
    go (inr all) (inr q) = inr (λ c l. below_more Q n all q c (omega arith))

tally_all : (f : ℕ → Bool) (n : ℕ) → ((c : ℕ) → c < n → f c ≡ true) → tally f n ≡ n
unfolding tally
tally_all f zero h = refl
tally_all f (suc n) h = rw (pick_true (tally f n + 1) (tally f n) (h n (omega arith)), tally_all f n (λ c l. h c (omega arith))) (omega arith)

-- those of f are of g, or of the rest
tally_split : (f g : ℕ → Bool) (n : ℕ) → tally f n ≤ tally g n + tally (λ c. f c && not (g c)) n
unfolding tally pick
tally_split f g zero = omega arith
tally_split f g (suc n) = go (f n) (g n) (tally f n) (tally g n) (tally (λ c. f c && not (g c)) n) (tally_split f g n)
  where
    go : (s t : Bool) (x y z : ℕ) → x ≤ y + z → pick s (x + 1) x ≤ pick t (y + 1) y + pick (s && not t) (z + 1) z
    go true true x y z h = omega arith
    go true false x y z h = omega arith
    go false true x y z h = omega arith
    go false false x y z h = h

-- those of f are of g, and of the rest of g there are no more
tally_join : (f g : ℕ → Bool) (n : ℕ) → ((c : ℕ) → c < n → f c ≡ true → g c ≡ true) → tally f n + tally (λ c. g c && not (f c)) n ≤ tally g n
unfolding tally pick
tally_join f g zero h = omega arith
tally_join f g (suc n) h = go (f n) (g n) (tally f n) (tally g n) (tally (λ c. g c && not (f c)) n) (h n (omega arith)) (tally_join f g n (λ c l. h c (omega arith)))
  where
    go : (s t : Bool) (x y z : ℕ) → (s ≡ true → t ≡ true) → x + z ≤ y → pick s (x + 1) x + pick (t && not s) (z + 1) z ≤ pick t (y + 1) y
    go true true x y z i h = omega arith
    go true false x y z i h = absurd (true≢false (i refl) refl)
    go false true x y z i h = omega arith
    go false false x y z i h = h

-- ---- the chunks of the files kept

chunks_kept : (p : File → Bool) (fs : List File) → chunks_in (keep p fs) ≤ chunks_in fs
unfolding chunks_in keep
chunks_kept p [] = omega arith
chunks_kept p (x ∷ fs) =
    let i = chunks_kept p fs in
    pick_keeps (λ (l : List File). chunks_in l ≤ x.chunks + chunks_in fs) (p x) (x ∷ keep p fs) (keep p fs) (omega (arith, i)) (omega (arith, i))

-- where a file with a chunk went they are fewer
pub chunks_fewer : (p : File → Bool) (f : File) (fs : List File) → Mem f fs → p f ≡ false → 1 ≤ f.chunks → chunks_in (keep p fs) < chunks_in fs
unfolding chunks_in keep
chunks_fewer p f [] m gone some = elim m [ ]
chunks_fewer p f (x ∷ fs) (Memᴰ.head e) gone some =
    let n : f.chunks ≡ x.chunks = ap (λ (g : File). g.chunks) e in
    rw (pick_false (x ∷ keep p fs) (keep p fs) (ap p (sym e) ∙ gone)) (omega (arith, n, chunks_kept p fs))
chunks_fewer p f (x ∷ fs) (Memᴰ.tail m) gone some =
    let i = chunks_fewer p f fs m gone some in
    pick_keeps (λ (l : List File). chunks_in l < x.chunks + chunks_in fs) (p x) (x ∷ keep p fs) (keep p fs) (omega (arith, i)) (omega (arith, i))

-- ---- slots and chunks

module _ {D : Disk} {G : ℕ → List Segment} {files : List File} (d : Good D G) (t : Ties D G files) where
  abbrev FileAt : ℕ → Type 0
  FileAt s = (n : List ℕ) × ((i : ℕ) × (D.entry s ≡ named n i))

  slot_is : (s : ℕ) → s < 64 → (D.entry s ≡ vacant) ⊎ FileAt s
  slot_is s h = go (D.entry s) refl
    where
      go : (e : Entry) → D.entry s ≡ e → (D.entry s ≡ vacant) ⊎ FileAt s
      go vacant q = inl q
      go broken q = absurd (d.whole s h q)
      go (named n i) q = inr (n, (i, q))

  pub vacancy : length files < 64 → (s : ℕ) × (s < 64) × (D.entry s ≡ vacant)
  vacancy few = go (some_or_all {P = λ (s : ℕ). D.entry s ≡ vacant} {Q = FileAt} 64 slot_is)
    where
      go : ((s : ℕ) × (s < 64) × (D.entry s ≡ vacant)) ⊎ ((s : ℕ) → s < 64 → FileAt s) → (s : ℕ) × (s < 64) × (D.entry s ≡ vacant)
      go (inl v) = v
      go (inr all) =
          let x : tally (λ s. listed_in [] (D.entry s)) 64 ≡ 64 = tally_all (λ s. listed_in [] (D.entry s)) 64 (λ s h. named_counts (all s h).1.1) in
          absurd (omega (arith, x, t.many, few))

  pub slots_most : length files ≤ 64
  slots_most = omega (arith, t.many, tally_le (λ s. listed_in [] (D.entry s)) 64)

  pub vacant_fewer : (s : ℕ) → s < 64 → D.entry s ≡ vacant → length files < 64
  vacant_fewer s h v =
      let more = tally_more (λ s. listed_in [] (D.entry s)) (λ s. true) 64 s h (vacant_counts v) refl (λ b l n e. refl) in
      omega (arith, more, t.many, tally_le (λ s. true) 64)

  -- a slot with a segment is a file's
  held_by : (s p : ℕ) → s < 64 → p < length (G s) → FileAt s
  held_by s p h l = go (slot_is s h)
    where
      go : (D.entry s ≡ vacant) ⊎ FileAt s → FileAt s
      go (inl v) = let z : length (G s) ≡ 0 = ap length (d.free s h v) in absurd (omega (arith, z))
      go (inr f) = f

  -- a chunk is linked to one of these files
  record Held (fs : List File) (c : ℕ) : Type 0 where
    pub by : Link
    pub is : D.link c ≡ Ok (link.Linked by)
    pub below : by.slot < 64
    pub file : File
    pub among : Mem file fs
    pub entry : D.entry by.slot ≡ named file.name file.id

  -- chunks that are linked to these files are no more than they have
  held_most : (fs : List File) → ((f : File) → Mem f fs → Mem f files) → (p : ℕ → Bool) → ((c : ℕ) → c < D.chunks → p c ≡ true → Held fs c) → tally p D.chunks ≤ chunks_in fs
  unfolding chunks_in
  held_most [] sub p h = rw (tally_none p D.chunks (λ c l. none c l (p c) refl)) (omega arith)
    where
      none : (c : ℕ) → c < D.chunks → (s : Bool) → p c ≡ s → s ≡ false
      none c l true e = absurd (Memᴰ.not-nil (h c l e).among)
      none c l false e = refl
  held_most (x ∷ fs) sub p h =
      let o = t.from x (sub x (Memᴰ.head refl)) in
      let own : ℕ → Bool = λ c. is_of o.0 (D.link c) in
      let split = tally_split p own D.chunks in
      let many : x.chunks ≡ length (G o.0) = ap (λ (f : File). f.chunks) o.3 in
      let rest = held_most fs (λ f m. sub f (Memᴰ.tail m)) (λ c. p c && not (own c))
      (λ c l e. let a = and_true (p c) (not (own c)) e in other o.0 o.1 o.2 c (h c l a.0) (not-true _ a.1)) in
      omega (arith, split, many, d.counted o.0 o.1, rest)
    where
      other : (s : ℕ) → s < 64 → D.entry s ≡ named x.name x.id → (c : ℕ) → Held (x ∷ fs) c → is_of s (D.link c) ≡ false → Held fs c
      other s hs e c y not_own = go (Memᴰ.cases_cons y.among)
        where
          go : (y.file ≡ x) ⊎ Mem y.file fs → Held fs c
          go (inl q) = absurd (true≢false (is_of_lem s y.is (d.ids y.by.slot s _ _ _ _ y.below hs y.entry e (ap (λ (f : File). f.id) q))) not_own)
          go (inr m) = record { by = y.by; is = y.is; below = y.below; file = y.file; among = m; entry = y.entry }

  pub room : chunks_in files < D.chunks → (c : ℕ) × (c < D.chunks) × (D.link c ≡ Ok link.Free)
  room few = go (some_or_all {P = λ (c : ℕ). D.link c ≡ Ok link.Free} {Q = λ (c : ℕ). (l : Link) × (D.link c ≡ Ok (link.Linked l))} D.chunks d.either)
    where
      held : ((c : ℕ) → c < D.chunks → (l : Link) × (D.link c ≡ Ok (link.Linked l))) → (c : ℕ) → c < D.chunks → Held files c
      held all c h =
          let l = all c h in
          let o = d.owned c l.0 h l.1 in
          let f = held_by l.0.slot l.0.position o.slot o.in_file in
          record { by = l.0; is = l.1; below = o.slot; file = _; among = t.into l.0.slot f.0 f.1.0 o.slot f.1.1; entry = f.1.1 }

      go : ((c : ℕ) × (c < D.chunks) × (D.link c ≡ Ok link.Free)) ⊎ ((c : ℕ) → c < D.chunks → (l : Link) × (D.link c ≡ Ok (link.Linked l)))
          → (c : ℕ) × (c < D.chunks) × (D.link c ≡ Ok link.Free)
      go (inl v) = v
      go (inr all) =
          let x = tally_all (λ c. true) D.chunks (λ c l. refl) in
          let y = held_most files (λ f m. m) (λ c. true) (λ c l e. held all c l) in
          absurd (omega (arith, x, y, few))

  -- ---- and where a chunk is free, they have not all

  own_held : (fs : List File) (x : File) → Mem x fs → (s : ℕ) → s < 64 → D.entry s ≡ named x.name x.id → (c : ℕ) → c < D.chunks → is_of s (D.link c) ≡ true → Held fs c
  own_held fs x m s hs e c h own = go (d.either c h)
    where
      go : (D.link c ≡ Ok link.Free) ⊎ ((l : Link) × (D.link c ≡ Ok (link.Linked l))) → Held fs c
      go (inl v) = absurd (true≢false own (free_of_lem s v))
      go (inr (l, q)) =
          case l.slot s (λ z. record { by = l; is = q; below = rw z hs; file = x; among = m; entry = rw z e }) (λ z. absurd (true≢false own (not_of s q z)))

  held_least : (fs : List File) → ((f : File) → Mem f fs → Mem f files) → Apart fs → (p : ℕ → Bool) → ((c : ℕ) → c < D.chunks → Held fs c → p c ≡ true)
      → chunks_in fs ≤ tally p D.chunks
  unfolding chunks_in
  held_least [] sub a p h = omega arith
  held_least (x ∷ fs) sub a p h =
      let o = t.from x (sub x (Memᴰ.head refl)) in
      let own : ℕ → Bool = λ c. is_of o.0 (D.link c) in
      let join = tally_join own p D.chunks (λ c l e. h c l (own_held (x ∷ fs) x (Memᴰ.head refl) o.0 o.1 o.2 c l e)) in
      let many : x.chunks ≡ length (G o.0) = ap (λ (f : File). f.chunks) o.3 in
      let rest = held_least fs (λ f m. sub f (Memᴰ.tail m)) a.1 (λ c. p c && not (own c)) (λ c l y. both o.0 o.2 c l y) in
      omega (arith, join, many, d.counted o.0 o.1, rest)
    where
      both : (s : ℕ) → D.entry s ≡ named x.name x.id → (c : ℕ) → c < D.chunks → Held fs c → (p c && not (is_of s (D.link c))) ≡ true
      both s e c l y =
          rw (
            h c l (record { by = y.by; is = y.is; below = y.below; file = y.file; among = Memᴰ.tail y.among; entry = y.entry }),
            not_of s y.is (λ z. a.0 y.file y.among (same_id e (ap D.entry (sym z) ∙ y.entry))),
          ) refl

  pub chunks_most : chunks_in files ≤ D.chunks
  chunks_most =
      let least = held_least files (λ f m. m) t.apart (λ c. true) (λ c l y. refl) in
      omega (arith, least, tally_le (λ c. true) D.chunks)

  pub free_fewer : (c : ℕ) → c < D.chunks → D.link c ≡ Ok link.Free → chunks_in files < D.chunks
  free_fewer c h v =
      let other : ℕ → Bool = λ b. not (eqb b c) in
      let least = held_least files (λ f m. m) t.apart other (λ b l y. rw (ne_eqb b c (λ e. free≢linked v (ap D.link (sym e) ∙ y.is))) refl) in
      let more = tally_more other (λ b. true) D.chunks c h (rw (eq-eqb c c refl) refl) refl (λ b l n e. refl) in
      omega (arith, least, more, tally_le (λ b. true) D.chunks)
