-- Laws of the count of chunks with a property. Assumes nothing.
use Rattle.std.specs.Prelude.{Ok}
use mathlib.Core.Path.{◌≡◌, refl, ap, sym, ◌∙◌, subst}
use mathlib.Core.Logic.{◌≢◌}
use mathlib.Core.Bool.{Bool, true, false}
use Prim.Native.Nat.{ℕ, zero, suc, ◌+◌, ◌≤◌, ◌<◌}
use native.Mathlib.Omega.{arith}
use borrow.Author.Tests.{eq-eqb, ne_eqb}
use lib.Dec.{eqb}
use Rattle.le.specs.Choice.{pick}
use Rattle.le.specs.Tally.{tally}
use Rattle.le.proofs.Choices.{pick_keeps, pick_keeps_by, pick_true, pick_false}
use Rattle.le.proofs.Tallies.{tally_ext, tally_le}
use mathlib.Core.List.{List}
use lib.ListN.{length}
use Rattle.table.specs.declared.Link.{Link}
use Rattle.table.specs.declared.LinkAt.TheVariants as link
use Rattle.layout.specs.Views.{Disk}
use Rattle.layout.specs.Segments.{Segment, is_of, Good}
use Rattle.layout.proofs.Facts.{case, is_of_lem, not_of, free_of_lem}

more : (t : Bool) (k : ℕ) → pick t (k + 1 + 1) (k + 1) ≡ pick t (k + 1) k + 1
unfolding pick
more true k = refl
more false k = refl

-- one chunk more
pub tally_one : (f g : ℕ → Bool) (n c : ℕ) → c < n → f c ≡ false → g c ≡ true → ((b : ℕ) → b < n → b ≢ c → g b ≡ f b) → tally g n ≡ tally f n + 1
unfolding tally
tally_one f g zero c h p q o = absurd (omega arith)
tally_one f g (suc n) c h p q o = case c n
    (λ e.
    let x : tally g n ≡ tally f n = tally_ext g f n (λ b k. o b (omega arith) (omega arith)) in
    let y : f n ≡ false = rw e at p in
    let z : g n ≡ true = rw e at q in
    pick_true (tally g n + 1) (tally g n) z ∙ rw (x, pick_false (tally f n + 1) (tally f n) y))
    (λ e.
    let i : tally g n ≡ tally f n + 1 = tally_one f g n c (omega arith) p q (λ b k. o b (omega arith)) in
    rw (o n (omega arith) (λ z. e (sym z)), i) (more (f n) (tally f n)))

-- none is lost
pub tally_most : (f g : ℕ → Bool) (n : ℕ) → ((c : ℕ) → c < n → f c ≡ true → g c ≡ true) → tally f n ≤ tally g n
unfolding tally
tally_most f g zero h = omega arith
tally_most f g (suc n) h =
    let i : tally f n ≤ tally g n = tally_most f g n (λ c q. h c (omega arith)) in
    pick_keeps_by (λ (k : ℕ). k ≤ pick (g n) (tally g n + 1) (tally g n)) (f n) (tally f n + 1) (tally f n)
    (λ e. rw (pick_true (tally g n + 1) (tally g n) (h n (omega arith) e)) (omega arith))
    (λ _. pick_keeps (λ (k : ℕ). tally f n ≤ k) (g n) (tally g n + 1) (tally g n) (omega arith) i)

-- none is lost, and there is one more
pub tally_more : (f g : ℕ → Bool) (n c : ℕ) → c < n → f c ≡ false → g c ≡ true → ((b : ℕ) → b < n → b ≢ c → f b ≡ true → g b ≡ true) → tally f n + 1 ≤ tally g n
tally_more f g n c h p q o =
    let with_c : ℕ → Bool = λ b. pick (eqb b c) true (f b) in
    let one : tally with_c n ≡ tally f n + 1 = tally_one f with_c n c h p (pick_true _ _ (eq-eqb c c refl)) (λ b _ e. pick_false _ _ (ne_eqb b c e)) in
    let most : tally with_c n ≤ tally g n = tally_most with_c g n (λ b k. case b c (λ e _. rw e q) (λ e t. o b k e (sym (pick_false _ _ (ne_eqb b c e)) ∙ t))) in
    omega (arith, one, most)

-- the chunks of a slot
abbrev pub linked_to : Disk → ℕ → ℕ
linked_to D s = tally (λ c. is_of s (D.link c)) D.chunks

module _ (D E : Disk) (s : ℕ) (chunks : E.chunks ≡ D.chunks) where
  abbrev Most : ℕ → ℕ → Type 0
  Most k n = tally (λ c. is_of s (D.link c)) D.chunks + k ≤ tally (λ c. is_of s (E.link c)) n

  pub linked_most : ((c : ℕ) → c < D.chunks → is_of s (D.link c) ≡ true → is_of s (E.link c) ≡ true) → linked_to D s ≤ linked_to E s
  linked_most own =
      let m : tally (λ c. is_of s (D.link c)) D.chunks ≤ tally (λ c. is_of s (E.link c)) D.chunks =
      tally_most (λ c. is_of s (D.link c)) (λ c. is_of s (E.link c)) D.chunks own in
      let z : Most 0 E.chunks = subst (Most 0) (sym chunks) (omega (arith, m)) in
      omega (arith, z)

  pub linked_more : (c : ℕ) → c < D.chunks → is_of s (D.link c) ≡ false → is_of s (E.link c) ≡ true
      → ((b : ℕ) → b < D.chunks → b ≢ c → is_of s (D.link b) ≡ true → is_of s (E.link b) ≡ true) → linked_to D s + 1 ≤ linked_to E s
  linked_more c h p q own = subst (Most 1) (sym chunks) (tally_more (λ c. is_of s (D.link c)) (λ c. is_of s (E.link c)) D.chunks c h p q own)

-- no file has more chunks than there are
pub chunks_bound : {D : Disk} {G : ℕ → List Segment} → Good D G → (s : ℕ) → s < 64 → length (G s) ≤ D.chunks
chunks_bound {D} {G} d s h = omega (arith, d.counted s h, tally_le (λ c. is_of s (D.link c)) D.chunks)

-- a free chunk became one more of slot s; the others are whose they were
pub counts_one : (D E : Disk) (G H : ℕ → List Segment) (s c : ℕ) (l : Link) → Good D G → c < D.chunks → D.link c ≡ Ok link.Free → E.link c ≡ Ok (link.Linked l) → l.slot ≡ s
    → ((t b : ℕ) → b < D.chunks → b ≢ c → is_of t (E.link b) ≡ is_of t (D.link b)) → length (H s) ≡ length (G s) + 1 → ((t : ℕ) → t ≢ s → H t ≡ G t)
    → (t : ℕ) → t < 64 → tally (λ b. is_of t (E.link b)) D.chunks ≡ length (H t)
counts_one D E G H s c l d c< unused added own same longer others t a = case t s
    (λ z. tally_one (λ b. is_of t (D.link b)) (λ b. is_of t (E.link b)) D.chunks c c< (free_of_lem t unused) (is_of_lem t added (own ∙ sym z)) (same t)
    ∙ (let x : length (H t) ≡ length (G t) + 1 = rw z longer in omega (arith, d.counted t a, x)))
    (λ z. tally_ext (λ b. is_of t (E.link b)) (λ b. is_of t (D.link b)) D.chunks (λ b h. case b c
    (λ e. rw e (not_of t added (λ f. z (sym f ∙ own)) ∙ sym (free_of_lem t unused)))
    (same t b h)) ∙ (d.counted t a ∙ sym (ap length (others t z))))
