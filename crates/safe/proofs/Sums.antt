-- A finished copy, read: its body is what is due, and its header lists it. Assumes nothing.
use mathlib.Core.Path.{◌≡◌, refl, sym, ap, ◌∙◌, subst}
use mathlib.Core.Bool.{Bool, true, false, not, ◌&&◌}
use mathlib.Core.List.{List}
use Prim.Native.Nat.{ℕ, ◌^◌, ◌<◌}
use borrow.Author.Tests.{eqb-true, not-true, ltb-false, ltb-true}
use lib.Dec.{ltb}
use lib.ListN.{get_or}
use Rattle.le.specs.Choice.{pick}
use Rattle.le.specs.Part.{zeros}
use Rattle.le.proofs.Choices.{pick_keeps, pick_keeps_by, pick_false}
use Rattle.le.proofs.Bools.{and_true}
use Rattle.checksum.specs.Crc.{crc32_of}
use Rattle.checksum.proofs.Steps.{crc32_lt}
use Rattle.medium.specs.declared.Medium.{Medium}
use Rattle.medium.specs.Sector.{sector_at}
use Rattle.medium.proofs.Laws.{on_done_keeps}
use Rattle.handles.specs.declared.Header.{Header}
use Rattle.handles.specs.declared.Store.{Store}
use Rattle.handles.specs.Handles.{sane_of}
use Rattle.header.specs.Header.{InRange, with_crcs}
use Rattle.header.proofs.Range.{no_way}
use Rattle.plan.specs.Edit.{changes_of}
use Rattle.plan.specs.Copy.{Plan, Move, is_format, lists, due_bytes, due_move, move_of, leaves, skips, skipped_at}
use Rattle.safe.specs.Copy.{target_at, body_count, Tied, PlanDistinct, Made, Finished}
use Rattle.safe.proofs.Moves.{due_format}

-- a format leaves no sector unwritten
pub format_distinct : (p : Plan) (vol : List ℕ) (m : Medium) → is_format p.edit ≡ true → PlanDistinct p vol m
unfolding skips leaves move_of pick
format_distinct p vol m f k l u e = no_way (rw f at u)

lists_is : (p : Plan) (k c : ℕ) → lists p k c ≡ true → (p.known ≡ true) × (get_or p.listed k 0 ≡ c)
unfolding lists
lists_is p k c q = let t = and_true _ _ q in (t.0, eqb-true _ _ t.1)

-- the move at k was made on the sector in its place
abbrev MadeAt : Plan → List ℕ → ℕ → List ℕ → ℕ → Move → Type 0
MadeAt p vol k s c mv = Made mv (sector_at vol (target_at p k)) (get_or p.head.crcs k 0) s c

module _ (p : Plan) (vol : List ℕ) (m : Medium) (tied : Tied p vol) (k : ℕ) (within : k < body_count p) where
  -- the checksum listed is that of the sector in its place
  stands_at_lem : {x : ℕ} → lists p k x ≡ true → crc32_of (sector_at vol (target_at p k)) ≡ x
  stands_at_lem q = let t = lists_is p k _ q in tied.other t.0 k within ∙ t.1

  -- a sector left unread is one that does not change, and whose checksum the other header lists
  passed : (not (changes_of p.edit k) && lists p k (get_or p.store.head.crcs k 0)) ≡ true
      → (changes_of p.edit k ≡ false) × (lists p k (get_or p.store.head.crcs k 0) ≡ true)
  passed q = let t = and_true (not (changes_of p.edit k)) (lists p k (get_or p.store.head.crcs k 0)) q in (not-true _ t.0, t.1)

  -- its own checksum is that of the bytes due
  own_sum : is_format p.edit ≡ false → changes_of p.edit k ≡ false → crc32_of (due_bytes p vol k) ≡ get_or p.store.head.crcs k 0
  unfolding due_bytes
  own_sum f n = ap crc32_of (pick_false _ _ n) ∙ tied.own f k within

  -- a sector that is left unwritten has the checksum of the bytes due
  pub skipped_sum : skips p vol m k ≡ true → crc32_of (skipped_at p vol k).held ≡ crc32_of (skipped_at p vol k).due
  unfolding skips leaves move_of due_move
  skipped_sum =
      pick_keeps_by Sum (is_format p.edit) _ _ (λ _ u. no_way u)
      (λ f. pick_keeps_by Sum (not (changes_of p.edit k) && lists p k (get_or p.store.head.crcs k 0)) _ _
      (λ q _. stands_at_lem (passed q).1 ∙ sym (own_sum f (passed q).0))
      (λ _. on_done_keeps Sum _ _ _
      (λ _. pick_keeps_by Sum (lists p k (crc32_of (due_bytes p vol k))) _ _ (λ q _. stands_at_lem q) (λ _ u. no_way u))
      (λ e _ u. no_way u)))
    where
      Sum : Move → Type 0
      Sum mv = leaves mv ≡ true → crc32_of (skipped_at p vol k).held ≡ crc32_of (skipped_at p vol k).due

  module _ (s : List ℕ) (c : ℕ) where
    made_sum : MadeAt p vol k s c (move_of p vol m k) → c ≡ crc32_of s
    unfolding move_of due_move Made
    made_sum =
        pick_keeps_by Sum (is_format p.edit) _ _ (λ _ x. x.1 ∙ ap crc32_of (sym x.0))
        (λ f. pick_keeps_by Sum (not (changes_of p.edit k) && lists p k (get_or p.store.head.crcs k 0)) _ _
        (λ q x. x.1 ∙ ap (λ (l : List ℕ). get_or l k 0) (tied.start f) ∙ sym (stands_at_lem (passed q).1) ∙ ap crc32_of (sym x.0))
        (λ _. on_done_keeps Sum _ _ _
        (λ _. pick_keeps_by Sum (lists p k (crc32_of (due_bytes p vol k))) _ _
        (λ q x. x.1 ∙ sym (stands_at_lem q) ∙ ap crc32_of (sym x.0))
        (λ _ x. x.1 ∙ ap crc32_of (sym x.0)))
        (λ e _ x. absurd x)))
      where
        Sum : Move → Type 0
        Sum mv = MadeAt p vol k s c mv → c ≡ crc32_of s

-- the bytes are those due: written, or left where they are held
module _ (p : Plan) (vol : List ℕ) (m : Medium) (k : ℕ) (s : List ℕ) (c : ℕ) (left : skips p vol m k ≡ true → sector_at vol (target_at p k) ≡ due_bytes p vol k) where
  abbrev Due : Move → Type 0
  Due mv = move_of p vol m k ≡ mv → MadeAt p vol k s c mv → s ≡ due_bytes p vol k

  made_due : MadeAt p vol k s c (move_of p vol m k) → s ≡ due_bytes p vol k
  unfolding skips leaves move_of due_move Made
  made_due =
      pick_keeps_by Due (is_format p.edit) _ _ (λ f _ x. x.0 ∙ sym (due_format p vol k f))
      (λ f. pick_keeps Due (not (changes_of p.edit k) && lists p k (get_or p.store.head.crcs k 0)) _ _
      (λ e x. x.0 ∙ left (ap leaves e))
      (on_done_keeps Due _ _ _
      (λ _. pick_keeps Due (lists p k (crc32_of (due_bytes p vol k))) _ _ (λ e x. x.0 ∙ left (ap leaves e)) (λ _ x. x.0))
      (λ e _ _ x. absurd x)))
      refl

-- a checksum that a move leaves has its width
made_lt : (p : Plan) (vol : List ℕ) (m : Medium) (k : ℕ) (s : List ℕ) (c : ℕ) (s' : List ℕ) (c' : ℕ) → c < 2 ^ 32 → Made (move_of p vol m k) s c s' c' → c' < 2 ^ 32
unfolding move_of due_move Made
made_lt p vol m k s c s' c' small =
    pick_keeps Small _ _ _ (λ x. rw x.1 (crc32_lt (zeros 512)))
    (pick_keeps Small _ _ _ (λ x. rw x.1 small)
    (on_done_keeps Small _ _ _
    (λ _. pick_keeps Small _ _ _ (λ x. rw x.1 (crc32_lt (due_bytes p vol k))) (λ x. rw x.1 (crc32_lt (due_bytes p vol k))))
    (λ e _ x. absurd x)))
  where
    Small : Move → Type 0
    Small mv = Made mv s c s' c' → c' < 2 ^ 32

-- ---- the laws

module _ {p : Plan} {vol : List ℕ} {m : Medium} {v : List ℕ} {st : Store} (done : Finished p vol m v st) where
  -- each body sector has the checksum that the new header lists
  pub finished_sums : Tied p vol → (k : ℕ) → k < body_count p → get_or st.head.crcs k 0 ≡ crc32_of (sector_at v (target_at p k))
  finished_sums tied k l = made_sum p vol m tied k l _ _ (done.made k l)

  -- it holds the bytes due, where those left unwritten held them
  pub finished_due : ((k : ℕ) → k < body_count p → skips p vol m k ≡ true → sector_at vol (target_at p k) ≡ due_bytes p vol k)
      → (k : ℕ) → k < body_count p → sector_at v (target_at p k) ≡ due_bytes p vol k
  finished_due held k l = made_due p vol m k _ _ (held k l) (done.made k l)

  -- and so where no two checksums collide
  pub finished_body : Tied p vol → PlanDistinct p vol m → (k : ℕ) → k < body_count p → sector_at v (target_at p k) ≡ due_bytes p vol k
  finished_body tied distinct = finished_due (λ k l u. distinct k l u (skipped_sum p vol m tied k l u))

  -- the new header has its widths, and is foreign only where the planned one is
  pub finished_range : InRange p.head → InRange st.head
  finished_range r =
      let e : with_crcs p.head st.head.crcs ≡ st.head = sym done.head in
      subst InRange e
      (record {
        id = r.id;
        generation = r.generation;
        next = r.next;
        cursor = r.cursor;
        chunks = r.chunks;
        chunk = r.chunk;
        count = done.count;
        crcs = λ i. go i (ltb i (body_count p)) refl;
        past = λ i h. done.past i h ∙ r.past i h;
      })
    where
      go : (i : ℕ) (b : Bool) → ltb i (body_count p) ≡ b → get_or st.head.crcs i 0 < 2 ^ 32
      go i true q = made_lt p vol m i _ _ _ _ (r.crcs i) (done.made i (ltb-true _ _ q))
      go i false q = rw (done.past i (ltb-false _ _ q)) (r.crcs i)

  pub finished_sane : (sectors : ℕ) → sane_of st.head sectors ≡ sane_of p.head sectors
  unfolding sane_of
  finished_sane sectors = ap (λ (h : Header). sane_of h sectors) done.head
