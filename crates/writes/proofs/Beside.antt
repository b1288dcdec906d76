-- The copy beside the store's, as the next commit finds it. After an accepted commit it is the copy that was current, so its header is known and lists
-- the store's own checksums but for the sectors that the commit changed. No premise on the volume. Assumes nothing.
use Rattle.std.specs.Prelude.{Ok, Result}
use Rattle.medium.specs.declared.Error.{Error}
use Prim.Native.Nat.{ℕ, ◌+◌, ◌-◌, ◌≤◌, ◌<◌}
use mathlib.Core.Path.{◌≡◌, refl, sym, ap, subst, ◌∙◌}
use mathlib.Core.Bool.{Bool, true, false, ◌&&◌, ◌||◌}
use mathlib.Core.List.{List}
use native.Mathlib.Omega.{arith}
use borrow.Author.Tests.{eq-eqb, eqb-true, leb-false, leb-true, lt-leb}
use lib.Dec.{eqb, leb}
use lib.ListN.{length, get_or}
use Rattle.le.specs.Tally.{tally}
use Rattle.le.proofs.Choices.{pick_keeps, pick_keeps_by, pick_true, pick_false}
use Rattle.le.proofs.Bools.{and_true, or_false, or_right}
use Rattle.le.proofs.Tallies.{tally_le, tally_none}
use Rattle.checksum.specs.Crc.{crc32_of}
use Rattle.medium.specs.declared.Medium.{Medium}
use Rattle.medium.specs.Sector.{sectors_of, sector_at, read_of}
use Rattle.medium.proofs.Laws.{on_done_keeps}
use Rattle.handles.specs.declared.Header.{Header}
use Rattle.handles.specs.declared.Store.{Store}
use Rattle.handles.specs.Body.{body_at, check_of}
use Rattle.handles.specs.Handles.{body_of, table_of, base_of}
use Rattle.handles.proofs.Laws.{store_facts}
use Rattle.header.specs.Header.{ours, with_crcs}
use Rattle.header.specs.Copies.{is_ours, copy_of, same_store, taken_of, current_of}
use Rattle.plan.specs.declared.Edit.{Edit}
use Rattle.plan.specs.declared.Edit.TheVariants.{Format, Create, Extend, Remove}
use Rattle.plan.specs.Edit.{slot_sector, link_sector, changes_of, edited_of, head_after}
use Rattle.plan.specs.Copy.{Plan, Move, Out, is_format, lists, due_bytes, due_move, move_of, copy_out}
use Rattle.commit.specs.Commit.{is_current, commit_plan, commit_of}
use Rattle.remove.proofs.Keeps as remove
use Rattle.safe.specs.Copy.{Good, Made, Finished}
use Rattle.safe.specs.Inv.{plan_of}
use Rattle.safe.proofs.Frame.{clash}
use Rattle.safe.proofs.Copy.{copy_frame, copy_finished}
use Rattle.safe.proofs.Current.{stands_choice, current_choice, own_stands}
use Rattle.safe.proofs.Mounts.{beside}
use Rattle.safe.proofs.Commit.{plan_good}
use Rattle.safe.proofs.Unwritten.{commit_copies}
use Rattle.writes.specs.Writes.{Most}
use Rattle.writes.proofs.Counts.{tally_wide, tally_either, tally_single}
use Rattle.writes.proofs.Copies.{Leaves, commit_counted}

-- ---- the store's own copy, where it is current

module _ (vol : List ℕ) (m : Medium) (st : Store) (d : (current_of vol m).outcome ≡ Ok tt) (c : is_current (current_of vol m) st ≡ true) where
  current_is : current_of vol m ≡ taken_of st.copy st.head (copy_of vol (base_of (1 - st.copy))).head (is_ours (copy_of vol (base_of (1 - st.copy))).kind)
  current_is = current_choice vol m d ∙ stands_choice vol st.head st.copy (own_stands vol m st d c)

-- ---- the copy beside it

-- its header is of the same store, and of the 8 directory sectors all but at most d have the checksum that it lists
pub record Beside (d : ℕ) (vol : List ℕ) (st : Store) : Type 0 where
  pub head : Header
  pub found : copy_of vol (base_of (1 - st.copy)) ≡ ours head
  pub same : same_store st.head head ≡ true
  pub may : ℕ → Bool
  pub few : tally may 8 ≤ d
  pub listed : (k : ℕ) → k < 8 → may k ≡ false → get_or head.crcs k 0 ≡ get_or st.head.crcs k 0

-- ---- the directory sectors that an edit changes

abbrev pub own_of : Edit → ℕ
own_of Format = 8
own_of (Create slot id chunk) = 1
own_of (Extend slot position next last partial records) = 0
own_of (Remove slot) = 1

-- none of these is a format
pub create_plain : (s i c : ℕ) → is_format (Create s i c) ≡ false
unfolding is_format
create_plain s i c = refl

pub extend_plain : (s p n l : ℕ) (partial : Bool) (k : ℕ) → is_format (Extend s p n l partial k) ≡ false
unfolding is_format
extend_plain s p n l partial k = refl

pub remove_plain : (s : ℕ) → is_format (Remove s) ≡ false
unfolding is_format
remove_plain s = refl

-- a table sector is no directory sector
in_table : (k c : ℕ) → k < 8 → eqb k (link_sector c) ≡ true → ⊥
in_table k c l e = let q = eqb-true k (link_sector c) e in omega (arith, q)

never : (t : Bool) → (t ≡ true → ⊥) → t ≡ false
never true not_so = absurd (not_so refl)
never false not_so = refl

own_one : (k a : ℕ) (t : Bool) → (t ≡ true → ⊥) → (eqb k a || t) ≡ true → k ≡ a
own_one k a t not_so e = go (eqb k a) refl
  where
    go : (b : Bool) → eqb k a ≡ b → k ≡ a
    go true q = eqb-true k a q
    go false q = absurd (not_so (or_right (eqb k a) t e q))

own_few : (edit : Edit) → tally (changes_of edit) 8 ≤ own_of edit
unfolding changes_of
own_few Format = tally_le (changes_of Format) 8
own_few (Create slot id chunk) =
    tally_single (changes_of (Create slot id chunk)) (slot_sector slot) 8 (λ k l. own_one k (slot_sector slot) (eqb k (link_sector chunk)) (in_table k chunk l))
own_few (Extend slot position next last partial records) =
    let z = tally_none (changes_of (Extend slot position next last partial records)) 8 (λ k l. never _ (neither k l)) in omega (arith, z)
  where
    neither : (k : ℕ) → k < 8 → (eqb k (link_sector next) || (partial && eqb k (link_sector last))) ≡ true → ⊥
    neither k l e = go (eqb k (link_sector next)) refl
      where
        go : (b : Bool) → eqb k (link_sector next) ≡ b → ⊥
        go true q = in_table k next l q
        go false q = in_table k last l (and_true partial (eqb k (link_sector last)) (or_right _ _ e q)).1
own_few (Remove slot) =
    tally_single (changes_of (Remove slot)) (slot_sector slot) 8 (λ k l. own_one k (slot_sector slot) (leb 8 k) (λ e. let z = leb-true 8 k e in omega (arith, z)))

-- the sectors that the next commit may write: those, its own, and the table
abbrev pub rewrites : Edit → (ℕ → Bool) → ℕ → Bool
rewrites edit may k = leb 8 k || (may k || changes_of edit k)

module _ (edit : Edit) (name vol : List ℕ) (m : Medium) (st : Store) (plain : is_format edit ≡ false) {d : ℕ} (x : Beside d vol st) where
  known : (current_of vol m).outcome ≡ Ok tt → is_current (current_of vol m) st ≡ true → ((current_of vol m).known ≡ true) × ((current_of vol m).listed ≡ x.head.crcs)
  unfolding taken_of
  known o c = let q = current_is vol m st o c in rw (q, x.found) (x.same, refl)

  pub leaves : (current_of vol m).outcome ≡ Ok tt → is_current (current_of vol m) st ≡ true → Leaves (commit_plan (current_of vol m) edit name st) (rewrites edit x.may)
  unfolding move_of commit_plan lists
  leaves o c k e v u =
      let p = or_false (leb 8 k) _ e in
      let q = or_false (x.may k) (changes_of edit k) p.1 in
      let i = known o c in
      let l : get_or x.head.crcs k 0 ≡ get_or st.head.crcs k 0 = x.listed k (leb-false 8 k p.0) q.0 in
      pick_false _ _ plain ∙ pick_true _ _ (rw (q.1, i.0, i.1) (eq-eqb _ _ l))

  -- ---- at most so many writes

  pub rewrites_few : tally (rewrites edit x.may) (body_of st.head.chunks) ≤ d + own_of edit + table_of st.head.chunks
  rewrites_few =
      let wide = tally_wide (rewrites edit x.may) 8 (table_of st.head.chunks) in
      let table = tally_none (leb 8) 8 (λ k l. lt-leb 8 k l) in
      let low = tally_either (leb 8) (λ k. x.may k || changes_of edit k) 8 in
      let two = tally_either x.may (changes_of edit) 8 in
      omega (arith, wide, table, low, two, x.few, own_few edit)

  pub commit_few : Most (d + own_of edit + table_of st.head.chunks + 2) m (commit_of edit name vol m st).ans.medium
  commit_few = let all = commit_counted edit name vol m st (rewrites edit x.may) leaves in omega (arith, all, rewrites_few)

-- ---- after an accepted commit

-- a check that passed
check_sum : (vol : List ℕ) (m : Medium) (st : Store) (k : ℕ) → check_of vol m st k ≡ Ok tt → crc32_of (sector_at vol (body_at st k)) ≡ get_or st.head.crcs k 0
unfolding check_of
check_sum vol m st k =
    on_done_keeps Right (read_of m (body_at st k)) _ _
    (λ _. pick_keeps_by Right (eqb (crc32_of (sector_at vol (body_at st k))) (get_or st.head.crcs k 0)) _ _ (λ e _. eqb-true _ _ e) (λ _. clash refl))
    (λ e _. clash refl)
  where
    Right : Result Unit Error → Type 0
    Right o = o ≡ Ok tt → crc32_of (sector_at vol (body_at st k)) ≡ get_or st.head.crcs k 0

module _ (edit : Edit) (name vol : List ℕ) (m : Medium) (st : Store) (plain : is_format edit ≡ false) where
  -- a sector that the edit leaves keeps its checksum, read or not
  kept_sum : (k : ℕ) → changes_of edit k ≡ false → (s s' : List ℕ) (c' : ℕ)
      → Made (move_of (plan_of edit name vol m st) vol m k) s (get_or st.head.crcs k 0) s' c' → c' ≡ get_or st.head.crcs k 0
  unfolding move_of commit_plan due_move due_bytes Made
  kept_sum k e s s' c' =
      subst Right (sym (pick_false _ _ plain))
      (pick_keeps Right _ _ _ (λ h. h.1)
      (on_done_keeps Right (check_of vol m st k) _ _
      (λ q.
      let sum : crc32_of (edited_of edit name k (sector_at vol (body_at st k))) ≡ get_or st.head.crcs k 0 = ap crc32_of (pick_false _ _ e) ∙ check_sum vol m st k q in
      pick_keeps Right _ _ _ (λ h. h.1 ∙ sum) (λ h. h.1 ∙ sum))
      (λ x _ h. absurd h)))
    where
      Right : Move → Type 0
      Right mv = Made mv s (get_or st.head.crcs k 0) s' c' → c' ≡ get_or st.head.crcs k 0

  module _ (good : remove.Good vol st) (short : length name ≤ 40) (accepted : (commit_of edit name vol m st).ans.outcome ≡ Ok tt) where
    abbrev plan : Plan
    plan = plan_of edit name vol m st

    copies : ((current_of vol m).outcome ≡ Ok tt) × (is_current (current_of vol m) st ≡ true) × (commit_of edit name vol m st ≡ copy_out plan vol m)
    copies = commit_copies edit name vol m st accepted

    fits : Good plan vol
    fits = plan_good edit name vol m st good.ok good.count short

    finished : Finished plan vol m (copy_out plan vol m).vol (copy_out plan vol m).ans.store
    finished = copy_finished plan vol m fits (ap (λ (o : Out). o.ans.outcome) (sym copies.2) ∙ accepted)

    same_store_lem : (h : Header) → h ≡ with_crcs (head_after edit st.head) h.crcs → same_store h st.head ≡ true
    unfolding same_store head_after
    same_store_lem h e =
        let i = eq-eqb h.id st.head.id (ap (λ (x : Header). x.id) e) in
        let c = eq-eqb h.chunks st.head.chunks (ap (λ (x : Header). x.chunks) e) in
        let s = eq-eqb h.chunk st.head.chunk (ap (λ (x : Header). x.chunk) e) in
        rw (i, c, s) refl

    copy_beside : Beside (own_of edit) (copy_out plan vol m).vol (copy_out plan vol m).ans.store
    unfolding commit_plan head_after
    copy_beside =
        let own = (store_facts st (sectors_of vol) good.ok).copy in
        let c : (copy_out plan vol m).ans.store.copy ≡ 1 - st.copy = ap (λ (s : Store). s.copy) finished.store in
        let back : 1 - (copy_out plan vol m).ans.store.copy ≡ st.copy = rw c (omega (arith, own)) in
        record {
          head = st.head;
          found = rw back (beside st.copy (1 - st.copy) (omega (arith, own)) (copy_frame plan vol m fits) ∙ (own_stands vol m st copies.0 copies.1).found);
          same = same_store_lem _ finished.head;
          may = changes_of edit;
          few = own_few edit;
          listed = λ k l e. sym (kept_sum k e _ _ _ (finished.made k (omega arith)));
        }

    pub commit_beside : Beside (own_of edit) (commit_of edit name vol m st).vol (commit_of edit name vol m st).ans.store
    commit_beside = subst (λ (o : Out). Beside (own_of edit) o.vol o.ans.store) (sym copies.2) copy_beside
