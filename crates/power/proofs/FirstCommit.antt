-- A commit where the other copy is none of this store, as after a format: it is done where enough writes are left, and then leaves no body sector
-- unwritten; with fewer it is refused with 4. And with one write left no commit is done. Assumes nothing.
use Rattle.std.specs.Prelude.{Err, Ok}
use Prim.Native.Nat.{ℕ, ◌+◌, ◌-◌, ◌^◌, ◌≤◌, ◌<◌}
use mathlib.Core.Path.{◌≡◌, refl, ap, ◌∙◌}
use mathlib.Core.Bool.{Bool, true, false, not, ◌&&◌}
use mathlib.Core.List.{List, []}
use native.Mathlib.Omega.{arith}
use borrow.Author.Tests.{eq-eqb, ne_eqb}
use lib.Dec.{eqb}
use lib.ListN.{length}
use Rattle.le.proofs.Choices.{pick_true, pick_false, pick_keeps}
use Rattle.checksum.specs.Crc.{crc32_of}
use Rattle.medium.specs.declared.Error.TheVariants.{Media}
use Rattle.medium.specs.declared.Medium.{Medium}
use Rattle.medium.proofs.Laws.{on_done_keeps, on_done_done}
use Rattle.handles.specs.declared.Header.{Header}
use Rattle.handles.specs.declared.Store.{Store}
use Rattle.handles.specs.Handles.{body_of, base_of}
use Rattle.handles.proofs.Laws.{base_most}
use Rattle.header.specs.declared.answers.Current.{Current}
use Rattle.header.specs.Header.{ours, encode_of}
use Rattle.header.specs.Copies.{is_ours, copy_of, same_store, taken_of, current_of}
use Rattle.header.proofs.Accepted.{copy_valid}
use Rattle.plan.specs.declared.Edit.{Edit}
use Rattle.plan.specs.Edit.{changes_of, head_after}
use Rattle.plan.specs.Copy.{Plan, is_format, due_bytes, lists, due_move, move_of, BodyOut, body_from, Out, last_of, first_of, copy_out}
use Rattle.commit.specs.Commit.{is_current, commit_plan, commit_of}
use Rattle.commit.proofs.Current.{same_head_lem}
use Rattle.medium.specs.Sector.{sectors_of, WriteOut, Readable}
use Rattle.medium.specs.Frame.{Kept}
use Rattle.medium.proofs.Frame.{kept_wide, write_spends, write_kept}
use Rattle.safe.specs.Copy.{target, body_count, Good}
use Rattle.safe.specs.Inv.{Inv, plan_of}
use Rattle.safe.proofs.Body.{body_left}
use Rattle.safe.proofs.Current.{stands_current}
use Rattle.safe.proofs.Invs.{reads, inv_held, inv_check}
use Rattle.safe.proofs.Frame.{clash}
use Rattle.safe.proofs.Commit.{plan_good}
use Rattle.layout.proofs.Facts.{case}
use Rattle.power.proofs.Spends.{write_some, write_media, AllPut, copy_enough, copy_short}

and_no : (a b : Bool) → b ≡ false → (a && b) ≡ false
and_no true b e = e
and_no false b e = refl

module _ (edit : Edit) (name vol : List ℕ) (m : Medium) (st : Store) (inv : Inv vol st) (r : Readable vol m) where
  abbrev other : ℕ
  other = base_of (1 - st.copy)

  abbrev plan : Plan
  plan = plan_of edit name vol m st

  pub current : current_of vol m ≡ taken_of st.copy st.head (copy_of vol other).head (is_ours (copy_of vol other).kind)
  current =
      let e : 64 ≤ sectors_of vol = (inv_held inv).enough in
      stands_current vol st.head m (reads m vol r 0 (omega arith)) (reads m vol r 32 (omega arith)) st.copy inv.sound.stands

  is_current_lem : is_current (current_of vol m) st ≡ true
  unfolding is_current taken_of
  is_current_lem = rw (current, eq-eqb st.copy st.copy refl) (same_head_lem st.head)

  pub current_done : ((current_of vol m).outcome ≡ Ok tt) × (is_current (current_of vol m) st ≡ true)
  unfolding taken_of
  current_done = (ap (λ (c : Current). c.outcome) current, is_current_lem)

  -- the store value is the current one, and has another generation to give
  pub commit_is : (st.head.generation ≡ 2 ^ 64 - 1 → ⊥) → commit_of edit name vol m st ≡ copy_out plan vol m
  unfolding commit_of taken_of
  commit_is less =
      on_done_done _ _ (ap (λ (c : Current). c.outcome) current) ∙ pick_true _ _ is_current_lem
      ∙ pick_false _ _ (ne_eqb st.head.generation (2 ^ 64 - 1) less)

  -- ---- the other copy is none of this store

  module _ (alone : (g : Header) → copy_of vol other ≡ ours g → same_store st.head g ≡ true → ⊥) where
    none_same : (t : Bool) → is_ours (copy_of vol other).kind ≡ t → (s : Bool) → same_store st.head (copy_of vol other).head ≡ s → (t && s) ≡ false
    none_same true p true q = absurd (alone (copy_of vol other).head (copy_valid vol other p) q)
    none_same true p false q = refl
    none_same false p s q = refl

    not_known : plan.known ≡ false
    unfolding commit_plan taken_of
    not_known = ap (λ (c : Current). c.known) current ∙ none_same (is_ours (copy_of vol other).kind) refl (same_store st.head (copy_of vol other).head) refl

    not_listed_lem : (k c : ℕ) → lists plan k c ≡ false
    unfolding lists
    not_listed_lem k c = rw not_known

    module _ (plain : is_format edit ≡ false) where
      all_put : AllPut plan vol m
      unfolding move_of due_move commit_plan head_after
      all_put k l = (
        crc32_of (due_bytes plan vol k),
        due_bytes plan vol k,
        pick_false _ _ plain ∙ pick_false _ _ (and_no (not (changes_of edit k)) _ (not_listed_lem k _)) ∙ on_done_done _ _ (inv_check vol m st inv r k l)
            ∙ pick_false _ _ (not_listed_lem k _),
      )

      module _ (short : length name ≤ 40) (less : st.head.generation ≡ 2 ^ 64 - 1 → ⊥) where
        pub commit_enough : body_of st.head.chunks + 2 ≤ m.left → ((commit_of edit name vol m st).ans.outcome ≡ Ok tt) × ((commit_of edit name vol m st).skipped ≡ [])
        unfolding commit_plan head_after
        commit_enough l = rw (commit_is less) (copy_enough plan vol m (plan_good edit name vol m st inv.ok inv.range.count short) all_put l)

        pub commit_short : m.left < body_of st.head.chunks + 2 → (commit_of edit name vol m st).ans.outcome ≡ Err Media
        unfolding commit_plan head_after
        commit_short l = rw (commit_is less) (copy_short plan vol m (plan_good edit name vol m st inv.ok inv.range.count short) all_put l)

-- ---- one write left, or none

module _ (p : Plan) (vol : List ℕ) (m : Medium) (good : Good p vol) (few : m.left ≤ 1) where
  abbrev z : WriteOut
  z = first_of p vol m

  abbrev b : BodyOut
  b = body_from p (body_count p) 0 z.vol z.ans.medium p.head

  -- the first write takes it
  none_left : z.ans.outcome ≡ Ok tt → b.ans.medium.left ≡ 0
  none_left q =
      let first : Kept (target p) 1 vol z.vol = write_kept vol m (target p) p.first good.first (omega (arith, base_most p.copy, good.enough)) in
      let l = body_left p vol m good (body_count p) 0 z.vol z.ans.medium p.head (omega (arith, good.chunks)) (kept_wide (omega arith) (omega arith) first)
      (write_spends vol m (target p) p.first).unreadable good.count in
      case m.left 0
      (λ e. clash (write_media vol m (target p) p.first e) q)
      (λ e. omega (arith, l.stays.medium.left, (write_some vol m (target p) p.first (omega (arith, e))).1, few))

  copy_few : (copy_out p vol m).ans.outcome ≡ Ok tt → ⊥
  unfolding copy_out last_of
  copy_few =
      on_done_keeps NotDone z.ans.outcome _ _
      (λ q. on_done_keeps NotDone b.ans.outcome _ _
      (λ _. on_done_keeps NotDone _ _ _ (λ d. clash (write_media b.vol b.ans.medium (target p) (encode_of b.ans.head) (none_left q)) d) (λ e _. clash refl))
      (λ e _. clash refl))
      (λ e _. clash refl)
    where
      NotDone : Out → Type 0
      NotDone o = o.ans.outcome ≡ Ok tt → ⊥

pub commit_few : (edit : Edit) (name vol : List ℕ) (m : Medium) (st : Store) → Inv vol st → length name ≤ 40 → m.left ≤ 1 → (commit_of edit name vol m st).ans.outcome ≡ Ok tt → ⊥
unfolding commit_of commit_plan head_after
commit_few edit name vol m st inv short few =
    on_done_keeps NotDone (current_of vol m).outcome _ _
    (λ _. pick_keeps NotDone (is_current (current_of vol m) st) _ _
    (pick_keeps NotDone (eqb st.head.generation (2 ^ 64 - 1)) _ _ (clash refl) (copy_few (plan_of edit name vol m st) vol m good few)) (clash refl))
    (λ e _. clash refl)
  where
    NotDone : Out → Type 0
    NotDone o = o.ans.outcome ≡ Ok tt → ⊥

    good : Good (plan_of edit name vol m st) vol
    good = plan_good edit name vol m st inv.ok inv.range.count short
