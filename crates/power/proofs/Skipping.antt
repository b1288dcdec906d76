-- The premise on sectors left unwritten, met by sectors: on a zeroed volume a file is created and deleted at once. The delete writes the copy that the
-- format wrote, where every body sector holds the zeros that are due again. So it leaves all nine unwritten, and 01's two writes are enough. Assumes
-- nothing.
use Rattle.std.specs.Prelude.{Ok}
use Prim.Native.Nat.{ℕ, ◌+◌, ◌-◌, ◌^◌, ◌≤◌, ◌<◌}
use mathlib.Core.Path.{◌≡◌, refl, sym, ap, ◌∙◌}
use mathlib.Core.Bool.{Bool, true, false, not, ◌&&◌, ◌||◌}
use mathlib.Core.List.{List, [], ◌++◌}
use native.Mathlib.Omega.{arith}
use borrow.Author.Tests.{eq-eqb, ne_eqb}
use lib.Dec.{leb, lit≤}
use lib.ListN.{length, get_or, drop}
use Rattle.le.specs.Choice.{pick}
use Rattle.le.specs.Part.{part, over, zeros}
use Rattle.le.specs.Field.{le_number, le_bytes, get_le}
use Rattle.le.proofs.Choices.{pick_keeps, pick_true, pick_false}
use Rattle.le.proofs.Parts.{length_zeros, drop_over, over_zeros}
use Rattle.checksum.specs.Crc.{crc32_of}
use Rattle.walk.specs.Walk.{walk, visits}
use Rattle.medium.specs.declared.Medium.{Medium}
use Rattle.medium.specs.Sector.{sector_at, Readable}
use Rattle.handles.specs.declared.Header.{Header}
use Rattle.handles.specs.declared.Store.{Store}
use Rattle.handles.specs.Body.{body_at}
use Rattle.handles.specs.Handles.{body_of, base_of}
use Rattle.header.specs.declared.codec.Decoded.{Decoded}
use Rattle.header.specs.declared.answers.Current.{Current}
use Rattle.header.specs.Header.{ours}
use Rattle.header.specs.Copies.{is_ours, copy_of, same_store, taken_of, current_of}
use Rattle.directory.specs.Entry.{entry_bytes}
use Rattle.directory.proofs.Entries.{length_entry}
use Rattle.table.specs.Link.{owner_of, place_of, link_bytes, owned_by, clear_link, cleared_of}
use Rattle.plan.specs.declared.Edit.TheVariants.{Create, Remove}
use Rattle.plan.specs.Edit.{changes_of, entry_put, link_put, plain_link, slot_cleared, edit_of, edited_of, head_after}
use Rattle.plan.specs.Copy.{Plan, Move, EachSkipped, Out, is_format, lists, due_bytes, due_move, move_of, leaves, skips, skipped_at, skipped_from}
use Rattle.commit.specs.Commit.{commit_plan, commit_of}
use Rattle.medium.proofs.Laws.{on_done_done}
use Rattle.safe.specs.Copy.{body_count}
use Rattle.safe.specs.Inv.{Inv, plan_of, CommitMade}
use Rattle.safe.proofs.Frame.{body_beside}
use Rattle.safe.proofs.Mounts.{beside}
use Rattle.safe.proofs.Invs.{inv_held, inv_check, inv_writer}
use Rattle.safe.proofs.Commit.{plan_good}
use Rattle.safe.proofs.Unwritten.{each_from}
use Rattle.layout.proofs.Facts.{case}
use Rattle.power.specs.History.{Honest}
use Rattle.power.proofs.Spends.{all_listed, copy_two}
use Rattle.power.proofs.FirstCommit.{current, commit_is}

-- ---- a file made in the first slot and the first chunk of an empty body, and removed

zeros_more : zeros 64 ++ drop 64 (zeros 512) ≡ zeros 512
unfolding zeros
zeros_more = refl

first_entry : (name : List ℕ) (id : ℕ) → length name ≤ 40 → over 0 (zeros 64) (over 0 (entry_bytes name id) (zeros 512)) ≡ zeros 512
first_entry name id short =
    let n : length (entry_bytes name id) ≡ 64 = length_entry name id short in
    let d : drop 64 (over 0 (entry_bytes name id) (zeros 512)) ≡ drop 64 (zeros 512) = rw n at (drop_over 0 (entry_bytes name id) (zeros 512) (rw (n, length_zeros 512) (lit≤ tt))) in
    over_zeros 64 (over 0 (entry_bytes name id) (zeros 512)) ∙ ap (λ (l : List ℕ). zeros 64 ++ l) d ∙ zeros_more

first_link : cleared_of 0 (over 0 (link_bytes (plain_link 0 0)) (zeros 512)) ≡ zeros 512
unfolding cleared_of visits walk clear_link owned_by link_bytes owner_of place_of le_bytes over part zeros pick get_le le_number
first_link = refl

no_link : cleared_of 0 (zeros 512) ≡ zeros 512
unfolding cleared_of visits walk clear_link owned_by over part zeros pick get_le le_number
no_link = refl

undone : (name : List ℕ) (id : ℕ) → length name ≤ 40 → (k : ℕ) → edited_of (Remove 0) [] k (edited_of (Create 0 id 0) name k (zeros 512)) ≡ zeros 512
unfolding changes_of edit_of entry_put link_put slot_cleared pick
undone name id short k =
    case k 0 (λ e. rw e (first_entry name id short)) (λ a. case k 8 (λ e. rw e first_link) (λ b. rw (ne_eqb k 0 a, ne_eqb k 8 b) (go (leb 8 k))))
  where
    go : (t : Bool) → pick (false || t) (pick t (cleared_of 0 (zeros 512)) (zeros 512)) (zeros 512) ≡ zeros 512
    go true = no_link
    go false = refl

lists_from : (p : Plan) (k c : ℕ) → p.known ≡ true → get_or p.listed k 0 ≡ c → lists p k c ≡ true
unfolding lists
lists_from p k c known sum = rw known (eq-eqb _ _ sum)

-- ---- the two commits

module _ (vol₀ : List ℕ) (m₀ : Medium) (st₀ : Store) (inv₀ : Inv vol₀ st₀) (empty : (k : ℕ) → k < body_of st₀.head.chunks → sector_at vol₀ (body_at st₀ k) ≡ zeros 512)
    (name : List ℕ) (id : ℕ) (short : length name ≤ 40) (o : Out) (made : CommitMade (Create 0 id 0) name vol₀ m₀ st₀ o)
    (m : Medium) (st : Store) (copy : st.copy ≡ o.ans.store.copy) (head : st.head ≡ o.ans.store.head) (free : st.free ≡ o.ans.store.free) (r : Readable o.vol m) where
  inv : Inv o.vol st
  inv = inv_writer copy head free made.inv

  abbrev plan : Plan
  plan = plan_of (Remove 0) [] o.vol m st

  -- into the copy of the format
  back : 1 - st.copy ≡ st₀.copy
  back = omega (arith, copy, made.copy, (inv_held inv₀).copy)

  two : st₀.copy + (1 - st₀.copy) ≡ 1
  two = omega (arith, (inv_held inv₀).copy)

  chunks : st.head.chunks ≡ st₀.head.chunks
  unfolding head_after
  chunks = ap (λ (h : Header). h.chunks) (head ∙ made.head)

  -- where each body sector holds zeros
  held_zero : (k : ℕ) → k < body_of st₀.head.chunks → (skipped_at plan o.vol k).held ≡ zeros 512
  unfolding commit_plan
  held_zero k l = rw back (body_beside st₀.copy (1 - st₀.copy) two made.frame k (omega (arith, (inv_held inv₀).head.chunks_most)) ∙ empty k l)

  -- and zeros are due
  due_zero : (k : ℕ) → k < body_of st₀.head.chunks → due_bytes plan o.vol k ≡ zeros 512
  unfolding due_bytes commit_plan
  due_zero k l =
      let at : sector_at o.vol (body_at st k) ≡ edited_of (Create 0 id 0) name k (zeros 512) =
      ap (λ (c : ℕ). sector_at o.vol (base_of c + 1 + k)) copy ∙ made.body k l ∙ ap (edited_of (Create 0 id 0) name k) (empty k l) in
      ap (edited_of (Remove 0) [] k) at ∙ undone name id short k

  -- its header is the format's
  other : copy_of o.vol (base_of (1 - st.copy)) ≡ ours st₀.head
  other = rw back (beside st₀.copy (1 - st₀.copy) two made.frame ∙ inv₀.sound.stands.found)

  found : current_of o.vol m ≡ taken_of st.copy st.head st₀.head true
  found = current (Remove 0) [] o.vol m st inv r ∙ ap (λ (d : Decoded). taken_of st.copy st.head d.head (is_ours d.kind)) other

  same_store_lem : same_store st.head st₀.head ≡ true
  unfolding same_store head_after
  same_store_lem =
      ap (λ (h : Header). same_store h st₀.head) (head ∙ made.head)
      ∙ rw (eq-eqb st₀.head.id st₀.head.id refl, eq-eqb st₀.head.chunks st₀.head.chunks refl, eq-eqb st₀.head.chunk st₀.head.chunk refl)

  lists_due : (k : ℕ) → k < body_of st₀.head.chunks → lists plan k (crc32_of (due_bytes plan o.vol k)) ≡ true
  unfolding commit_plan taken_of
  lists_due k l =
      let known : (current_of o.vol m).known ≡ true = ap (λ (c : Current). c.known) found ∙ same_store_lem in
      let sum : get_or (current_of o.vol m).listed k 0 ≡ crc32_of (zeros 512)
      = ap (λ (c : Current). get_or c.listed k 0) found ∙ sym (inv₀.sound.own k l) ∙ ap crc32_of (empty k l) in
      lists_from plan k _ known (sum ∙ ap crc32_of (sym (due_zero k l)))

  plain : is_format (Remove 0) ≡ false
  unfolding is_format
  plain = refl

  -- so each is left unwritten
  all_skip : (k : ℕ) → k < body_count plan → skips plan o.vol m k ≡ true
  unfolding skips leaves move_of due_move commit_plan head_after
  all_skip k l =
      ap leaves (pick_false _ _ plain)
      ∙ pick_keeps (λ (mv : Move). leaves mv ≡ true) (not (changes_of (Remove 0) k) && lists plan k (get_or st.head.crcs k 0)) _ _ refl
      (ap leaves (on_done_done _ _ (inv_check o.vol m st inv r k l) ∙ pick_true _ _ (lists_due k (rw chunks at l))))

  -- as the bytes due are held
  pub all_honest : EachSkipped Honest (skipped_from plan o.vol m (body_count plan) 0)
  unfolding commit_plan head_after
  all_honest =
      each_from Honest plan o.vol m (body_count plan) 0
      (λ k _ l _. let h : k < body_of st₀.head.chunks = omega (arith, l, chunks) in held_zero k h ∙ sym (due_zero k h))

  pub as_many : length (skipped_from plan o.vol m (body_count plan) 0) ≡ body_of st₀.head.chunks
  unfolding commit_plan head_after
  as_many = all_listed plan o.vol m (plan_good (Remove 0) [] o.vol m st inv.ok inv.range.count (lit≤ tt)) all_skip (body_count plan) 0 (omega arith) ∙ ap body_of chunks

  pub commit_two : 2 ≤ m.left → (st.head.generation ≡ 2 ^ 64 - 1 → ⊥)
      → ((commit_of (Remove 0) [] o.vol m st).ans.outcome ≡ Ok tt) × ((commit_of (Remove 0) [] o.vol m st).skipped ≡ skipped_from plan o.vol m (body_count plan) 0)
  commit_two l less =
      rw (commit_is (Remove 0) [] o.vol m st inv r less) (copy_two plan o.vol m (plan_good (Remove 0) [] o.vol m st inv.ok inv.range.count (lit≤ tt)) all_skip l)
