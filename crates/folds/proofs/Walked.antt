-- Where every body sector passes its check, a walk meets what the views say: one law on what the visits keep, and its two instances, for the
-- directory and for the table, where no visit is refused. Assumes nothing.
use Rattle.std.specs.Prelude.{Ok}
use Prim.Native.Nat.{ℕ, ◌+◌, ◌/◌, ◌%◌, ◌<◌, ◌≤◌, zero-le}
use mathlib.Core.Path.{◌≡◌, refl, ap, subst}
use mathlib.Core.Logic.{◌⊎◌, inl, inr}
use mathlib.Core.Bool.{Bool, true, false}
use mathlib.Core.List.{List}
use native.Mathlib.Omega.{arith}
use lib.Dec.{eqb, ltb}
use borrow.Author.Tests.{ltb-true, ltb-false}
use Rattle.std.specs.Prelude.{Option, None, Some, Result, Ok, Err}
use Rattle.medium.specs.declared.Error.{Error}
use Rattle.le.specs.Part.{part}
use Rattle.medium.specs.declared.Medium.{Medium}
use Rattle.medium.proofs.Laws.{on_done_done}
use Rattle.handles.specs.declared.Store.{Store}
use Rattle.handles.specs.Handles.{table_of}
use Rattle.handles.proofs.Laws.{due_done}
use Rattle.walk.specs.Walk.{Visit, visits}
use Rattle.walk.proofs.Laws.{walk_keeps}
use Rattle.directory.specs.declared.File.{File}
use Rattle.directory.specs.Entry.{entry_of, entry_at, slot_at, file_of}
use Rattle.directory.specs.Scan.{Visitor, on_slot, scan_of}
use Rattle.directory.proofs.Scans.{Left}
use Rattle.table.specs.declared.Link.{Link}
use Rattle.table.specs.declared.LinkAt.TheVariants as link
use Rattle.table.specs.Link.{link_at}
use Rattle.table.specs.Table.{TableVisit, on_link, links_of, over_table}
use Rattle.table.proofs.Walks.{link_checked}
use Rattle.layout.specs.Views.{vacant, broken, named, disk_of, entry_view, link_view}
use Rattle.layout.specs.Segments.{Segment, Good}
use Rattle.folds.specs.Checked.{Checked}

-- ---- what each visit keeps, P before it and after it, or Q where it stops, holds of the answer

pub visits_keep : {X S R : Type 0} (on : ℕ → S → X → Visit S R) (item : ℕ → X) (done : S → R) (n : ℕ) (P : ℕ → S → Type 0) (Q : R → Type 0)
    → ((k : ℕ) (t : S) → k < n → P k t → Left (P (k + 1)) Q (on k t (item k))) → ((t : S) → P n t → Q (done t)) → (s : S) → P 0 s → Q (visits on item done n 0 s)
unfolding visits
visits_keep on item done n P Q each ends s p =
    walk_keeps _ done n P Q
    (λ k t u h q e. subst (Left (P (k + 1)) Q) e (each k t h q))
    (λ k t r h q e. subst (Left (P (k + 1)) Q) e (each k t h q))
    ends 0 s zero-le p

module _ (vol : List ℕ) (m : Medium) (st : Store) (ok : Checked vol m st) where
  -- ---- a slot and a link are what their bytes say

  pub slot_reads : (i : ℕ) → i < 64 → slot_at vol m st i ≡ entry_of (entry_at vol st i)
  unfolding slot_at
  slot_reads i h = on_done_done _ _ (due_done vol m st (eqb (i % 8) 0) (i / 8) (ok (i / 8) (omega arith)))

  link_reads : (c : ℕ) → c < links_of st.head.chunks → link_at vol m st c ≡ link_view vol st c
  unfolding link_view
  link_reads c h = link_checked vol m st (table_of st.head.chunks) (λ t b. ok (8 + t) (omega arith)) c (omega arith)

  -- ---- the directory, where no entry is broken

  module _ {S R : Type 0} (v : Visitor S R) (P : ℕ → S → Type 0) (Q : R → Type 0)
      (whole : (s : ℕ) → s < 64 → (disk_of vol st).entry s ≡ broken → ⊥)
      (frees : (i : ℕ) (t : S) → i < 64 → P i t → (disk_of vol st).entry i ≡ vacant → Left (P (i + 1)) Q (v.free i t))
      (files : (i : ℕ) (t : S) (n : List ℕ) (id : ℕ) → i < 64 → P i t → (disk_of vol st).entry i ≡ named n id → Left (P (i + 1)) Q (v.file i id n t))
      (ends : (t : S) → P 64 t → Q (v.done t)) where
    at_slot : (i : ℕ) (t : S) → i < 64 → P i t → (x : Result (Option File) Error) → entry_of (entry_at vol st i) ≡ x → Left (P (i + 1)) Q (on_slot v (entry_at vol st) i t x)
    unfolding entry_view
    at_slot i t h p (Err e) q = absurd (whole i h (ap (entry_view (entry_at vol st i)) q))
    at_slot i t h p (Ok None) q = frees i t h p (ap (entry_view (entry_at vol st i)) q)
    at_slot i t h p (Ok (Some f)) q = files i t (part 0 f.len (entry_at vol st i)) f.id h p (ap (entry_view (entry_at vol st i)) q)

    pub scan_views : (s : S) → P 0 s → Q (scan_of v vol m st s)
    scan_views s p =
        visits_keep (on_slot v (entry_at vol st)) (slot_at vol m st) v.done 64 P Q
        (λ i t h q. rw (slot_reads i h) (at_slot i t h q (entry_of (entry_at vol st i)) refl)) ends s p

  -- ---- the table: only the chunks of the store count

  module _ {S R : Type 0} (G : ℕ → List Segment) (good : Good (disk_of vol st) G) (v : TableVisit S R) (P : ℕ → S → Type 0)
      (frees : (c : ℕ) (t : S) → c < st.head.chunks → P c t → link_view vol st c ≡ Ok link.Free → P (c + 1) (v.free c t))
      (links : (c : ℕ) (l : Link) (t : S) → c < st.head.chunks → P c t → link_view vol st c ≡ Ok (link.Linked l) → P (c + 1) (v.linked c l t)) where
    -- past the last chunk the state stays
    abbrev Upto : ℕ → S → Type 0
    Upto k t = (k ≤ st.head.chunks → P k t) × (st.head.chunks ≤ k → P st.head.chunks t)

    abbrev Ended : R → Type 0
    Ended r = (t : S) × (r ≡ v.done t) × P st.head.chunks t

    more : (c : ℕ) (t : S) → c < st.head.chunks → P (c + 1) t → Upto (c + 1) t
    more c t h p = (λ a. p, λ a. let e : c + 1 ≡ st.head.chunks = omega arith in subst (λ (k : ℕ). P k t) e p)

    inside : (c : ℕ) (t : S) → c < st.head.chunks → P c t → (link_view vol st c ≡ Ok link.Free) ⊎ ((l : Link) × (link_view vol st c ≡ Ok (link.Linked l)))
        → Left (Upto (c + 1)) Ended (on_link v c t (link_view vol st c))
    inside c t h p (inl q) = rw q (more c (v.free c t) h (frees c t h p q))
    inside c t h p (inr (l, q)) = rw q (more c (v.linked c l t) h (links c l t h p q))

    each : (c : ℕ) (t : S) → c < links_of st.head.chunks → Upto c t → Left (Upto (c + 1)) Ended (on_link v c t (link_at vol m st c))
    each c t h p = rw (link_reads c h) (go (ltb c st.head.chunks) refl)
      where
        go : (b : Bool) → ltb c st.head.chunks ≡ b → Left (Upto (c + 1)) Ended (on_link v c t (link_view vol st c))
        go true e = let a : c < st.head.chunks = ltb-true _ _ e in inside c t a (p.0 (omega arith)) (good.either c a)
        go false e = let a : st.head.chunks ≤ c = ltb-false _ _ e in rw (good.past c a h) (λ b. absurd (omega arith), λ b. p.1 a)

    pub table_views : (s : S) → P 0 s → Ended (over_table v vol m st s)
    table_views s p =
        visits_keep (on_link v) (link_at vol m st) v.done (links_of st.head.chunks) Upto Ended each
        (λ t q. (t, refl, q.1 (omega arith))) s (λ a. p, λ a. let e : 0 ≡ st.head.chunks = omega arith in subst (λ (k : ℕ). P k s) e p)
