-- What a commit keeps, whatever the writes left: what a caller goes on with, accepted or refused. Assumes nothing.
use Rattle.std.specs.Prelude.{Err, Ok, Result}
use mathlib.Core.Path.{◌≡◌, refl, sym, ap, ◌∙◌}
use mathlib.Core.Bool.{true}
use mathlib.Core.List.{List}
use Prim.Native.Nat.{ℕ, ◌+◌, ◌-◌, ◌^◌, ◌≤◌, ◌<◌}
use native.Mathlib.Nat.{mod-lt}
use native.Mathlib.Omega.{arith}
use borrow.Author.Tests.{lt-ltb, le-leb, ne_eqb}
use lib.Dec.{eqb}
use lib.ListN.{length}
use Rattle.le.proofs.Choices.{pick_keeps}
use Rattle.le.proofs.Parts.{length_zeros}
use Rattle.medium.specs.declared.Error.{Error}
use Rattle.medium.specs.declared.Medium.{Medium}
use Rattle.medium.specs.Sector.{sectors_of}
use Rattle.medium.proofs.Laws.{on_done_keeps, not_done}
use Rattle.medium.specs.Frame.{Spends}
use Rattle.medium.proofs.Frame.{rest_of, kept_rest, spends_none}
use Rattle.handles.specs.declared.Header.{Header}
use Rattle.handles.specs.declared.Store.{Store}
use Rattle.handles.specs.Handles.{sane_of, store_ok}
use Rattle.handles.proofs.Laws.{base_most, Sane, Held, store_facts, store_ok_lem}
use Rattle.header.specs.declared.answers.Current.{Current}
use Rattle.header.specs.Copies.{current_of}
use Rattle.header.specs.Header.{with_crcs}
use Rattle.plan.specs.declared.Edit.{Edit}
use Rattle.plan.specs.declared.Edit.TheVariants.{Format, Create, Extend, Remove}
use Rattle.plan.specs.Edit.{next_after, cursor_after, head_after}
use Rattle.plan.specs.Copy.{Out, map_after}
use Rattle.plan.proofs.Maps.{map_after_ok}
use Rattle.plan.proofs.Whole.{Copied, copy_copied}
use Rattle.commit.specs.Commit.{is_current, commit_plan, commit_of}

-- ---- the header after an edit is no foreign one

sane_from : (h : Header) (sectors : ℕ) → Sane h sectors → sane_of h sectors ≡ true
unfolding sane_of
sane_from h sectors s =
    rw (
      ne_eqb _ _ s.id,
      ne_eqb _ _ s.next,
      lt-ltb _ _ s.cursor,
      le-leb _ _ s.chunks_least,
      le-leb _ _ s.chunks_most,
      le-leb _ _ s.size_least,
      le-leb _ _ s.size_most,
      le-leb _ _ s.room,
    )

next_after_lem : (e : Edit) (h : Header) → (h.next_id ≡ 0 → ⊥) → next_after e h ≡ 0 → ⊥
unfolding next_after
next_after_lem Format h n = n
next_after_lem (Create slot id chunk) h n = λ q. omega arith
next_after_lem (Extend slot position next last partial records) h n = n
next_after_lem (Remove slot) h n = n

pub cursor_after_lem : (e : Edit) (h : Header) → 1 ≤ h.chunks → h.cursor < h.chunks → cursor_after e h < h.chunks
unfolding cursor_after
cursor_after_lem Format h p c = c
cursor_after_lem (Create slot id chunk) h p c = mod-lt (chunk + 1) p
cursor_after_lem (Extend slot position next last partial records) h p c = mod-lt (next + 1) p
cursor_after_lem (Remove slot) h p c = c

-- whatever its checksums
pub sane_after : (e : Edit) (h : Header) (sectors : ℕ) (crcs : List ℕ) → Sane h sectors → sane_of (with_crcs (head_after e h) crcs) sectors ≡ true
unfolding head_after
sane_after e h sectors crcs s =
    sane_from _ sectors
    (record {
      id = s.id;
      next = next_after_lem e h s.next;
      cursor = cursor_after_lem e h s.chunks_least s.cursor;
      chunks_least = s.chunks_least;
      chunks_most = s.chunks_most;
      size_least = s.size_least;
      size_most = s.size_most;
      room = s.room;
    })

-- ---- what a commit keeps

pub record Kept (edit : Edit) (vol : List ℕ) (m : Medium) (st : Store) (o : Out) : Type 0 where
  pub size : length o.vol ≡ length vol
  pub rest : rest_of o.vol ≡ rest_of vol
  pub medium : Spends m o.ans.medium
  pub ok : store_ok o.ans.store (sectors_of o.vol) ≡ true
  pub copy : o.ans.store.copy < 2
  pub id : o.ans.store.head.id ≡ st.head.id
  pub chunks : o.ans.store.head.chunks ≡ st.head.chunks
  pub chunk : o.ans.store.head.chunk ≡ st.head.chunk
  pub count : length o.ans.store.head.crcs ≡ 24
  pub writer : o.ans.store.writer ≡ st.writer
  pub refused : (e : Error) → o.ans.outcome ≡ Err e → o.ans.store ≡ st
  pub free : o.ans.outcome ≡ Ok tt → o.ans.store.free ≡ map_after edit vol st st.head.chunks
  pub accepted : o.ans.outcome ≡ Ok tt → (o.ans.store.copy ≡ 1 - st.copy) × (o.ans.store.head ≡ with_crcs (head_after edit st.head) o.ans.store.head.crcs)

module _ (edit : Edit) (name vol : List ℕ) (m : Medium) (st : Store) (ok : store_ok st (sectors_of vol) ≡ true) (count : length st.head.crcs ≡ 24) where
  old : (o : Out) {e : Error} → length o.vol ≡ length vol → rest_of o.vol ≡ rest_of vol → Spends m o.ans.medium → o.ans.store ≡ st
      → o.ans.outcome ≡ Err e → Kept edit vol m st o
  old o t r u s q =
      record {
        size = t;
        rest = r;
        medium = u;
        ok = rw (t, s) ok;
        copy = rw s (store_facts st (sectors_of vol) ok).copy;
        id = rw s refl;
        chunks = rw s refl;
        chunk = rw s refl;
        count = rw s count;
        writer = rw s refl;
        refused = λ _ _. s;
        free = λ d. not_done (sym q ∙ d);
        accepted = λ d. not_done (sym q ∙ d);
      }

  copied : (c : Current) (o : Out) → Copied (commit_plan c edit name st) vol m o → Kept edit vol m st o
  unfolding commit_plan head_after
  copied c o k = go o.ans.outcome refl
    where
      past : rest_of o.vol ≡ rest_of vol
      past = kept_rest (omega (arith, base_most (1 - st.copy), (store_facts st (sectors_of vol) ok).enough)) k.frame

      go : (r : Result Unit Error) → o.ans.outcome ≡ r → Kept edit vol m st o
      go (Err e) q = old o k.frame.size past k.medium (k.refused e q) q
      go (Ok tt) q =
          let f : Held st (sectors_of vol) = store_facts st (sectors_of vol) ok in
          let n : o.ans.store.head ≡ with_crcs (head_after edit st.head) o.ans.store.head.crcs = k.numbers q in
          let s : sane_of o.ans.store.head (sectors_of vol) ≡ true = ap (λ (x : Header). sane_of x (sectors_of vol)) n ∙ sane_after edit st.head (sectors_of vol) _ f.head in
          let p : o.ans.store.copy < 2 = rw (k.copy q) (omega arith) in
          record {
            size = k.frame.size;
            rest = past;
            medium = k.medium;
            ok = rw k.frame.size (store_ok_lem o.ans.store (sectors_of vol) p s (rw (k.free q, n) (map_after_ok edit vol st f.map)));
            copy = p;
            id = ap (λ (x : Header). x.id) n;
            chunks = ap (λ (x : Header). x.chunks) n;
            chunk = ap (λ (x : Header). x.chunk) n;
            count = k.count q;
            writer = k.writer;
            refused = k.refused;
            free = k.free;
            accepted = λ _. (k.copy q, n);
          }

  pub commit_keeps : length name ≤ 40 → Kept edit vol m st (commit_of edit name vol m st)
  unfolding commit_of commit_plan head_after
  commit_keeps short =
      let f : Held st (sectors_of vol) = store_facts st (sectors_of vol) ok in
      let c : Current = current_of vol m in
      let same : Spends m m = spends_none m in
      on_done_keeps (Kept edit vol m st) c.outcome _ _
      (λ _. pick_keeps (Kept edit vol m st) (is_current c st) _ _
      (pick_keeps (Kept edit vol m st) (eqb st.head.generation (2 ^ 64 - 1)) _ _ (old _ refl refl same refl refl)
      (copied c _ (copy_copied (commit_plan c edit name st) vol m (record { short = short; enough = f.enough }) f.head.chunks_most count (length_zeros 512))))
      (old _ refl refl same refl refl))
      (λ _ _. old _ refl refl same refl refl)
