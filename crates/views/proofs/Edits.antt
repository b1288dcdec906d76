-- What the views have of a finished commit, whatever its edit: the sectors edited, an entry and a link put into them, and the numbers. Assumes nothing.
use Rattle.std.specs.Prelude.{Ok}
use mathlib.Core.Path.{◌≡◌, refl, ap, ◌∙◌}
use mathlib.Core.Logic.{◌≢◌}
use mathlib.Core.List.{List}
use Prim.Native.Nat.{ℕ, ◌+◌, ◌*◌, ◌/◌, ◌%◌, ◌<◌, ◌≤◌}
use native.Mathlib.Omega.{arith}
use lib.ListN.{length}
use Rattle.le.specs.Part.{part}
use Rattle.medium.specs.Sector.{sectors_of, sector_at}
use Rattle.medium.proofs.Laws.{length_sector}
use Rattle.handles.specs.declared.Header.{Header}
use Rattle.handles.specs.declared.Store.{Store}
use Rattle.handles.specs.Body.{body_at}
use Rattle.handles.specs.Handles.{body_of}
use Rattle.handles.proofs.Laws.{Sane, base_most}
use Rattle.directory.specs.Entry.{entry_at}
use Rattle.table.specs.declared.Link.{Link}
use Rattle.table.specs.declared.LinkAt.TheVariants as link
use Rattle.table.specs.Link.{link_bytes, link_part}
use Rattle.table.specs.Table.{links_of}
use Rattle.table.proofs.Numbers.{Sound, length_link}
use Rattle.plan.specs.declared.Edit.{Edit}
use Rattle.plan.specs.Edit.{entry_put, link_put, edit_of, head_after, next_after}
use Rattle.layout.specs.Views.{disk_of, link_view}
use Rattle.layout.specs.Changes.{SameShape, SameRecords}
use Rattle.views.specs.Edited.{Edited}
use Rattle.views.proofs.Cells.{put_there, put_apart, put_size, edit_where}
use Rattle.views.proofs.Shows.{link_shown}
use Rattle.views.proofs.Stays.{link_stays, records_stay}

-- ---- an entry and a link put into a sector s, as sector k has them

module _ (k : ℕ) (s : List ℕ) (whole : length s ≡ 512) where
  module _ (slot : ℕ) (bytes : List ℕ) (size : length bytes ≡ 64) where
    entry_there : k ≡ slot / 8 → part (64 * (slot % 8)) 64 (entry_put k slot bytes s) ≡ bytes
    unfolding entry_put
    entry_there = put_there (slot / 8) (64 * (slot % 8)) bytes k s (omega arith) 64 size

    pub entry_apart : (p n : ℕ) → (k ≡ slot / 8 → 64 * (slot % 8) < p + n → 64 * (slot % 8) + 64 ≤ p) → part p n (entry_put k slot bytes s) ≡ part p n s
    unfolding entry_put
    entry_apart p n apart = put_apart (slot / 8) (64 * (slot % 8)) bytes k s (omega arith) p n (λ e h. rw size (apart e h))

    pub entry_size : length (entry_put k slot bytes s) ≡ 512
    unfolding entry_put
    entry_size = put_size (slot / 8) (64 * (slot % 8)) bytes k s (omega arith) ∙ whole

  module _ (c : ℕ) (l : Link) where
    fits : 4 * (c % 128) + length (link_bytes l) ≤ length s
    fits = rw (length_link l) (omega arith)

    pub link_there : k ≡ 8 + c / 128 → part (4 * (c % 128)) 4 (link_put k c l s) ≡ link_bytes l
    unfolding link_put
    link_there = put_there (8 + c / 128) (4 * (c % 128)) (link_bytes l) k s fits 4 (length_link l)

    pub link_apart : (p n : ℕ) → (k ≡ 8 + c / 128 → 4 * (c % 128) < p + n → 4 * (c % 128) + 4 ≤ p) → part p n (link_put k c l s) ≡ part p n s
    unfolding link_put
    link_apart p n apart = put_apart (8 + c / 128) (4 * (c % 128)) (link_bytes l) k s fits p n (λ e h. rw (length_link l) (apart e h))

    pub link_size : length (link_put k c l s) ≡ 512
    unfolding link_put
    link_size = put_size (8 + c / 128) (4 * (c % 128)) (link_bytes l) k s fits ∙ whole

-- ---- what all edits have in common

module _ {edit : Edit} {name vol : List ℕ} {st : Store} {v : List ℕ} {t : Store} (sane : Sane st.head (sectors_of vol)) (done : Edited edit name vol st v t) where
  abbrev old : ℕ → List ℕ
  old k = sector_at vol (body_at st k)

  pub old_whole : (k : ℕ) → k < body_of st.head.chunks → length (old k) ≡ 512
  old_whole k h = length_sector vol (body_at st k) (omega (arith, base_most st.copy, sane.chunks_most, sane.room))

  sector_edited : (k : ℕ) → k < body_of st.head.chunks → sector_at v (body_at t k) ≡ edit_of edit name k (old k)
  sector_edited k h = done.body k h ∙ edit_where edit name k (old k)

  pub entry_edited : (s : ℕ) → s < 64 → entry_at v t s ≡ part (64 * (s % 8)) 64 (edit_of edit name (s / 8) (old (s / 8)))
  unfolding entry_at
  entry_edited s h = ap (part (64 * (s % 8)) 64) (sector_edited (s / 8) (omega arith))

  pub link_edited : (c : ℕ) → c < links_of st.head.chunks → link_part v t c ≡ part (4 * (c % 128)) 4 (edit_of edit name (8 + c / 128) (old (8 + c / 128)))
  unfolding link_part
  link_edited c h = ap (part (4 * (c % 128)) 4) (sector_edited (8 + c / 128) (omega arith))

  -- an edit that puts one entry: there it stands, and every other is as it was
  module _ (slot : ℕ) (bytes : List ℕ) (size : length bytes ≡ 64) (puts : (s : ℕ) → s < 64 → entry_at v t s ≡ part (64 * (s % 8)) 64 (entry_put (s / 8) slot bytes (old (s / 8)))) where
    pub entry_here : slot < 64 → entry_at v t slot ≡ bytes
    entry_here h =
        let k : ℕ = slot / 8 in
        puts slot h ∙ entry_there k (old k) (old_whole k (omega arith)) slot bytes size refl

    pub entry_other : (s : ℕ) → s < 64 → s ≢ slot → entry_at v t s ≡ entry_at vol st s
    unfolding entry_at
    entry_other s h n =
        let k : ℕ = s / 8 in
        puts s h ∙ entry_apart k (old k) (old_whole k (omega arith)) slot bytes size (64 * (s % 8)) 64 (λ e q. omega (arith, n))

  same_id : t.head.id ≡ st.head.id
  unfolding head_after
  same_id = ap (λ (x : Header). x.id) done.head

  pub same_shape : SameShape (disk_of vol st) (disk_of v t)
  unfolding head_after
  same_shape = record { size = ap (λ (x : Header). x.chunk) done.head; chunks = ap (λ (x : Header). x.chunks) done.head }

  pub next_edited : t.head.next_id ≡ next_after edit st.head
  unfolding head_after
  next_edited = ap (λ (x : Header). x.next_id) done.head

  pub same_records : SameRecords (disk_of vol st) (disk_of v t)
  same_records = records_stay vol st v t same_id same_shape.size done.rest

  -- a link made, and a link as it was
  pub linked_now : (c : ℕ) (l : Link) → Sound l st.head.chunk → c < st.head.chunks → link_part v t c ≡ link_bytes l → link_view v t c ≡ Ok (link.Linked l)
  linked_now c l sound h e =
      link_shown v t c l (rw same_shape.size sound) (rw same_shape.size sane.size_most) (rw same_shape.chunks h) e

  pub link_same : (c : ℕ) → link_part v t c ≡ link_part vol st c → link_view v t c ≡ link_view vol st c
  link_same c e = link_stays vol st v t c same_shape.chunks same_shape.size e
