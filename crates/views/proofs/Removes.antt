-- A finished commit of a file's removal seen through the views: the links of its slot are free, and no others change. Assumes nothing.
use Rattle.std.specs.Prelude.{Ok, Err}
use mathlib.Core.Path.{◌≡◌, refl, ap, ◌∙◌}
use mathlib.Core.Logic.{◌≢◌, ◌⊎◌, ⊎_elim}
use mathlib.Core.Bool.{Bool, true, false}
use mathlib.Core.List.{List}
use Prim.Native.Nat.{ℕ, ◌+◌, ◌*◌, ◌/◌, ◌%◌, ◌<◌, ◌≤◌}
use native.Mathlib.Omega.{arith}
use borrow.Author.Tests.{le-leb, lt-leb, ltb-true, ltb-false}
use lib.Dec.{leb, ltb}
use Rattle.le.specs.Choice.{pick}
use Rattle.le.specs.Part.{part, zeros}
use Rattle.le.proofs.Choices.{pick_true, pick_false}
use Rattle.le.proofs.Parts.{length_zeros}
use Rattle.medium.specs.declared.Error.{Error}
use Rattle.medium.specs.Sector.{sectors_of, sector_at}
use Rattle.handles.specs.declared.Store.{Store}
use Rattle.handles.specs.Body.{body_at}
use Rattle.handles.proofs.Laws.{Sane}
use Rattle.directory.specs.Entry.{entry_at}
use Rattle.table.specs.declared.Link.{Link}
use Rattle.table.specs.declared.LinkAt.TheVariants as link
use Rattle.table.specs.Link.{link_part, owned_by}
use Rattle.table.specs.Table.{links_of}
use Rattle.table.proofs.Clears.{part_cleared}
use Rattle.plan.specs.declared.Edit.TheVariants.{Remove}
use Rattle.plan.specs.Edit.{entry_put, slot_cleared, edit_of, next_after}
use Rattle.layout.specs.Views.{vacant, disk_of, link_view}
use Rattle.layout.specs.Segments.{is_of}
use Rattle.layout.specs.Changes.{Removed}
use Rattle.layout.proofs.Facts.{refused_of, other_of}
use Rattle.layout.proofs.Tallies.{linked_to, linked_most}
use Rattle.views.specs.Edited.{Edited}
use Rattle.views.proofs.Shows.{shown_as, entry_vacant, link_freed, owned_shown}
use Rattle.views.proofs.Stays.{entry_stays}
use Rattle.views.proofs.Edits.{old_whole, entry_edited, link_edited, entry_here, entry_other, same_shape, next_edited, same_records, link_same}

module _ {slot : ℕ} {name vol : List ℕ} {st : Store} {v : List ℕ} {t : Store} (sane : Sane st.head (sectors_of vol)) (done : Edited (Remove slot) name vol st v t) (hs : slot < 64) where
  abbrev old : ℕ → List ℕ
  old k = sector_at vol (body_at st k)

  -- the entries: sectors below 8
  entries_put : (s : ℕ) → s < 64 → entry_at v t s ≡ part (64 * (s % 8)) 64 (entry_put (s / 8) slot (zeros 64) (old (s / 8)))
  unfolding edit_of slot_cleared
  entries_put s h =
      let low : leb 8 (s / 8) ≡ false = lt-leb 8 (s / 8) (omega arith) in
      entry_edited sane done s h ∙ ap (part (64 * (s % 8)) 64) (pick_false _ _ low)

  -- the links: each of the slot zeroed
  pub links_cleared : (c : ℕ) → c < links_of st.head.chunks → link_part v t c ≡ pick (owned_by slot (link_part vol st c)) (zeros 4) (link_part vol st c)
  unfolding edit_of slot_cleared link_part
  links_cleared c h =
      let k : ℕ = 8 + c / 128 in
      let high : leb 8 k ≡ true = le-leb 8 k (omega arith) in
      link_edited sane done c h ∙ ap (part (4 * (c % 128)) 4) (pick_true _ _ high)
      ∙ part_cleared slot (old k) (old_whole sane done k (omega arith)) (c % 128) (omega arith)

  -- the entry of the slot is free, and every other as it was
  pub removed_entry : (disk_of v t).entry slot ≡ vacant
  removed_entry = ap shown_as (entry_here sane done slot (zeros 64) (length_zeros 64) entries_put hs) ∙ entry_vacant

  pub removed_entries : (s : ℕ) → s < 64 → s ≢ slot → (disk_of v t).entry s ≡ (disk_of vol st).entry s
  removed_entries s h n = entry_stays vol st v t s (entry_other sane done slot (zeros 64) (length_zeros 64) entries_put s h n)

  -- on any table: another slot loses no chunk
  pub removed_same : (s : ℕ) → s ≢ slot → linked_to (disk_of vol st) s ≤ linked_to (disk_of v t) s
  removed_same s n =
      linked_most (disk_of vol st) (disk_of v t) s (same_shape sane done).chunks (λ c h own.
      let other : owned_by slot (link_part vol st c) ≡ false
      = owned_shown vol st c slot (λ e q. refused_of s q own) ∙ other_of (link_view vol st c) own n in
      ap (is_of s) (link_same sane done c (links_cleared c (omega arith) ∙ pick_false _ _ other)) ∙ own)

  -- no link is refused: inside the store it is free or a file's, and past the last chunk it is zero
  module _ (either : (c : ℕ) → c < st.head.chunks → ((disk_of vol st).link c ≡ Ok link.Free) ⊎ ((l : Link) × ((disk_of vol st).link c ≡ Ok (link.Linked l))))
      (past : (c : ℕ) → st.head.chunks ≤ c → c < links_of st.head.chunks → (disk_of vol st).link c ≡ Ok link.Past) where
    passes : (c : ℕ) → c < links_of st.head.chunks → (e : Error) → link_view vol st c ≡ Err e → ⊥
    passes c h e q = go (ltb c st.head.chunks) refl
      where
        go : (b : Bool) → ltb c st.head.chunks ≡ b → ⊥
        go true i =
            ⊎_elim
            (λ (f : link_view vol st c ≡ Ok link.Free). let z : ◌≡◌ {A = ℕ} 0 1 = cc in omega arith)
            (λ (f : (l : Link) × (link_view vol st c ≡ Ok (link.Linked l))). let g : link_view vol st c ≡ Ok (link.Linked f.0) = f.1 in let z : ◌≡◌ {A = ℕ} 0 1 = cc in omega arith)
            (either c (ltb-true c st.head.chunks i))
        go false i = let f : link_view vol st c ≡ Ok link.Past = past c (ltb-false c st.head.chunks i) h in let z : ◌≡◌ {A = ℕ} 0 1 = cc in omega arith

    owned_same : (c : ℕ) → c < links_of st.head.chunks → owned_by slot (link_part vol st c) ≡ is_of slot ((disk_of vol st).link c)
    owned_same c h = owned_shown vol st c slot (passes c h)

    pub removed : Removed (disk_of vol st) (disk_of v t) slot
    unfolding next_after
    removed =
        record {
          shape = same_shape sane done;
          next = next_edited sane done;
          records = same_records sane done;
          entry = removed_entry;
          entries = removed_entries;
          cleared = λ c h q.
              link_freed v t c (links_cleared c (omega arith) ∙ pick_true _ _ (owned_same c (omega arith) ∙ q)) (rw (same_shape sane done).chunks h);
          links = λ c h q. link_same sane done c (links_cleared c h ∙ pick_false _ _ (owned_same c h ∙ q));
        }
