-- A finished commit of create, and of extending, seen through the views. Assumes nothing.
use Rattle.std.specs.Prelude.{Ok}
use mathlib.Core.Path.{◌≡◌, refl, sym, ap, ◌∙◌}
use mathlib.Core.Logic.{◌≢◌}
use mathlib.Core.Bool.{Bool, true, false, true≢false}
use mathlib.Core.List.{List}
use Prim.Native.Nat.{ℕ, ◌+◌, ◌*◌, ◌/◌, ◌%◌, ◌^◌, ◌<◌, ◌≤◌}
use native.Mathlib.Omega.{arith}
use lib.ListN.{length}
use Rattle.le.specs.Choice.{pick}
use Rattle.le.specs.Part.{part}
use Rattle.le.proofs.Choices.{pick_keeps_by, pick_true}
use Rattle.names.specs.Names.{name_ok}
use Rattle.medium.specs.Sector.{sectors_of, sector_at}
use Rattle.handles.specs.declared.Store.{Store}
use Rattle.handles.specs.Body.{body_at}
use Rattle.handles.specs.Handles.{body_of}
use Rattle.handles.proofs.Laws.{Sane}
use Rattle.directory.specs.Entry.{entry_bytes, entry_at}
use Rattle.directory.proofs.Entries.{length_entry}
use Rattle.table.specs.declared.Link.{Link}
use Rattle.table.specs.declared.LinkAt.TheVariants as link
use Rattle.table.specs.Link.{link_bytes, link_part}
use Rattle.table.specs.Table.{links_of}
use Rattle.plan.specs.declared.Edit.TheVariants.{Create, Extend}
use Rattle.plan.specs.Edit.{entry_put, link_put, edit_of, plain_link, next_after}
use Rattle.layout.specs.Views.{disk_of, link_view}
use Rattle.layout.specs.Segments.{is_of}
use Rattle.layout.specs.Changes.{SameEntries, Extended, Created}
use Rattle.layout.proofs.Facts.{case, is_of_lem, free_of_lem}
use Rattle.layout.proofs.Tallies.{linked_to, linked_more}
use Rattle.views.specs.Edited.{Edited}
use Rattle.views.proofs.Shows.{shown_as, entry_shown}
use Rattle.views.proofs.Stays.{entry_stays}
use Rattle.views.proofs.Edits.{entry_apart, entry_size, link_there, link_apart, link_size, old_whole, entry_edited, link_edited, entry_here, entry_other, same_shape, next_edited, same_records, linked_now, link_same}

-- ---- create

module _ {slot id chunk : ℕ} {name vol : List ℕ} {st : Store} {v : List ℕ} {t : Store} (sane : Sane st.head (sectors_of vol))
    (done : Edited (Create slot id chunk) name vol st v t) (hs : slot < 64) (hc : chunk < st.head.chunks) (short : length name ≤ 40) where
  -- the sectors before it, the entry that is made, and a sector with it
  abbrev old : ℕ → List ℕ
  old k = sector_at vol (body_at st k)

  abbrev entered : ℕ → List ℕ
  entered k = entry_put k slot (entry_bytes name id) (old k)

  made : length (entry_bytes name id) ≡ 64
  made = length_entry name id short

  entries_put : (s : ℕ) → s < 64 → entry_at v t s ≡ part (64 * (s % 8)) 64 (entered (s / 8))
  unfolding edit_of
  entries_put s h =
      let whole : length (old (s / 8)) ≡ 512 = old_whole sane done (s / 8) (omega arith) in
      entry_edited sane done s h
      ∙ link_apart (s / 8) (entered (s / 8)) (entry_size (s / 8) (old (s / 8)) whole slot (entry_bytes name id) made) chunk (plain_link slot 0) (64 * (s % 8)) 64 (λ e q. omega arith)

  -- the links
  links_put : (c : ℕ) → c < links_of st.head.chunks → link_part v t c ≡ part (4 * (c % 128)) 4 (link_put (8 + c / 128) chunk (plain_link slot 0) (entered (8 + c / 128)))
  unfolding edit_of
  links_put c h = link_edited sane done c h

  entered_whole : (c : ℕ) → c < links_of st.head.chunks → length (entered (8 + c / 128)) ≡ 512
  entered_whole c h =
      let k : ℕ = 8 + c / 128 in
      entry_size k (old k) (old_whole sane done k (omega arith)) slot (entry_bytes name id) made

  link_made_there : link_part v t chunk ≡ link_bytes (plain_link slot 0)
  link_made_there =
      let h : chunk < links_of st.head.chunks = omega arith in
      links_put chunk h ∙ link_there (8 + chunk / 128) (entered (8 + chunk / 128)) (entered_whole chunk h) chunk (plain_link slot 0) refl

  link_other : (c : ℕ) → c < links_of st.head.chunks → c ≢ chunk → link_part v t c ≡ link_part vol st c
  unfolding link_part
  link_other c h n =
      let k : ℕ = 8 + c / 128 in
      let whole : length (old k) ≡ 512 = old_whole sane done k (omega arith) in
      links_put c h
      ∙ link_apart k (entered k) (entered_whole c h) chunk (plain_link slot 0) (4 * (c % 128)) 4 (λ e q. omega (arith, n))
      ∙ entry_apart k (old k) whole slot (entry_bytes name id) made (4 * (c % 128)) 4 (λ e q. omega arith)

  pub created_link : link_view v t chunk ≡ Ok (link.Linked (plain_link slot 0))
  created_link = linked_now sane done chunk (plain_link slot 0) (record { slot = hs; position = omega arith; records = sane.size_least; whole = λ q. refl }) hc link_made_there

  pub created_links : (c : ℕ) → c < links_of st.head.chunks → c ≢ chunk → link_view v t c ≡ link_view vol st c
  created_links c h n = link_same sane done c (link_other c h n)

  pub created : name_ok name ≡ true → id ≡ st.head.next_id → id + 1 < 2 ^ 32 → Created (disk_of vol st) (disk_of v t) slot chunk name
  unfolding next_after
  created ok next small =
      record {
        shape = same_shape sane done;
        next = next_edited sane done ∙ ap (λ (n : ℕ). n + 1) next;
        records = same_records sane done;
        entry = ap shown_as (entry_here sane done slot (entry_bytes name id) made entries_put hs) ∙ rw (← next) (entry_shown name id ok (rw next sane.next) (omega arith));
        entries = λ s h n. entry_stays vol st v t s (entry_other sane done slot (entry_bytes name id) made entries_put s h n);
        added = created_link;
        links = created_links;
      }

-- ---- extending: the new link is put first, and the mark after it

module _ {slot position next last : ℕ} {partial : Bool} {records : ℕ} {name vol : List ℕ} {st : Store} {v : List ℕ} {t : Store} (sane : Sane st.head (sectors_of vol))
    (done : Edited (Extend slot position next last partial records) name vol st v t) (hs : slot < 64) (hp : position + 1 < 32768) (hn : next < st.head.chunks)
    (hl : last < st.head.chunks) where
  abbrev body : ℕ → List ℕ
  body k = sector_at vol (body_at st k)

  abbrev new : Link
  new = plain_link slot (position + 1)

  abbrev mark : Link
  mark = record { slot = slot; position = position; partial = true; records = records }

  abbrev linked : ℕ → List ℕ
  linked k = link_put k next new (body k)

  abbrev marked : ℕ → List ℕ
  marked k = pick partial (link_put k last mark (linked k)) (linked k)

  body_whole : (k : ℕ) → k < body_of st.head.chunks → length (body k) ≡ 512
  body_whole = old_whole sane done

  linked_whole : (k : ℕ) → k < body_of st.head.chunks → length (linked k) ≡ 512
  linked_whole k h = link_size k (body k) (body_whole k h) next new

  -- a part that the mark, where there is one, does not meet
  mark_apart : (k p n : ℕ) → k < body_of st.head.chunks → (partial ≡ true → k ≡ 8 + last / 128 → 4 * (last % 128) < p + n → 4 * (last % 128) + 4 ≤ p)
      → part p n (marked k) ≡ part p n (linked k)
  mark_apart k p n h apart =
      pick_keeps_by (λ (x : List ℕ). part p n x ≡ part p n (linked k)) partial (link_put k last mark (linked k)) (linked k)
      (λ q. link_apart k (linked k) (linked_whole k h) last mark p n (apart q)) (λ _. refl)

  pub extended_entries : SameEntries (disk_of vol st) (disk_of v t)
  unfolding edit_of entry_at
  extended_entries s h =
      let k : ℕ = s / 8 in
      entry_stays vol st v t s
      (entry_edited sane done s h
      ∙ mark_apart k (64 * (s % 8)) 64 (omega arith) (λ _ e q. omega arith)
      ∙ link_apart k (body k) (body_whole k (omega arith)) next new (64 * (s % 8)) 64 (λ e q. omega arith))

  links_marked : (c : ℕ) → c < links_of st.head.chunks → link_part v t c ≡ part (4 * (c % 128)) 4 (marked (8 + c / 128))
  unfolding edit_of
  links_marked c h = link_edited sane done c h

  links_linked : (c : ℕ) → c < links_of st.head.chunks → (partial ≡ true → c ≢ last) → link_part v t c ≡ part (4 * (c % 128)) 4 (linked (8 + c / 128))
  links_linked c h n = links_marked c h ∙ mark_apart (8 + c / 128) (4 * (c % 128)) 4 (omega arith) (λ q e r. let x : c ≢ last = n q in omega (arith, x))

  -- the new link, and the others but for the one that is marked
  pub new_now : (partial ≡ true → next ≢ last) → link_view v t next ≡ Ok (link.Linked new)
  new_now n =
      let k : ℕ = 8 + next / 128 in
      linked_now sane done next new (record { slot = hs; position = hp; records = sane.size_least; whole = λ q. refl }) hn
      (links_linked next (omega arith) n ∙ link_there k (body k) (body_whole k (omega arith)) next new refl)

  pub links_same : (c : ℕ) → c < links_of st.head.chunks → c ≢ next → (partial ≡ true → c ≢ last) → link_view v t c ≡ link_view vol st c
  unfolding link_part
  links_same c h n m =
      let k : ℕ = 8 + c / 128 in
      link_same sane done c
      (links_linked c h m ∙ link_apart k (body k) (body_whole k (omega arith)) next new (4 * (c % 128)) 4 (λ e q. omega (arith, n)))

  -- the mark on the last chunk before, where there is one
  pub mark_now : partial ≡ true → records < st.head.chunk → link_view v t last ≡ Ok (link.Linked mark)
  mark_now q hr =
      let k : ℕ = 8 + last / 128 in
      linked_now sane done last mark (record { slot = hs; position = omega arith; records = hr; whole = λ f. absurd (true≢false f) }) hl
      (links_marked last (omega arith) ∙ ap (part (4 * (last % 128)) 4) (pick_true (link_put k last mark (linked k)) (linked k) q)
      ∙ link_there k (linked k) (linked_whole k (omega arith)) last mark refl)

  -- on any table, where the chunk taken was free: the slot has a chunk more at least, and loses none
  module _ (few : partial ≡ true → records < st.head.chunk) where
    new_of : is_of slot (link_view v t next) ≡ true
    new_of = case next last (λ e. go partial refl (λ q. ap (link_view v t) e ∙ mark_now q (few q))) (λ e. is_of_lem slot (new_now (λ _. e)) refl)
      where
        go : (p : Bool) → partial ≡ p → (partial ≡ true → link_view v t next ≡ Ok (link.Linked mark)) → is_of slot (link_view v t next) ≡ true
        go true q f = is_of_lem slot (f q) refl
        go false q f = is_of_lem slot (new_now (λ y. absurd (true≢false (sym y ∙ q)))) refl

    still_of : (c : ℕ) → c < st.head.chunks → c ≢ next → is_of slot (link_view vol st c) ≡ true → is_of slot (link_view v t c) ≡ true
    still_of c h n own =
        case c last (λ e. go partial refl (λ q. ap (link_view v t) e ∙ mark_now q (few q))) (λ e. ap (is_of slot) (links_same c (omega arith) n (λ _. e)) ∙ own)
      where
        go : (p : Bool) → partial ≡ p → (partial ≡ true → link_view v t c ≡ Ok (link.Linked mark)) → is_of slot (link_view v t c) ≡ true
        go true q f = is_of_lem slot (f q) refl
        go false q f = ap (is_of slot) (links_same c (omega arith) n (λ y. absurd (true≢false (sym y ∙ q)))) ∙ own

    pub extended_more : link_view vol st next ≡ Ok link.Free → linked_to (disk_of vol st) slot + 1 ≤ linked_to (disk_of v t) slot
    extended_more unused = linked_more (disk_of vol st) (disk_of v t) slot (same_shape sane done).chunks next hn (free_of_lem slot unused) new_of still_of

  extended : {m : Link} → next ≢ last → link_view v t last ≡ Ok (link.Linked m) → Extended (disk_of vol st) (disk_of v t) next last new m
  unfolding next_after
  extended other e =
      record {
        shape = same_shape sane done;
        next = next_edited sane done;
        entries = extended_entries;
        records = same_records sane done;
        added = new_now (λ _. other);
        marked = e;
        elsewhere = λ c h n m. links_same c h n (λ _. m);
      }

  pub extended_partial : next ≢ last → partial ≡ true → records < st.head.chunk
      → Extended (disk_of vol st) (disk_of v t) next last (plain_link slot (position + 1)) (record { slot = slot; position = position; partial = true; records = records })
  extended_partial other q hr = extended other (mark_now q hr)

  pub extended_full : {m : Link} → next ≢ last → partial ≡ false → (disk_of vol st).link last ≡ Ok (link.Linked m)
      → Extended (disk_of vol st) (disk_of v t) next last (plain_link slot (position + 1)) m
  extended_full other q e = extended other (links_same last (omega arith) (λ y. other (sym y)) (λ y. absurd (true≢false (sym y ∙ q))) ∙ e)
