-- Enough is enough: in a history whose generation is not spent, a call with as many writes left as its commit may take is accepted: delete of a file of
-- the book, delete_oldest of any directory, and create of a new name that its rules take where the book has room. So is a sync with one write left where the chunk has
-- room, and a format with its writes left. So none of them gives 4. Assumes nothing.
use Prim.Native.Nat.{ℕ, ◌-◌, ◌^◌, ◌≤◌, ◌<◌}
use mathlib.Core.Path.{◌≡◌, refl, sym, ap, subst, ◌∙◌}
use mathlib.Core.Logic.{◌⊎◌, inl, inr}
use mathlib.Core.Bool.{Bool, true, false}
use mathlib.Core.Option.{Option}
use mathlib.Core.List.{List, [], ◌∷◌, Memᴰ}
use Rattle.std.specs.Prelude.{None, Some, Ok, Option as StdOption}
use Rattle.le.specs.Choice.{pick}
use Rattle.names.specs.Names.{name_ok, dir_ok}
use Rattle.medium.specs.declared.Medium.{Medium}
use Rattle.medium.specs.Refusal.{on_done}
use Rattle.medium.specs.Sector.{sectors_of}
use Rattle.medium.proofs.Laws.{on_done_done}
use Rattle.handles.specs.Handles.{open_file, is_open, open_id, opened_by}
use Rattle.header.specs.Copies.{headers_of}
use Rattle.directory.specs.declared.Old.{Old}
use Rattle.directory.specs.Entry.{entry_at}
use Rattle.directory.specs.Scan.{on_found}
use Rattle.plan.specs.Copy.{formatted, deleted, deleted_oldest, created, recorded, steps_of}
use Rattle.format.specs.Format.{chunks_of, newest_of}
use Rattle.format.proofs.Enough.{format_done}
use Rattle.remove.specs.Remove.{GoneOut, remove_oldest_of}
use Rattle.append.specs.declared.Tail.TheVariants.{At}
use Rattle.layout.proofs.Judged.{named_facts}
use Rattle.folds.proofs.Named.{find_there}
use Rattle.folds.proofs.Oldest.{Olds}
use Rattle.store.specs.Asked.{asked_of}
use Rattle.store.specs.Writing.{delete_call, oldest_told, oldest_call}
use Rattle.store.specs.Opening.{open_fine}
use Rattle.writes.specs.Writes.{commit_most}
use Rattle.power.specs.Calls.{Rules, format, create, sync, delete, delete_oldest}
use Rattle.power.specs.Book.{File, Book, may_go}
use Rattle.power.specs.History.{World, with_left, ran_oldest, ran, open_of}
use Rattle.power.specs.Room.{Tells, Allows, CanCommit, HasRoom}
use Rattle.power.proofs.Fine.{new_fine}
use Rattle.power.proofs.Whole.{file_of, Booked, same_files}
use Rattle.power.proofs.Checks.{inv_checked}
use Rattle.power.proofs.Shown.{asked}
use Rattle.power.proofs.Picks.{spared_by, goes_may, may_goes}
use Rattle.power.proofs.Oldest.{spared_open, ways}
use Rattle.power.proofs.Going.{remove_is, goer}
use Rattle.power.proofs.Formatting.{format_run}
use Rattle.power.proofs.Running.{Ready, opened, some_kept, sync_run}
use Rattle.power.proofs.Creating.{Made, create_makes}

module _ (w : World) (b : Book) (k : Booked w b) (left : ℕ) (can : CanCommit w left) where
  abbrev m : Medium
  m = with_left left w.medium

  asks : (fine : Bool) → fine ≡ true → asked_of w.vol w.store fine ≡ Ok tt
  asks = asked w.vol m w.store k.keeps.layout k.fine k.keeps.whole k.keeps.readable

  -- ---- delete of a file of the book

  pub delete_accepted : (f : File) → Memᴰ f b.files → Tells w (delete left f.name) (deleted ∷ [])
  unfolding ran delete_call on_done on_found steps_of
  delete_accepted f mem =
      let o = k.keeps.whole.ties.from f (rw (same_files k) mem) in
      rw (
        asks (name_ok f.name) (named_facts (entry_at w.vol w.store o.0) o.2).fine,
        find_there w.vol m w.store (inv_checked m k.keeps.whole.inv k.keeps.readable) k.keeps.layout k.keeps.whole.good f.name o.0 f.id o.1 o.2,
        remove_is w.vol m w.store k.keeps.layout k.fine k.keeps.whole k.keeps.readable can.gens can.writes o.0 f.id,
      ) (refl, refl)

  -- ---- create of a new name

  module _ (rules : Rules) (name : List ℕ) (rolls : Bool) (dir : List ℕ) (allows : Allows rules name) (fine : open_fine name rolls dir ≡ true) (new : (f : File) → Memᴰ f b.files → f.name ≡ name → ⊥)
      (has : HasRoom w b) where
    pub create_made : Made rules w left name rolls dir
    create_made = create_makes rules w left name rolls dir k.keeps allows fine (λ f h. new f (rw (same_files k) at h)) can (subst (HasRoom w) (sym k.same) has)

    pub create_accepted : Tells w (create rules left name rolls dir) (created ∷ [])
    create_accepted = rw create_made.is (refl, refl)

  -- ---- delete_oldest: a file of the book may go and one goes, or none may and no step is made

  module _ (dir : List ℕ) (fine : dir_ok dir ≡ true) where
    abbrev spared : StdOption ℕ
    spared = open_file w.store.writer

    abbrev gone : GoneOut
    gone = remove_oldest_of w.vol m w.store dir spared

    -- what is so of the book where a file went, and where none did
    abbrev Of : Bool → Type 0
    Of true = (f : File) × Memᴰ f b.files × (may_go dir (open_of w.store.writer) f ≡ true)
    Of false = (f : File) → Memᴰ f b.files → may_go dir (open_of w.store.writer) f ≡ false

    spares : (f : File) → may_go dir (spared_by spared) f ≡ may_go dir (open_of w.store.writer) f
    spares f = ap (λ (s : Option ℕ). may_go dir s f) (spared_open w.store.writer)

    none_may : Olds w.vol w.store dir spared 64 None → Of false
    none_may o f mem = go (may_go dir (open_of w.store.writer) f) refl
      where
        go : (may : Bool) → may_go dir (open_of w.store.writer) f ≡ may → may ≡ false
        go true e = let s = k.keeps.whole.ties.from f (rw (same_files k) mem) in absurd (o.none refl s.0 s.1 f.name f.id s.2 (may_goes dir spared f (spares f ∙ e)))
        go false e = refl

    one_may : (old : Old) → Olds w.vol w.store dir spared 64 (Some old) → Of true
    one_may old o =
        let p = o.some refl in
        let f : File = file_of p.name old.id (k.keeps.layout old.slot) in
        (f, rw (← same_files k) (k.keeps.whole.ties.into old.slot p.name old.id p.below p.entry), sym (spares f) ∙ goes_may dir spared f p.goes)

    done : (gone.ans.outcome ≡ Ok tt) × ((any : Bool) × (gone.ans.any ≡ any) × Of any)
    done =
        ways w.vol m w.store k.keeps.layout k.fine k.keeps.whole k.keeps.readable dir spared (λ (g : GoneOut). (g.ans.outcome ≡ Ok tt) × ((any : Bool) × (g.ans.any ≡ any) × Of any))
        (λ old o. let g = goer w.vol m w.store k.keeps.layout k.fine k.keeps.whole k.keeps.readable can.gens can.writes _ _ old.slot old.id in (g.within.0, (true, g.any, one_may old o)))
        (λ o. (refl, (false, refl, none_may o)))

    ran_is : ran w (delete_oldest left dir) ≡ ran_oldest w (oldest_told gone)
    unfolding ran oldest_call
    ran_is = ap (λ (g : GoneOut). ran_oldest w (oldest_told g)) (on_done_done _ _ (asks (dir_ok dir) fine))

    pub oldest_accepted : ((f : File) × Memᴰ f b.files × (may_go dir (open_of w.store.writer) f ≡ true) × Tells w (delete_oldest left dir) (deleted_oldest ∷ []))
        ⊎ (((f : File) → Memᴰ f b.files → may_go dir (open_of w.store.writer) f ≡ false) × Tells w (delete_oldest left dir) [])
    unfolding oldest_told on_done pick
    oldest_accepted = go done.1.0 done.1.1 done.1.2
      where
        go : (any : Bool) → gone.ans.any ≡ any → Of any
            → ((f : File) × Memᴰ f b.files × (may_go dir (open_of w.store.writer) f ≡ true) × Tells w (delete_oldest left dir) (deleted_oldest ∷ []))
            ⊎ (((f : File) → Memᴰ f b.files → may_go dir (open_of w.store.writer) f ≡ false) × Tells w (delete_oldest left dir) [])
        go true e x = inl (x.0, x.1, x.2, rw (ran_is, done.0, e) (refl, refl))
        go false e x = inr (x, rw (ran_is, done.0, e) (refl, refl))

-- ---- sync of an open appender with bytes unwritten, whose chunk has room: by one write

pub sync_accepted : (w : World) (b : Book) → Booked w b → (left i : ℕ) → w.store.writer ≡ opened_by w.appender.token w.appender.id → w.appender.tail ≡ At i
    → i < w.store.head.chunk → (b.unwritten ≡ [] → ⊥) → 1 ≤ left → Tells w (sync left) (recorded ∷ [])
sync_accepted w b k left i writer tail room some one =
    let y : Ready w i w.appender.fill = record { writer = writer; tail = tail; fill = refl } in
    let t = sync_run k.keeps y left room (some_kept k.keeps (opened y) (λ e. some (sym (ap (λ (x : Book). x.unwritten) k.same) ∙ e))) one in
    (t.0, rw t.1 refl)

-- ---- format of any volume whose headers read, of a size that fits, where the generations there are not spent

pub format_accepted : (w : World) (m : Medium) (size seed : ℕ) → (headers_of w.vol m).outcome ≡ Ok tt → 1 ≤ size → size ≤ 512
    → (chunks_of (sectors_of w.vol) size ≡ 0 → ⊥) → (newest_of (headers_of w.vol m) ≡ 2 ^ 64 - 1 → ⊥) → commit_most (chunks_of (sectors_of w.vol) size) ≤ m.left
    → Tells w (format m size seed) (formatted ∷ [])
format_accepted w m size seed headers least most some less enough =
    let t = format_run m size seed w (new_fine size) (format_done size seed w.vol m headers least most some less enough) in
    (t.0, rw t.1 refl)
