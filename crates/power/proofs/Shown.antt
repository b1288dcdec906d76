-- The end of demand 3: a volume on which the invariant holds is mounted, lists exactly the book's files, and gives the payloads of each. Assumes nothing.
use Rattle.std.specs.Prelude.{None}
use Rattle.std.specs.Prelude.{Ok, Result}
use Prim.Native.Nat.{ℕ, ◌*◌, ◌≤◌, ◌<◌}
use mathlib.Core.Path.{◌≡◌, refl, sym, ap, subst, ◌∙◌}
use mathlib.Core.Logic.{◌≢◌}
use mathlib.Core.Bool.{Bool, true, false}
use mathlib.Core.List.{List, [], Memᴰ}
use native.Mathlib.Omega.{arith}
use borrow.Author.Tests.{ltb-true, ltb-false}
use lib.Dec.{ltb}
use lib.ListN.{length}
use Rattle.le.specs.Choice.{pick}
use Rattle.le.specs.Part.{part, over, zeros}
use Rattle.names.specs.Names.{name_ok, dir_ok}
use Rattle.names.proofs.Laws.{in_root}
use Rattle.medium.specs.declared.Error.{Error}
use Rattle.medium.specs.declared.Medium.{Medium}
use Rattle.medium.specs.Refusal.{ok, refused, on_done}
use Rattle.medium.specs.Sector.{Readable}
use Rattle.handles.specs.declared.Store.{Store}
use Rattle.directory.specs.Rows.{row_of, RowsOut, rows_of, rows_told}
use Rattle.directory.specs.Scan.{on_found}
use Rattle.table.specs.declared.ChainParts.{ChainParts}
use Rattle.table.specs.Table.{Counted, count_of, chain_of, on_chain}
use Rattle.table.specs.Free.{map_at}
use Rattle.table.specs.Link.{link_part}
use Rattle.table.proofs.Tells.{mount_fair}
use Rattle.directory.specs.Entry.{entry_at}
use Rattle.reader.specs.declared.Reader.{Reader}
use Rattle.reader.specs.Reader.{start_of}
use Rattle.safe.specs.Inv.{Inv}
use Rattle.safe.proofs.Invs.{reads, inv_held, inv_mount, inv_map}
use Rattle.layout.specs.Views.{named, disk_of}
use Rattle.layout.specs.Segments.{Segment, segment_at, payloads_of}
use Rattle.layout.proofs.Facts.{case}
use Rattle.layout.proofs.Judged.{named_facts}
use Rattle.views.proofs.Stays.{writer_unchanged}
use Rattle.folds.specs.Chain.{chain_for}
use Rattle.folds.specs.Checked.{Checked}
use Rattle.folds.proofs.Chains.{chain_view}
use Rattle.folds.proofs.Chunks.{locate_view}
use Rattle.folds.proofs.Listings.{Listing, list_view}
use Rattle.folds.proofs.Named.{find_there, find_none}
use Rattle.reading.specs.Gives.{Gives}
use Rattle.reading.specs.GivesTo.{GivesTo}
use Rattle.reading.specs.GivesUpto.{GivesUpto}
use Rattle.reading.specs.Below.{parts_of, end_number, below}
use Rattle.reading.proofs.Reading.{reads_all, reads_to}
use Rattle.reading.proofs.Upto.{reads_below}
use Rattle.store.specs.Asked.{asked_of}
use Rattle.store.specs.Reading.{StoreCall, mount_call, ListCall, list_at, list_call, ReaderCall, reader_answer, reader_call}
use Rattle.store.proofs.Lists.{long_enough, rows_told_lem}
use Rattle.store.proofs.Mounts.{map_again}
use Rattle.power.specs.Book.{File}
use Rattle.power.specs.Claim.{Shows, Holds}
use Rattle.power.proofs.Fine.{Fine, forget}
use Rattle.power.proofs.Whole.{file_of, Whole}
use Rattle.power.proofs.Checks.{inv_checked}
use Rattle.power.proofs.Unmade.{whole_same}
use Rattle.freemap.specs.declared.FreeMap.{FreeMap}

-- ---- mount

-- the store value that mount gives: no one writes to it
abbrev pub as_mounted : List ℕ → Medium → Store → Store
as_mounted vol m st = record { copy = st.copy; head = st.head; writer = None; free = map_at vol m st }

pub mount_gives : (vol : List ℕ) (m : Medium) (st : Store) → Inv vol st → Readable vol m → mount_call vol m ≡ record { answer = ok tt; store = as_mounted vol m st; medium = m }
unfolding mount_call on_done
mount_gives vol m st inv r =
    rw (inv_mount vol m st inv r)
    (ap (λ (x : FreeMap). record { answer = ok tt; store = record { copy = st.copy; head = st.head; writer = None; free = x }; medium = m }) (map_again vol m st _ refl refl))

pub whole_mounted : {vol : List ℕ} {st : Store} {G : ℕ → List Segment} {b : Fine} (m : Medium) → Whole vol st G b → Whole vol (as_mounted vol m st) G b
unfolding link_part
whole_mounted {vol} {st} m w =
    let f = mount_fair vol m st (inv_held w.inv).head.chunks_most in
    whole_same w (inv_map refl refl f.ok w.inv) (λ q. let t = f.tells q in record { sound = λ c h. t.sound c h; bits = λ c h. t.bits c h })
    (writer_unchanged vol st (as_mounted vol m st) refl refl)

-- ---- the listing and the readers, by any store value on which the invariant holds

-- the root is a directory
root : true ≡ dir_ok []
unfolding dir_ok
root = refl

-- two rows of a listing that are alike are one
one_row : {P : ℕ → ℕ → Type 0} (n : ℕ) → ((j k : ℕ) → P j k → P k j) → ((j k : ℕ) → j < k → k < n → P j k → ⊥) → (j k : ℕ) → j < n → k < n → P j k → j ≡ k
one_row {P} n turned apart j k a b p = case j k (λ e. e) (λ ne. go ne (ltb j k) refl)
  where
    go : j ≢ k → (t : Bool) → ltb j k ≡ t → j ≡ k
    go ne true e = absurd (apart j k (ltb-true j k e) b p)
    go ne false e = absurd (apart k j (omega (arith, ltb-false j k e, ne)) a (turned j k p))

module _ (vol : List ℕ) (m : Medium) (st : Store) (G : ℕ → List Segment) (b : Fine) (w : Whole vol st G b) (r : Readable vol m) where
  ok_all : Checked vol m st
  ok_all = inv_checked m w.inv r

  pub asked : (fine : Bool) → fine ≡ true → asked_of vol st fine ≡ Ok tt
  unfolding asked_of pick
  asked fine e = rw (w.inv.ok, e)

  module _ (counts rows : List ℕ) (counters : 64 ≤ length counts) (room : 3072 ≤ length rows) where
    abbrev counted : Counted
    counted = count_of vol m st (over 0 (zeros 64) counts)

    abbrev made : RowsOut
    made = rows_of vol m st [] counted.counts rows

    all_rows : Listing vol st G [] counted made
    all_rows = list_view vol m st ok_all G w.good [] counts rows counters room

    list_gives : list_at m (Ok tt) made.made.count counted.counts made.made.rows ≡ list_call vol m st [] counts rows
    list_gives =
        rows_told_lem vol m st [] counts rows (long_enough counts rows counters room) root (sym (asked true refl)) refl refl (sym all_rows.counted, refl) refl
        (ap (λ (o : Result Unit Error). rows_told (record { outcome = o; count = made.made.count }) made.made.rows) (sym all_rows.made))

    pub lists : Shows (list_call vol m st [] counts rows) b.files
    lists =
        subst (λ (c : ListCall). Shows c b.files) list_gives
        (record {
          accepted = refl;
          many = all_rows.number ∙ sym w.ties.many;
          rows = λ k h.
              let x = all_rows.each k h in
              (file_of x.name x.id (G x.slot), w.ties.into x.slot x.name x.id x.below x.entry, x.bytes);
          each = λ f mem.
              let o = w.ties.from f mem in
              let q = all_rows.every o.0 f.name f.id o.1 o.2 (in_root f.name) in
              (q.0, q.1, q.2 ∙ ap (λ (g : File). row_of f.name f.id g.chunks) (sym o.3));
          apart = one_row {P = λ (j k : ℕ). part (48 * j) 48 made.made.rows ≡ part (48 * k) 48 made.made.rows} made.made.count (λ j k e. sym e) all_rows.apart;
        })

  -- the file of a slot, from its start
  module _ (s : ℕ) (name : List ℕ) (id : ℕ) (h : s < 64) (e : (disk_of vol st).entry s ≡ named name id) where
    reader_gives : reader_call vol m st name ≡ reader_answer (record { outcome = Ok tt; reader = start_of st s id (chain_for st.head.chunk s (G s)); medium = m })
    unfolding reader_call on_done on_found on_chain
    reader_gives =
        rw (
          asked (name_ok name) (named_facts (entry_at vol st s) e).fine,
          find_there vol m st ok_all G w.good name s id h e,
          chain_view vol m st ok_all G w.good s h (w.good.held s name id h e),
        )

    file_reads : ((reader_call vol m st name).answer ≡ ok tt) × Gives vol m st (reader_call vol m st name).reader (payloads_of (G s))
    file_reads =
        rw reader_gives (
          refl,
          reads_all vol m st G s id name (reads m vol r) w.inv.ok w.good h e (λ p q. locate_view vol m st ok_all G w.good s p h q) (segment_at (G s) _).chunk,
        )

    -- S-1: by its slot, where it ends, and what stands below a number
    abbrev started : Reader
    started = start_of st s id (chain_for st.head.chunk s (G s))

    slot_ends : GivesTo vol m st started (payloads_of (G s)) (end_number st.head.chunk (parts_of (G s)))
    slot_ends =
        reads_to vol m st G s id name (reads m vol r) w.inv.ok w.good h e (λ p q. locate_view vol m st ok_all G w.good s p h q) (segment_at (G s) _).chunk

    slot_below : (limit : ℕ) → GivesUpto vol m st (record { reader = started; limit = limit }) (below st.head.chunk limit (parts_of (G s)))
    slot_below limit =
        reads_below vol m st G s id name (reads m vol r) w.inv.ok w.good h e (λ p q. locate_view vol m st ok_all G w.good s p h q) limit (segment_at (G s) _).chunk

  -- S-1: no file of the book has the name
  pub reader_none : (name : List ℕ) → name_ok name ≡ true → ((f : File) → Memᴰ f b.files → f.name ≢ name) → (reader_call vol m st name).answer ≡ refused 9
  unfolding reader_call on_done on_found
  reader_none name fine none =
      rw (
        asked (name_ok name) fine,
        find_none vol m st ok_all G w.good name (λ s i h e. none (file_of name i (G s)) (w.ties.into s name i h e) refl),
      )

  -- the reader that starts in the slot of a file of the book, with its chain; the one that is asked for by name is the same
  pub record Started (f : File) : Type 0 where
    pub slot : ℕ
    pub below64 : slot < 64
    pub entry : (disk_of vol st).entry slot ≡ named f.name f.id
    pub chain : ChainParts
    pub whole : chain_of vol m st slot ≡ Ok chain
    pub by_name : (reader_call vol m st f.name).reader ≡ start_of st slot f.id chain
    pub ends : GivesTo vol m st (start_of st slot f.id chain) f.payloads (end_number b.size (b.parts f.id))
    pub upto : (limit : ℕ) → GivesUpto vol m st (record { reader = start_of st slot f.id chain; limit = limit }) (below b.size limit (b.parts f.id))

  pub file_starts : (f : File) → Memᴰ f b.files → Started f
  file_starts f mem =
      let o = w.ties.from f mem in
      let chain : ChainParts = chain_for st.head.chunk o.0 (G o.0) in
      let parts : parts_of (G o.0) ≡ b.parts f.id = w.parts.hold o.0 f.name f.id o.1 o.2 in
      record {
        slot = o.0;
        below64 = o.1;
        entry = o.2;
        chain = chain;
        whole = chain_view vol m st ok_all G w.good o.0 o.1 (w.good.held o.0 f.name f.id o.1 o.2);
        by_name = ap (λ (c : ReaderCall). c.reader) (reader_gives o.0 f.name f.id o.1 o.2);
        ends =
            subst (λ (l : List (List ℕ)). GivesTo vol m st (start_of st o.0 f.id chain) l (end_number b.size (b.parts f.id))) (ap (λ (g : File). g.payloads) (sym o.3))
            (rw (w.size, ← parts) (slot_ends o.0 f.name f.id o.1 o.2));
        upto = λ limit. rw (w.size, ← parts) (slot_below o.0 f.name f.id o.1 o.2 limit);
      }

  pub each_ends : (f : File) → Memᴰ f b.files → GivesTo vol m st (reader_call vol m st f.name).reader f.payloads (end_number b.size (b.parts f.id))
  each_ends f mem = let x = file_starts f mem in rw x.by_name x.ends

  pub each_below : (f : File) → Memᴰ f b.files → (limit : ℕ)
      → GivesUpto vol m st (record { reader = (reader_call vol m st f.name).reader; limit = limit }) (below b.size limit (b.parts f.id))
  each_below f mem limit = let x = file_starts f mem in rw x.by_name (x.upto limit)

  pub each_reads : (f : File) → Memᴰ f b.files → ((reader_call vol m st f.name).answer ≡ ok tt) × Gives vol m st (reader_call vol m st f.name).reader f.payloads
  each_reads f mem =
      let o = w.ties.from f mem in
      let x = file_reads o.0 f.name f.id o.1 o.2 in
      (x.0, subst (Gives vol m st (reader_call vol m st f.name).reader) (ap (λ (g : File). g.payloads) (sym o.3)) x.1)

-- ---- the volume holds the book

pub shown : (vol : List ℕ) (st : Store) (G : ℕ → List Segment) (b : Fine) → Whole vol st G b → Holds vol (forget b)
shown vol st G b w =
    record {
      mounted = λ m r. ap (λ (c : StoreCall). c.answer) (mount_gives vol m st w.inv r);
      listed = λ m r counts rows c d. rw (mount_gives vol m st w.inv r) (lists vol m (as_mounted vol m st) G b (whole_mounted m w) r counts rows c d);
      reads = λ m r f mem. rw (mount_gives vol m st w.inv r) (each_reads vol m (as_mounted vol m st) G b (whole_mounted m w) r f mem);
    }
