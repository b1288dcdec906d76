-- open_append keeps the invariant: it changes nothing on the volume, and the appender that it opens stands at the end of the file found. Assumes nothing.
use Rattle.std.specs.Prelude.{Err, Ok, Result, Some, None}
use Prim.Native.Nat.{ℕ, zero, suc, ◌+◌, ◌-◌, ◌*◌, ◌≤◌, ◌<◌}
use mathlib.Core.Path.{◌≡◌, refl, sym, ap, subst, ◌∙◌}
use mathlib.Core.Bool.{Bool, true}
use mathlib.Core.List.Memᴰ
use mathlib.Core.List.{List, [], ◌∷◌}
use native.Mathlib.Nat.{le_refl}
use native.Mathlib.Omega.{arith}
use borrow.Author.Tests.{eqb-true, eqb-false}
use lib.Dec.{eqb}
use lib.ListN.{length, get_or}
use Rattle.le.specs.Choice.{pick}
use Rattle.le.specs.Part.{part, over}
use Rattle.le.proofs.Choices.{pick_keeps_by, pick_true}
use Rattle.le.proofs.Parts.{length_zeros}
use Rattle.runs.specs.Run.{same_bytes}
use Rattle.runs.proofs.Tests.{same_true, same_self}
use Rattle.medium.specs.declared.Error.{Error}
use Rattle.medium.specs.declared.Medium.{Medium}
use Rattle.medium.specs.Refusal.{on_done}
use Rattle.medium.specs.Sector.{sectors_of, sector_at, Readable}
use Rattle.medium.proofs.Laws.{on_done_done, length_sector}
use Rattle.handles.specs.declared.Store.{Store}
use Rattle.directory.specs.declared.Found.{Found}
use Rattle.directory.specs.Scan.{find_of, on_found, found_at}
use Rattle.table.specs.Table.{on_chain}
use Rattle.record.specs.Record.{judge_of, on_judged, data_at, number_at, read_record_of, record_at, on_result}
use Rattle.append.specs.declared.Appender.{Appender}
use Rattle.append.specs.declared.Tail.{Tail}
use Rattle.append.specs.Calls.{call_of}
use Rattle.append.specs.Flush.{AppOut}
use Rattle.files.specs.declared.Rollover.{Rollover}
use Rattle.files.specs.Opened.{refused_at, next_token, with_token, written_by, new_appender, opened_out}
use Rattle.reopen.specs.Reopen.{records_from, tail_for, file_out, reopen_of}
use Rattle.reopen.proofs.Counts.{record_inside}
use Rattle.safe.proofs.Invs.{reads, inv_writer}
use Rattle.layout.specs.Views.{named, disk_of}
use Rattle.layout.specs.Segments.{Segment, segment_at, Placed}
use Rattle.layout.specs.Changes.{Unchanged}
use Rattle.layout.proofs.Facts.{case, one_place, same_id}
use Rattle.layout.proofs.Judged.{stored_judged, judged_other}
use Rattle.views.proofs.Stays.{writer_unchanged}
use Rattle.views.proofs.Maps.{mapped_kept}
use Rattle.folds.proofs.Chains.{chain_view}
use Rattle.folds.proofs.Named.{find_there, find_view}
use Rattle.store.specs.Opening.{open_fine, rollover_of}
use Rattle.power.specs.Calls.{Rules, open_append}
use Rattle.power.specs.Book as book
use Rattle.power.specs.Book.{File, id_of, if_set}
use Rattle.power.specs.History.{World, if_ok, with_left, open_by, ran, fed_by}
use Rattle.power.specs.Room.{Allows}
use Rattle.power.proofs.Fine.{Fine, entered_all, before_steps, opened_for, after_steps, written}
use Rattle.power.proofs.Whole.{file_of, Whole, TailAt, Stands, Keeps}
use Rattle.power.proofs.Members.{Mem}
use Rattle.power.proofs.Checks.{inv_checked}
use Rattle.power.proofs.Unmade.{whole_same}
use Rattle.power.proofs.Asks.{Directed, asked_opens}
use Rattle.power.proofs.Rules.{admits, admits_asked, admits_done, open_by_lem}
use Rattle.power.proofs.Shown.{asked}
use Rattle.power.proofs.Queries.{keeps_medium}

-- ---- the book's file with a name

pub id_of_lem : (name : List ℕ) (fs : List File) (x : File) → Mem x fs → x.name ≡ name → ((f : File) → Mem f fs → f.name ≡ name → f.id ≡ x.id) → id_of name fs ≡ x.id
unfolding id_of
id_of_lem name [] x m n one = elim m [ ]
id_of_lem name (y ∷ fs) x (Memᴰ.head e) n one =
    pick_true _ _ (ap (same_bytes name) (ap (λ (f : File). f.name) (sym e) ∙ n) ∙ same_self name) ∙ ap (λ (f : File). f.id) (sym e)
id_of_lem name (y ∷ fs) x (Memᴰ.tail m) n one =
    pick_keeps_by (λ (i : ℕ). i ≡ x.id) (same_bytes name y.name) _ _
    (λ t. one y (Memᴰ.head refl) (sym (same_true name y.name t)))
    (λ _. id_of_lem name fs x m n (λ f k. one f (Memᴰ.tail k)))

-- ---- the tail

tail_at : (size n : ℕ) → TailAt (tail_for size n) n size
unfolding tail_for
tail_at size n =
    pick_keeps_by (λ (t : Tail). TailAt t n size) (eqb n 0) _ _ (λ t. sym (eqb-true n 0 t))
    (λ t. pick_keeps_by (λ (t : Tail). TailAt t n size) (eqb n size) _ _ (λ u. sym (eqb-true n size u))
    (λ u. let z : n ≡ 0 → ⊥ = eqb-false n 0 t in (refl, eqb-false n size u, omega arith)))

module _ (vol : List ℕ) (m : Medium) (st : Store) (G : ℕ → List Segment) (b : Fine) (w : Whole vol st G b) (r : Readable vol m) where
  -- ---- the count of records in a chunk of a file

  module _ (s : ℕ) (name : List ℕ) (id p : ℕ) (h : s < 64) (e : (disk_of vol st).entry s ≡ named name id) (l : p < length (G s)) where
    abbrev chunk : ℕ
    chunk = (segment_at (G s) p).chunk

    abbrev count : ℕ
    count = length (segment_at (G s) p).payloads

    abbrev number : ℕ → ℕ
    number i = p * st.head.chunk + i

    abbrev bytes : ℕ → List ℕ
    bytes i = sector_at vol (data_at st chunk i)

    within : (i : ℕ) → i < st.head.chunk → data_at st chunk i < sectors_of vol
    within i k = record_inside vol st w.inv.ok chunk i (w.good.inside s p h l) k

    read_at : (i : ℕ) → i < st.head.chunk → record_at vol m st id chunk p i ≡ Ok (judge_of st.head.id id (number i) (bytes i))
    unfolding record_at read_record_of number_at on_done
    read_at i k = rw (reads m vol r (data_at st chunk i) (within i k))

    valid_at : (i : ℕ) → i < count → judge_of st.head.id id (number i) (bytes i) ≡ Some (length (get_or (segment_at (G s) p).payloads i []))
    valid_at i k =
        let q : i < st.head.chunk = omega (arith, w.good.fits s p h l) in
        (stored_judged st.head.id (bytes i) (length_sector vol (data_at st chunk i) (within i q)) (w.good.written s p i name id h e l k)).valid

    other_at : (i : ℕ) → i < st.head.chunk → count ≤ i → judge_of st.head.id id (number i) (bytes i) ≡ None
    other_at i k q =
        judged_other st.head.id id (number i) (bytes i)
        (λ x f.
        let a : Placed (G s) chunk i = w.good.placed chunk i s (number i) x name id (w.good.inside s p h l) k h f e in
        let o = one_place w.good s a.position s p h h a.in_file l a.there in
        let c : length (segment_at (G s) a.position).payloads ≡ count = ap (λ (j : ℕ). length (segment_at (G s) j).payloads) o.1 in
        omega (arith, a.filled))

    counts_to : (n : ℕ) → n ≤ st.head.chunk → count ≤ n → records_from vol m st id chunk p n ≡ Ok count
    unfolding records_from on_judged
    counts_to zero k q = let z : count ≡ 0 = omega arith in ap Ok (sym z)
    counts_to (suc n) k q =
        case count (suc n)
        (λ f. rw (read_at n (omega arith), valid_at n (omega arith)) (ap Ok (sym f)))
        (λ f. rw (read_at n (omega arith), other_at n (omega arith) (omega (arith, f))) (counts_to n (omega arith) (omega (arith, f))))

  -- ---- the file found

  -- the position of the last segment, and the appender that is opened there
  abbrev final : ℕ → ℕ
  final s = length (G s) - 1

  abbrev opened : Rollover → ℕ → ℕ → AppOut
  opened over s id =
      opened_out vol m st s id (segment_at (G s) (final s)).chunk (final s) (tail_for st.head.chunk (length (segment_at (G s) (final s)).payloads)) over

  file_opens : (over : Rollover) (s : ℕ) (name : List ℕ) (id : ℕ) → s < 64 → (disk_of vol st).entry s ≡ named name id → file_out over vol m st s id ≡ opened over s id
  unfolding file_out on_chain on_result
  file_opens over s name id h e =
      let some : 1 ≤ length (G s) = w.good.held s name id h e in
      let l : final s < length (G s) = omega arith in
      rw (
        chain_view vol m st (inv_checked m w.inv r) G w.good s h some,
        counts_to s name id (final s) h e l st.head.chunk (le_refl st.head.chunk) (w.good.fits s (final s) h l),
      )

  -- what a call gives: a refusal, or the appender of the file with the name
  pub data Way (name : List ℕ) (over : Rollover) (o : AppOut) : Type 0 where
    refuses : (e : Error) → o ≡ refused_at vol m st e → Way name over o
    opens : (s id : ℕ) → s < 64 → (disk_of vol st).entry s ≡ named name id → o ≡ opened over s id → Way name over o

  way : (name : List ℕ) (over : Rollover) → Way name over (reopen_of name over vol m st)
  unfolding reopen_of on_found
  way name over = go (find_of vol m st name) refl
    where
      go : (f : Result Found Error) → find_of vol m st name ≡ f → Way name over (on_found f (refused_at vol m st) (file_out over vol m st))
      go (Err e) q = refuses e refl
      go (Ok x) q = let v = find_view vol m st name q in opens x.slot x.id v.0 v.1 (file_opens over x.slot name x.id v.0 v.1)

  -- the book has that file
  pub book_id : (s : ℕ) (name : List ℕ) (id : ℕ) → s < 64 → (disk_of vol st).entry s ≡ named name id → id_of name b.files ≡ id
  book_id s name id h e =
      id_of_lem name b.files (file_of name id (G s)) (w.ties.into s name id h e) refl
      (λ f mem n.
      let o = w.ties.from f mem in
      let same : o.0 ≡ s = w.good.names o.0 s f.name name f.id id o.1 h o.2 e n in
      same_id o.2 (subst (λ (t : ℕ). (disk_of vol st).entry t ≡ named name id) (sym same) e))

-- ---- the call

module _ (rules : Rules) (left : ℕ) (name : List ℕ) (rolls : Bool) (dir : List ℕ) (w : World) (b : Fine) (k : Keeps w b) where
  abbrev m : Medium
  m = with_left left w.medium

  abbrev roll : Rollover
  roll = rollover_of rolls dir

  abbrev out : AppOut
  out = on_done (admits w.vol w.store name rolls dir rules) (reopen_of name roll w.vol m w.store) (refused_at w.vol m w.store)

  is_out : open_by rules w.vol m w.store name rolls dir ≡ call_of out
  is_out = open_by_lem w.vol w.store name rolls dir rules m

  abbrev Kept : Type 0
  Kept = Keeps (ran w (open_append rules left name rolls dir)).world (written (open_append rules left name rolls dir) (fed_by w (open_append rules left name rolls dir)) b)

  module _ (e : Error) (q : out ≡ refused_at w.vol m w.store e) where
    refused_world : (ran w (open_append rules left name rolls dir)).world ≡ record { vol = w.vol; store = w.store; appender = w.appender; medium = m }
    unfolding ran if_ok
    refused_world = rw (is_out, q)

    refused_book : written (open_append rules left name rolls dir) (fed_by w (open_append rules left name rolls dir)) b ≡ b
    unfolding written fed_by ran entered_all before_steps book.before_steps pick
    refused_book = rw (is_out, q)

    refused_keeps : Kept
    refused_keeps = rw (refused_world, refused_book) (keeps_medium m k.readable k)

  module _ (s id : ℕ) (h : s < 64) (e : (disk_of w.vol w.store).entry s ≡ named name id) (d : Directed roll (if_set rolls dir))
      (q : out ≡ opened w.vol m w.store k.layout b k.whole k.readable roll s id) where
    abbrev segments : List Segment
    segments = k.layout s

    abbrev last : Segment
    last = segment_at segments (length segments - 1)

    abbrev new : Appender
    new = new_appender (next_token m) s id last.chunk (length segments - 1) (tail_for w.store.head.chunk (length last.payloads)) roll

    abbrev served : Store
    served = written_by (next_token m) id w.store

    abbrev begun : Fine
    begun = opened_for (id_of name b.files) (if_set rolls dir) b

    pub opened_world : (ran w (open_append rules left name rolls dir)).world ≡ record { vol = w.vol; store = served; appender = new; medium = with_token m }
    unfolding ran if_ok opened_out
    opened_world = rw (is_out, q)

    pub opened_book : written (open_append rules left name rolls dir) (fed_by w (open_append rules left name rolls dir)) b ≡ begun
    unfolding written fed_by ran opened_out entered_all before_steps book.before_steps after_steps book.after_steps pick
    opened_book = rw (is_out, q)

    same_views : Unchanged (disk_of w.vol w.store) (disk_of w.vol served)
    same_views = writer_unchanged w.vol w.store served refl refl

    stands : Stands w.vol served new k.layout begun []
    unfolding part
    stands =
        let some : 1 ≤ length segments = k.whole.good.held s name id h e in
        record {
          name = name;
          below = h;
          entry = same_views.entries s h ∙ e;
          last = omega arith;
          chunk = refl;
          tail = tail_at w.store.head.chunk (length last.payloads);
          buffer = length_zeros 486;
          file = book_id w.vol m w.store k.layout b k.whole k.readable s name id h e;
          rollover = sym d.same;
          fine = d.fine;
          unwritten = refl;
        }

    opened_whole : Whole w.vol served k.layout begun
    opened_whole =
        let x = whole_same k.whole (inv_writer refl refl refl k.whole.inv) (mapped_kept refl same_views.links refl k.whole.map) same_views in
        record { inv = x.inv; map = x.map; good = x.good; ties = x.ties; parts = x.parts; next = x.next; ids = x.ids; size = x.size }

    opened_keeps : Kept
    opened_keeps =
        rw (opened_world, opened_book)
        (record { layout = k.layout; whole = opened_whole; owns = record { writes = (refl, refl, λ _. (stands, omega arith)) }; readable = k.readable })

  -- it is refused, or the file of the name is opened
  pub open_ways : (P : Type 0) → ((e : Error) → out ≡ refused_at w.vol m w.store e → P)
      → ((s id : ℕ) → s < 64 → (disk_of w.vol w.store).entry s ≡ named name id → Directed roll (if_set rolls dir)
      → out ≡ opened w.vol m w.store k.layout b k.whole k.readable roll s id → P) → P
  unfolding on_done
  open_ways P f g = by_asked (admits w.vol w.store name rolls dir rules) refl
    where
      by_way : admits w.vol w.store name rolls dir rules ≡ Ok tt
          → Way w.vol m w.store k.layout b k.whole k.readable name roll (reopen_of name roll w.vol m w.store) → P
      by_way a (refuses e q) = f e (rw a q)
      by_way a (opens s id h e q) = g s id h e (asked_opens w.vol w.store name rolls dir (admits_asked w.vol w.store name rolls dir rules a)).directed (rw a q)

      by_asked : (o : Result Unit Error) → admits w.vol w.store name rolls dir rules ≡ o → P
      by_asked (Err e) q = f e (rw q)
      by_asked (Ok tt) q = by_way q (way w.vol m w.store k.layout b k.whole k.readable name roll)

  pub open_keeps : Kept
  open_keeps = open_ways Kept refused_keeps opened_keeps

  -- a file that is there is opened, with no step; the header stays
  module _ (s id : ℕ) (h : s < 64) (e : (disk_of w.vol w.store).entry s ≡ named name id) (allows : Allows rules name) (fine : open_fine name rolls dir ≡ true) where
    out_is : out ≡ opened w.vol m w.store k.layout b k.whole k.readable roll s id
    unfolding reopen_of on_found
    out_is =
        on_done_done _ _ (admits_done w.vol w.store name rolls dir rules allows (asked w.vol m w.store k.layout b k.whole k.readable (open_fine name rolls dir) fine))
        ∙ rw (find_there w.vol m w.store (inv_checked m k.whole.inv k.readable) k.layout k.whole.good name s id h e)
        (file_opens w.vol m w.store k.layout b k.whole k.readable roll s name id h e)

    pub open_run : ((ran w (open_append rules left name rolls dir)).accepted ≡ true) × ((ran w (open_append rules left name rolls dir)).steps ≡ [])
        × ((ran w (open_append rules left name rolls dir)).world.store.head ≡ w.store.head)
    unfolding ran if_ok opened_out
    open_run = rw (is_out, out_is) (refl, refl, refl)
