-- What stays in the bytes stays in the views: a refused commit or format, another writer, and all but one data sector after a record's write; and the
-- views of a fresh store. Assumes nothing.
use Rattle.std.specs.Prelude.{Ok}
use mathlib.Core.Path.{◌≡◌, refl, ap, ◌∙◌, sym}
use mathlib.Core.Logic.{◌⊎◌, inl, inr}
use mathlib.Core.Bool.{Bool, true, false}
use mathlib.Core.List.{List}
use Prim.Native.Nat.{ℕ, ◌+◌, ◌*◌, ◌/◌, ◌%◌, ◌^◌, ◌<◌, ◌≤◌}
use native.Mathlib.Omega.{arith}
use borrow.Author.Tests.{ltb-true, ltb-false}
use lib.Dec.{ltb}
use lib.ListN.{length}
use Rattle.le.specs.Part.{part, zeros}
use Rattle.le.proofs.Choices.{pick_false}
use Rattle.le.proofs.Parts.{part_zeros}
use Rattle.medium.specs.declared.Medium.{Medium}
use Rattle.medium.specs.Sector.{sectors_of, sector_at, write_at, write_of}
use Rattle.medium.proofs.Laws.{sector_same, sector_other, write_done}
use Rattle.handles.specs.declared.Header.{Header}
use Rattle.handles.specs.declared.Store.{Store}
use Rattle.handles.specs.Body.{body_at}
use Rattle.handles.specs.Handles.{body_of, base_of}
use Rattle.handles.proofs.Laws.{Sane, base_most}
use Rattle.directory.specs.Entry.{entry_at}
use Rattle.table.specs.Link.{link_part}
use Rattle.record.specs.Record.{record_of, carries_of, data_at, write_record_of}
use Rattle.record.proofs.Laws.{data_inside, data_one}
use Rattle.record.proofs.RoundTrip.{length_record}
use Rattle.layout.specs.Views.{disk_of, link_view, rec_view}
use Rattle.layout.specs.Changes.{SameEntries, SameLinks, SameRecords, Unchanged, Recorded, Fresh}
use Rattle.views.specs.Edited.{SameSectors}
use Rattle.views.proofs.Shows.{shown_as, entry_vacant, link_freed, link_past, record_shown}

-- ---- one by one

module _ (vol : List ℕ) (st : Store) (v : List ℕ) (t : Store) where
  pub entry_stays : (s : ℕ) → entry_at v t s ≡ entry_at vol st s → (disk_of v t).entry s ≡ (disk_of vol st).entry s
  entry_stays s e = ap shown_as e

  pub link_stays : (c : ℕ) → t.head.chunks ≡ st.head.chunks → t.head.chunk ≡ st.head.chunk → link_part v t c ≡ link_part vol st c → link_view v t c ≡ link_view vol st c
  unfolding link_view
  link_stays c a b e = rw (e, a, b)

  pub record_stays : (c i : ℕ) → t.head.id ≡ st.head.id → t.head.chunk ≡ st.head.chunk → sector_at v (data_at st c i) ≡ sector_at vol (data_at st c i)
      → (disk_of v t).rec c i ≡ (disk_of vol st).rec c i
  unfolding data_at
  record_stays c i a b e = rw (a, b, e)

  -- sector by sector
  pub entries_stay : ((k : ℕ) → k < body_of st.head.chunks → sector_at v (body_at t k) ≡ sector_at vol (body_at st k)) → SameEntries (disk_of vol st) (disk_of v t)
  unfolding entry_at
  entries_stay body s h = entry_stays s (ap (part (64 * (s % 8)) 64) (body (s / 8) (omega arith)))

  pub links_stay : t.head.chunks ≡ st.head.chunks → t.head.chunk ≡ st.head.chunk
      → ((k : ℕ) → k < body_of st.head.chunks → sector_at v (body_at t k) ≡ sector_at vol (body_at st k)) → SameLinks (disk_of vol st) (disk_of v t)
  unfolding link_part
  links_stay a b body c h = link_stays c a b (ap (part (4 * (c % 128)) 4) (body (8 + c / 128) (omega arith)))

  pub records_stay : t.head.id ≡ st.head.id → t.head.chunk ≡ st.head.chunk → ((j : ℕ) → 64 ≤ j → sector_at v j ≡ sector_at vol j)
      → SameRecords (disk_of vol st) (disk_of v t)
  unfolding data_at
  records_stay a b rest c i hc hi = record_stays c i a b (rest (data_at st c i) (omega arith))

-- ---- nothing changed

pub unchanged : {vol : List ℕ} {st : Store} {v : List ℕ} {t : Store} → SameSectors vol st v t → Unchanged (disk_of vol st) (disk_of v t)
unchanged {vol} {st} {v} {t} s =
    record {
      shape = record { size = s.chunk; chunks = s.chunks };
      next = s.next;
      entries = entries_stay vol st v t s.body;
      links = links_stay vol st v t s.chunks s.chunk s.body;
      records = records_stay vol st v t s.id s.chunk s.rest;
    }

-- another writer: the copy and the header are the same
pub writer_unchanged : (vol : List ℕ) (st t : Store) → t.copy ≡ st.copy → t.head ≡ st.head → Unchanged (disk_of vol st) (disk_of vol t)
writer_unchanged vol st t c h =
    unchanged record {
      id = ap (λ (x : Header). x.id) h;
      next = ap (λ (x : Header). x.next_id) h;
      chunks = ap (λ (x : Header). x.chunks) h;
      chunk = ap (λ (x : Header). x.chunk) h;
      body = λ k q. ap (λ (x : ℕ). sector_at vol (base_of x + 1 + k)) c;
      rest = λ j q. refl;
    }

-- another volume, with the same sectors in the store's copy and from 64 on: what a refused commit or format leaves
pub volume_unchanged : (vol v : List ℕ) (st : Store) → ((k : ℕ) → k < body_of st.head.chunks → sector_at v (body_at st k) ≡ sector_at vol (body_at st k))
    → ((j : ℕ) → 64 ≤ j → sector_at v j ≡ sector_at vol j) → Unchanged (disk_of vol st) (disk_of v st)
volume_unchanged vol v st body rest = unchanged record { id = refl; next = refl; chunks = refl; chunk = refl; body = body; rest = rest }

-- ---- a record is written

either_side : (a b : ℕ) → (a ≡ b → ⊥) → (a < b) ⊎ (b < a)
either_side a b n = go (ltb a b) refl
  where
    go : (x : Bool) → ltb a b ≡ x → (a < b) ⊎ (b < a)
    go true e = inl (ltb-true a b e)
    go false e = inr (omega (arith, ltb-false a b e))

module _ (vol : List ℕ) (st : Store) (c i id number : ℕ) (x : List ℕ) (sane : Sane st.head (sectors_of vol)) (hc : c < st.head.chunks) (hi : i < st.head.chunk)
    (least : 1 ≤ length x) (most : length x ≤ 486) (hstore : st.head.id < 2 ^ 64) (hid : id < 2 ^ 32) (hnumber : number < 2 ^ 32) where
  abbrev pub with_record : List ℕ
  with_record = write_at vol (data_at st c i) (record_of st.head.id id number x)

  inside : data_at st c i < sectors_of vol
  inside = data_inside st c i (sectors_of vol) hc hi sane.room

  size : length (record_of st.head.id id number x) ≡ 512
  size = length_record st.head.id id number x most

  from_64 : (b j : ℕ) → 64 ≤ data_at st b j
  unfolding data_at
  from_64 b j = omega arith

  -- the sectors of both copies are as they were
  body_stays : (k : ℕ) → k < body_of st.head.chunks → sector_at with_record (body_at st k) ≡ sector_at vol (body_at st k)
  body_stays k h =
      sector_other vol (data_at st c i) (record_of st.head.id id number x) size inside (body_at st k)
      (inl (omega (arith, from_64 c i, base_most st.copy, sane.chunks_most)))

  pub recorded : Recorded (disk_of vol st) (disk_of with_record st) c i id number x
  recorded =
      record {
        shape = record { size = refl; chunks = refl };
        next = refl;
        entries = entries_stay vol st with_record st body_stays;
        links = links_stay vol st with_record st refl refl body_stays;
        here =
            ap (rec_view st.head.id) (sector_same vol (data_at st c i) (record_of st.head.id id number x) size inside)
            ∙ record_shown st.head.id id number x hstore hid hnumber least most;
        elsewhere = λ b j hb hj other.
            record_stays vol st with_record st b j refl refl
            (sector_other vol (data_at st c i) (record_of st.head.id id number x) size inside (data_at st b j)
            (either_side (data_at st b j) (data_at st c i) (λ e. let p = data_one st b j c i hj hi e in other p.0 p.1)));
      }

  -- the write itself, where it is done; where it is not, the volume is as it was: plan Order `write_none`
  pub write_recorded : (m : Medium) → (write_record_of vol m st id c i number x).ans.outcome ≡ Ok tt
      → Recorded (disk_of vol st) (disk_of (write_record_of vol m st id c i number x).vol st) c i id number x
  unfolding write_of
  write_recorded m q = rw (sym (write_done vol m (data_at st c i) (record_of st.head.id id number x) refl q refl).0) recorded

-- ---- a fresh store: its body is all zeros, and no data sector passes

pub fresh : (vol : List ℕ) (st : Store) → ((k : ℕ) → k < body_of st.head.chunks → sector_at vol (body_at st k) ≡ zeros 512)
    → ((c i : ℕ) → c < st.head.chunks → i < st.head.chunk → carries_of st.head.id (sector_at vol (data_at st c i)) ≡ false) → Fresh (disk_of vol st)
unfolding entry_at link_part rec_view
fresh vol st body none =
    let part_blank : (o n k : ℕ) → k < body_of st.head.chunks → o + n ≤ 512 → part o n (sector_at vol (body_at st k)) ≡ zeros n
    = λ o n k h q. ap (part o n) (body k h) ∙ part_zeros o n 512 q in
    record {
      entries = λ s h. ap shown_as (part_blank (64 * (s % 8)) 64 (s / 8) (omega arith) (omega arith)) ∙ entry_vacant;
      links = λ c h. link_freed vol st c (part_blank (4 * (c % 128)) 4 (8 + c / 128) (omega arith) (omega arith)) h;
      past = λ c h q. link_past vol st c (part_blank (4 * (c % 128)) 4 (8 + c / 128) (omega arith) (omega arith)) h;
      records = λ c i hc hi. pick_false _ _ (none c i hc hi);
    }
