-- `list` whole, counts and rows: each row is a file of the directory with the number of its chunks, each such file has a row, there are as many
-- rows as files, and no two rows are alike. Assumes nothing.
use Rattle.std.specs.Prelude.{Ok}
use Prim.Native.Nat.{ℕ, ◌*◌, ◌<◌, ◌≤◌}
use mathlib.Core.Path.{◌≡◌, subst}
use mathlib.Core.Bool.{true}
use mathlib.Core.List.{List}
use lib.ListN.{length}
use Rattle.le.specs.Part.{part, over, zeros}
use Rattle.le.specs.Tally.{tally}
use Rattle.names.specs.Names.{in_dir}
use Rattle.medium.specs.declared.Medium.{Medium}
use Rattle.handles.specs.declared.Store.{Store}
use Rattle.directory.specs.Rows.{row_of, RowsOut, rows_of}
use Rattle.table.specs.Table.{Counted, count_of}
use Rattle.layout.specs.Views.{named, disk_of}
use Rattle.layout.specs.Segments.{Segment, Good}
use Rattle.layout.proofs.Facts.{same_name, same_id}
use Rattle.folds.specs.Checked.{Checked}
use Rattle.folds.specs.Rows.{listed_in}
use Rattle.folds.proofs.Listed.{RowAt, rows_view, rows_apart}
use Rattle.folds.proofs.Chunks.{Counts, counts_view}

module _ (vol : List ℕ) (st : Store) (G : ℕ → List Segment) (dir : List ℕ) where
  -- row k is that of a file in the directory
  pub record FileRow (rows : List ℕ) (k : ℕ) : Type 0 where
    pub slot : ℕ
    pub name : List ℕ
    pub id : ℕ
    pub below : slot < 64
    pub entry : (disk_of vol st).entry slot ≡ named name id
    pub inside : in_dir dir name ≡ true
    pub bytes : part (48 * k) 48 rows ≡ row_of name id (length (G slot))

  pub record Listing (c : Counted) (r : RowsOut) : Type 0 where
    pub counted : c.outcome ≡ Ok tt
    pub made : r.outcome ≡ Ok tt
    pub each : (k : ℕ) → k < r.made.count → FileRow r.made.rows k
    pub every : (s : ℕ) (name : List ℕ) (id : ℕ) → s < 64 → (disk_of vol st).entry s ≡ named name id → in_dir dir name ≡ true
        → (k : ℕ) × (k < r.made.count) × (part (48 * k) 48 r.made.rows ≡ row_of name id (length (G s)))
    pub number : r.made.count ≡ tally (λ s. listed_in dir ((disk_of vol st).entry s)) 64
    pub apart : (j k : ℕ) → j < k → k < r.made.count → part (48 * j) 48 r.made.rows ≡ part (48 * k) 48 r.made.rows → ⊥

module _ (vol : List ℕ) (m : Medium) (st : Store) (ok : Checked vol m st) (G : ℕ → List Segment) (good : Good (disk_of vol st) G) (dir counts rows : List ℕ)
    (counters : 64 ≤ length counts) (room : 3072 ≤ length rows) where
  abbrev count : Counted
  count = count_of vol m st (over 0 (zeros 64) counts)

  numbers : Counts G (length counts) count
  numbers = counts_view vol m st ok G good counts counters

  -- a row that is of slot s
  row_of_lem : (l : List ℕ) (k s : ℕ) → s < 64 → RowAt vol st dir count.counts l k s → (name : List ℕ) (id : ℕ) → (disk_of vol st).entry s ≡ named name id
      → part (48 * k) 48 l ≡ row_of name id (length (G s))
  row_of_lem l k s h x name id v = rw (same_name v x.entry, same_id v x.entry, ← numbers.number s h) x.bytes

  pub list_view : Listing vol st G dir count (rows_of vol m st dir count.counts rows)
  list_view =
      let d = rows_view vol m st ok G good dir count.counts rows room in
      let r = d.1 in
      record {
        counted = numbers.outcome;
        made = d.0;
        each = λ k h.
            let x = r.each k h in
            record {
              slot = r.slot k;
              name = x.name;
              id = x.id;
              below = r.below k h;
              entry = x.entry;
              inside = x.inside;
              bytes = row_of_lem _ k (r.slot k) (r.below k h) x x.name x.id x.entry;
            };
        every = λ s name id h v t.
            let c = r.every s h name id v t in
            (c.0, c.1, row_of_lem _ c.0 s h (subst (RowAt vol st dir count.counts _ c.0) c.2 (r.each c.0 c.1)) name id v);
        number = r.number;
        apart = rows_apart vol m st ok G good dir count.counts _ _ r;
      }
