-- `list`: each row is a file of the directory, each file has a row, in slot order, and there are as many rows as files. Assumes nothing.
use Rattle.std.specs.Prelude.{Ok}
use Prim.Native.Nat.{ℕ, ◌+◌, ◌-◌, ◌*◌, ◌<◌, ◌≤◌}
use mathlib.Core.Path.{◌≡◌, refl, sym, ap, ◌∙◌}
use mathlib.Core.Bool.{Bool, true, false}
use mathlib.Core.List.{List, ◌++◌}
use native.Mathlib.Omega.{arith}
use borrow.Author.Count.{below_more, below_none}
use lib.ListN.{length, get_or, take, length-append}
use lib.Seq.{take_at, take-append_seam}
use Rattle.le.specs.Field.{le_bytes}
use Rattle.le.specs.Part.{part, over, zeros}
use Rattle.le.specs.Tally.{tally}
use Rattle.le.proofs.Choices.{pick_keeps_by}
use Rattle.le.proofs.Parts.{length_zeros, length_over, part_over, part_before}
use Rattle.le.proofs.Tallies.{tally_yes, tally_no, tally_start}
use Rattle.names.specs.Names.{name_ok, text_len, in_dir}
use Rattle.names.proofs.Laws.{name_short, name_padded}
use Rattle.medium.specs.declared.Medium.{Medium}
use Rattle.handles.specs.declared.Store.{Store}
use Rattle.directory.specs.Rows.{row_of, Made, row_made, listing, rows_of}
use Rattle.directory.proofs.RowParts.{length_row}
use Rattle.layout.specs.Views.{vacant, named, disk_of}
use Rattle.layout.specs.Segments.{Segment, Good}
use Rattle.layout.proofs.Facts.{vacant≢named, same_name, true≢false}
use Rattle.folds.specs.Checked.{Checked}
use Rattle.folds.specs.Rows.{listed_in}
use Rattle.folds.proofs.Walked.{scan_views}
use Rattle.folds.proofs.Named.{view_file}
use Rattle.folds.proofs.Placed.{placed, placed_here, placed_below}

module _ (vol : List ℕ) (st : Store) (dir counts : List ℕ) where
  abbrev listed : ℕ → Bool
  listed s = listed_in dir ((disk_of vol st).entry s)

  -- row k is that of the file in slot s
  pub record RowAt (rows : List ℕ) (k s : ℕ) : Type 0 where
    pub name : List ℕ
    pub id : ℕ
    pub entry : (disk_of vol st).entry s ≡ named name id
    pub inside : in_dir dir name ≡ true
    pub bytes : part (48 * k) 48 rows ≡ row_of name id (get_or counts s 0)

  -- the rows made of the slots below n, in bytes as many as lent
  pub record Rows (lent n : ℕ) (made : Made) : Type 0 where
    pub slot : ℕ → ℕ
    pub each : (k : ℕ) → k < made.count → RowAt made.rows k (slot k)
    pub below : (k : ℕ) → k < made.count → slot k < n
    pub order : (j k : ℕ) → j < k → k < made.count → slot j < slot k
    pub every : (s : ℕ) → s < n → (name : List ℕ) (id : ℕ) → (disk_of vol st).entry s ≡ named name id → in_dir dir name ≡ true
        → (k : ℕ) × (k < made.count) × (slot k ≡ s)
    pub number : made.count ≡ tally listed n
    pub few : made.count ≤ n
    pub size : length made.rows ≡ lent

  abbrev Covered : ℕ → (ℕ → ℕ) → ℕ → Type 0
  Covered count slot s = (name : List ℕ) (id : ℕ) → (disk_of vol st).entry s ≡ named name id → in_dir dir name ≡ true → (k : ℕ) × (k < count) × (slot k ≡ s)

  -- slot n has no file of the directory
  skipped : (lent n : ℕ) (made : Made) → listed n ≡ false → ((name : List ℕ) (id : ℕ) → (disk_of vol st).entry n ≡ named name id → in_dir dir name ≡ true → ⊥)
      → Rows lent n made → Rows lent (n + 1) made
  skipped lent n made e none p =
      record {
        slot = p.slot;
        each = p.each;
        below = λ k h. omega (arith, p.below k h);
        order = p.order;
        every = below_more (Covered made.count p.slot) n p.every (λ name id v t. absurd (none name id v t));
        number = p.number ∙ sym (tally_no listed n e);
        few = omega (arith, p.few);
        size = p.size;
      }

  -- slot n has the file
  module _ (lent n : ℕ) (made : Made) (p : Rows lent n made) (room : 48 * n + 48 ≤ lent) (name : List ℕ) (id : ℕ) (short : length name ≤ 40)
      (v : (disk_of vol st).entry n ≡ named name id) (t : in_dir dir name ≡ true) where
    abbrev row : List ℕ
    row = row_of name id (get_or counts n 0)

    abbrev slots : ℕ → ℕ
    slots = placed p.slot made.count n

    long : length row ≡ 48
    long = length_row name id (get_or counts n 0) short

    fits : 48 * made.count + length row ≤ length made.rows
    fits = rw long (omega (arith, p.few, p.size))

    abbrev rows : List ℕ
    rows = over (48 * made.count) row made.rows

    row_new : RowAt rows made.count (slots made.count)
    row_new =
        rw (placed_here p.slot made.count n)
        (record {
          name = name;
          id = id;
          entry = v;
          inside = t;
          bytes = ap (λ (l : ℕ). part (48 * made.count) l rows) (sym long) ∙ part_over (48 * made.count) row made.rows fits;
        })

    row_old : (k : ℕ) → k < made.count → RowAt rows k (slots k)
    row_old k h =
        let r = p.each k h in
        rw (placed_below p.slot made.count n k h)
        (record {
          name = r.name;
          id = r.id;
          entry = r.entry;
          inside = r.inside;
          bytes = part_before (48 * made.count) row made.rows fits (48 * k) 48 (omega arith) ∙ r.bytes;
        })

    listed_here : listed n ≡ true
    unfolding listed_in
    listed_here = rw v t

    added : Rows lent (n + 1) (row_made name id (get_or counts n 0) made)
    unfolding row_made
    added =
        record {
          slot = slots;
          each = below_more (λ (k : ℕ). RowAt rows k (slots k)) made.count row_old row_new;
          below = below_more (λ (k : ℕ). slots k < n + 1) made.count
              (λ k h. rw (placed_below p.slot made.count n k h) (omega (arith, p.below k h)))
              (rw (placed_here p.slot made.count n) (omega arith));
          order = λ j k h c. below_more (λ (k : ℕ). j < k → slots j < slots k) made.count
              (λ k b a. rw (placed_below p.slot made.count n k b, placed_below p.slot made.count n j (omega arith)) (p.order j k a b))
              (λ a. rw (placed_here p.slot made.count n, placed_below p.slot made.count n j a) (p.below j a)) k c h;
          every = below_more (Covered (made.count + 1) slots) n
              (λ s b name id w u.
              let c = p.every s b name id w u in
              (c.0, omega (arith, c.1), placed_below p.slot made.count n c.0 c.1 ∙ c.2))
              (λ name id w u. (made.count, omega arith, placed_here p.slot made.count n));
          number = ap (λ (k : ℕ). k + 1) p.number ∙ sym (tally_yes listed n listed_here);
          few = omega (arith, p.few);
          size = length_over (48 * made.count) row made.rows fits ∙ p.size;
        }

module _ (vol : List ℕ) (m : Medium) (st : Store) (ok : Checked vol m st) (G : ℕ → List Segment) (good : Good (disk_of vol st) G) (dir counts rows : List ℕ) (room : 3072 ≤ length rows) where
  met_free : (n : ℕ) (made : Made) → (disk_of vol st).entry n ≡ vacant → Rows vol st dir counts (length rows) n made → Rows vol st dir counts (length rows) (n + 1) made
  unfolding listed_in
  met_free n made q p = skipped vol st dir counts (length rows) n made (rw q) (λ name id v t. vacant≢named q v) p

  met_other : (n : ℕ) (made : Made) (name : List ℕ) (id : ℕ) → (disk_of vol st).entry n ≡ named name id → in_dir dir name ≡ false
      → Rows vol st dir counts (length rows) n made → Rows vol st dir counts (length rows) (n + 1) made
  unfolding listed_in
  met_other n made name id q f p =
      skipped vol st dir counts (length rows) n made (rw (q, f)) (λ name' id' v t. true≢false (rw (same_name q v) t) f) p

  pub rows_view : ((rows_of vol m st dir counts rows).outcome ≡ Ok tt) × Rows vol st dir counts (length rows) 64 (rows_of vol m st dir counts rows).made
  unfolding rows_of
  rows_view =
      scan_views vol m st ok (listing dir counts) (Rows vol st dir counts (length rows))
      (λ r. (r.outcome ≡ Ok tt) × Rows vol st dir counts (length rows) 64 r.made) good.whole
      (λ n made b p q. met_free n made q p)
      (λ n made name id b p q.
      pick_keeps_by (Rows vol st dir counts (length rows) (n + 1)) (in_dir dir name) _ _
      (λ t. added vol st dir counts (length rows) n made p (omega arith) name id (view_file vol m st ok b q).short q t)
      (λ f. met_other n made name id q f p))
      (λ made p. (refl, p)) _
      (record {
        slot = λ k. 0;
        each = below_none _;
        below = below_none _;
        order = λ j k h b. absurd (omega arith);
        every = below_none _;
        number = sym (tally_start _);
        few = omega arith;
        size = refl;
      })

-- ---- no two rows alike

-- the name in a row
abbrev name_in : List ℕ → List ℕ
name_in row = take (text_len (take 40 row)) (take 40 row)

name_in_lem : (n : List ℕ) (i c : ℕ) → name_ok n ≡ true → name_in (row_of n i c) ≡ n
unfolding row_of
name_in_lem n i c ok =
    let short : length n ≤ 40 = name_short n ok in
    let long : length (n ++ zeros (40 - length n)) ≡ 40 = omega (arith, length-append n (zeros (40 - length n)), length_zeros (40 - length n)) in
    rw (take_at (n ++ zeros (40 - length n)) (le_bytes 4 i ++ le_bytes 4 c) 40 long, name_padded n ok (40 - length n)) (take-append_seam n (zeros (40 - length n)))

pub rows_apart : (vol : List ℕ) (m : Medium) (st : Store) → Checked vol m st → (G : ℕ → List Segment) → Good (disk_of vol st) G → (dir counts : List ℕ) (lent : ℕ) (made : Made)
    → Rows vol st dir counts lent 64 made → (j k : ℕ) → j < k → k < made.count → part (48 * j) 48 made.rows ≡ part (48 * k) 48 made.rows → ⊥
rows_apart vol m st ok G good dir counts lent made r j k h b e =
    let a : j < made.count = omega arith in
    let x = r.each j a in
    let y = r.each k b in
    let n : x.name ≡ y.name =
    sym (name_in_lem x.name x.id _ (view_file vol m st ok (r.below j a) x.entry).fine) ∙ ap name_in (sym x.bytes ∙ e ∙ y.bytes)
    ∙ name_in_lem y.name y.id _ (view_file vol m st ok (r.below k b) y.entry).fine in
    let z : r.slot j ≡ r.slot k = good.names (r.slot j) (r.slot k) _ _ _ _ (r.below j a) (r.below k b) x.entry y.entry n in
    omega (arith, r.order j k h b)
