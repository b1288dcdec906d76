-- What the walks' answers tell: slots below 64, names of at most 40 bytes, ids that are not 0, and the entries behind them. Assumes nothing.
use mathlib.Core.Path.{◌≡◌, refl, sym, ap, ◌∙◌, subst}
use mathlib.Core.Bool.{Bool, true, false, not, ◌&&◌}
use mathlib.Core.List.{List}
use Prim.Native.Nat.{ℕ, ◌+◌, ◌*◌, ◌<◌, ◌≤◌}
use native.Mathlib.Omega.{arith}
use borrow.Author.Tests.{not-true, eqb-true}
use lib.Dec.{eqb}
use lib.ListN.{length, drop}
use lib.Seq.{drop-drop}
use Rattle.std.specs.Prelude.{Option, None, Some, Result, Ok, Err}
use Rattle.std.specs.Option.{option_or}
use Rattle.le.specs.Part.{part}
use Rattle.le.proofs.Choices.{pick_keeps, pick_keeps_by}
use Rattle.le.proofs.Parts.{length_over, drop_over}
use Rattle.le.proofs.Bools.{and_true}
use Rattle.runs.specs.Run.{same_bytes}
use Rattle.runs.proofs.Tests.{same_true}
use Rattle.names.specs.Names.{name_ok, in_dir}
use Rattle.medium.specs.declared.Error.{Error}
use Rattle.medium.specs.declared.Error.TheVariants.{NotFound, Lost}
use Rattle.medium.specs.declared.Medium.{Medium}
use Rattle.handles.specs.declared.Store.{Store}
use Rattle.directory.specs.declared.Found.{Found}
use Rattle.directory.specs.declared.Old.{Old}
use Rattle.directory.specs.declared.Seen.{Seen}
use Rattle.directory.specs.Entry.{file_of, entry_of, entry_at, slot_at}
use Rattle.directory.specs.Rows.{row_of, Made, row_made, listing, rows_of}
use Rattle.directory.specs.Scan.{scan_of, found_at, first, find_of, find_id_of, free_seen, file_seen, looking, look_of, spares, is_older, older_of, seeking, oldest_of}
use Rattle.directory.proofs.Entries.{found_file, slot_file, slot_free}
use Rattle.directory.proofs.RowParts.{length_row}
use Rattle.directory.proofs.Scans.{Left, scan_keeps}

-- slot i holds the file `id`, whose name this is
pub record FileAt (vol : List ℕ) (st : Store) (i id : ℕ) (name : List ℕ) : Type 0 where
  pub below : i < 64
  pub some : id ≡ 0 → ⊥
  pub short : length name ≤ 40
  pub fine : name_ok name ≡ true
  pub entry : entry_of (entry_at vol st i) ≡ file_of id (length name)
  pub named : part 0 (length name) (entry_at vol st i) ≡ name

file_at : (vol : List ℕ) (m : Medium) (st : Store) (i id len : ℕ) → i < 64 → slot_at vol m st i ≡ file_of id len → FileAt vol st i id (part 0 len (entry_at vol st i))
file_at vol m st i id len h q =
    let f = found_file vol m st i refl q in
    record {
      below = h;
      some = f.some;
      short = rw f.whole f.short;
      fine = f.name;
      entry = rw f.whole (slot_file vol m st i q);
      named = ap (λ (n : ℕ). part 0 n (entry_at vol st i)) f.whole;
    }

-- slot i is free
pub record FreeAt (vol : List ℕ) (st : Store) (i : ℕ) : Type 0 where
  pub below : i < 64
  pub entry : entry_of (entry_at vol st i) ≡ Ok None

-- the file that goes: it is in the directory, and not spared
pub record OldAt (vol : List ℕ) (st : Store) (dir : List ℕ) (spared : Option ℕ) (o : Old) : Type 0 where
  pub short : o.len ≤ 40
  pub file : FileAt vol st o.slot o.id (part 0 o.len (entry_at vol st o.slot))
  pub inside : in_dir dir (part 0 o.len (entry_at vol st o.slot)) ≡ true
  pub goes : spares spared o.id ≡ false

-- no more rows are made than this; their lent bytes stay as many, and those past the rows as they were
pub record MadeFrom (rows : List ℕ) (most : ℕ) (s : Made) : Type 0 where
  pub few : s.count ≤ most
  pub size : length s.rows ≡ length rows
  pub rest : drop (48 * s.count) s.rows ≡ drop (48 * s.count) rows

module _ (vol : List ℕ) (m : Medium) (st : Store) where
  -- ---- find and find_id: the file is there, and the test takes it

  abbrev FirstQ : (ℕ → List ℕ → Bool) → Result Found Error → Type 0
  FirstQ test (Err e) = Unit
  FirstQ test (Ok x) = (name : List ℕ) × FileAt vol st x.slot x.id name × (test x.id name ≡ true)

  first_file : (test : ℕ → List ℕ → Bool) (none : Error) {i id : ℕ} → scan_of (first test none) vol m st tt ≡ found_at i id → FirstQ test (found_at i id)
  first_file test none e =
      subst (FirstQ test) e
      (scan_keeps (first test none) vol m st (λ i t. Unit) (FirstQ test) (λ i t e h p q. tt) (λ i t h p q. tt)
      (λ i t id len h p q.
      let name : List ℕ = part 0 len (entry_at vol st i) in
      pick_keeps_by (Left (λ u. Unit) (FirstQ test)) (test id name) _ _ (λ takes. (name, file_at vol m st i id len h q, takes)) (λ other. tt))
      (λ t p. tt) tt tt)

  pub find_name : (name : List ℕ) {i id : ℕ} → find_of vol m st name ≡ found_at i id → FileAt vol st i id name
  unfolding find_of
  find_name name e = let f = first_file (λ _ n. same_bytes name n) NotFound e in rw (same_true name f.0 f.2) f.1

  pub find_id : (id : ℕ) {i k : ℕ} → find_id_of vol m st id ≡ found_at i k → (k ≡ id) × ((name : List ℕ) × FileAt vol st i k name)
  unfolding find_id_of
  find_id id e = let f = first_file (λ k _. eqb k id) Lost e in (eqb-true _ id f.2, (f.0, f.1))

  -- ---- create's look

  abbrev FreeP : Option ℕ → Type 0
  FreeP None = Unit
  FreeP (Some i) = FreeAt vol st i

  abbrev LookQ : Result Seen Error → Type 0
  LookQ (Err e) = Unit
  LookQ (Ok s) = FreeP s.free

  free_kept : (i : ℕ) (o : Option ℕ) → FreeAt vol st i → FreeP o → FreeP (option_or o (Some i))
  free_kept i None f p = f
  free_kept i (Some k) f p = p

  file_kept : (same : Bool) (s : Seen) → FreeP s.free → FreeP (file_seen same s).free
  unfolding file_seen
  file_kept same s p = pick_keeps (λ (s : Seen). FreeP s.free) same _ _ p p

  pub look_free : (name : List ℕ) {s : Seen} → look_of vol m st name ≡ Ok s → {i : ℕ} → s.free ≡ Some i → FreeAt vol st i
  unfolding look_of free_seen
  look_free name e q =
      subst FreeP q
      (subst LookQ e
      (scan_keeps (looking name) vol m st (λ i s. FreeP s.free) LookQ (λ i s e h p q. tt)
      (λ i s h p q. free_kept i s.free (record { below = h; entry = slot_free vol m st i q }) p)
      (λ i s id len h p q. file_kept _ s p) (λ s p. p) _ tt))

  -- ---- the oldest file

  module _ (dir : List ℕ) (spared : Option ℕ) where
    abbrev OldP : Option Old → Type 0
    OldP None = Unit
    OldP (Some o) = OldAt vol st dir spared o

    abbrev OldQ : Result (Option Old) Error → Type 0
    OldQ (Err e) = Unit
    OldQ (Ok o) = OldP o

    old_kept : (i id : ℕ) (name : List ℕ) (o : Option Old) → FileAt vol st i id name → OldP o
        → OldP (older_of i id (length name) (in_dir dir name && not (spares spared id)) o)
    unfolding older_of
    old_kept i id name o f p =
        let counts : Bool = in_dir dir name && not (spares spared id) in
        let first : Bool = is_older id o in
        pick_keeps_by OldP (counts && first) _ _
        (λ t.
        let a = and_true counts first t in
        let b = and_true (in_dir dir name) (not (spares spared id)) a.0 in
        record {
          short = f.short;
          file = rw f.named f;
          inside = rw f.named b.0;
          goes = not-true (spares spared id) b.1;
        })
        (λ _. p)

    pub oldest_file : {o : Old} → oldest_of vol m st dir spared ≡ Ok (Some o) → OldAt vol st dir spared o
    unfolding oldest_of
    oldest_file e =
        subst OldQ e
        (scan_keeps (seeking dir spared) vol m st (λ i o. OldP o) OldQ (λ i o e h p q. tt) (λ i o h p q. p)
        (λ i o id len h p q. old_kept i id (part 0 len (entry_at vol st i)) o (file_at vol m st i id len h q) p) (λ o p. p) None tt)

  -- ---- the rows

  module _ (rows : List ℕ) (room : 3072 ≤ length rows) where
    row_kept : (i id chunks : ℕ) (name : List ℕ) (s : Made) → i < 64 → length name ≤ 40 → MadeFrom rows i s → MadeFrom rows (i + 1) (row_made name id chunks s)
    unfolding row_made
    row_kept i id chunks name s h short p =
        let row : List ℕ = row_of name id chunks in
        let n : length row ≡ 48 = length_row name id chunks short in
        let fits : 48 * s.count + length row ≤ length s.rows = omega (arith, p.few, p.size) in
        let e : 48 * s.count + length row ≡ 48 * s.count + 48 = omega arith in
        let g : 48 * (s.count + 1) ≡ 48 * s.count + 48 = omega arith in
        record {
          few = omega (arith, p.few);
          size = length_over (48 * s.count) row s.rows fits ∙ p.size;
          rest =
              rw g
              ((rw e at (drop_over (48 * s.count) row s.rows fits))
              ∙ sym (drop-drop 48 (48 * s.count) s.rows) ∙ ap (drop 48) p.rest ∙ drop-drop 48 (48 * s.count) rows);
        }

    more : {i : ℕ} {s : Made} → MadeFrom rows i s → MadeFrom rows (i + 1) s
    more p = record { few = omega (arith, p.few); size = p.size; rest = p.rest }

    most : {i : ℕ} {s : Made} → i ≤ 64 → MadeFrom rows i s → MadeFrom rows 64 s
    most h p = record { few = omega (arith, p.few); size = p.size; rest = p.rest }

    pub rows_made : (dir counts : List ℕ) → MadeFrom rows 64 (rows_of vol m st dir counts rows).made
    unfolding rows_of
    rows_made dir counts =
        scan_keeps (listing dir counts) vol m st (MadeFrom rows) (λ r. MadeFrom rows 64 r.made) (λ i s e h p q. most (omega arith) p) (λ i s h p q. more p)
        (λ i s id len h p q.
        pick_keeps (MadeFrom rows (i + 1)) (in_dir dir (part 0 len (entry_at vol st i))) _ _
        (row_kept i id _ (part 0 len (entry_at vol st i)) s h (file_at vol m st i id len h q).short p) (more p))
        (λ s p. p) _ (record { few = omega arith; size = refl; rest = refl })
