-- S-9: a listing is that of a buffer of 64 zeros, with what lay past the 64th number behind its counts. Assumes nothing.
use Rattle.std.specs.Prelude.{Err, Ok, Result}
use mathlib.Core.Path.{◌≡◌, refl, sym, ap, ◌∙◌, subst}
use mathlib.Core.Bool.{Bool, true, false, or-true}
use mathlib.Core.List.{List, ◌++◌}
use Prim.Native.Nat.{ℕ, ◌+◌, ◌-◌, ◌<◌, ◌≤◌}
use native.Mathlib.Omega.{arith}
use borrow.Author.Tests.{lt-ltb, ltb-true, ltb-false}
use lib.Dec.{ltb, lit≤}
use lib.ListN.{length, get_or, take, drop, length-append, length-drop, get_or-append}
use lib.Seq.{take_at, drop_at, get_or-append-add, get_or-drop}
use Rattle.le.specs.Choice.{pick}
use Rattle.le.specs.Part.{over, zeros}
use Rattle.le.proofs.Choices.{pick_keeps_by}
use Rattle.le.proofs.Parts.{length_zeros, get_or_zeros, over_zeros}
use Rattle.names.specs.Names.{dir_ok}
use Rattle.medium.specs.declared.Error.{Error}
use Rattle.medium.specs.declared.Error.TheVariants.{Range}
use Rattle.medium.specs.declared.Medium.{Medium}
use Rattle.medium.specs.Refusal.{on_done}
use Rattle.medium.proofs.Laws.{on_done_keeps}
use Rattle.handles.specs.declared.Store.{Store}
use Rattle.directory.specs.Rows.{RowsOut, rows_of}
use Rattle.directory.proofs.RowParts.{rows_same}
use Rattle.table.specs.Table.{Counted, count_of}
use Rattle.table.proofs.Counts.{LongerCounted, count_past, count_most}
use Rattle.store.specs.Asked.{asked_dir}
use Rattle.store.specs.Reading.{ListCall, list_at, list_answer, not_listed, list_from, list_call}
use Rattle.store.specs.Widths.{Passes, SameTold, Fits, Widths}
use Rattle.store.proofs.Laws.{asked_done}
use Rattle.store.proofs.Lists.{short, roomy, long_enough, short_refused}

module _ (vol : List ℕ) (m : Medium) (st : Store) (dir rows : List ℕ) where
  -- the counts of 64 numbers, and the rows by them
  abbrev firsts : Counted
  firsts = count_of vol m st (zeros 64)

  abbrev made : RowsOut
  made = rows_of vol m st dir firsts.counts rows

  -- the listing of a buffer that ends up so
  abbrev leaves : Result Unit Error → List ℕ → ListCall
  leaves o counts = on_done o (list_at m made.outcome made.made.count counts made.made.rows) (λ e. list_answer (not_listed m e) counts rows)

  leaves_told : (o : Result Unit Error) (c d : List ℕ) → SameTold (leaves o c) (leaves o d)
  unfolding on_done
  leaves_told (Ok tt) c d = record { answer = refl; made = refl; medium = refl; rows = refl }
  leaves_told (Err e) c d = record { answer = refl; made = refl; medium = refl; rows = refl }

  leaves_counts : (o : Result Unit Error) (c : List ℕ) → (leaves o c).counts ≡ c
  leaves_counts o c = on_done_keeps (λ (r : ListCall). r.counts ≡ c) o _ _ (λ _. refl) (λ e _. refl)

  -- ---- whatever is lent, that comes of it

  module _ (counts : List ℕ) where
    abbrev all : List ℕ
    all = firsts.counts ++ drop 64 counts

    both : LongerCounted vol m st (drop 64 counts) firsts (count_of vol m st (over 0 (zeros 64) counts))
    both = rw (over_zeros 64 counts) (count_past vol m st (drop 64 counts) (zeros 64) (length_zeros 64))

    first_of : (k : ℕ) → k < 64 → get_or all k 0 ≡ get_or firsts.counts k 0
    first_of k h = get_or-append firsts.counts (drop 64 counts) 0 k (omega (arith, both.size))

    from : list_from vol m st dir counts rows ≡ leaves firsts.outcome all
    unfolding list_from
    from = rw (both.outcome, both.counts, rows_same vol m st dir all firsts.counts first_of rows)

    counts_from : (list_from vol m st dir counts rows).counts ≡ all
    counts_from = ap (λ (c : ListCall). c.counts) from ∙ leaves_counts firsts.outcome all

  -- ---- by the tests of the input

  by_input : (P : ListCall → Type 0) (counts : List ℕ) → ((e : Error) → P (list_answer (not_listed m e) counts rows))
      → (Passes vol st dir counts rows → P (list_from vol m st dir counts rows)) → P (list_call vol m st dir counts rows)
  unfolding list_call
  by_input P counts bad fine =
      pick_keeps_by P (short counts rows) _ _ (λ _. bad Range)
      (λ f. on_done_keeps P (asked_dir vol st dir) _ _
      (λ d. let n = roomy counts rows f in fine (record { rows_lent = n.0; counts_lent = n.1; asked = d })) (λ e _. bad e))

  counts_of : (counts : List ℕ) → Passes vol st dir counts rows → (list_call vol m st dir counts rows).counts ≡ all counts
  unfolding list_call pick on_done
  counts_of counts p = rw (long_enough counts rows p.counts_lent p.rows_lent, p.asked) (counts_from counts)

  same_told : (wide narrow : List ℕ) → ltb (length wide) 64 ≡ ltb (length narrow) 64 → SameTold (list_call vol m st dir wide rows) (list_call vol m st dir narrow rows)
  unfolding list_call pick on_done
  same_told wide narrow e = rw e (go (short narrow rows) (asked_dir vol st dir))
    where
      refusal : (e : Error) → SameTold (list_answer (not_listed m e) wide rows) (list_answer (not_listed m e) narrow rows)
      refusal e = record { answer = refl; made = refl; medium = refl; rows = refl }

      go : (b : Bool) (o : Result Unit Error)
          → SameTold (pick b (list_answer (not_listed m Range) wide rows) (on_done o (list_from vol m st dir wide rows) (λ e. list_answer (not_listed m e) wide rows)))
          (pick b (list_answer (not_listed m Range) narrow rows) (on_done o (list_from vol m st dir narrow rows) (λ e. list_answer (not_listed m e) narrow rows)))
      go true o = refusal Range
      go false (Ok tt) = rw (from wide, from narrow) (leaves_told firsts.outcome (all wide) (all narrow))
      go false (Err e) = refusal e

  too_short : (counts : List ℕ) → length counts < 64 → short counts rows ≡ true
  too_short counts h = rw (lt-ltb (length counts) 64 h) (or-true (ltb (length rows) 3072))

  few : (k : ℕ) → k < 64 → get_or firsts.counts k 0 ≤ st.head.chunks
  few = count_most vol m st (zeros 64) (rw (length_zeros 64) (lit≤ tt)) (λ k h. get_or_zeros 64 k)

  most_of : (counts : List ℕ) → Passes vol st dir counts rows → st.head.chunks ≤ 2048
  most_of counts p = (asked_done vol st (dir_ok dir) refl p.asked).held.head.chunks_most

  -- the first 64 are counts, the others as lent
  module _ (counts : List ℕ) (room : 64 ≤ length counts) where
    size_of : length (all counts) ≡ length counts
    size_of = omega (arith, length-append firsts.counts (drop 64 counts), length-drop 64 counts, (both counts).size, room)

    past_of : (j : ℕ) → get_or (all counts) (64 + j) 0 ≡ get_or counts (64 + j) 0
    past_of j = ap (λ (n : ℕ). get_or (all counts) (n + j) 0) (sym (both counts).size) ∙ get_or-append-add firsts.counts (drop 64 counts) j 0 ∙ get_or-drop 64 counts j 0

    all_fit : st.head.chunks ≤ 2048 → Fits 16 counts → Fits 16 (all counts)
    all_fit most f k h = go (ltb k 64) refl
      where
        go : (b : Bool) → ltb k 64 ≡ b → get_or (all counts) k 0 < 65536
        go true t = let b : k < 64 = ltb-true k 64 t in rw (first_of counts k b) (omega (arith, few k b))
        go false t =
            let e : 64 + (k - 64) ≡ k = omega (arith, ltb-false k 64 t) in
            subst (λ (i : ℕ). get_or (all counts) i 0 < 65536) e (rw (past_of (k - 64), e) (f k (omega (arith, size_of))))

  pub widths : Widths vol m st dir rows
  widths =
      record {
        told = same_told;
        first = λ wide narrow p q.
            ap (take 64) (counts_of wide p) ∙ take_at firsts.counts _ 64 (both wide).size ∙ sym (ap (take 64) (counts_of narrow q) ∙ take_at firsts.counts _ 64 (both narrow).size);
        most = λ counts p k h. (rw (counts_of counts p, first_of counts k h) (few k h), most_of counts p);
        fits = λ counts f.
            by_input (λ (c : ListCall). Fits 16 c.counts) counts (λ e. f)
            (λ p. subst (Fits 16) (sym (counts_from counts)) (all_fit counts p.counts_lent (most_of counts p) f));
        past = λ counts.
            by_input (λ (c : ListCall). drop 64 c.counts ≡ drop 64 counts) counts (λ e. refl)
            (λ p. ap (drop 64) (counts_from counts) ∙ drop_at firsts.counts (drop 64 counts) 64 (both counts).size);
        size = λ counts.
            by_input (λ (c : ListCall). length c.counts ≡ length counts) counts (λ e. refl)
            (λ p. ap length (counts_from counts) ∙ size_of counts p.counts_lent);
        kept = λ counts fails. by_input (λ (c : ListCall). c.counts ≡ counts) counts (λ e. refl) (λ p. absurd (fails p));
        short = λ counts h. sym (short_refused vol m st dir counts rows (too_short counts h) refl);
      }
