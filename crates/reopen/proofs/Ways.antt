-- `open_append`, by the way that it goes: a law for each return, over plain values. Assumes nothing.
use Rattle.std.specs.Prelude.{Result, Ok, Err}
use mathlib.Core.Path.{◌≡◌, refl, ◌∙◌}
use mathlib.Core.Bool.{true}
use mathlib.Core.List.{List, []}
use Prim.Native.Nat.{ℕ, ◌-◌, ◌≤◌, ◌<◌}
use native.Mathlib.Omega.{arith}
use Rattle.std.specs.Prelude.{Result, Ok, Err}
use Rattle.le.proofs.Turns.{told}
use Rattle.medium.specs.declared.Error.{Error}
use Rattle.medium.specs.declared.Medium.{Medium}
use Rattle.medium.specs.Sector.{sectors_of}
use Rattle.handles.specs.declared.Store.{Store}
use Rattle.handles.specs.Handles.{store_ok}
use Rattle.handles.proofs.Laws.{Held, store_facts}
use Rattle.directory.specs.declared.Found.{Found}
use Rattle.directory.specs.Scan.{find_of, on_found, found_at}
use Rattle.table.specs.declared.ChainParts.{ChainParts}
use Rattle.table.specs.Table.{chain_of, on_chain}
use Rattle.table.proofs.Walks.{chain_range}
use Rattle.record.specs.Record.{on_result}
use Rattle.append.specs.declared.Handed.{Handed}
use Rattle.append.specs.declared.Tail.{Tail}
use Rattle.files.specs.declared.Rollover.{Rollover}
use Rattle.files.specs.Opened.{refused_at, opened_out}
use Rattle.reopen.specs.Reopen.{records_from, tail_for, file_out, reopen_of}

-- an answer does not tell the volume: these calls only read it
answer_alike : (vol : List ℕ) (m : Medium) (st : Store) (slot id chunk position : ℕ) (tail : Tail) (rollover : Rollover)
    → (opened_out [] m st slot id chunk position tail rollover).ans ≡ (opened_out vol m st slot id chunk position tail rollover).ans
unfolding opened_out
answer_alike vol m st slot id chunk position tail rollover = refl

-- ---- the file found

module _ (rollover : Rollover) (vol : List ℕ) (m : Medium) (st : Store) (slot id : ℕ) {c : Result ChainParts Error} (asked : c ≡ chain_of vol m st slot) where
  pub no_chain_lem : {e : Error} {r : Handed} → c ≡ Err e → r ≡ (refused_at [] m st e).ans → r ≡ (file_out rollover vol m st slot id).ans
  unfolding file_out on_chain
  no_chain_lem q h = rw (h, ← asked, q)

  module _ {p : ChainParts} (q : c ≡ Ok p) where
    -- its last chunk is one of the store's, and its position one that an appender may have
    pub last_placed : store_ok st (sectors_of vol) ≡ true → (1 ≤ p.count) × (p.last < st.head.chunks) × (p.count - 1 ≤ 2047)
    last_placed ok =
        let f = chain_range vol m st slot (told asked q) in
        let h : Held st (sectors_of vol) = store_facts st (sectors_of vol) ok in
        (f.least, f.last, omega (arith, f.most, h.head.chunks_most))

    module _ {n : Result ℕ Error} (counted : n ≡ records_from vol m st id p.last (p.count - 1) st.head.chunk) where
      pub no_count : {e : Error} {r : Handed} → n ≡ Err e → r ≡ (refused_at [] m st e).ans → r ≡ (file_out rollover vol m st slot id).ans
      unfolding file_out on_chain on_result
      no_count t h = rw (h, ← asked, q, ← counted, t)

      pub file_opened : {k : ℕ} {tail : Tail} {r : Handed} → n ≡ Ok k → tail ≡ tail_for st.head.chunk k
          → r ≡ (opened_out [] m st slot id p.last (p.count - 1) tail rollover).ans → r ≡ (file_out rollover vol m st slot id).ans
      unfolding file_out on_chain on_result
      file_opened t l h = h ∙ rw (← asked, q, ← counted, t, ← l) (answer_alike vol m st slot id p.last (p.count - 1) _ rollover)

-- ---- the name

module _ (name : List ℕ) (rollover : Rollover) (vol : List ℕ) (m : Medium) (st : Store) {f : Result Found Error} (asked : f ≡ find_of vol m st name) where
  pub not_found : {e : Error} {r : Handed} → f ≡ Err e → r ≡ (refused_at [] m st e).ans → r ≡ (reopen_of name rollover vol m st).ans
  unfolding reopen_of on_found
  not_found q h = rw (h, ← asked, q)

  pub name_found : {slot id : ℕ} {r : Handed} → f ≡ found_at slot id → r ≡ (file_out rollover vol m st slot id).ans → r ≡ (reopen_of name rollover vol m st).ans
  unfolding reopen_of on_found
  name_found q h = rw (h, ← asked, q)
