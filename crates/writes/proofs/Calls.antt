-- How many writes each call on offer that can write makes at most: for every volume, medium record and handle, whether it is accepted, refused or
-- stopped. A store value has 24 checksums and an appender 486 bytes of buffer: their types say so, and the laws have it as a premise. Assumes nothing.
use Prim.Native.Nat.{ℕ, ◌+◌, ◌-◌, ◌/◌, ◌^◌, ◌≤◌}
use mathlib.Core.Path.{◌≡◌, refl}
use mathlib.Core.Bool.{Bool, ◌&&◌}
use mathlib.Core.List.{List, []}
use native.Mathlib.Omega.{arith}
use lib.Dec.{eqb, leb}
use lib.ListN.{length}
use Rattle.le.specs.Choice.{pick}
use Rattle.le.proofs.Choices.{pick_keeps}
use Rattle.names.specs.Names.{name_ok}
use Rattle.medium.specs.declared.Medium.{Medium}
use Rattle.medium.specs.Sector.{sectors_of}
use Rattle.medium.proofs.Laws.{on_done_keeps}
use Rattle.handles.specs.declared.Store.{Store}
use Rattle.handles.specs.Handles.{open_file}
use Rattle.header.specs.Copies.{headers_of}
use Rattle.directory.specs.Scan.{find_of}
use Rattle.directory.proofs.Decides.{on_found_keeps}
use Rattle.plan.specs.declared.Edit.TheVariants.{Remove}
use Rattle.plan.specs.Copy.{Out}
use Rattle.commit.specs.Commit.{commit_of}
use Rattle.format.specs.Format.{chunks_of, copy_for, newest_of, format_head, format_plan, format_over, format_of}
use Rattle.remove.specs.Remove.{GoneOut}
use Rattle.append.specs.declared.Appender.{Appender}
use Rattle.append.specs.Flush.{AppOut}
use Rattle.append.specs.Calls.{AppCall, may_write, offered, append_call, sync_call}
use Rattle.append.proofs.Facts.{may_facts}
use Rattle.store.specs.Asked.{asked_name, asked_dir}
use Rattle.store.specs.Writing.{format_call, delete_call, oldest_call, oldest_told}
use Rattle.store.specs.Opening.{rollover_of, admitted_of, create_call}
use Rattle.store.proofs.Laws.{asked_done}
use Rattle.store.proofs.Admits.{create_is}
use Rattle.store.proofs.Opens.{input_fits}
use Rattle.writes.specs.Writes.{Most, commit_most, create_most, records_most}
use Rattle.writes.proofs.Copies.{copy_most, commit_most_lem}
use Rattle.writes.proofs.Removals.{remove_most, oldest_most}
use Rattle.writes.proofs.Appends.{append_most, sync_most}
use Rattle.writes.proofs.Creates.{create_most_lem}

-- ---- format: of the chunks that the new store gets

pub format_writes : (vol : List ℕ) (m : Medium) (size seed : ℕ) → Most (commit_most (chunks_of (sectors_of vol) size)) m (format_call vol m size seed).call.medium
unfolding format_call format_of format_over format_plan format_head
format_writes vol m size seed =
    let n : ℕ = chunks_of (sectors_of vol) size in
    let P : Out → Type 0 = λ o. Most (commit_most n) m o.ans.medium in
    pick_keeps P (leb 1 size && leb size 512) _ _
    (on_done_keeps P (headers_of vol m).outcome _ _
    (λ _. pick_keeps P (eqb n 0) _ _ (omega arith)
    (pick_keeps P (eqb (newest_of (headers_of vol m)) (2 ^ 64 - 1)) _ _ (omega arith)
    (copy_most (format_plan (copy_for (headers_of vol m)) (format_head (headers_of vol m) m n size seed)) vol m)))
    (λ e _. omega arith))
    (omega arith)

module _ (vol : List ℕ) (m : Medium) (st : Store) where
  abbrev chunks : ℕ
  chunks = st.head.chunks

  -- ---- delete, delete_oldest

  each : (slot : ℕ) → Most (commit_most chunks) m (commit_of (Remove slot) [] vol m st).ans.medium
  each slot = commit_most_lem (Remove slot) [] vol m st

  pub delete_writes : (name : List ℕ) → Most (commit_most chunks) m (delete_call vol m st name).call.medium
  unfolding delete_call
  delete_writes name =
      let P : Out → Type 0 = λ o. Most (commit_most chunks) m o.ans.medium in
      on_done_keeps P (asked_name vol st name) _ _
      (λ _. on_found_keeps P (find_of vol m st name) _ _ (λ e _. omega arith) (λ slot id _. remove_most vol m st (commit_most chunks) each slot id))
      (λ e _. omega arith)

  pub oldest_writes : (dir : List ℕ) → Most (commit_most chunks) m (oldest_call vol m st dir).call.medium
  unfolding oldest_call oldest_told
  oldest_writes dir =
      on_done_keeps (λ (g : GoneOut). Most (commit_most chunks) m g.ans.medium) (asked_dir vol st dir) _ _
      (λ _. oldest_most vol m st (commit_most chunks) each dir (open_file st.writer))
      (λ e _. omega arith)

  -- ---- create

  module _ (count : length st.head.crcs ≡ 24) where
    pub create_writes : (name : List ℕ) (rolls : Bool) (dir : List ℕ) → Most (create_most rolls chunks) m (create_call vol m st name rolls dir).call.medium
    unfolding rollover_of
    create_writes name rolls dir =
        rw (create_is vol st name rolls dir m)
        (on_done_keeps (λ (o : AppOut). Most (create_most rolls chunks) m o.ans.medium) (admitted_of vol st name rolls dir) _ _
        (λ q. create_most_lem name (rollover_of rolls dir) vol m st (record { ok = (input_fits vol st name rolls dir refl q).ok; count = count }))
        (λ e _. omega arith))

    -- ---- append, sync: by the records that the bytes fill

    module _ (a : Appender) (full : length a.buffer ≡ 486) where
      pub append_writes : (bytes : List ℕ) → Most (records_most a.rolls chunks ((a.fill + length bytes) / 486)) m (append_call vol m st a bytes).call.medium
      unfolding append_call offered
      append_writes bytes =
          on_done_keeps (λ (x : AppCall). Most (records_most a.rolls chunks ((a.fill + length bytes) / 486)) m x.call.medium) (may_write vol st a) _ _
          (λ q. let y = may_facts vol st a full q in append_most vol m st a (record { ok = y.ok; count = count }) y.fit bytes y.room)
          (λ e _. omega arith)

      pub sync_writes : Most (records_most a.rolls chunks (pick (eqb a.fill 0) 0 1)) m (sync_call vol m st a).call.medium
      unfolding sync_call offered
      sync_writes =
          on_done_keeps (λ (x : AppCall). Most (records_most a.rolls chunks (pick (eqb a.fill 0) 0 1)) m x.call.medium) (may_write vol st a) _ _
          (λ q. let y = may_facts vol st a full q in sync_most vol m st a (record { ok = y.ok; count = count }) y.fit)
          (λ e _. omega arith)

-- ---- in numbers: a store has at most 16 table sectors

few : (c : ℕ) → c ≤ 2048 → commit_most c ≤ 26
few c h = omega (arith, h)

pub format_few : (vol : List ℕ) (m : Medium) (size seed : ℕ) → Most 26 m (format_call vol m size seed).call.medium
unfolding chunks_of
format_few vol m size seed = let x = format_writes vol m size seed in omega (arith, x, few (chunks_of (sectors_of vol) size) (omega arith))

pub delete_few : (vol : List ℕ) (m : Medium) (st : Store) (name : List ℕ) → Most 26 m (delete_call vol m st name).call.medium
unfolding delete_call
delete_few vol m st name =
    let P : Out → Type 0 = λ o. Most 26 m o.ans.medium in
    on_done_keeps P (asked_name vol st name) _ _
    (λ q.
    let l = few st.head.chunks (asked_done vol st (name_ok name) refl q).held.head.chunks_most in
    on_found_keeps P (find_of vol m st name) _ _ (λ e _. omega arith) (λ slot id _. let x = remove_most vol m st (commit_most st.head.chunks) (each vol m st) slot id in omega (arith, x, l)))
    (λ e _. omega arith)
