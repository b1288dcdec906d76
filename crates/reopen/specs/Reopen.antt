-- 01, "Record": open_append. Opening counts up to the last valid record of the last chunk: 0 gives at 0, the chunk size gives at that, any other
-- count reopened. Refused, the appender is one that no call accepts. It reads only. Assumes nothing.
use Rattle.std.specs.Prelude.{ℕ, zero, suc, ◌-◌, List, eqb, Result, Ok, Err}
use Rattle.le.specs.Choice.{pick}
use Rattle.medium.specs.declared.Error.{Error}
use Rattle.medium.specs.declared.Medium.{Medium}
use Rattle.handles.specs.declared.Store.{Store}
use Rattle.directory.specs.Scan.{find_of, on_found}
use Rattle.table.specs.Table.{chain_of, on_chain}
use Rattle.record.specs.Record.{on_judged, on_result, record_at}
use Rattle.append.specs.declared.Tail.{Tail}
use Rattle.append.specs.declared.Tail.TheVariants.{At, Reopened}
use Rattle.append.specs.Flush.{AppOut}
use Rattle.files.specs.declared.Rollover.{Rollover}
use Rattle.files.specs.Opened.{refused_at, opened_out}

-- up to the last valid record of the chunk, from the top down
unfoldable pub records_from : List ℕ → Medium → Store → ℕ → ℕ → ℕ → ℕ → Result ℕ Error
records_from vol m st id chunk position zero = Ok 0
records_from vol m st id chunk position (suc n) =
    on_judged (record_at vol m st id chunk position n) Err (λ length. Ok (suc n)) (records_from vol m st id chunk position n)

-- 0 gives at 0, the chunk size gives at that, any other count reopened
unfoldable pub tail_for : ℕ → ℕ → Tail
tail_for size n = pick (eqb n 0) (At 0) (pick (eqb n size) (At size) (Reopened n))

-- the file found: the records of its last chunk say where the next one goes
unfoldable pub file_out : Rollover → List ℕ → Medium → Store → ℕ → ℕ → AppOut
file_out rollover vol m st slot id =
    on_chain (chain_of vol m st slot) (refused_at vol m st)
    (λ p. on_result (records_from vol m st id p.last (p.count - 1) st.head.chunk) (refused_at vol m st)
    (λ n. opened_out vol m st slot id p.last (p.count - 1) (tail_for st.head.chunk n) rollover))

unfoldable pub reopen_of : List ℕ → Rollover → List ℕ → Medium → Store → AppOut
reopen_of name rollover vol m st = on_found (find_of vol m st name) (refused_at vol m st) (file_out rollover vol m st)
