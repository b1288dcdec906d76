-- What open_append leaves and hands back: it writes nothing and makes no step; accepted, an appender that passes, beside a store value that does;
-- refused, what it was given. Assumes nothing.
use Rattle.std.specs.Prelude.{Err, Ok, Result}
use mathlib.Core.Path.{◌≡◌, refl, sym, ap}
use mathlib.Core.Bool.{true}
use mathlib.Core.List.{List, []}
use Prim.Native.Nat.{ℕ, ◌-◌, ◌≤◌}
use Rattle.medium.specs.declared.Error.{Error}
use Rattle.medium.specs.declared.Medium.{Medium}
use Rattle.medium.specs.Sector.{sectors_of}
use Rattle.medium.proofs.Laws.{not_done}
use Rattle.handles.specs.declared.Store.{Store}
use Rattle.handles.specs.Handles.{store_ok}
use Rattle.directory.specs.Scan.{find_of, found_at}
use Rattle.directory.proofs.Ranges.{find_name}
use Rattle.directory.proofs.Decides.{on_found_keeps}
use Rattle.table.specs.declared.ChainParts.{ChainParts}
use Rattle.table.specs.Table.{chain_of}
use Rattle.table.proofs.Decides.{on_chain_keeps}
use Rattle.record.proofs.Laws.{on_result_keeps}
use Rattle.append.specs.declared.Handed.{Handed}
use Rattle.append.specs.Appender.{appender_ok, no_appender}
use Rattle.append.specs.Flush.{AppOut}
use Rattle.files.specs.declared.Rollover.{Rollover}
use Rattle.files.specs.Opened.{refused_at, next_token, with_token, written_by, opened_out}
use Rattle.append.specs.Calls.{may_write}
use Rattle.files.proofs.Opens.{over_ok, opened_ok, opened_may}
use Rattle.reopen.specs.Reopen.{records_from, tail_for, file_out, reopen_of}
use Rattle.reopen.proofs.Counts.{count_most, tail_passes, tail_open}
use Rattle.reopen.proofs.Ways.{last_placed}

-- what a call leaves: the volume, no step, and refused the handles
pub record Reads (vol : List ℕ) (m : Medium) (st : Store) (o : AppOut) : Type 0 where
  pub same : o.vol ≡ vol
  pub still : o.steps ≡ []
  pub refused : (e : Error) → o.ans.outcome ≡ Err e → o.ans ≡ (refused_at vol m st e).ans

-- what an accepted call hands back: an appender of the file found, which passes where its rollover does, and the store that it writes
pub record Opens (name : List ℕ) (rollover : Rollover) (vol : List ℕ) (m : Medium) (st : Store) (r : Handed) : Type 0 where
  pub named : find_of vol m st name ≡ found_at r.appender.slot r.appender.id
  pub medium : r.medium ≡ with_token m
  pub store : r.store ≡ written_by (next_token m) r.appender.id st
  pub held : store_ok r.store (sectors_of vol) ≡ true
  pub passes : over_ok rollover ≡ true → appender_ok r.appender r.store ≡ true
  pub may : over_ok rollover ≡ true → may_write vol r.store r.appender ≡ Ok tt
  pub empty : r.appender.fill ≡ 0
  pub its_rollover : (r.appender.rolls ≡ rollover.rolls) × (r.appender.dir ≡ rollover.dir)

module _ (name : List ℕ) (rollover : Rollover) (vol : List ℕ) (m : Medium) (st : Store) where
  abbrev Leaves : AppOut → Type 0
  Leaves o = Reads vol m st o × (o.ans.outcome ≡ Ok tt → Opens name rollover vol m st o.ans)

  no : (e : Error) → Leaves (refused_at vol m st e)
  no e = (record { same = refl; still = refl; refused = λ x q. ap (λ (o : Result Unit Error). record { outcome = o; medium = m; store = st; appender = no_appender }) q }, not_done)

  module _ (ok : store_ok st (sectors_of vol) ≡ true) where
    opened : (slot id : ℕ) (p : ChainParts) (n : ℕ) → find_of vol m st name ≡ found_at slot id → chain_of vol m st slot ≡ Ok p → n ≤ st.head.chunk
        → Leaves (opened_out vol m st slot id p.last (p.count - 1) (tail_for st.head.chunk n) rollover)
    unfolding opened_out store_ok
    opened slot id p n f c h =
        let g = find_name vol m st name f in
        let l = last_placed rollover vol m st slot id refl c ok in
        let t = tail_passes st.head.chunk n h in (
          record { same = refl; still = refl; refused = λ e q. not_done (sym q) },
          λ _. record {
            named = f;
            medium = refl;
            store = refl;
            held = ok;
            passes = opened_ok st (next_token m) slot id p.last (p.count - 1) _ rollover g.below g.some l.1 l.2 t;
            may = λ w. opened_may st (next_token m) slot id p.last (p.count - 1) _ rollover g.below g.some l.1 l.2 t w vol ok (tail_open st.head.chunk n);
            empty = refl;
            its_rollover = (refl, refl);
          },
        )

    reopen_leaves : Leaves (reopen_of name rollover vol m st)
    unfolding reopen_of file_out
    reopen_leaves =
        on_found_keeps Leaves (find_of vol m st name) _ _ (λ e _. no e)
        (λ slot id f. on_chain_keeps Leaves (chain_of vol m st slot) _ _ no
        (λ p c. on_result_keeps Leaves (records_from vol m st id p.last (p.count - 1) st.head.chunk) _ _ (λ e _. no e)
        (λ n q. opened slot id p n f c (count_most vol m st id p.last (p.count - 1) q))))

    pub reopen_reads : Reads vol m st (reopen_of name rollover vol m st)
    reopen_reads = reopen_leaves.0

    pub reopen_opens : (reopen_of name rollover vol m st).ans.outcome ≡ Ok tt → Opens name rollover vol m st (reopen_of name rollover vol m st).ans
    reopen_opens = reopen_leaves.1
