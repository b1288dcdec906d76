-- What append, sync and delete give in a history, where it can be told: an appender keeps fewer bytes than a record takes, and where its chunk has room a
-- sync writes them by one write; and a delete with one write left makes no step. Assumes nothing.
use Rattle.std.specs.Prelude.{Option}
use Rattle.std.specs.Prelude.{Err, Ok}
use Prim.Native.Nat.{ℕ, zero, suc, ◌+◌, ◌≤◌, ◌<◌}
use mathlib.Core.Path.{◌≡◌, refl, ap, subst, ◌∙◌}
use mathlib.Core.Bool.{true, false}
use mathlib.Core.List.{List, [], ◌∷◌, ◌++◌}
use native.Mathlib.Omega.{arith}
use borrow.Author.Tests.{eq-eqb, ne_eqb}
use lib.Dec.{lit≤}
use lib.ListN.{length}
use Rattle.le.specs.Part.{part}
use Rattle.le.proofs.Choices.{pick_false}
use Rattle.medium.specs.declared.Error.{Error}
use Rattle.medium.specs.declared.Medium.{Medium}
use Rattle.medium.proofs.Laws.{on_done_keeps, on_done_no, on_done_done}
use Rattle.handles.specs.declared.Store.{Store}
use Rattle.handles.specs.Handles.{opened_by}
use Rattle.handles.specs.declared.Writer.{Writer}
use Rattle.directory.proofs.Decides.{on_found_keeps}
use Rattle.plan.specs.declared.Edit.TheVariants.{Remove}
use Rattle.plan.specs.Copy.{Kind, deleted, recorded, Out, steps_of, refused_out}
use Rattle.commit.specs.Commit.{commit_of}
use Rattle.remove.specs.Remove.{remove_of}
use Rattle.append.specs.declared.Appender.{Appender}
use Rattle.append.specs.declared.Tail.TheVariants.{At}
use Rattle.append.specs.Appender.{writes, is_closed}
use Rattle.append.specs.Calls.{call_of, may_write, offered, append_call, sync_call}
use Rattle.append.specs.Flush.{AppOut, with_run, filed, record_out, write_out, flush_of, sync_of}
use Rattle.append.proofs.Runs.{run_short}
use Rattle.store.specs.Writing.{delete_call}
use Rattle.store.proofs.Appends.{write_here}
use Rattle.power.specs.Calls.{append, sync, delete}
use Rattle.power.specs.History.{World, with_left, ran_append, ran}
use Rattle.power.proofs.Fine.{Fine}
use Rattle.power.proofs.Whole.{Stands, Writes, Keeps}
use Rattle.power.proofs.Spends.{write_some}
use Rattle.power.proofs.FirstCommit.{commit_few}
use Rattle.power.proofs.Appends.{stands_may}

-- ---- an appender that the store has open, and that is not closed

pub record Opened (w : World) : Type 0 where
  pub writer : w.store.writer ≡ opened_by w.appender.token w.appender.id
  pub live : is_closed w.appender.tail ≡ false

own_token : (token id : ℕ) → writes (opened_by token id) token ≡ true
unfolding writes
own_token token id = eq-eqb token token refl

-- no part of a buffer is bytes
some_bytes : {bytes : List ℕ} (buffer : List ℕ) (n : ℕ) → bytes ≡ part 0 n buffer ++ [] → (bytes ≡ [] → ⊥) → 1 ≤ n
unfolding part
some_bytes buffer zero e some = absurd (some e)
some_bytes buffer (suc n) e some = omega arith

-- a flush that is done
flush_done : (vol : List ℕ) (m : Medium) (st : Store) (a : Appender) {o : AppOut} → write_out vol m st a ≡ o → o.ans.outcome ≡ Ok tt → flush_of vol m st a ≡ o
unfolding flush_of
flush_done vol m st a q d = rw q (on_done_done _ _ d)

module _ {w : World} {b : Fine} (k : Keeps w b) (y : Opened w) where
  pub stands : Stands w.vol w.store w.appender k.layout b [] × (w.appender.fill < 486)
  stands =
      (subst (λ (x : Option Writer). Writes x w.appender (Stands w.vol w.store w.appender k.layout b [] × (w.appender.fill < 486))) y.writer k.owns.writes).2 y.live

  pub may : may_write w.vol w.store w.appender ≡ Ok tt
  may = stands_may k.whole stands.0 stands.1 (opened_by w.appender.token w.appender.id) y.writer (own_token w.appender.token w.appender.id) y.live

  pub some_kept : (b.unwritten ≡ [] → ⊥) → 1 ≤ w.appender.fill
  some_kept = some_bytes w.appender.buffer w.appender.fill stands.0.unwritten

  -- fewer bytes than a record takes are kept
  pub append_short : (left : ℕ) (bytes : List ℕ) → w.appender.fill + length bytes < 486
      → ran w (append left bytes) ≡ record {
        world = record { vol = w.vol; store = w.store; appender = with_run bytes w.appender; medium = with_left left w.medium };
        accepted = true;
        steps = [];
      }
  unfolding ran append_call offered
  append_short left bytes h =
      rw (on_done_done (call_of _) _ may, run_short bytes w.vol (with_left left w.medium) w.store w.appender stands.0.buffer h)

  -- a sync with bytes unwritten is a flush
  module _ (left : ℕ) (some : 1 ≤ w.appender.fill) where
    pub sync_flush : ran w (sync left) ≡ ran_append (call_of (flush_of w.vol (with_left left w.medium) w.store w.appender))
    unfolding ran sync_call offered sync_of
    sync_flush = ap ran_append (on_done_done _ _ may ∙ ap call_of (pick_false _ _ (ne_eqb w.appender.fill 0 (λ e. omega (arith, e)))))

    pub sync_done : {o : AppOut} → write_out w.vol (with_left left w.medium) w.store w.appender ≡ o → o.ans.outcome ≡ Ok tt → ran w (sync left) ≡ ran_append (call_of o)
    sync_done q d = sync_flush ∙ ap (λ (o : AppOut). ran_append (call_of o)) (flush_done w.vol (with_left left w.medium) w.store w.appender q d)

-- ---- one whose next record is number i of its chunk, with n bytes unwritten

pub record Ready (w : World) (i n : ℕ) : Type 0 where
  pub writer : w.store.writer ≡ opened_by w.appender.token w.appender.id
  pub tail : w.appender.tail ≡ At i
  pub fill : w.appender.fill ≡ n

pub opened : {w : World} {i n : ℕ} → Ready w i n → Opened w
unfolding is_closed
opened y = record { writer = y.writer; live = rw y.tail refl }

module _ {w : World} {b : Fine} {i n : ℕ} (k : Keeps w b) (y : Ready w i n) where
  pub append_run : (left : ℕ) (bytes : List ℕ) → n + length bytes < 486
      → ran w (append left bytes) ≡ record {
        world = record { vol = w.vol; store = w.store; appender = with_run bytes w.appender; medium = with_left left w.medium };
        accepted = true;
        steps = [];
      }
  append_run left bytes h = append_short k (opened y) left bytes (rw y.fill h)

  -- and written by one write, where the chunk has room
  module _ (left : ℕ) (room : i < w.store.head.chunk) (some : 1 ≤ n) (one : 1 ≤ left) where
    abbrev given : Medium
    given = with_left left w.medium

    record_steps : ((record_out i w.vol given w.store w.appender).ans.outcome ≡ Ok tt)
        × ((record_out i w.vol given w.store w.appender).steps ≡ (record { kind = recorded; skipped = [] }) ∷ [])
        × ((record_out i w.vol given w.store w.appender).ans.store ≡ w.store)
        × ((record_out i w.vol given w.store w.appender).ans.appender ≡ filed i w.appender)
    unfolding record_out
    record_steps = rw (on_done_done _ _ (write_some w.vol given _ _ one).0) (refl, refl, refl, refl)

    run_is : ran w (sync left) ≡ ran_append (call_of (record_out i w.vol given w.store w.appender))
    run_is = sync_done k (opened y) left (rw y.fill some) (write_here w.vol given w.store w.appender i y.tail room) record_steps.0

    pub sync_run : ((ran w (sync left)).accepted ≡ true) × ((ran w (sync left)).steps ≡ (record { kind = recorded; skipped = [] }) ∷ [])
    sync_run = rw (run_is, record_steps.0) (refl, record_steps.1)

    -- the store is as it was, and the appender after its record
    pub sync_leaves : ((ran w (sync left)).world.store ≡ w.store) × ((ran w (sync left)).world.appender ≡ filed i w.appender)
    sync_leaves = rw run_is (record_steps.2, record_steps.3)

-- ---- a delete with one write left, or none

no_steps : (kind : Kind) (o : Out) {e : Error} → o.ans.outcome ≡ Err e → steps_of kind o ≡ []
unfolding steps_of
no_steps kind o q = on_done_no _ _ q

removed_none : (vol : List ℕ) (m : Medium) (st : Store) (slot id : ℕ) → ((commit_of (Remove slot) [] vol m st).ans.outcome ≡ Ok tt → ⊥) → steps_of deleted (remove_of vol m st slot id) ≡ []
unfolding remove_of
removed_none vol m st slot id none =
    let o : Out = commit_of (Remove slot) [] vol m st in
    on_done_keeps (λ (x : Out). steps_of deleted x ≡ []) o.ans.outcome _ _ (λ d. absurd (none d)) (λ e q. no_steps deleted o q)

pub delete_stopped : {w : World} {b : Fine} → Keeps w b → (left : ℕ) (name : List ℕ) → left ≤ 1 → (ran w (delete left name)).steps ≡ []
unfolding ran delete_call
delete_stopped {w} k left name few =
    on_done_keeps None _ _ _
    (λ _. on_found_keeps None _ _ _ (λ e _. no_steps deleted (refused_out w.store w.vol m e) refl)
    (λ slot id _. removed_none w.vol m w.store slot id (commit_few (Remove slot) [] w.vol m w.store k.whole.inv (lit≤ tt) few)))
    (λ e _. no_steps deleted (refused_out w.store w.vol m e) refl)
  where
    m : Medium
    m = with_left left w.medium

    None : Out → Type 0
    None o = steps_of deleted o ≡ []
