-- create makes one commit, or with a rollover two: a removal and its own, or two removals. Assumes nothing.
use Prim.Native.Nat.{ℕ, ◌+◌, ◌-◌, ◌^◌}
use mathlib.Core.Path.{◌≡◌, refl, sym, ◌∙◌}
use mathlib.Core.Bool.{Bool, true, false, true≢false}
use mathlib.Core.List.{List, []}
use native.Mathlib.Omega.{arith}
use lib.Dec.{eqb}
use Rattle.std.specs.Prelude.{None}
use Rattle.le.specs.Choice.{pick}
use Rattle.le.proofs.Choices.{pick_keeps, pick_keeps_by}
use Rattle.medium.specs.declared.Error.{Error}
use Rattle.medium.specs.declared.Error.TheVariants.{Exists, Full}
use Rattle.medium.specs.declared.Medium.{Medium}
use Rattle.medium.proofs.Laws.{on_done_keeps}
use Rattle.handles.specs.declared.Store.{Store}
use Rattle.handles.specs.Handles.{table_of}
use Rattle.directory.specs.Scan.{look_of}
use Rattle.directory.proofs.Decides.{on_free_keeps, on_looked_keeps}
use Rattle.table.specs.Free.{free_of}
use Rattle.table.proofs.Decides.{on_pick_keeps}
use Rattle.plan.specs.declared.Edit.TheVariants.{Create, Remove}
use Rattle.commit.specs.Commit.{commit_of}
use Rattle.remove.specs.Remove.{GoneOut, remove_oldest_of}
use Rattle.remove.proofs.Keeps.{Good, oldest_stands}
use Rattle.append.specs.Appender.{dir_bytes, no_appender}
use Rattle.append.specs.Flush.{AppOut, stopped}
use Rattle.files.specs.declared.Rollover.{Rollover}
use Rattle.files.specs.Opened.{refused_at, opened_out}
use Rattle.files.specs.Create.{Next, make_out, over_out, round_out, create_from, create_of}
use Rattle.writes.specs.Writes.{Most, commit_most, create_most}
use Rattle.writes.proofs.Copies.{commit_most_lem}
use Rattle.writes.proofs.Beside.{create_plain, remove_plain, Beside, commit_few}
use Rattle.writes.proofs.Removals.{oldest_most, oldest_beside}

module _ (name : List ℕ) (rollover : Rollover) where
  -- the oldest file of the rollover's directory goes
  abbrev gone : List ℕ → Medium → Store → GoneOut
  gone vol m st = remove_oldest_of vol m st (dir_bytes rollover.dir) None

  -- a round whose commit, of either kind, makes at most n, and what is next at most k where a file went
  module _ (n k : ℕ) (next : Next) (vol : List ℕ) (m : Medium) (st : Store)
      (make : (slot id chunk : ℕ) → Most n m (commit_of (Create slot id chunk) name vol m st).ans.medium)
      (each : (slot : ℕ) → Most n m (commit_of (Remove slot) [] vol m st).ans.medium) where
    abbrev g : GoneOut
    g = gone vol m st

    abbrev Costs : AppOut → Type 0
    Costs o = Most (n + k) m o.ans.medium

    make_costs : (slot chunk : ℕ) → Costs (make_out name rollover vol m st slot chunk)
    unfolding make_out opened_out
    make_costs slot chunk =
        let l = make slot st.head.next_id chunk in
        pick_keeps Costs (eqb st.head.next_id (2 ^ 32 - 1)) _ _ (omega arith) (on_done_keeps Costs _ _ _ (λ _. omega (arith, l)) (λ e _. omega (arith, l)))

    module _ (rest : rollover.rolls ≡ true → g.ans.any ≡ true → Most k g.ans.medium (next g.vol g.ans.medium g.ans.store).ans.medium) where
      over_costs : Costs (over_out rollover next vol m st)
      unfolding over_out
      over_costs =
          let l = oldest_most vol m st n each (dir_bytes rollover.dir) None in
          let stop : (e : Error) → Costs (stopped g.vol g.ans.medium g.ans.store no_appender e) = λ e. omega (arith, l) in
          pick_keeps_by Costs rollover.rolls _ _
          (λ t. on_done_keeps Costs g.ans.outcome _ _
          (λ _. pick_keeps_by Costs g.ans.any _ _ (λ y. let x = rest t y in omega (arith, l, x)) (λ _. stop Full))
          (λ e _. stop e))
          (λ _. omega arith)

      round_costs : Costs (round_out name rollover next vol m st)
      unfolding round_out
      round_costs =
          let none : (e : Error) → Costs (refused_at vol m st e) = λ e. omega arith in
          on_looked_keeps Costs (look_of vol m st name) _ _ none
          (λ s _. pick_keeps Costs s.exists _ _ (none Exists)
          (on_free_keeps Costs s.free _ _ (λ _. over_costs) (λ slot _. on_pick_keeps Costs (free_of vol m st) _ _ _ none over_costs (λ chunk _. make_costs slot chunk))))

  -- the second round, after a removal: the last
  later_costs : (vol : List ℕ) (m : Medium) (st : Store) → Beside 1 vol st → Most (2 + table_of st.head.chunks + 2 + 0) m (create_from 1 name rollover vol m st).ans.medium
  unfolding create_from
  later_costs vol m st x =
      round_costs (2 + table_of st.head.chunks + 2) 0 (create_from 0 name rollover) vol m st
      (λ slot id chunk. commit_few (Create slot id chunk) name vol m st (create_plain slot id chunk) x)
      (λ slot. commit_few (Remove slot) [] vol m st (remove_plain slot) x)
      (λ _ _. omega arith)

  module _ (vol : List ℕ) (m : Medium) (st : Store) (good : Good vol st) where
    abbrev c : ℕ
    c = st.head.chunks

    abbrev o : GoneOut
    o = gone vol m st

    after_gone_lem : o.ans.any ≡ true
        → Most (2 + table_of c + 2) o.ans.medium (create_from 1 name rollover o.vol o.ans.medium o.ans.store).ans.medium
    after_gone_lem y =
        let k = oldest_stands vol m st (dir_bytes rollover.dir) None good in
        let x = later_costs o.vol o.ans.medium o.ans.store (oldest_beside vol m st good (dir_bytes rollover.dir) None y) in
        omega (arith, x, k.chunks)

    pub create_most_lem : Most (create_most rollover.rolls c) m (create_of name rollover vol m st).ans.medium
    unfolding create_from pick
    create_most_lem = go rollover.rolls refl
      where
        one : (k : ℕ) → (rollover.rolls ≡ true → o.ans.any ≡ true → Most k o.ans.medium (create_from 1 name rollover o.vol o.ans.medium o.ans.store).ans.medium)
            → Most (commit_most c + k) m (create_of name rollover vol m st).ans.medium
        one k rest =
            round_costs (commit_most c) k (create_from 1 name rollover) vol m st
            (λ slot id chunk. commit_most_lem (Create slot id chunk) name vol m st)
            (λ slot. commit_most_lem (Remove slot) [] vol m st)
            rest

        go : (t : Bool) → rollover.rolls ≡ t → Most (create_most t c) m (create_of name rollover vol m st).ans.medium
        go true e = let x = one (2 + table_of c + 2) (λ _. after_gone_lem) in omega (arith, x)
        go false e = let x = one 0 (λ t _. absurd (true≢false (sym t ∙ e))) in omega (arith, x)
