-- What a record takes, its commits and its own write, and so a sync, and an append for each record that it fills. Assumes nothing.
use Rattle.std.specs.Prelude.{Ok}
use Prim.Native.Nat.{ℕ, zero, suc, ◌+◌, ◌-◌, ◌*◌, ◌/◌, ◌≤◌, ◌<◌}
use mathlib.Core.Path.{◌≡◌, refl, sym, subst, ◌∙◌}
use mathlib.Core.Logic.{◌⊎◌, inl, inr, ⊎_elim}
use mathlib.Core.Bool.{Bool, true, false, false≢true}
use mathlib.Core.List.{List, [], ◌∷◌}
use native.Mathlib.Nat.{zero-add, add-mul, one-mul}
use native.Mathlib.Omega.{arith}
use borrow.Author.Tests.{eqb-true, eqb-false, ltb-true}
use lib.Dec.{eqb, leb, ltb, lit≤}
use lib.ListN.{length}
use Rattle.le.specs.Choice.{pick}
use Rattle.le.proofs.Choices.{pick_keeps, pick_keeps_by}
use Rattle.medium.specs.declared.Error.{Error}
use Rattle.medium.specs.declared.Error.TheVariants.{Corrupt, Full}
use Rattle.medium.specs.declared.Medium.{Medium}
use Rattle.medium.specs.Refusal.{on_done}
use Rattle.medium.specs.Sector.{sectors_of, WriteOut}
use Rattle.medium.specs.Frame.{Kept}
use Rattle.medium.proofs.Laws.{on_done_keeps}
use Rattle.medium.proofs.Frame.{kept_sectors}
use Rattle.handles.specs.declared.Store.{Store}
use Rattle.handles.specs.Handles.{table_of, base_of, open_file}
use Rattle.handles.proofs.Laws.{Held, store_facts, base_most}
use Rattle.table.specs.Free.{free_of}
use Rattle.table.proofs.Decides.{on_pick_keeps}
use Rattle.record.specs.Record.{data_at}
use Rattle.plan.specs.declared.Edit.{Edit}
use Rattle.plan.specs.declared.Edit.TheVariants.{Extend, Remove}
use Rattle.plan.specs.Copy.{is_format}
use Rattle.commit.specs.Commit.{commit_of}
use Rattle.remove.specs.Remove.{GoneOut, remove_oldest_of}
use Rattle.remove.proofs.Keeps.{Good, oldest_stands}
use Rattle.append.specs.declared.Appender.{Appender}
use Rattle.append.specs.Appender.{dir_bytes, Fit}
use Rattle.append.specs.Flush.{AppOut, stopped, done, and_then, link_out, rolled_out, extend_of, record_out, write_out, flush_of, pushed, put_byte, append_of, sync_of}
use Rattle.append.proofs.Keeps.{on_tail_keeps, extend_goes, flush_goes, flush_empties, record_write, record_kept}
use Rattle.append.proofs.Owns.{flush_owned}
use Rattle.append.proofs.Runs.{pushed_fit}
use Rattle.safe.proofs.Frame.{clash}
use Rattle.safe.proofs.Mounts.{copy_same}
use Rattle.writes.specs.Writes.{Most, per_record, records_most}
use Rattle.writes.proofs.Copies.{write_most, commit_most_lem}
use Rattle.writes.proofs.Beside.{extend_plain, remove_plain, Beside, own_of, commit_few, commit_beside}
use Rattle.writes.proofs.Removals.{oldest_most, oldest_beside}

-- what an appender's commits take beside the table and the header: each at most `own` directory sectors, the first `spare` more
record Rates (rolls : Bool) (c : ℕ) : Type 0 where
  spare : ℕ
  own : ℕ
  per : ℕ
  eight : spare + own ≡ 8
  one : own + table_of c + 3 ≤ per
  two : rolls ≡ true → (own ≡ 1) × (2 * (own + table_of c + 2) + 1 ≤ per)

-- the copy beside it stays while records are written
beside_record : {d : ℕ} {vol v : List ℕ} {st : Store} (k : ℕ) → 64 ≤ k → Kept k 1 vol v → Beside d vol st → Beside d v st
beside_record {d} {vol} {v} {st} k l kept x =
    let low = base_most (1 - st.copy) in
    record {
      head = x.head;
      found = copy_same vol v (base_of (1 - st.copy)) (kept_sectors kept) (kept.same (base_of (1 - st.copy)) (inl (omega (arith, low)))) ∙ x.found;
      same = x.same;
      may = x.may;
      few = x.few;
      listed = x.listed;
    }

module _ {rolls : Bool} {c : ℕ} (r : Rates rolls c) where
  -- the first commit may write e directory sectors more
  abbrev Owes : ℕ → List ℕ → Store → Type 0
  Owes e vol st = (r.spare ≤ e) ⊎ Beside e vol st

  commit_owes : (edit : Edit) (name vol : List ℕ) (m : Medium) (st : Store) → is_format edit ≡ false → own_of edit ≤ r.own → st.head.chunks ≡ c
      → (e : ℕ) → Owes e vol st → Most (e + (r.own + table_of c + 2)) m (commit_of edit name vol m st).ans.medium
  commit_owes edit name vol m st p few h e (inl l) = let x = commit_most_lem edit name vol m st in omega (arith, x, l, r.eight, h)
  commit_owes edit name vol m st p few h e (inr y) = let x = commit_few edit name vol m st p y in omega (arith, x, few, h)

  -- ---- another chunk

  -- with a write for the record still to come
  abbrev Extends : ℕ → Medium → AppOut → Type 0
  Extends e m o = (m.left + 1 ≤ o.ans.medium.left + (e + r.per)) × (o.ans.outcome ≡ Ok tt → Beside 0 o.vol o.ans.store)

  module _ (vol : List ℕ) (m : Medium) (st : Store) (a : Appender) (partial : Bool) (records : ℕ) (good : Good vol st) (h : st.head.chunks ≡ c) where
    refused_extends : (e : ℕ) (x : Error) → Extends e m (stopped vol m st a x)
    refused_extends e x = (omega (arith, r.one), clash refl)

    abbrev edit : ℕ → Edit
    edit next = Extend a.slot a.position next a.chunk partial records

    link_beside : (next : ℕ) → (link_out vol m st a partial records next).ans.outcome ≡ Ok tt
        → Beside 0 (link_out vol m st a partial records next).vol (link_out vol m st a partial records next).ans.store
    unfolding link_out
    link_beside next d = commit_beside (edit next) [] vol m st (extend_plain _ _ _ _ _ _) good (lit≤ tt) d

    link_most : (next e : ℕ) → Owes e vol st → Most (e + (r.own + table_of c + 2)) m (link_out vol m st a partial records next).ans.medium
    unfolding link_out
    link_most next e o = commit_owes (edit next) [] vol m st (extend_plain _ _ _ _ _ _) (omega arith) h e o

    -- after a removal
    link_few : (next : ℕ) → Beside 1 vol st → Most (1 + table_of c + 2) m (link_out vol m st a partial records next).ans.medium
    unfolding link_out
    link_few next x = let y = commit_few (edit next) [] vol m st (extend_plain _ _ _ _ _ _) x in omega (arith, y, h)

  module _ (vol : List ℕ) (m : Medium) (st : Store) (a : Appender) (partial : Bool) (records : ℕ) (good : Good vol st) (h : st.head.chunks ≡ c)
      (mine : a.rolls ≡ rolls) (e : ℕ) (owes : Owes e vol st) where
    abbrev g : GoneOut
    g = remove_oldest_of vol m st (dir_bytes a.dir) (open_file st.writer)

    rolled_extends : rolls ≡ true → Extends e m (rolled_out vol m st a partial records)
    unfolding rolled_out
    rolled_extends t =
        let k = oldest_stands vol m st (dir_bytes a.dir) (open_file st.writer) good in
        let h' : g.ans.store.head.chunks ≡ c = k.chunks ∙ h in
        let w = r.two t in
        let first : Most (e + (r.own + table_of c + 2)) m g.ans.medium =
        oldest_most vol m st _ (λ slot. commit_owes (Remove slot) [] vol m st (remove_plain slot) (omega (arith, w.0)) h e owes) (dir_bytes a.dir) (open_file st.writer) in
        let stop : (x : Error) → Extends e m (stopped g.vol g.ans.medium g.ans.store a x) = λ x. (omega (arith, first, w.1), clash refl) in
        on_done_keeps (Extends e m) g.ans.outcome _ _
        (λ _. pick_keeps_by (Extends e m) g.ans.any _ _
        (λ y.
        let b = oldest_beside vol m st good (dir_bytes a.dir) (open_file st.writer) y in
        on_pick_keeps (Extends e m) (free_of g.vol g.ans.medium g.ans.store) _ _ _ stop (stop Corrupt)
        (λ next _.
        let second = link_few g.vol g.ans.medium g.ans.store a partial records k.good h' next b in
        (omega (arith, first, second, w.0, w.1), link_beside g.vol g.ans.medium g.ans.store a partial records k.good h' next)))
        (λ _. stop Full))
        (λ x _. stop x)

    extend_extends : Extends e m (extend_of vol m st a partial records)
    unfolding extend_of
    extend_extends =
        let none : (x : Error) → Extends e m (stopped vol m st a x) = refused_extends vol m st a partial records good h e in
        pick_keeps (Extends e m) (leb 32767 a.position) _ _ (none Corrupt)
        (on_pick_keeps (Extends e m) (free_of vol m st) _ _ _ none
        (pick_keeps_by (Extends e m) a.rolls _ _ (λ t. rolled_extends (sym mine ∙ t)) (λ _. none Full))
        (λ next _.
        let x = link_most vol m st a partial records good h next e owes in
        (omega (arith, x, r.one), link_beside vol m st a partial records good h next)))

  -- ---- a record

  -- what is left of e for the next one
  abbrev Writes : ℕ → Medium → AppOut → Type 0
  Writes e m o = (m.left ≤ o.ans.medium.left + (e + r.per))
      × (o.ans.outcome ≡ Ok tt → (d : ℕ) × (m.left + d ≤ o.ans.medium.left + (e + r.per)) × Owes d o.vol o.ans.store)

  -- its own write
  abbrev Records : Medium → (List ℕ → Store → Type 0) → AppOut → Type 0
  Records m P o = (m.left ≤ o.ans.medium.left + 1) × (o.ans.outcome ≡ Ok tt → P o.vol o.ans.store)

  record_writes : (vol : List ℕ) (m : Medium) (st : Store) (a : Appender) → Good vol st → Fit a st → (index : ℕ) → index < st.head.chunk
      → (e : ℕ) → Owes e vol st → Records m (Owes e) (record_out index vol m st a)
  unfolding record_out data_at
  record_writes vol m st a good fit index h e owes =
      let w : WriteOut = record_write index vol m st a in
      let kept = record_kept vol m st a good fit index h in
      let l = write_most vol m _ _ in
      on_done_keeps (Records m (Owes e)) w.ans.outcome _ _
      (λ _. (l, λ _. ⊎_elim inl (λ x. inr (beside_record _ (omega arith) kept x)) owes))
      (λ x _. (l, clash refl))

  module _ (vol : List ℕ) (m : Medium) (st : Store) (a : Appender) (good : Good vol st) (fit : Fit a st) (h : st.head.chunks ≡ c)
      (mine : a.rolls ≡ rolls) (e : ℕ) (owes : Owes e vol st) where
    next_writes : (partial : Bool) (records : ℕ) → Writes e m (and_then (extend_of vol m st a partial records) (record_out 0))
    unfolding and_then
    next_writes partial records =
        let o : AppOut = extend_of vol m st a partial records in
        let x = extend_extends vol m st a partial records good h mine e owes in
        let k = extend_goes vol m st a partial records good fit in
        let held : Held o.ans.store (sectors_of o.vol) = store_facts o.ans.store (sectors_of o.vol) k.0.good.ok in
        on_done_keeps (Writes e m) o.ans.outcome _ _
        (λ d.
        let y = record_writes o.vol o.ans.medium o.ans.store o.ans.appender k.0.good k.1 0 held.head.size_least 0 (inr (x.1 d)) in
        (omega (arith, x.0, y.0), λ q. (0, omega (arith, x.0, y.0), y.1 q)))
        (λ s q. (omega (arith, x.0), clash q))

    write_writes : Writes e m (write_out vol m st a)
    unfolding write_out
    write_writes =
        on_tail_keeps (Writes e m) a.tail _ _ _
        (λ i _. pick_keeps_by (Writes e m) (ltb i st.head.chunk) _ _
        (λ t.
        let y = record_writes vol m st a good fit i (ltb-true _ _ t) e owes in
        (omega (arith, y.0, r.one), λ q. (e, omega (arith, y.0, r.one), y.1 q)))
        (λ _. next_writes false 0))
        (λ n _. next_writes true n)
        (omega arith, clash refl)

    flush_writes : Writes e m (flush_of vol m st a)
    unfolding flush_of
    flush_writes = let o : AppOut = write_out vol m st a in on_done_keeps (Writes e m) o.ans.outcome _ _ (λ _. write_writes) (λ x _. (write_writes.0, clash refl))

  -- ---- an append, for each record that it fills

  runs : ℕ → ℕ → ℕ
  runs e zero = 0
  runs e (suc n) = e + suc n * r.per

  -- a record, and n after it
  runs_more : (e d n left mid out : ℕ) → left + d ≤ mid + (e + r.per) → mid ≤ out + runs d n → left ≤ out + runs e (suc n)
  unfolding runs
  runs_more e d zero left mid out a b = omega (arith, one-mul r.per)
  runs_more e d (suc n) left mid out a b = let z = add-mul 1 (suc n) r.per in let o = one-mul r.per in omega (arith, z, o)

  abbrev count : ℕ → ℕ
  count n = n / 486

  module _ (b : ℕ) (bs : List ℕ)
      (rest : (v : List ℕ) (u : Medium) (s : Store) (x : Appender) → Good v s → Fit x s → x.fill < 486 → s.head.chunks ≡ c → x.rolls ≡ rolls → (d : ℕ) → Owes d v s
      → Most (runs d (count (x.fill + length bs))) u (append_of bs v u s x).ans.medium)
      (vol : List ℕ) (m : Medium) (st : Store) (a : Appender) (good : Good vol st) (fit : Fit a st) (h : a.fill < 486) (same : st.head.chunks ≡ c)
      (mine : a.rolls ≡ rolls) (e : ℕ) (owes : Owes e vol st) where
    abbrev Adds : AppOut → Type 0
    Adds o = Most (runs e (count (a.fill + length (b ∷ bs)))) m o.ans.medium

    filled : eqb (a.fill + 1) 486 ≡ true → Adds (and_then (flush_of vol m st (pushed b a)) (append_of bs))
    unfolding and_then
    filled t =
        let f = pushed_fit b a st fit h in
        let o : AppOut = flush_of vol m st (pushed b a) in
        let w = flush_writes vol m st (pushed b a) good f same mine e owes in
        let k = flush_goes vol m st (pushed b a) good f in
        let many : count (a.fill + length (b ∷ bs)) ≡ suc (count (length bs)) = omega (arith, eqb-true (a.fill + 1) 486 t) in
        subst (λ (n : ℕ). Most (runs e n) m (and_then o (append_of bs)).ans.medium) (sym many)
        (on_done_keeps (λ (x : AppOut). Most (runs e (suc (count (length bs)))) m x.ans.medium) o.ans.outcome _ _
        (λ d.
        let y = w.1 d in
        let z : o.ans.appender.fill ≡ 0 = flush_empties vol m st (pushed b a) d in
        let all = rest o.vol o.ans.medium o.ans.store o.ans.appender k.0.good k.1 (omega (arith, z)) (k.0.chunks ∙ same)
        ((flush_owned vol m st (pushed b a) good).1.rolls ∙ mine) y.0 y.2 in
        runs_more e y.0 (count (length bs)) m.left o.ans.medium.left _ y.1 (rw (z, zero-add (length bs)) at all))
        (λ x _. runs_more e 0 (count (length bs)) m.left o.ans.medium.left _ (omega (arith, w.0)) (omega arith)))

    held : eqb (a.fill + 1) 486 ≡ false → Adds (and_then (done vol m st (pushed b a)) (append_of bs))
    unfolding and_then on_done
    held t =
        let n : a.fill + 1 + length bs ≡ a.fill + length (b ∷ bs) = omega arith in
        subst (λ (k : ℕ). Most (runs e (count k)) m (append_of bs vol m st (pushed b a)).ans.medium) n
        (rest vol m st (pushed b a) good (pushed_fit b a st fit h) (omega (arith, eqb-false (a.fill + 1) 486 t)) same mine e owes)

    byte_adds : Adds (and_then (put_byte b vol m st a) (append_of bs))
    unfolding put_byte
    byte_adds = pick_keeps_by (λ (o : AppOut). Adds (and_then o (append_of bs))) (eqb (a.fill + 1) 486) _ _ filled held

  append_runs : (bytes vol : List ℕ) (m : Medium) (st : Store) (a : Appender) → Good vol st → Fit a st → a.fill < 486 → st.head.chunks ≡ c → a.rolls ≡ rolls
      → (e : ℕ) → Owes e vol st → Most (runs e (count (a.fill + length bytes))) m (append_of bytes vol m st a).ans.medium
  unfolding append_of
  append_runs [] vol m st a good fit h same mine e owes = omega arith
  append_runs (b ∷ bs) vol m st a good fit h same mine e owes =
      byte_adds b bs (λ v u s x. append_runs bs v u s x) vol m st a good fit h same mine e owes

-- ---- with a rollover, and with none

rates : (rolls : Bool) (c : ℕ) → Rates rolls c
unfolding pick
rates true c = record { spare = 7; own = 1; per = per_record true c; eight = refl; one = omega arith; two = λ _. (refl, omega arith) }
rates false c = record { spare = 8; own = 0; per = per_record false c; eight = refl; one = omega arith; two = λ t. absurd (false≢true t) }

runs_are : (rolls : Bool) (c n : ℕ) → runs (rates rolls c) (rates rolls c).spare n ≡ records_most rolls c n
unfolding runs rates records_most pick
runs_are true c zero = refl
runs_are true c (suc n) = refl
runs_are false c zero = refl
runs_are false c (suc n) = refl

module _ (vol : List ℕ) (m : Medium) (st : Store) (a : Appender) (good : Good vol st) (fit : Fit a st) where
  abbrev chunks : ℕ
  chunks = st.head.chunks

  -- nothing is known of the copy beside the store's
  pub append_most : (bytes : List ℕ) → a.fill < 486
      → Most (records_most a.rolls chunks ((a.fill + length bytes) / 486)) m (append_of bytes vol m st a).ans.medium
  append_most bytes h =
      let r = rates a.rolls chunks in
      subst (λ (n : ℕ). Most n m (append_of bytes vol m st a).ans.medium) (runs_are a.rolls chunks _)
      (append_runs r bytes vol m st a good fit h refl refl r.spare (inl (omega arith)))

  flush_most : Most (records_most a.rolls chunks 1) m (flush_of vol m st a).ans.medium
  unfolding runs
  flush_most =
      let r = rates a.rolls chunks in
      let x = (flush_writes r vol m st a good fit refl refl r.spare (inl (omega arith))).0 in
      subst (λ (n : ℕ). Most n m (flush_of vol m st a).ans.medium) (runs_are a.rolls chunks 1) (omega (arith, x, one-mul r.per))

  pub sync_most : Most (records_most a.rolls chunks (pick (eqb a.fill 0) 0 1)) m (sync_of vol m st a).ans.medium
  unfolding sync_of pick
  sync_most = go (eqb a.fill 0)
    where
      go : (t : Bool) → Most (records_most a.rolls chunks (pick t 0 1)) m (pick t (done vol m st a) (flush_of vol m st a)).ans.medium
      go true = omega arith
      go false = flush_most
