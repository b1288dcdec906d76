-- What writing keeps, accepted or refused: the store value passes refusal 3 still, and the appender fits it. Assumes nothing.
use Rattle.std.specs.Prelude.{Ok}
use mathlib.Core.Path.{◌≡◌, refl, sym, ◌∙◌}
use mathlib.Core.Bool.{Bool, true, false}
use mathlib.Core.List.{List, []}
use Prim.Native.Nat.{ℕ, ◌+◌, ◌≤◌, ◌<◌, zero-le}
use native.Mathlib.Omega.{arith}
use borrow.Author.Tests.{ltb-true, leb-false, le-leb}
use lib.Dec.{leb, ltb, lit≤}
use lib.ListN.{length, length-take, drop}
use Rattle.le.specs.Part.{part}
use Rattle.le.proofs.Choices.{pick_keeps, pick_keeps_by}
use Rattle.medium.specs.declared.Error.{Error}
use Rattle.medium.specs.declared.Error.TheVariants.{Corrupt, Full}
use Rattle.medium.specs.declared.Medium.{Medium}
use Rattle.medium.specs.Sector.{sectors_of, WriteOut}
use Rattle.medium.proofs.Laws.{on_done_keeps, not_done}
use Rattle.medium.specs.Frame.{Kept}
use Rattle.medium.proofs.Frame.{kept_rest, write_spends, write_kept}
use Rattle.handles.specs.declared.Store.{Store}
use Rattle.handles.specs.Handles.{open_file}
use Rattle.handles.proofs.Laws.{Held, store_facts}
use Rattle.table.specs.Free.{free_of}
use Rattle.table.proofs.Mapped.{free_range}
use Rattle.table.proofs.Decides.{on_pick_keeps}
use Rattle.record.specs.Record.{number_at, data_at, record_of, write_record_of}
use Rattle.record.proofs.Laws.{data_inside}
use Rattle.record.proofs.RoundTrip.{length_record}
use Rattle.plan.specs.declared.Edit.TheVariants.{Extend}
use Rattle.plan.specs.Copy.{Out}
use Rattle.commit.specs.Commit.{commit_of}
use Rattle.remove.specs.Remove.{GoneOut, remove_oldest_of}
use Rattle.remove.proofs.Keeps.{Good, Stands, stands_none, stands_more, commit_stands, OutStands, GoneStands, oldest_stands}
use Rattle.append.specs.declared.Appender.{Appender}
use Rattle.append.specs.declared.Tail.{Tail}
use Rattle.append.specs.declared.Tail.TheVariants.{At, Reopened, Closed}
use Rattle.append.specs.Appender.{dir_bytes, tail_ok, Fit}
use Rattle.append.specs.Flush.{AppOut, stopped, and_then, link_out, rolled_out, extend_of, record_out, on_tail, write_out, flush_of}
use Rattle.append.proofs.Then.{Next}

pub on_tail_keeps : {A : Type 0} (P : A → Type 0) (t : Tail) (f g : ℕ → A) (a : A) → ((i : ℕ) → t ≡ At i → P (f i)) → ((n : ℕ) → t ≡ Reopened n → P (g n)) → P a → P (on_tail t f g a)
unfolding on_tail
on_tail_keeps P (At i) f g a x y z = x i refl
on_tail_keeps P (Reopened n) f g a x y z = y n refl
on_tail_keeps P Closed f g a x y z = z

-- an appender fits a store of the same sizes
pub fit_still : {a : Appender} {st s : Store} → s.head.chunks ≡ st.head.chunks → s.head.chunk ≡ st.head.chunk → Fit a st → Fit a s
fit_still {a} {st} {s} p q f = record { slot = f.slot; chunk = rw p f.chunk; position = f.position; fill = f.fill; full = f.full; tail = rw q f.tail; dir = f.dir }

abbrev pub Goes : List ℕ → Medium → Store → AppOut → Type 0
Goes vol m st o = (Stands vol m st o.vol o.ans.medium o.ans.store) × (Fit o.ans.appender o.ans.store)

pub goes_more : {vol v : List ℕ} {m n : Medium} {st s : Store} (o : AppOut) → Stands vol m st v n s → Goes v n s o → Goes vol m st o
goes_more o p q = (stands_more p q.0, q.1)

pub then_goes : (vol : List ℕ) (m : Medium) (st : Store) (o : AppOut) (next : Next) → Goes vol m st o
    → (o.ans.outcome ≡ Ok tt → Goes o.vol o.ans.medium o.ans.store (next o.vol o.ans.medium o.ans.store o.ans.appender)) → Goes vol m st (and_then o next)
unfolding and_then
then_goes vol m st o next g f =
    let x : AppOut = next o.vol o.ans.medium o.ans.store o.ans.appender in
    on_done_keeps (Goes vol m st) o.ans.outcome _ _ (λ q. goes_more x g.0 (f q)) (λ _ _. g)

-- ---- another chunk

module _ (vol : List ℕ) (m : Medium) (st : Store) (a : Appender) (partial : Bool) (records : ℕ) (good : Good vol st) (fit : Fit a st) where
  module _ (near : a.position < 32767) where
    pub link_goes : (c : ℕ) → c < st.head.chunks → Goes vol m st (link_out vol m st a partial records c)
    unfolding link_out tail_ok
    link_goes c h =
        let o : Out = commit_of (Extend a.slot a.position c a.chunk partial records) [] vol m st in
        let k : OutStands vol m st o = commit_stands (Extend a.slot a.position c a.chunk partial records) [] vol m st good (lit≤ tt) in (
          k,
          on_done_keeps (λ (x : Appender). Fit x o.ans.store) o.ans.outcome _ _
              (λ _. record { slot = fit.slot; chunk = rw k.chunks h; position = omega arith; fill = fit.fill; full = fit.full; tail = le-leb 0 o.ans.store.head.chunk zero-le; dir = fit.dir })
              (λ _ _. fit_still k.chunks k.chunk fit),
        )

module _ (vol : List ℕ) (m : Medium) (st : Store) (a : Appender) (partial : Bool) (records : ℕ) (good : Good vol st) (fit : Fit a st) where
  pub rolled_goes : a.position < 32767 → Goes vol m st (rolled_out vol m st a partial records)
  unfolding rolled_out
  rolled_goes near =
      let g : GoneOut = remove_oldest_of vol m st (dir_bytes a.dir) (open_file st.writer) in
      let k : GoneStands vol m st g = oldest_stands vol m st (dir_bytes a.dir) (open_file st.writer) good in
      let f : Fit a g.ans.store = fit_still k.chunks k.chunk fit in
      let no : (e : Error) → Goes vol m st (stopped g.vol g.ans.medium g.ans.store a e) = λ e. (k, f) in
      on_done_keeps (Goes vol m st) g.ans.outcome _ _
      (λ _. pick_keeps (Goes vol m st) g.ans.any _ _
      (on_pick_keeps (Goes vol m st) (free_of g.vol g.ans.medium g.ans.store) _ _ _ no (no Corrupt)
      (λ c q. goes_more (link_out g.vol g.ans.medium g.ans.store a partial records c) k
      (link_goes g.vol g.ans.medium g.ans.store a partial records k.good f near c (free_range g.vol g.ans.medium g.ans.store (store_facts _ _ k.good.ok).map q))))
      (no Full))
      (λ e _. no e)

  pub extend_goes : Goes vol m st (extend_of vol m st a partial records)
  unfolding extend_of
  extend_goes =
      let no : (e : Error) → Goes vol m st (stopped vol m st a e) = λ e. (stands_none vol m st good, fit) in
      pick_keeps_by (Goes vol m st) (leb 32767 a.position) _ _ (λ _. no Corrupt)
      (λ t.
      let near : a.position < 32767 = leb-false _ _ t in
      on_pick_keeps (Goes vol m st) (free_of vol m st) _ _ _ no
      (pick_keeps (Goes vol m st) a.rolls _ _ (rolled_goes near) (no Full))
      (λ c q. link_goes vol m st a partial records good fit near c (free_range vol m st (store_facts _ _ good.ok).map q)))

-- ---- a record

pub payload_short : (n : ℕ) (l : List ℕ) → n ≤ 486 → length (part 0 n l) ≤ 486
unfolding part
payload_short n l h = omega (arith, length-take n (drop 0 l))

-- the write of record `index` of the appender's chunk
abbrev pub record_write : ℕ → List ℕ → Medium → Store → Appender → WriteOut
record_write index vol m st a = write_record_of vol m st a.id a.chunk index (number_at a.position st.head.chunk index) (part 0 a.fill a.buffer)

module _ (vol : List ℕ) (m : Medium) (st : Store) (a : Appender) (good : Good vol st) (fit : Fit a st) where
  record_inside : (index : ℕ) → index < st.head.chunk → data_at st a.chunk index < sectors_of vol
  record_inside index h = data_inside st a.chunk index (sectors_of vol) fit.chunk h (store_facts st (sectors_of vol) good.ok).head.room

  -- no other sector moves
  pub record_kept : (index : ℕ) → index < st.head.chunk → Kept (data_at st a.chunk index) 1 vol (record_write index vol m st a).vol
  record_kept index h =
      let number : ℕ = number_at a.position st.head.chunk index in
      let payload : List ℕ = part 0 a.fill a.buffer in
      let bytes : List ℕ = record_of st.head.id a.id number payload in
      let n : length bytes ≡ 512 = length_record st.head.id a.id number payload (payload_short a.fill a.buffer fit.fill) in
      write_kept vol m (data_at st a.chunk index) bytes n (record_inside index h)

  pub record_goes : (index : ℕ) → index < st.head.chunk → Goes vol m st (record_out index vol m st a)
  unfolding record_out tail_ok
  record_goes index h =
      let w : WriteOut = record_write index vol m st a in
      let kept = record_kept index h in
      let size : length w.vol ≡ length vol = kept.size in
      let k : Stands vol m st w.vol w.ans.medium st =
      record {
        size = size;
        rest = kept_rest (omega (arith, record_inside index h)) kept;
        medium = write_spends vol m _ _;
        good = record { ok = rw size good.ok; count = good.count };
        id = refl;
        chunks = refl;
        chunk = refl;
      } in
      on_done_keeps (Goes vol m st) w.ans.outcome _ _
      (λ _. (k, record { slot = fit.slot; chunk = fit.chunk; position = fit.position; fill = zero-le; full = fit.full; tail = le-leb (index + 1) st.head.chunk (omega arith); dir = fit.dir }))
      (λ _ _. (k, fit))

pub next_goes : (vol : List ℕ) (m : Medium) (st : Store) (a : Appender) (partial : Bool) (records : ℕ) → Good vol st → Fit a st
    → Goes vol m st (and_then (extend_of vol m st a partial records) (record_out 0))
next_goes vol m st a partial records good fit =
    let o : AppOut = extend_of vol m st a partial records in
    let g : Goes vol m st o = extend_goes vol m st a partial records good fit in
    let held : Held o.ans.store (sectors_of o.vol) = store_facts o.ans.store (sectors_of o.vol) g.0.good.ok in
    then_goes vol m st o (record_out 0) g (λ _. record_goes o.vol o.ans.medium o.ans.store o.ans.appender g.0.good g.1 0 held.head.size_least)

module _ (vol : List ℕ) (m : Medium) (st : Store) (a : Appender) (good : Good vol st) (fit : Fit a st) where
  pub write_goes : Goes vol m st (write_out vol m st a)
  unfolding write_out
  write_goes =
      on_tail_keeps (Goes vol m st) a.tail _ _ _
      (λ i _. pick_keeps_by (Goes vol m st) (ltb i st.head.chunk) _ _ (λ t. record_goes vol m st a good fit i (ltb-true _ _ t)) (λ _. next_goes vol m st a false 0 good fit))
      (λ n _. next_goes vol m st a true n good fit)
      (stands_none vol m st good, fit)

  pub flush_goes : Goes vol m st (flush_of vol m st a)
  unfolding flush_of tail_ok
  flush_goes =
      let o : AppOut = write_out vol m st a in
      let g : Goes vol m st o = write_goes in
      let f : Fit o.ans.appender o.ans.store = g.1 in
      on_done_keeps (Goes vol m st) o.ans.outcome _ _ (λ _. g)
      (λ _ _. (g.0, record { slot = f.slot; chunk = f.chunk; position = f.position; fill = f.fill; full = f.full; tail = refl; dir = f.dir }))

-- ---- an accepted record leaves the buffer empty

abbrev pub Empties : AppOut → Type 0
Empties o = o.ans.outcome ≡ Ok tt → o.ans.appender.fill ≡ 0

module _ (vol : List ℕ) (m : Medium) (st : Store) (a : Appender) where
  record_empties : (index : ℕ) → Empties (record_out index vol m st a)
  unfolding record_out
  record_empties index = on_done_keeps Empties _ _ _ (λ _ _. refl) (λ _ _. not_done)

then_empties : (o : AppOut) → Empties (and_then o (record_out 0))
unfolding and_then
then_empties o = on_done_keeps Empties o.ans.outcome _ _ (λ _. record_empties o.vol o.ans.medium o.ans.store o.ans.appender 0) (λ e q d. not_done (sym q ∙ d))

pub flush_empties : (vol : List ℕ) (m : Medium) (st : Store) (a : Appender) → Empties (flush_of vol m st a)
unfolding flush_of write_out
flush_empties vol m st a =
    let w : Empties (write_out vol m st a) =
    on_tail_keeps Empties a.tail _ _ _ (λ i _. pick_keeps Empties (ltb i st.head.chunk) _ _ (record_empties vol m st a i) (then_empties _)) (λ n _. then_empties _) not_done in
    on_done_keeps Empties (write_out vol m st a).ans.outcome _ _ (λ _. w) (λ _ _. not_done)
