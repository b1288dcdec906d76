-- What stays while bytes are written, accepted or refused: the store's open appender, and whose appender it is. Assumes nothing.
use mathlib.Core.Path.{◌≡◌, refl, ◌∙◌}
use mathlib.Core.Bool.{Bool, true, false}
use mathlib.Core.List.{List, [], ◌∷◌}
use Prim.Native.Nat.{ℕ, ◌+◌, ◌<◌}
use lib.Dec.{eqb, leb, ltb, lit≤}
use Rattle.le.proofs.Choices.{pick_keeps}
use Rattle.medium.specs.declared.Error.{Error}
use Rattle.medium.specs.declared.Medium.{Medium}
use Rattle.medium.proofs.Laws.{on_done_keeps}
use Rattle.handles.specs.declared.Store.{Store}
use Rattle.handles.specs.Handles.{open_file}
use Rattle.table.specs.Free.{free_of}
use Rattle.table.proofs.Decides.{on_pick_keeps}
use Rattle.plan.specs.declared.Edit.TheVariants.{Extend}
use Rattle.plan.specs.Copy.{Out}
use Rattle.commit.specs.Commit.{commit_of}
use Rattle.commit.proofs.Keeps.{commit_keeps}
use Rattle.remove.specs.Remove.{GoneOut, remove_oldest_of}
use Rattle.remove.proofs.Keeps.{Good, GoneStands, oldest_stands, spared_writer}
use Rattle.append.specs.declared.Appender.{Appender}
use Rattle.append.specs.Appender.{dir_bytes, Fit}
use Rattle.append.specs.Flush.{AppOut, stopped, and_then, link_out, rolled_out, extend_of, record_out, write_out, flush_of, pushed, put_byte, append_of, sync_of}
use Rattle.append.proofs.Then.{Next}
use Rattle.append.proofs.Keeps.{on_tail_keeps}
use Rattle.append.proofs.Runs.{Puts, byte_puts}

-- the same appender, wherever it stands now
pub record Bound (a b : Appender) : Type 0 where
  pub token : b.token ≡ a.token
  pub slot : b.slot ≡ a.slot
  pub id : b.id ≡ a.id
  pub rolls : b.rolls ≡ a.rolls
  pub dir : b.dir ≡ a.dir

pub bound : {a : Appender} → Bound a a
bound = record { token = refl; slot = refl; id = refl; rolls = refl; dir = refl }

bound_more : {a b c : Appender} → Bound a b → Bound b c → Bound a c
bound_more p q = record { token = q.token ∙ p.token; slot = q.slot ∙ p.slot; id = q.id ∙ p.id; rolls = q.rolls ∙ p.rolls; dir = q.dir ∙ p.dir }

abbrev pub Owned : Store → Appender → AppOut → Type 0
Owned st a o = (o.ans.store.writer ≡ st.writer) × (Bound a o.ans.appender)

owned_more : (st : Store) (a : Appender) (o x : AppOut) → Owned st a o → Owned o.ans.store o.ans.appender x → Owned st a x
owned_more st a o x p q = (q.0 ∙ p.0, bound_more p.1 q.1)

then_owned : (st : Store) (a : Appender) (o : AppOut) (next : Next) → Owned st a o
    → Owned o.ans.store o.ans.appender (next o.vol o.ans.medium o.ans.store o.ans.appender) → Owned st a (and_then o next)
unfolding and_then
then_owned st a o next p q =
    let x : AppOut = next o.vol o.ans.medium o.ans.store o.ans.appender in
    on_done_keeps (Owned st a) o.ans.outcome _ _ (λ _. owned_more st a o x p q) (λ _ _. p)

link_owned : (vol : List ℕ) (m : Medium) (st : Store) (a : Appender) (partial : Bool) (records c : ℕ) → Good vol st → Owned st a (link_out vol m st a partial records c)
unfolding link_out
link_owned vol m st a partial records c good =
    let o : Out = commit_of (Extend a.slot a.position c a.chunk partial records) [] vol m st in (
      (commit_keeps (Extend a.slot a.position c a.chunk partial records) [] vol m st good.ok good.count (lit≤ tt)).writer,
      on_done_keeps (Bound a) o.ans.outcome _ _ (λ _. record { token = refl; slot = refl; id = refl; rolls = refl; dir = refl }) (λ _ _. bound),
    )

module _ (vol : List ℕ) (m : Medium) (st : Store) (a : Appender) (partial : Bool) (records : ℕ) (good : Good vol st) where
  rolled_owned : Owned st a (rolled_out vol m st a partial records)
  unfolding rolled_out
  rolled_owned =
      let g : GoneOut = remove_oldest_of vol m st (dir_bytes a.dir) (open_file st.writer) in
      let k : GoneStands vol m st g = oldest_stands vol m st (dir_bytes a.dir) (open_file st.writer) good in
      let w : g.ans.store.writer ≡ st.writer = spared_writer vol m st good (dir_bytes a.dir) in
      let no : (e : Error) → Owned st a (stopped g.vol g.ans.medium g.ans.store a e) = λ e. (w, bound) in
      on_done_keeps (Owned st a) g.ans.outcome _ _
      (λ _. pick_keeps (Owned st a) g.ans.any _ _
      (on_pick_keeps (Owned st a) (free_of g.vol g.ans.medium g.ans.store) _ _ _ (λ e. (w, bound)) (w, bound)
      (λ c q. let l = link_owned g.vol g.ans.medium g.ans.store a partial records c k.good in (l.0 ∙ w, l.1)))
      (w, bound))
      (λ e _. no e)

  extend_owned : Owned st a (extend_of vol m st a partial records)
  unfolding extend_of
  extend_owned =
      pick_keeps (Owned st a) (leb 32767 a.position) _ _ (refl, bound)
      (on_pick_keeps (Owned st a) (free_of vol m st) _ _ _ (λ e. (refl, bound))
      (pick_keeps (Owned st a) a.rolls _ _ rolled_owned (refl, bound))
      (λ c q. link_owned vol m st a partial records c good))

record_owned : (index : ℕ) (vol : List ℕ) (m : Medium) (st : Store) (a : Appender) → Owned st a (record_out index vol m st a)
unfolding record_out
record_owned index vol m st a =
    on_done_keeps (Owned st a) _ _ _ (λ _. (refl, record { token = refl; slot = refl; id = refl; rolls = refl; dir = refl })) (λ _ _. (refl, bound))

module _ (vol : List ℕ) (m : Medium) (st : Store) (a : Appender) (good : Good vol st) where
  next_owned : (partial : Bool) (records : ℕ) → Owned st a (and_then (extend_of vol m st a partial records) (record_out 0))
  next_owned partial records =
      let o : AppOut = extend_of vol m st a partial records in
      then_owned st a o (record_out 0) (extend_owned vol m st a partial records good) (record_owned 0 o.vol o.ans.medium o.ans.store o.ans.appender)

  write_owned : Owned st a (write_out vol m st a)
  unfolding write_out
  write_owned =
      on_tail_keeps (Owned st a) a.tail _ _ _
      (λ i _. pick_keeps (Owned st a) (ltb i st.head.chunk) _ _ (record_owned i vol m st a) (next_owned false 0))
      (λ n _. next_owned true n) (refl, bound)

  pub flush_owned : Owned st a (flush_of vol m st a)
  unfolding flush_of
  flush_owned =
      let w : Owned st a (write_out vol m st a) = write_owned in
      let b : Bound a (write_out vol m st a).ans.appender = w.1 in
      on_done_keeps (Owned st a) (write_out vol m st a).ans.outcome _ _ (λ _. w)
      (λ _ _. (w.0, record { token = b.token; slot = b.slot; id = b.id; rolls = b.rolls; dir = b.dir }))

  pub sync_owned : Owned st a (sync_of vol m st a)
  unfolding sync_of
  sync_owned = pick_keeps (Owned st a) (eqb a.fill 0) _ _ (refl, bound) flush_owned

byte_owned : (b : ℕ) (vol : List ℕ) (m : Medium) (st : Store) (a : Appender) → Good vol st → Owned st a (put_byte b vol m st a)
unfolding put_byte
byte_owned b vol m st a good =
    let p : Bound a (pushed b a) = record { token = refl; slot = refl; id = refl; rolls = refl; dir = refl } in
    let f : Owned st (pushed b a) (flush_of vol m st (pushed b a)) = flush_owned vol m st (pushed b a) good in
    pick_keeps (Owned st a) (eqb (a.fill + 1) 486) _ _ (f.0, bound_more p f.1) (refl, p)

pub append_owned : (bytes vol : List ℕ) (m : Medium) (st : Store) (a : Appender) → Good vol st → Fit a st → a.fill < 486 → Owned st a (append_of bytes vol m st a)
unfolding append_of and_then
append_owned [] vol m st a good fit h = (refl, bound)
append_owned (b ∷ bs) vol m st a good fit h =
    let o : AppOut = put_byte b vol m st a in
    let p : Puts vol m st o = byte_puts vol m st a good fit h b in
    let w : Owned st a o = byte_owned b vol m st a good in
    let x : AppOut = append_of bs o.vol o.ans.medium o.ans.store o.ans.appender in
    on_done_keeps (Owned st a) o.ans.outcome _ _
    (λ q. owned_more st a o x w (append_owned bs o.vol o.ans.medium o.ans.store o.ans.appender p.goes.0.good p.goes.1 (p.room q)))
    (λ _ _. w)
