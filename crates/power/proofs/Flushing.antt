-- A flush of a ready buffer: the record, with another chunk where it needs one; refused, it closes the appender. Assumes nothing.
use Rattle.std.specs.Prelude.{Err}
use Prim.Native.Nat.{ℕ, ◌≤◌}
use mathlib.Core.Path.{◌≡◌, refl, ap, ◌∙◌, subst}
use mathlib.Core.Bool.{Bool, true, false}
use mathlib.Core.List.{List}
use native.Mathlib.Omega.{arith}
use borrow.Author.Tests.{ltb-true, ltb-false}
use lib.Dec.{ltb}
use lib.ListN.{length}
use Rattle.le.proofs.Choices.{pick_keeps_by}
use Rattle.medium.specs.declared.Error.{Error}
use Rattle.medium.specs.declared.Error.TheVariants.{Stale}
use Rattle.medium.specs.declared.Medium.{Medium}
use Rattle.medium.proofs.Laws.{on_done_keeps}
use Rattle.handles.specs.declared.Store.{Store}
use Rattle.append.specs.declared.Appender.{Appender}
use Rattle.append.specs.declared.Tail.{Tail}
use Rattle.append.specs.declared.Tail.TheVariants.{At, Reopened}
use Rattle.append.specs.Appender.{is_closed}
use Rattle.append.specs.Flush.{AppOut, and_then, moved_to, closing, extend_of, record_out, write_out, flush_of}
use Rattle.append.proofs.Keeps.{on_tail_keeps}
use Rattle.safe.proofs.Frame.{clash}
use Rattle.layout.specs.Segments.{Segment, segment_at}
use Rattle.power.specs.Book.{Terms}
use Rattle.power.proofs.Fine.{Fine}
use Rattle.power.proofs.Whole.{TailAt, Stands}
use Rattle.power.proofs.Standing.{sane, count_in}
use Rattle.power.proofs.Flows.{Live, Kept, KeptIf, kept_stopped, kept_then}
use Rattle.power.proofs.Recording.{Ready, record_kept}
use Rattle.power.proofs.Linking.{Marks}
use Rattle.power.proofs.Extending.{extend_moves, extend_kept}

-- the buffer is as it was in the next chunk
ready_moved : {a x : Appender} {rest : List ℕ} (c : ℕ) → x ≡ moved_to c a → Ready a rest → Ready x rest
ready_moved c q r = rw q (record { least = r.least; most = r.most; takes = r.takes; leaves = r.leaves })

-- the first record of a chunk just linked
first_kept : {t : Terms} {vol : List ℕ} {m : Medium} {st : Store} {a x : Appender} {G : ℕ → List Segment} {b : Fine} {rest : List ℕ} (c : ℕ) → x ≡ moved_to c a → Ready a rest
    → Live t vol m st x G b → Stands vol st x G b rest → Kept t b rest (record_out 0 vol m st x)
first_kept {st = st} {x = x} {G = G} c q r l s =
    let n : ℕ = length (segment_at (G x.slot) x.position).payloads in
    let e : 0 ≡ n = subst (λ (y : Tail). TailAt y n st.head.chunk) (ap (λ (y : Appender). y.tail) q) s.tail in
    record_kept l s (ready_moved c q r) 0 e (sane l.whole s).size_least

module _ {t : Terms} {vol : List ℕ} {m : Medium} {st : Store} {a : Appender} {G : ℕ → List Segment} {b : Fine} {rest : List ℕ}
    (l : Live t vol m st a G b) (s : Stands vol st a G b rest) (r : Ready a rest) where
  abbrev count : ℕ
  count = length (segment_at (G a.slot) a.position).payloads

  next_kept : (partial : Bool) (records : ℕ) → Marks partial records count st.head.chunk → KeptIf t b rest (and_then (extend_of vol m st a partial records) (record_out 0))
  next_kept partial records marks =
      kept_then (extend_of vol m st a partial records) (record_out 0) (extend_kept l s partial records marks)
      (λ d H k p _. let c = extend_moves vol m st a partial records d in first_kept c.0 c.1 r k p)

  tail_is : (x : Tail) → a.tail ≡ x → TailAt x count st.head.chunk
  tail_is x q = subst (λ (y : Tail). TailAt y count st.head.chunk) q s.tail

  write_kept : KeptIf t b rest (write_out vol m st a)
  unfolding write_out
  write_kept =
      let P : AppOut → Type 0 = KeptIf t b rest in
      on_tail_keeps P a.tail _ _ _
      (λ i q. pick_keeps_by P (ltb i st.head.chunk) _ _
      (λ h _. record_kept l s r i (tail_is (At i) q) (ltb-true i st.head.chunk h))
      (λ h. next_kept false 0 (refl, full i (tail_is (At i) q) (ltb-false i st.head.chunk h))))
      (λ n q. let e = tail_is (Reopened n) q in next_kept true n (e.0, λ z. e.1 (e.0 ∙ z)))
      (λ _. kept_stopped Stale l)
    where
      full : (i : ℕ) → i ≡ count → st.head.chunk ≤ i → count ≡ st.head.chunk
      full i e h = omega (arith, e, h, count_in l.whole s)

  pub flush_kept : KeptIf t b rest (flush_of vol m st a)
  unfolding flush_of
  flush_kept =
      let o : AppOut = write_out vol m st a in
      on_done_keeps (KeptIf t b rest) o.ans.outcome _ _ (λ _. write_kept) (λ e _ each. closed o e (write_kept each))
    where
      closed : (o : AppOut) (e : Error) → Kept t b rest o → Kept t b rest (closing o e)
      closed o e k =
          record {
            layout = k.layout;
            live = record { whole = k.live.whole; readable = k.live.readable; writer = k.live.writer; spared = k.live.spared; dir = k.live.dir };
            stands = λ d. clash refl d;
          }

-- refused, it is closed
pub flush_closes : (vol : List ℕ) (m : Medium) (st : Store) (a : Appender) (e : Error) → (flush_of vol m st a).ans.outcome ≡ Err e → is_closed (flush_of vol m st a).ans.appender.tail ≡ true
unfolding flush_of is_closed
flush_closes vol m st a e =
    on_done_keeps (λ (o : AppOut). o.ans.outcome ≡ Err e → is_closed o.ans.appender.tail ≡ true) (write_out vol m st a).ans.outcome _ _
    (λ d q. clash q d) (λ x _ q. refl)
