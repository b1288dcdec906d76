-- What a refused call that opens something hands back in its place: an appender, or a reader, that no call accepts. Assumes nothing.
use Rattle.std.specs.Prelude.{Err, Ok, Result}
use mathlib.Core.Path.{◌≡◌, refl, ap}
use mathlib.Core.Bool.{Bool, true}
use native.Mathlib.Omega.{arith}
use mathlib.Core.List.{List}
use Prim.Native.Nat.{ℕ}
use lib.ListN.{length}
use Rattle.medium.specs.declared.Error.{Error}
use Rattle.medium.specs.declared.Medium.{Medium}
use Rattle.medium.specs.Refusal.{Answer, ok, refused, on_done, outcome_of}
use Rattle.medium.proofs.Laws.{on_done_keeps}
use Rattle.handles.specs.declared.Store.{Store}
use Rattle.directory.specs.declared.Found.{Found}
use Rattle.directory.specs.Scan.{find_id_of}
use Rattle.directory.proofs.Decides.{on_found_keeps}
use Rattle.table.specs.Table.{chain_of}
use Rattle.table.proofs.Decides.{on_chain_keeps}
use Rattle.reader.specs.Reader.{no_reader}
use Rattle.append.specs.declared.Handed.{Handed}
use Rattle.append.specs.Appender.{no_appender}
use Rattle.append.specs.Flush.{AppOut}
use Rattle.files.specs.Create.{create_of}
use Rattle.files.proofs.Keeps.{create_keeps}
use Rattle.reopen.specs.Reopen.{reopen_of}
use Rattle.reopen.proofs.Opens.{reopen_reads}
use Rattle.store.specs.declared.ReaderAnswer.{ReaderAnswer}
use Rattle.store.specs.Asked.{asked_of}
use Rattle.store.specs.Opening.{rollover_of, admitted_of, create_call, open_call}
use Rattle.store.specs.Reading.{no_reader_answer, started_at, reader_of_id_call}
use Rattle.store.proofs.Admits.{create_is, open_is}
use Rattle.store.proofs.Opens.{input_fits}

-- ---- create and open_append

unanswered : {A : Type 0} {n : ℕ} → ◌≡◌ {A = Answer Unit} (ok tt) (refused n) → A
unanswered q = absurd (let z : ◌≡◌ {A = ℕ} 0 1 = cc in omega arith)

abbrev NoAppender : AppOut → Type 0
NoAppender o = (n : ℕ) → outcome_of o.ans.outcome ≡ refused n → o.ans.appender ≡ no_appender

by_outcome : (o : AppOut) → ((e : Error) → o.ans.outcome ≡ Err e → o.ans.appender ≡ no_appender) → NoAppender o
by_outcome o f n = go o.ans.outcome f
  where
    go : (x : Result Unit Error) → ((e : Error) → x ≡ Err e → o.ans.appender ≡ no_appender) → outcome_of x ≡ refused n → o.ans.appender ≡ no_appender
    go (Ok tt) g q = unanswered q
    go (Err e) g q = g e refl

module _ (vol : List ℕ) (m : Medium) (st : Store) (name : List ℕ) (rolls : Bool) (dir : List ℕ) where
  pub create_none : length st.head.crcs ≡ 24 → (n : ℕ) → (create_call vol m st name rolls dir).call.answer ≡ refused n
      → (create_call vol m st name rolls dir).call.appender ≡ no_appender
  create_none c =
      rw (create_is vol st name rolls dir m)
      (on_done_keeps NoAppender (admitted_of vol st name rolls dir) _ _
      (λ q.
      let f = input_fits vol st name rolls dir refl q in
      by_outcome (create_of name (rollover_of rolls dir) vol m st)
      (λ e d. ((create_keeps vol m st (rollover_of rolls dir) name f.short record { ok = f.ok; count = c }).refused e d).1))
      (λ e q n d. refl))

  pub open_none : (n : ℕ) → (open_call vol m st name rolls dir).call.answer ≡ refused n → (open_call vol m st name rolls dir).call.appender ≡ no_appender
  open_none =
      rw (open_is vol st name rolls dir m)
      (on_done_keeps NoAppender (admitted_of vol st name rolls dir) _ _
      (λ q.
      let r = reopen_reads name (rollover_of rolls dir) vol m st (input_fits vol st name rolls dir refl q).ok in
      by_outcome (reopen_of name (rollover_of rolls dir) vol m st) (λ e d. ap (λ (h : Handed). h.appender) (r.refused e d)))
      (λ e q n d. refl))

-- ---- a reader of the file with an id: the medium record is as given

record Unread (m : Medium) (r : ReaderAnswer) : Type 0 where
  medium : r.medium ≡ m
  reader : (n : ℕ) → outcome_of r.outcome ≡ refused n → r.reader ≡ no_reader

module _ (vol : List ℕ) (m : Medium) (st : Store) where
  none_unread : (e : Error) → Unread m (no_reader_answer m e)
  none_unread e = record { medium = refl; reader = λ n q. refl }

  started_unread : (f : Result Found Error) → Unread m (started_at vol m st f)
  started_unread f =
      on_found_keeps (Unread m) f _ _ (λ e q. none_unread e)
      (λ slot id q.
      on_chain_keeps (Unread m) (chain_of vol m st slot) _ _ none_unread
      (λ p c. record { medium = refl; reader = λ n d. unanswered d }))

  of_id : (id : ℕ) → Unread m (on_done (asked_of vol st true) (started_at vol m st (find_id_of vol m st id)) (no_reader_answer m))
  of_id id = on_done_keeps (Unread m) (asked_of vol st true) _ _ (λ q. started_unread (find_id_of vol m st id)) (λ e q. none_unread e)

  pub by_id_medium : (id : ℕ) → (reader_of_id_call vol m st id).medium ≡ m
  unfolding reader_of_id_call
  by_id_medium id = (of_id id).medium

  pub by_id_none : (id n : ℕ) → (reader_of_id_call vol m st id).answer ≡ refused n → (reader_of_id_call vol m st id).reader ≡ no_reader
  unfolding reader_of_id_call
  by_id_none id = (of_id id).reader
