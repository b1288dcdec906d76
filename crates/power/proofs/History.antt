-- Demand 3: the invariant holds after every history, so the volume shows the book; under the weaker premise, and from it under the literal one.
-- Assumes nothing.
use Prim.Native.Nat.{ℕ, ◌<◌}
use mathlib.Core.Path.{◌≡◌, refl, ap, subst, ◌∙◌}
use mathlib.Core.List.{List, [], ◌∷◌}
use lib.ListN.{get_or}
use Rattle.medium.specs.declared.Medium.{Medium}
use Rattle.medium.specs.Refusal.{ok}
use Rattle.medium.proofs.Laws.{done_told}
use Rattle.plan.specs.Copy.{Skipped, Step, Out, EachSkipped, Distinct}
use Rattle.medium.specs.Sector.{Readable}
use Rattle.format.specs.Format.{format_of}
use Rattle.append.specs.declared.Appender.{Appender}
use Rattle.safe.specs.Inv.{FormatMade}
use Rattle.safe.proofs.Invs.{readable_still}
use Rattle.safe.proofs.Format.{format_bytes}
use Rattle.store.specs.Writing.{format_call}
use Rattle.power.specs.Calls.{Call, mount, format, create, open_append, append, sync, delete, delete_oldest, query}
use Rattle.power.specs.Book as book
use Rattle.power.specs.Book.{Book, new_book}
use Rattle.power.specs.History.{World, ran, fed_by, after, Clean, Given, EachStep, Honest, Premise}
use Rattle.power.specs.Claim.{Holds, started, Demand3, Demand3Weaker}
use Rattle.power.proofs.Fine.{Fine, new_fine, written, fine_of, forget_written, forget_history}
use Rattle.power.proofs.Whole.{Keeps, Booked}
use Rattle.power.proofs.Stays.{owns_none}
use Rattle.power.proofs.Shown.{shown}
use Rattle.power.proofs.Queries.{query_keeps}
use Rattle.power.proofs.Mounting.{mount_keeps}
use Rattle.power.proofs.Formatting.{fresh_whole, format_keeps}
use Rattle.power.proofs.Reopening.{open_keeps}
use Rattle.power.proofs.Creates.{create_keeps}
use Rattle.power.proofs.Deletes.{delete_keeps, oldest_keeps}
use Rattle.power.proofs.Appends.{append_keeps, sync_keeps}

-- ---- one call

-- whatever a call does, the invariant holds of what it leaves and of the book with its steps
pub fine_keeps : (c : Call) (w : World) (b : Fine) → Keeps w b → Given w c → EachStep Distinct (ran w c).steps → Keeps (ran w c).world (written c (fed_by w c) b)
unfolding Given
fine_keeps (mount m) w b k g e = mount_keeps m w b k g
fine_keeps (format m size seed) w b k g e = format_keeps m size seed w b k g
fine_keeps (create rules left name rolls dir) w b k g e = create_keeps rules w b k left name rolls dir e
fine_keeps (open_append rules left name rolls dir) w b k g e = open_keeps rules left name rolls dir w b k
fine_keeps (append left bytes) w b k g e = append_keeps w b k left bytes e
fine_keeps (sync left) w b k g e = sync_keeps w b k left e
fine_keeps (delete left name) w b k g e = delete_keeps w b k left name e
fine_keeps (delete_oldest left dir) w b k g e = oldest_keeps w b k left dir e
fine_keeps (query q) w b k g e = query_keeps q w b k

-- ---- all of them

pub history_keeps : (cs : List Call) (w : World) (b : Fine) → Keeps w b → Premise Distinct w cs → Keeps (after w cs) (fine_of w cs b)
unfolding after fine_of Premise
history_keeps [] w b h p = h
history_keeps (c ∷ cs) w b h p = history_keeps cs (ran w c).world (written c (fed_by w c) b) (fine_keeps c w b h p.0 p.1) p.2

-- ---- the start

-- an accepted format on any bytes, beside any appender
pub started_fine : (vol : List ℕ) (m : Medium) (size seed : ℕ) (ap : Appender) → ((k : ℕ) → get_or vol k 0 < 256) → (format_call vol m size seed).call.answer ≡ ok tt
    → Readable vol m → Clean vol (format_call vol m size seed).call.store → Keeps (started (format_call vol m size seed) ap) (new_fine size)
unfolding format_call
started_fine vol m size seed ap bytes a r clean =
    let o : Out = format_of size seed vol m in
    let f : FormatMade size vol m o = format_bytes size seed vol m bytes (done_told o.ans.outcome a) in
    record {
      layout = λ s. [];
      whole = fresh_whole (new_fine size) refl refl refl refl f clean;
      owns = owns_none f.writer;
      readable = readable_still vol o.vol f.used f.size r;
    }

-- ---- 01's book

pub call_keeps : (c : Call) (w : World) (b : Book) → Booked w b → Given w c → EachStep Distinct (ran w c).steps → Booked (ran w c).world (book.written c (fed_by w c) b)
call_keeps c w b k g e =
    record {
      fine = written c (fed_by w c) k.fine;
      same = forget_written c (fed_by w c) k.fine ∙ ap (book.written c (fed_by w c)) k.same;
      keeps = fine_keeps c w k.fine k.keeps g e;
    }

pub started_keeps : (vol : List ℕ) (m : Medium) (size seed : ℕ) (ap : Appender) → ((k : ℕ) → get_or vol k 0 < 256) → (format_call vol m size seed).call.answer ≡ ok tt
    → Readable vol m → Clean vol (format_call vol m size seed).call.store → Booked (started (format_call vol m size seed) ap) new_book
started_keeps vol m size seed ap bytes a r clean = record { fine = new_fine size; same = refl; keeps = started_fine vol m size seed ap bytes a r clean }

-- the volume shows it
pub booked_shown : {w : World} {b : Book} → Booked w b → Holds w.vol b
booked_shown {w} k = subst (Holds w.vol) k.same (shown _ _ k.keeps.layout _ k.keeps.whole)

-- ---- demand 3

pub no_batch_lost : Demand3Weaker
no_batch_lost vol m size seed ap calls bytes a r clean p =
    let w : World = started (format_call vol m size seed) ap in
    let h = history_keeps calls w (new_fine size) (started_fine vol m size seed ap bytes a r clean) p in
    subst (Holds (after w calls).vol) (forget_history w calls (new_fine size)) (shown _ _ h.layout _ h.whole)

-- a sector that holds the bytes due there holds them where the checksums are equal
each_skipped : (l : List Skipped) → EachSkipped Honest l → EachSkipped Distinct l
unfolding EachSkipped
each_skipped [] h = tt
each_skipped (s ∷ l) h = (λ _. h.0, each_skipped l h.1)

each_step : (l : List Step) → EachStep Honest l → EachStep Distinct l
unfolding EachStep
each_step [] h = tt
each_step (s ∷ l) h = (each_skipped s.skipped h.0, each_step l h.1)

pub weaker : (cs : List Call) (w : World) → Premise Honest w cs → Premise Distinct w cs
unfolding Premise
weaker [] w p = tt
weaker (c ∷ cs) w p = (p.0, each_step (ran w c).steps p.1, weaker cs (ran w c).world p.2)

pub no_batch_lost_literal : Demand3
no_batch_lost_literal vol m size seed ap calls bytes a r clean p =
    no_batch_lost vol m size seed ap calls bytes a r clean (weaker calls (started (format_call vol m size seed) ap) p)
