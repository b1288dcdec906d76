-- From what a commit and a format leave of the volume, stopped or made, to what they change of the views. Assumes nothing.
use mathlib.Core.Path.{◌≡◌}
use mathlib.Core.Bool.{false}
use mathlib.Core.List.{List}
use Prim.Native.Nat.{ℕ, ◌-◌, ◌<◌}
use native.Mathlib.Omega.{arith}
use Rattle.medium.specs.declared.Medium.{Medium}
use Rattle.medium.specs.Sector.{sectors_of, sector_at}
use Rattle.handles.specs.declared.Store.{Store}
use Rattle.handles.specs.Handles.{body_of}
use Rattle.handles.proofs.Laws.{Sane}
use Rattle.record.specs.Record.{carries_of, data_at}
use Rattle.plan.specs.declared.Edit.{Edit}
use Rattle.plan.specs.Copy.{Out}
use Rattle.safe.specs.Inv.{Inv, CommitStopped, CommitMade, FormatStopped, FormatMade}
use Rattle.safe.proofs.Invs.{inv_held, kept_records}
use Rattle.safe.proofs.Unwritten.{CommitDue}
use Rattle.layout.specs.Views.{disk_of}
use Rattle.layout.specs.Changes.{Unchanged, Fresh}
use Rattle.views.specs.Edited.{Edited}
use Rattle.views.proofs.Stays.{volume_unchanged, fresh}

-- the header of a store between the calls is not foreign
pub inv_sane : {vol : List ℕ} {st : Store} → Inv vol st → Sane st.head (sectors_of vol)
inv_sane inv = (inv_held inv).head

-- refused: nothing changes
body_most : {vol : List ℕ} {st : Store} {k : ℕ} → Inv vol st → k < body_of st.head.chunks → k < 24
body_most inv h = omega (arith, (inv_sane inv).chunks_most)

pub commit_unchanged : {vol : List ℕ} {m : Medium} {st : Store} {o : Out} → Inv vol st → CommitStopped vol m st o → Unchanged (disk_of vol st) (disk_of o.vol o.ans.store)
commit_unchanged {vol} {m} {st} {o} inv c = rw c.store (volume_unchanged vol o.vol st (λ k h. c.body k (body_most inv h)) c.records)

pub format_unchanged : {vol : List ℕ} {m : Medium} {st : Store} {o : Out} → Inv vol st → FormatStopped vol m o → Unchanged (disk_of vol st) (disk_of o.vol st)
format_unchanged {vol} {m} {st} {o} inv f = volume_unchanged vol o.vol st (λ k h. f.body st inv.sound.stands k (body_most inv h)) f.records

-- accepted: an edited body, and an empty one
pub commit_edited : {edit : Edit} {name vol : List ℕ} {m : Medium} {st : Store} {o : Out} → CommitMade edit name vol m st o → Edited edit name vol st o.vol o.ans.store
commit_edited c = record { size = c.frame.size; head = c.head; free = c.free; body = c.body; rest = c.records }

-- on any volume, where each body sector left unwritten held the bytes due
pub due_edited : {edit : Edit} {name vol : List ℕ} {st : Store} {o : Out} → CommitDue edit name vol st o → Edited edit name vol st o.vol o.ans.store
due_edited {st = st} c = record { size = c.frame.size; head = c.head; free = c.free; body = c.body; rest = kept_records (1 - st.copy) c.frame }

-- no sector of the volume before it passes as a record of the new store
pub format_fresh : {chunk : ℕ} {vol : List ℕ} {m : Medium} {o : Out} → FormatMade chunk vol m o
    → ((c i : ℕ) → c < o.ans.store.head.chunks → i < o.ans.store.head.chunk → carries_of o.ans.store.head.id (sector_at vol (data_at o.ans.store c i)) ≡ false)
    → Fresh (disk_of o.vol o.ans.store)
unfolding data_at
format_fresh {o = o} f none =
    fresh o.vol o.ans.store f.body
    (λ c i hc hi. rw (f.records (data_at o.ans.store c i) (omega arith)) (none c i hc hi))
