-- 01, "Commit", refusal 10 and "Link": a file removed, by its slot or as the oldest of a directory. Assumes nothing.
use Rattle.std.specs.Prelude.{Ok, Result, Option, None, Some, Err}
use Rattle.directory.specs.declared.Old.{Old}
use Rattle.medium.specs.declared.Error.{Error}
use Rattle.std.specs.Prelude.{ℕ, Bool, true, false, List, [], eqb}
use Rattle.le.specs.Choice.{pick}
use Rattle.le.specs.Part.{part, zeros}
use Rattle.medium.specs.declared.Medium.{Medium}
use Rattle.medium.specs.Refusal.{on_done}
use Rattle.handles.specs.declared.Store.{Store}
use Rattle.handles.specs.declared.Writer.{Writer}
use Rattle.directory.specs.Entry.{entry_at}
use Rattle.directory.specs.Scan.{oldest_of}
use Rattle.plan.specs.declared.Edit.TheVariants.{Remove}
use Rattle.plan.specs.Copy.{Out, Skipped, refused_out}
use Rattle.commit.specs.Commit.{commit_of}
use Rattle.remove.specs.declared.Gone.{Gone}

-- the open appender, unless it is this file's
unfoldable pub writer_without : ℕ → Option Writer → Option Writer
writer_without id None = None
writer_without id (Some w) = pick (eqb w.id id) None (Some w)

abbrev pub closed_for : ℕ → Store → Store
closed_for id st = record { copy = st.copy; head = st.head; writer = writer_without id st.writer; free = st.free }

-- the file of a slot: its entry and every link go in one commit, and it is open no more
unfoldable pub remove_of : List ℕ → Medium → Store → ℕ → ℕ → Out
remove_of vol m st slot id =
    let o : Out = commit_of (Remove slot) [] vol m st in
    on_done o.ans.outcome
    (record { vol = o.vol; ans = record { outcome = Ok tt; medium = o.ans.medium; store = closed_for id o.ans.store }; skipped = o.skipped })
    (λ e. o)

-- what removing the oldest gives: the volume and the answer, with the name that went
pub record GoneOut : Type 0 where
  pub vol : List ℕ
  pub ans : Gone
  pub skipped : List Skipped

-- no file went
abbrev pub none_gone : Result Unit Error → Medium → Store → Gone
none_gone o m st = record { outcome = o; medium = m; store = st; any = false; name = zeros 40; length = 0 }

abbrev pub none_out : Out → GoneOut
none_out o = record { vol = o.vol; ans = none_gone o.ans.outcome o.ans.medium o.ans.store; skipped = [] }

-- the file went, unless its removal was refused; its name stands in the entry with zeros to 40
unfoldable pub gone_of : List ℕ → ℕ → Out → GoneOut
gone_of name len o =
    on_done o.ans.outcome
    (record {
      vol = o.vol;
      ans = record { outcome = Ok tt; medium = o.ans.medium; store = o.ans.store; any = true; name = name; length = len };
      skipped = o.skipped;
    })
    (λ e. none_out o)

-- smallest id goes first, of equal ids the lowest slot; a file of the id that is spared does not go. None is no refusal here
unfoldable pub oldest_gone : List ℕ → Medium → Store → Result (Option Old) Error → GoneOut
oldest_gone vol m st (Err e) = none_out (refused_out st vol m e)
oldest_gone vol m st (Ok None) = none_out (record { vol = vol; ans = record { outcome = Ok tt; medium = m; store = st }; skipped = [] })
oldest_gone vol m st (Ok (Some old)) = gone_of (part 0 40 (entry_at vol st old.slot)) old.len (remove_of vol m st old.slot old.id)

unfoldable pub remove_oldest_of : List ℕ → Medium → Store → List ℕ → Option ℕ → GoneOut
remove_oldest_of vol m st dir spared = oldest_gone vol m st (oldest_of vol m st dir spared)
