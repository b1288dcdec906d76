-- The calls on offer that write, as 01 has them. The steps are for 01's book. Assumes nothing.
use Rattle.std.specs.Prelude.{ℕ, List, [], ◌∷◌}
use Rattle.le.specs.Choice.{pick}
use Rattle.le.specs.Part.{part}
use Rattle.medium.specs.declared.Medium.{Medium}
use Rattle.medium.specs.Refusal.{Answer, ok, refused, number_of, on_done}
use Rattle.handles.specs.declared.Store.{Store}
use Rattle.handles.specs.Handles.{open_file}
use Rattle.directory.specs.Scan.{find_of, on_found}
use Rattle.plan.specs.declared.Committed.{Committed}
use Rattle.plan.specs.Copy.{Kind, Step, formatted, deleted, deleted_oldest, Out, steps_of, refused_out}
use Rattle.format.specs.Format.{format_of}
use Rattle.remove.specs.declared.Gone.{Gone}
use Rattle.remove.specs.Remove.{remove_of, GoneOut, none_out, remove_oldest_of}
use Rattle.store.specs.declared.StoreAnswer.{StoreAnswer}
use Rattle.store.specs.Asked.{asked_name, asked_dir}
use Rattle.store.specs.Reading.{StoreCall, store_answer}

-- what a call gives whose answer is a store: the volume, the call as 01 has it, and the steps that it made
pub record WriteCall : Type 0 where
  pub vol : List ℕ
  pub call : StoreCall
  pub steps : List Step

abbrev pub answer_of : Committed → StoreAnswer
answer_of c = record { outcome = c.outcome; store = c.store; medium = c.medium }

abbrev pub write_call_of : Kind → Out → WriteCall
write_call_of kind o = record { vol = o.vol; call = store_answer (answer_of o.ans); steps = steps_of kind o }

-- ---- format: the store; refused, one that no call accepts

unfoldable pub format_call : List ℕ → Medium → ℕ → ℕ → WriteCall
format_call vol m size seed = write_call_of formatted (format_of size seed vol m)

-- ---- delete: the file named; refused by the input, or where no file has the name, all is as given

unfoldable pub delete_call : List ℕ → Medium → Store → List ℕ → WriteCall
delete_call vol m st name =
    write_call_of deleted
    (on_done (asked_name vol st name) (on_found (find_of vol m st name) (refused_out st vol m) (remove_of vol m st)) (refused_out st vol m))

-- ---- delete_oldest: the name that went, or none

-- the answer as 01 has it: a name's bytes, or none
pub data Went : Type 0 where
  none : Went
  went : List ℕ → Went

unfoldable pub went_of : Gone → Went
went_of g = pick g.any (went (part 0 g.length g.name)) none

pub record GoneCall : Type 0 where
  pub answer : Answer Went
  pub store : Store
  pub medium : Medium

abbrev pub gone_answer : Gone → GoneCall
gone_answer g = record { answer = on_done g.outcome (ok (went_of g)) (λ e. refused (number_of e)); store = g.store; medium = g.medium }

-- beside the answer as 01 has it, the struct that tells it, whole
pub record OldestCall : Type 0 where
  pub vol : List ℕ
  pub call : GoneCall
  pub gone : Gone
  pub steps : List Step

-- where no file goes, no step is made
unfoldable pub oldest_told : GoneOut → OldestCall
oldest_told g =
    record {
      vol = g.vol;
      call = gone_answer g.ans;
      gone = g.ans;
      steps = pick g.ans.any ((record { kind = deleted_oldest; skipped = g.skipped }) ∷ []) [];
    }

-- the open file is spared
unfoldable pub oldest_call : List ℕ → Medium → Store → List ℕ → OldestCall
oldest_call vol m st dir =
    oldest_told
    (on_done (asked_dir vol st dir) (remove_oldest_of vol m st dir (open_file st.writer)) (λ e. none_out (refused_out st vol m e)))
