-- 01, "Commit": it reads both headers, refuses if the store value is not current, zeros the other header, writes each body sector whose new
-- checksum that header did not list, then the new header. Assumes nothing.
use Rattle.std.specs.Prelude.{ℕ, ◌-◌, ◌^◌, Bool, ◌&&◌, List, eqb}
use Rattle.le.specs.Choice.{pick}
use Rattle.le.specs.Part.{zeros}
use Rattle.runs.specs.Run.{same_bytes}
use Rattle.medium.specs.declared.Error.TheVariants.{Stale, Spent}
use Rattle.medium.specs.declared.Medium.{Medium}
use Rattle.medium.specs.Refusal.{on_done}
use Rattle.handles.specs.declared.Header.{Header}
use Rattle.handles.specs.declared.Store.{Store}
use Rattle.header.specs.declared.answers.Current.{Current}
use Rattle.header.specs.Copies.{current_of}
use Rattle.plan.specs.declared.Edit.{Edit}
use Rattle.plan.specs.Edit.{head_after}
use Rattle.plan.specs.Copy.{Plan, Out, refused_out, copy_out}

-- two headers are equal in every field, all 24 checksums too
unfoldable pub same_head : Header → Header → Bool
same_head a b =
    eqb a.id b.id && (eqb a.generation b.generation && (eqb a.next_id b.next_id && (eqb a.cursor b.cursor
    && (eqb a.chunks b.chunks && (eqb a.chunk b.chunk && same_bytes a.crcs b.crcs)))))

-- the store value is the current one
unfoldable pub is_current : Current → Store → Bool
is_current c st = eqb c.copy st.copy && same_head c.head st.head

-- into the other copy, whose header is zeroed first
unfoldable pub commit_plan : Current → Edit → List ℕ → Store → Plan
commit_plan c edit name st =
    record {
      store = st;
      copy = 1 - st.copy;
      head = head_after edit st.head;
      first = zeros 512;
      edit = edit;
      name = name;
      known = c.known;
      listed = c.listed;
    }

unfoldable pub commit_of : Edit → List ℕ → List ℕ → Medium → Store → Out
commit_of edit name vol m st =
    let c : Current = current_of vol m in
    on_done c.outcome
    (pick (is_current c st)
    (pick (eqb st.head.generation (2 ^ 64 - 1)) (refused_out st vol m Spent) (copy_out (commit_plan c edit name st) vol m))
    (refused_out st vol m Stale))
    (refused_out st vol m)
