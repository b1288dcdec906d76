-- A list has at most 64 rows, so that its answer has a bound. Assumes nothing.
use mathlib.Core.List.{List}
use Prim.Native.Nat.{ℕ, ◌≤◌}
use lib.ListN.{length}
use Rattle.le.proofs.Choices.{pick_keeps}
use Rattle.words.specs.Words.{Rollover, Line, format, create, append, sync, delete, list, other, line_of}
use Rattle.medium.proofs.Laws.{on_ok_keeps}
use Rattle.store.proofs.Lists.{list_few as call_few}
use Rattle.session.specs.declared.Session.{Session}
use Rattle.session.specs.Session.{allowed_of, Turn, format_line, create_line, append_line, sync_line, delete_line, list_line, after_format, after_create, line_step, step_of}
use Rattle.lines.specs.Text.{Few}

-- ---- an answer of each line

abbrev FewOf : Turn → Type 0
FewOf t = Few t.said

after_format_lem : (vol : List ℕ) (s : Session) (t : Turn) → FewOf t → FewOf (after_format vol s t)
unfolding after_format
after_format_lem vol s t h = pick_keeps FewOf s.formatted _ _ h tt

after_create_lem : (vol : List ℕ) (s : Session) (t : Turn) → FewOf t → FewOf (after_create vol s t)
unfolding after_create
after_create_lem vol s t h = after_format_lem vol s _ (pick_keeps FewOf s.created _ _ h tt)

module _ (vol : List ℕ) (s : Session) where
  format_few : (size seed : ℕ) → FewOf (format_line vol s size seed)
  unfolding format_line
  format_few size seed = on_ok_keeps FewOf _ (λ _. tt) (λ n. tt)

  create_few : (name : List ℕ) (over : Rollover) → FewOf (create_line vol s name over)
  unfolding create_line
  create_few name over = on_ok_keeps FewOf _ (λ _. tt) (λ n. tt)

  append_few : (text : List ℕ) → FewOf (append_line vol s text)
  unfolding append_line
  append_few text = on_ok_keeps Few _ (λ _. on_ok_keeps Few _ (λ n. tt) (λ n. tt)) (λ n. tt)

  sync_few : FewOf (sync_line vol s)
  unfolding sync_line
  sync_few = on_ok_keeps Few _ (λ _. on_ok_keeps Few _ (λ n. tt) (λ n. tt)) (λ n. tt)

  delete_few : (name : List ℕ) → FewOf (delete_line vol s name)
  unfolding delete_line
  delete_few name = on_ok_keeps Few _ (λ _. tt) (λ n. tt)

  list_few : (rows : List ℕ) → 3072 ≤ length rows → FewOf (list_line vol s rows).0
  unfolding list_line
  list_few rows room = on_ok_keeps Few _ (λ _. call_few vol _ _ _ _ rows room) (λ n. tt)

  line_few : (rows : List ℕ) → 3072 ≤ length rows → (x : Line) → FewOf (line_step vol s rows x).0
  unfolding line_step
  line_few rows room other = tt
  line_few rows room (format size seed) = format_few size seed
  line_few rows room (create name over) = after_format_lem vol s _ (create_few name over)
  line_few rows room (append text) = after_create_lem vol s _ (append_few text)
  line_few rows room sync = after_create_lem vol s _ sync_few
  line_few rows room (delete name) = after_format_lem vol s _ (delete_few name)
  line_few rows room list = pick_keeps (λ (p : Turn × List ℕ). FewOf p.0) s.formatted _ _ (list_few rows room) tt

pub step_few : (vol : List ℕ) (s : Session) (rows line : List ℕ) → 3072 ≤ length rows → Few (step_of vol s rows line).0.said
unfolding step_of
step_few vol s rows line room = line_few vol (allowed_of s) rows room (line_of line)
