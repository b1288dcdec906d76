-- delete and delete_oldest keep what holds between the calls: their steps stand, whatever the writes left. Assumes nothing.
use Rattle.std.specs.Prelude.{Err, Ok, Result}
use Prim.Native.Nat.{ℕ}
use mathlib.Core.Path.{◌≡◌, refl}
use mathlib.Core.Bool.{false}
use mathlib.Core.Option.{some}
use mathlib.Core.List.{List, [], map}
use Rattle.le.specs.Choice.{pick}
use Rattle.le.proofs.Choices.{pick_keeps, pick_keeps_by}
use Rattle.medium.specs.declared.Error.{Error}
use Rattle.medium.specs.declared.Medium.{Medium}
use Rattle.medium.specs.Refusal.{on_done}
use Rattle.medium.proofs.Laws.{on_done_keeps}
use Rattle.handles.specs.declared.Store.{Store}
use Rattle.handles.specs.Handles.{open_file}
use Rattle.directory.specs.Scan.{find_of, found_at}
use Rattle.directory.proofs.Decides.{on_found_keeps}
use Rattle.plan.specs.Copy.{Step, Out, steps_of, deleted, refused_out, Distinct}
use Rattle.remove.specs.Remove.{remove_of, GoneOut, remove_oldest_of, none_out}
use Rattle.store.specs.Writing.{WriteCall, delete_call, OldestCall, oldest_told, oldest_call}
use Rattle.folds.proofs.Named.{find_view}
use Rattle.power.specs.Calls.{delete, delete_oldest}
use Rattle.power.specs.Book as book
use Rattle.power.specs.Book.{Terms, terms_of}
use Rattle.power.specs.History.{World, with_left, ran, fed_by, open_of, EachStep}
use Rattle.power.proofs.Fine.{Fine, entered, entered_all, before_steps, after_steps, written}
use Rattle.power.proofs.Whole.{Keeps}
use Rattle.power.proofs.Picks.{without_name_lem}
use Rattle.power.proofs.Unmade.{unmade_keeps}
use Rattle.power.proofs.Removing.{gone_keeps, remove_stopped, remove_made}
use Rattle.power.proofs.Oldest.{spared_open, oldest_stopped, oldest_none, oldest_made}

-- the world after a call that hands no appender back
abbrev left_by : World → List ℕ → Medium → Store → World
left_by w v u t = record { vol = v; store = t; appender = w.appender; medium = u }

module _ (w : World) (b : Fine) (k : Keeps w b) (left : ℕ) where
  abbrev m : Medium
  m = with_left left w.medium

  -- no step
  same_keeps : Keeps (left_by w w.vol m w.store) b
  same_keeps = record { layout = k.layout; whole = k.whole; owns = k.owns; readable = k.readable }

  -- a call's steps stand
  abbrev Stood : Terms → World → List Step → Type 0
  Stood t w' ss = EachStep Distinct ss → Keeps w' (entered_all t (map (λ (s : Step). s.kind) ss) b)

  -- ---- delete

  module _ (t : Terms) where
    abbrev StoodAs : Out → Type 0
    StoodAs o = Stood t (left_by w o.vol o.ans.medium o.ans.store) (steps_of deleted o)

    refused_stood : (e : Error) → StoodAs (refused_out w.store w.vol m e)
    unfolding steps_of on_done entered_all
    refused_stood e h = same_keeps

    named_stood : (slot id : ℕ) → find_of w.vol m w.store t.name ≡ found_at slot id → StoodAs (remove_of w.vol m w.store slot id)
    unfolding steps_of EachStep entered_all entered book.entered
    named_stood slot id q =
        let v = find_view w.vol m w.store t.name q in
        let o : Out = remove_of w.vol m w.store slot id in
        on_done_keeps (Stood t (left_by w o.vol o.ans.medium o.ans.store)) o.ans.outcome _ _
        (λ d h.
        let g = remove_made w.vol m w.store k.layout b k.whole slot id v.0 v.1 d h.0 in
        let same = without_name_lem k.whole.good k.whole.ties v.0 v.1 in
        gone_keeps w b k k.readable g _ (rw same g.whole))
        (λ e d h. unmade_keeps w b k k.readable (remove_stopped w.vol m w.store k.layout b k.whole slot id v.0 d))

    abbrev deletion : WriteCall
    deletion = delete_call w.vol m w.store t.name

    delete_stood : Stood t (left_by w deletion.vol deletion.call.medium deletion.call.store) deletion.steps
    unfolding delete_call
    delete_stood = on_done_keeps StoodAs _ _ _ (λ d. on_found_keeps StoodAs _ _ _ (λ e _. refused_stood e) named_stood) (λ e d. refused_stood e)

  -- ---- delete_oldest: the open file is spared

  module _ (dir : List ℕ) where
    abbrev terms : Terms
    terms = record { name = []; dir = some dir; spared = open_of w.store.writer }

    abbrev StoodOld : GoneOut → Type 0
    StoodOld g = Stood terms (left_by w g.vol g.ans.medium g.ans.store) (oldest_told g).steps

    abbrev g : GoneOut
    g = remove_oldest_of w.vol m w.store dir (open_file w.store.writer)

    idle_keeps : g.ans.any ≡ false → Keeps (left_by w g.vol g.ans.medium g.ans.store) b
    idle_keeps n = go g.ans.outcome refl
      where
        go : (o : Result Unit Error) → g.ans.outcome ≡ o → Keeps (left_by w g.vol g.ans.medium g.ans.store) b
        go (Ok tt) d =
            let x = oldest_none w.vol m w.store k.layout b k.whole k.readable dir (open_file w.store.writer) d n in
            rw (x.0, x.1, x.2) same_keeps
        go (Err e) d = unmade_keeps w b k k.readable (oldest_stopped w.vol m w.store k.layout b k.whole k.readable dir (open_file w.store.writer) d).0

    gone_stood : StoodOld g
    unfolding oldest_told EachStep entered_all entered book.entered
    gone_stood =
        pick_keeps_by (Stood terms (left_by w g.vol g.ans.medium g.ans.store)) g.ans.any _ _
        (λ e h.
        let x = oldest_made w.vol m w.store k.layout b k.whole k.readable dir (open_file w.store.writer) e h.0 in
        gone_keeps w b k k.readable x.gone _ (rw (← spared_open w.store.writer) x.whole))
        (λ e h. idle_keeps e)

    kept_stood : (e : Error) → StoodOld (none_out (refused_out w.store w.vol m e))
    unfolding oldest_told entered_all pick
    kept_stood e h = same_keeps

    abbrev oldest : OldestCall
    oldest = oldest_call w.vol m w.store dir

    oldest_stood : Stood terms (left_by w oldest.vol oldest.call.medium oldest.call.store) oldest.steps
    unfolding oldest_call oldest_told
    oldest_stood = on_done_keeps StoodOld _ _ _ (λ d. gone_stood) (λ e d. kept_stood e)

pub delete_keeps : (w : World) (b : Fine) → Keeps w b → (left : ℕ) (name : List ℕ) → EachStep Distinct (ran w (delete left name)).steps
    → Keeps (ran w (delete left name)).world (written (delete left name) (fed_by w (delete left name)) b)
unfolding ran written fed_by terms_of before_steps book.before_steps after_steps book.after_steps
delete_keeps w b k left name h = pick_keeps (Keeps (ran w (delete left name)).world) _ _ _ (delete_stood w b k left _ h) (delete_stood w b k left _ h)

pub oldest_keeps : (w : World) (b : Fine) → Keeps w b → (left : ℕ) (dir : List ℕ) → EachStep Distinct (ran w (delete_oldest left dir)).steps
    → Keeps (ran w (delete_oldest left dir)).world (written (delete_oldest left dir) (fed_by w (delete_oldest left dir)) b)
unfolding ran written fed_by terms_of before_steps book.before_steps after_steps book.after_steps
oldest_keeps w b k left dir h = pick_keeps (Keeps (ran w (delete_oldest left dir)).world) _ _ _ (oldest_stood w b k left dir h) (oldest_stood w b k left dir h)
