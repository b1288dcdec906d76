-- Another chunk for an appender's file, found free or made free by a rollover; stopped anywhere, the steps made stand. Assumes nothing.
use Rattle.std.specs.Prelude.{Ok}
use Prim.Native.Nat.{ℕ}
use mathlib.Core.Path.{◌≡◌, refl}
use mathlib.Core.Bool.{Bool}
use mathlib.Core.List.{List, []}
use lib.Dec.{leb}
use lib.ListN.{length}
use Rattle.le.proofs.Choices.{pick_keeps, pick_keeps_by}
use Rattle.medium.specs.declared.Error.{Error}
use Rattle.medium.specs.declared.Error.TheVariants.{Corrupt, Full}
use Rattle.medium.specs.declared.Medium.{Medium}
use Rattle.medium.proofs.Laws.{on_done_keeps}
use Rattle.handles.specs.declared.Store.{Store}
use Rattle.handles.specs.Handles.{open_file}
use Rattle.table.specs.Free.{free_of}
use Rattle.table.proofs.Decides.{on_pick_keeps}
use Rattle.plan.specs.declared.Edit.TheVariants.{Extend}
use Rattle.plan.specs.Copy.{Out}
use Rattle.commit.specs.Commit.{commit_of}
use Rattle.remove.specs.Remove.{GoneOut, remove_oldest_of}
use Rattle.append.specs.declared.Appender.{Appender}
use Rattle.append.specs.Appender.{dir_bytes}
use Rattle.append.specs.Flush.{AppOut, stopped, moved_to, link_out, rolled_out, extend_of}
use Rattle.safe.proofs.Frame.{clash}
use Rattle.layout.specs.Segments.{Segment, segment_at}
use Rattle.power.specs.Book.{Terms}
use Rattle.power.proofs.Fine.{Fine}
use Rattle.power.proofs.Whole.{Stands}
use Rattle.power.proofs.Flows.{Live, KeptIf, kept_stopped}
use Rattle.power.proofs.Linking.{Marks, link_kept}
use Rattle.power.proofs.Rolling.{rolled_kept}

-- ---- accepted, the appender moved to the chunk and is otherwise as it was

abbrev pub Moves : Appender → AppOut → Type 0
Moves a o = o.ans.outcome ≡ Ok tt → (c : ℕ) × (o.ans.appender ≡ moved_to c a)

module _ (vol : List ℕ) (m : Medium) (st : Store) (a : Appender) (partial : Bool) (records : ℕ) where
  link_moves : (v : List ℕ) (u : Medium) (s : Store) (c : ℕ) → Moves a (link_out v u s a partial records c)
  unfolding link_out
  link_moves v u s c d =
      let o : Out = commit_of (Extend a.slot a.position c a.chunk partial records) [] v u s in
      (c, on_done_keeps (λ (x : Appender). x ≡ moved_to c a) o.ans.outcome _ _ (λ _. refl) (λ e q. clash q d))

  abbrev g : GoneOut
  g = remove_oldest_of vol m st (dir_bytes a.dir) (open_file st.writer)

  rolled_moves : Moves a (rolled_out vol m st a partial records)
  unfolding rolled_out
  rolled_moves =
      on_done_keeps (Moves a) g.ans.outcome _ _
      (λ _. pick_keeps (Moves a) g.ans.any _ _
      (on_pick_keeps (Moves a) (free_of g.vol g.ans.medium g.ans.store) _ _ _ (λ e d. clash refl d) (λ d. clash refl d) (λ c _. link_moves g.vol g.ans.medium g.ans.store c))
      (λ d. clash refl d))
      (λ e _ d. clash refl d)

  pub extend_moves : Moves a (extend_of vol m st a partial records)
  unfolding extend_of
  extend_moves =
      pick_keeps (Moves a) (leb 32767 a.position) _ _ (λ d. clash refl d)
      (on_pick_keeps (Moves a) (free_of vol m st) _ _ _ (λ e d. clash refl d)
      (pick_keeps (Moves a) a.rolls _ _ rolled_moves (λ d. clash refl d)) (λ c _. link_moves vol m st c))

-- ---- what stands

module _ {t : Terms} {vol : List ℕ} {m : Medium} {st : Store} {a : Appender} {G : ℕ → List Segment} {b : Fine} {rest : List ℕ}
    (l : Live t vol m st a G b) (s : Stands vol st a G b rest) (partial : Bool) (records : ℕ)
    (marks : Marks partial records (length (segment_at (G a.slot) a.position).payloads) st.head.chunk) where
  pub extend_kept : KeptIf t b rest (extend_of vol m st a partial records)
  unfolding extend_of
  extend_kept =
      let P : AppOut → Type 0 = KeptIf t b rest in
      let no : (e : Error) → P (stopped vol m st a e) = λ e _. kept_stopped e l in
      pick_keeps P (leb 32767 a.position) _ _ (no Corrupt)
      (on_pick_keeps P (free_of vol m st) _ _ _ no
      (pick_keeps_by P a.rolls _ _ (λ r. rolled_kept l s r partial records marks) (λ _. no Full))
      (λ c q. link_kept l s partial records c marks q))
