-- The bytes past the last whole sector after create, delete and delete_oldest: as they were, accepted, refused or stopped, whatever the handles (a
-- header's checksums are 24 by its type). Assumes nothing.
use Rattle.std.specs.Prelude.{Ok}
use mathlib.Core.Path.{◌≡◌, refl}
use mathlib.Core.Bool.{Bool}
use mathlib.Core.List.{List}
use Prim.Native.Nat.{ℕ}
use lib.ListN.{length}
use Rattle.names.specs.Names.{name_ok, dir_ok}
use Rattle.medium.specs.declared.Medium.{Medium}
use Rattle.medium.proofs.Laws.{on_done_keeps}
use Rattle.medium.proofs.Frame.{rest_of}
use Rattle.handles.specs.declared.Store.{Store}
use Rattle.handles.specs.Handles.{open_file}
use Rattle.directory.specs.Scan.{find_of}
use Rattle.directory.proofs.Decides.{on_found_keeps}
use Rattle.plan.specs.Copy.{Out}
use Rattle.remove.specs.Remove.{GoneOut}
use Rattle.remove.proofs.Keeps.{Good, stands_none, remove_stands, oldest_stands}
use Rattle.append.specs.Flush.{AppOut}
use Rattle.files.proofs.Keeps.{from_holds}
use Rattle.store.specs.Asked.{asked_of}
use Rattle.store.specs.Opening.{open_fine, rollover_of, admitted_of, create_call}
use Rattle.store.specs.Writing.{delete_call, oldest_told, oldest_call}
use Rattle.store.proofs.Laws.{asked_done}
use Rattle.store.proofs.Admits.{admitted_asked, create_is}
use Rattle.store.proofs.Opens.{Opened, input_fits}

module _ (vol : List ℕ) (m : Medium) (st : Store) (count : length st.head.crcs ≡ 24) where
  abbrev Same : List ℕ → Type 0
  Same v = rest_of v ≡ rest_of vol

  good : (fine : Bool) → asked_of vol st fine ≡ Ok tt → Good vol st
  good fine q = record { ok = (asked_done vol st fine refl q).ok; count = count }

  pub create_rest : (name : List ℕ) (rolls : Bool) (dir : List ℕ) → Same (create_call vol m st name rolls dir).vol
  create_rest name rolls dir =
      rw (create_is vol st name rolls dir m)
      (on_done_keeps (λ (o : AppOut). Same o.vol) (admitted_of vol st name rolls dir) _ _
      (λ q.
      let a : Opened vol st name rolls dir = input_fits vol st name rolls dir refl q in
      from_holds vol m st (rollover_of rolls dir) (λ v x. Same v)
      (record { no = λ v n s e k. k.rest; yes = λ v n s slot id chunk k hs hi hc. k.rest })
      name a.short 2 vol m st (stands_none vol m st (good (open_fine name rolls dir) (admitted_asked vol st name rolls dir q))))
      (λ e q. refl))

  pub delete_rest : (name : List ℕ) → Same (delete_call vol m st name).vol
  unfolding delete_call
  delete_rest name =
      on_done_keeps (λ (o : Out). Same o.vol) (asked_of vol st (name_ok name)) _ _
      (λ q. on_found_keeps (λ (o : Out). Same o.vol) (find_of vol m st name) _ _ (λ e _. refl)
      (λ slot id w. (remove_stands vol m st slot id (good (name_ok name) q)).rest))
      (λ e q. refl)

  pub oldest_rest : (dir : List ℕ) → Same (oldest_call vol m st dir).vol
  unfolding oldest_call oldest_told
  oldest_rest dir =
      on_done_keeps (λ (o : GoneOut). Same o.vol) (asked_of vol st (dir_ok dir)) _ _
      (λ q. (oldest_stands vol m st dir (open_file st.writer) (good (dir_ok dir) q)).rest)
      (λ e q. refl)
