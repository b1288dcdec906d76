-- S-5: 16 with all as given, and else 01's create and open_append. Assumes nothing.
use Rattle.std.specs.Prelude.{Ok, Result}
use Rattle.medium.specs.declared.Error.{Error}
use mathlib.Core.Path.{◌≡◌, refl, ap, ◌∙◌}
use mathlib.Core.Bool.{Bool, true, false}
use mathlib.Core.List.{List, [], ◌∷◌}
use Prim.Native.Nat.{ℕ}
use Rattle.le.specs.Choice.{pick}
use Rattle.names.specs.Names.{name_ok, dotted}
use Rattle.names.proofs.Edges.{dot_edges}
use Rattle.medium.specs.declared.Medium.{Medium}
use Rattle.medium.specs.Refusal.{on_done}
use Rattle.medium.specs.Sector.{sectors_of}
use Rattle.handles.specs.declared.Store.{Store}
use Rattle.handles.specs.Handles.{store_ok}
use Rattle.append.specs.Calls.{AppCall, call_of}
use Rattle.append.specs.Flush.{AppOut}
use Rattle.files.specs.Opened.{refused_at}
use Rattle.files.specs.Create.{create_of}
use Rattle.reopen.specs.Reopen.{reopen_of}
use Rattle.store.specs.Asked.{asked_of}
use Rattle.store.specs.Opening.{open_fine, rollover_of, opening, create_earlier, open_earlier, admitted_of, if_admitted, create_call, open_call}
use Rattle.store.specs.Dots.{Refused16, BothRefused, AsEarlier, Dots}
use Rattle.store.proofs.Laws.{asked_done}
use Rattle.store.proofs.Admits.{admitted_same, create_is, open_is}
use Rattle.store.proofs.Starred.{starred}

module _ (vol : List ℕ) (m : Medium) (st : Store) (name : List ℕ) (rolls : Bool) (dir : List ℕ) where
  module _ (passes : store_ok st (sectors_of vol) ≡ true) (fine : open_fine name rolls dir ≡ true) (has : dotted name ≡ true) where
    refused_16 : (call : AppCall) → Refused16 vol m st (if_admitted vol m st name rolls dir call)
    unfolding if_admitted admitted_of asked_of on_done pick
    refused_16 call = rw (passes, fine, has) (record { answer = refl; volume = refl; medium = refl; store = refl; appender = refl; steps = refl })

    both : BothRefused vol m st name rolls dir
    unfolding create_call open_call
    both = (refused_16 (create_earlier vol m st name rolls dir), refused_16 (open_earlier vol m st name rolls dir))

  as_earlier : (asked_of vol st (open_fine name rolls dir) ≡ Ok tt → dotted name ≡ false) → AsEarlier vol m st name rolls dir
  unfolding create_earlier open_earlier opening
  as_earlier not =
      let same = admitted_same vol st name rolls dir not in
      let by : AppOut → Result Unit Error → AppCall = λ work o. call_of (on_done o work (refused_at vol m st)) in (
        create_is vol st name rolls dir m ∙ ap (by (create_of name (rollover_of rolls dir) vol m st)) same,
        open_is vol st name rolls dir m ∙ ap (by (reopen_of name (rollover_of rolls dir) vol m st)) same,
      )

-- a directory that is not set is not asked
unset : (name dir : List ℕ) → name_ok name ≡ true → open_fine name false dir ≡ true
unset name dir fine = rw fine

pub dots : Dots
dots =
    record {
      dots = both;
      plain = λ vol m st name rolls dir e. as_earlier vol m st name rolls dir (λ _. e);
      first = λ vol m st name rolls dir no. as_earlier vol m st name rolls dir (λ d. absurd (let a = asked_done vol st (open_fine name rolls dir) refl d in no a.ok a.named));
      bad_directory = λ vol m st dir ok bad. let r = starred.bad_dir vol m st dir ok bad in (r.create (46 ∷ 97 ∷ []), r.open_append_lem (46 ∷ 97 ∷ []));
      unset_directory = λ vol m st dir ok. both vol m st (46 ∷ 97 ∷ []) false dir ok (unset (46 ∷ 97 ∷ []) dir dot_edges.first.0) dot_edges.first.1;
      dot_directory = λ vol m st. as_earlier vol m st (97 ∷ 46 ∷ 98 ∷ []) true (46 ∷ 100 ∷ 47 ∷ []) (λ _. dot_edges.within.1);
    }
