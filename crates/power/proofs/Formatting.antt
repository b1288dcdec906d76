-- Format keeps the invariant: refused it leaves what there was, accepted an empty store with an empty book. Assumes nothing.
use Rattle.std.specs.Prelude.{Err, Ok, Result}
use Prim.Native.Nat.{ℕ}
use mathlib.Core.Path.{◌≡◌, refl, sym, subst, ◌∙◌}
use mathlib.Core.Bool.{true}
use mathlib.Core.List.{List, [], ◌∷◌}
use Rattle.le.specs.Choice.{pick}
use Rattle.medium.specs.declared.Error.{Error}
use Rattle.medium.specs.declared.Medium.{Medium}
use Rattle.medium.specs.Refusal.{on_done}
use Rattle.handles.specs.declared.Store.{Store}
use Rattle.plan.specs.Copy.{formatted, Out, steps_of}
use Rattle.format.specs.Format.{format_of}
use Rattle.safe.specs.Inv.{FormatStopped, FormatMade}
use Rattle.safe.proofs.Invs.{readable_still}
use Rattle.safe.proofs.Format.{format_stopped, format_again}
use Rattle.layout.specs.Views.{disk_of}
use Rattle.layout.specs.Changes.{Unchanged}
use Rattle.layout.proofs.Unchanged.{fresh_good}
use Rattle.views.proofs.Commits.{format_unchanged, format_fresh}
use Rattle.views.proofs.Maps.{mapped_kept, zeroed_mapped}
use Rattle.store.specs.Writing.{format_call}
use Rattle.power.specs.Calls.{format}
use Rattle.power.specs.History.{World, is_ok, if_ok, ran, fed_by, Clean, Given}
use Rattle.power.specs.Book as book
use Rattle.power.proofs.Fine.{Fine, entered, entered_all, before_steps, after_steps, written}
use Rattle.power.proofs.Whole.{Whole, Keeps}
use Rattle.power.proofs.Unmade.{whole_same}
use Rattle.power.proofs.Stays.{owns_same, owns_none}
use Rattle.power.proofs.Ties.{ties_fresh}
use Rattle.power.proofs.Parts.{parted_fresh}

-- an empty store and an empty book
pub fresh_whole : {size : ℕ} {vol : List ℕ} {m : Medium} {o : Out} (b : Fine) → b.next ≡ 1 → b.files ≡ [] → b.ids ≡ 1 → b.size ≡ size → FormatMade size vol m o → Clean vol o.ans.store
    → Whole o.vol o.ans.store (λ s. []) b
fresh_whole b n f i z made clean =
    let fresh = format_fresh made clean in
    record {
      inv = made.inv;
      map = zeroed_mapped _ _ made.body made.chunks_range.1 made.free;
      good = fresh_good fresh;
      ties = rw f (ties_fresh fresh);
      parts = parted_fresh b.parts fresh;
      next = n ∙ sym made.next;
      ids = i ∙ sym made.next;
      size = z ∙ sym made.chunk_is;
    }

module _ (m : Medium) (size seed : ℕ) (w : World) (b : Fine) where
  abbrev out : Out
  out = format_of size seed w.vol m

  -- what the call leaves, by its outcome
  abbrev left : Store → World
  left st = record { vol = out.vol; store = st; appender = w.appender; medium = out.ans.medium }

  refused_world : {e : Error} → out.ans.outcome ≡ Err e → (ran w (format m size seed)).world ≡ left w.store
  unfolding ran format_call if_ok
  refused_world q = rw q

  made_world : out.ans.outcome ≡ Ok tt → (ran w (format m size seed)).world ≡ left out.ans.store
  unfolding ran format_call if_ok
  made_world q = rw q

  refused_book : {e : Error} → out.ans.outcome ≡ Err e → written (format m size seed) (fed_by w (format m size seed)) b ≡ b
  unfolding written fed_by ran format_call steps_of on_done entered_all before_steps book.before_steps after_steps book.after_steps pick
  refused_book q = rw q

  pub format_run : out.ans.outcome ≡ Ok tt
      → ((ran w (format m size seed)).accepted ≡ true) × ((ran w (format m size seed)).steps ≡ (record { kind = formatted; skipped = out.skipped }) ∷ [])
  unfolding ran format_call steps_of on_done
  format_run q = rw q (refl, refl)

  abbrev emptied : Fine
  emptied = record { next = 1; files = []; file = b.file; rollover = b.rollover; unwritten = b.unwritten; parts = b.parts; ids = 1; size = size }

  pub made_book : out.ans.outcome ≡ Ok tt → written (format m size seed) (fed_by w (format m size seed)) b ≡ emptied
  unfolding written fed_by ran format_call steps_of on_done entered_all entered book.entered before_steps book.before_steps after_steps book.after_steps pick
  made_book q = rw q

  accepted : out.ans.outcome ≡ Ok tt → is_ok (format_call w.vol m size seed).call.answer ≡ true
  unfolding format_call
  accepted q = rw q

  store_is : (format_call w.vol m size seed).call.store ≡ out.ans.store
  unfolding format_call
  store_is = refl

  by_outcome : (o : Result Unit Error) → out.ans.outcome ≡ o → Keeps w b → Given w (format m size seed) → Keeps (ran w (format m size seed)).world (written (format m size seed) (fed_by w (format m size seed)) b)
  unfolding Given
  by_outcome (Err e) q k g =
      let f : FormatStopped w.vol m out = format_stopped size seed w.vol m q in
      let u : Unchanged (disk_of w.vol w.store) (disk_of out.vol w.store) = format_unchanged k.whole.inv f in
      rw (refused_world q, refused_book q)
      (record {
        layout = k.layout;
        whole = whole_same k.whole (f.inv w.store k.whole.inv) (mapped_kept u.shape.chunks u.links refl k.whole.map) u;
        owns = owns_same u refl k.owns;
        readable = readable_still w.vol out.vol f.used f.size g.0;
      })
  by_outcome (Ok tt) q k g =
      let f : FormatMade size w.vol m out = format_again size seed w.vol m k.whole.inv q in
      rw (made_world q, made_book q)
      (record {
        layout = λ s. [];
        whole = fresh_whole emptied refl refl refl refl f (subst (Clean w.vol) store_is (g.1 (accepted q)));
        owns = owns_none f.writer;
        readable = readable_still w.vol out.vol f.used f.size g.0;
      })

  pub format_keeps : Keeps w b → Given w (format m size seed) → Keeps (ran w (format m size seed)).world (written (format m size seed) (fed_by w (format m size seed)) b)
  format_keeps = by_outcome out.ans.outcome refl
