-- S-3: each commit, record, mount and format keeps that a fit map tells the table of the store's own copy, on any volume of bytes. Assumes nothing.
use Rattle.std.specs.Prelude.{Option}
use Rattle.std.specs.Prelude.{Err, Ok, Result}
use Prim.Native.Nat.{ℕ, ◌+◌, ◌-◌, ◌^◌, ◌<◌, ◌≤◌}
use mathlib.Core.Path.{◌≡◌, refl, sym, ap, ◌∙◌, subst}
use mathlib.Core.Bool.{true, false, true≢false, false≢true}
use mathlib.Core.List.{List}
use native.Mathlib.Omega.{arith}
use lib.ListN.{length}
use Rattle.le.proofs.Parts.{length_zeros}
use Rattle.medium.specs.declared.Error.{Error}
use Rattle.medium.specs.declared.Medium.{Medium}
use Rattle.medium.specs.Refusal.{outcome_of}
use Rattle.medium.specs.Sector.{sectors_of, sector_at}
use Rattle.medium.proofs.Laws.{on_done_keeps}
use Rattle.freemap.specs.Map.{unfit_of, map_ok}
use Rattle.freemap.proofs.Rule.{ok_unfit}
use Rattle.handles.specs.declared.Store.{Store}
use Rattle.handles.specs.declared.Writer.{Writer}
use Rattle.handles.specs.Body.{body_at}
use Rattle.handles.specs.Handles.{blank_of, no_store}
use Rattle.handles.proofs.Laws.{store_facts, base_most}
use Rattle.header.specs.declared.answers.Mounted.{Mounted}
use Rattle.header.specs.Copies.{current_of, mount_of}
use Rattle.header.specs.Header.{InRange}
use Rattle.table.proofs.Tells.{Mapped}
use Rattle.plan.specs.declared.Edit.{Edit}
use Rattle.plan.specs.declared.Edit.TheVariants.{Format, Create, Extend, Remove}
use Rattle.plan.specs.Edit.{Fits}
use Rattle.plan.specs.Copy.{EachSkipped, Out, is_format}
use Rattle.commit.specs.Commit.{commit_of}
use Rattle.commit.proofs.Keeps.{commit_keeps}
use Rattle.format.specs.Format.{format_of}
use Rattle.remove.proofs.Keeps.{Good}
use Rattle.safe.specs.Inv.{Ranged, FormatStopped, FormatMade}
use Rattle.safe.specs.Mounts.{Stands}
use Rattle.safe.proofs.Frame.{clash, body_beside}
use Rattle.safe.proofs.Current.{own_stands}
use Rattle.safe.proofs.Mounts.{stands_beside, copies_beyond, stands_beyond}
use Rattle.safe.proofs.Ranged.{ranged_stopped}
use Rattle.safe.proofs.Bodies.{copy_most}
use Rattle.safe.proofs.Invs.{inv_held}
use Rattle.safe.proofs.Commit.{commit_beside, commit_stands}
use Rattle.safe.proofs.Format.{format_stopped, format_made}
use Rattle.safe.proofs.Unwritten.{commit_copies, commit_due}
use Rattle.views.proofs.Stays.{links_stay}
use Rattle.views.proofs.Commits.{due_edited}
use Rattle.views.proofs.Maps.{Fitting, edited_mapped, mapped_kept, zeroed_mapped}
use Rattle.store.specs.Reading.{mount_call}
use Rattle.store.specs.Writing.{format_call}
use Rattle.store.proofs.Mounts.{call_store, mounted_ok, mounted_mapped}
use Rattle.power.specs.History.{is_ok, Honest}
use Rattle.power.proofs.OldOrNew.{mount_stands}
use Rattle.power.proofs.Openings.{done_of}
use Rattle.power.proofs.Lasts.{Suits, Lasts}

-- the map passes refusal 3; where it is fit, the store's copy stands, which keeps a format away from it, and the map tells its table
pub record Fitted (vol : List ℕ) (st : Store) : Type 0 where
  pub ranged : Ranged vol
  pub count : length st.head.crcs ≡ 24
  pub ok : map_ok st.free st.head.chunks ≡ true
  pub stands : st.free.fit ≡ true → Stands vol st.copy st.head
  pub map : Mapped vol st

-- ---- a mount, and a format

none_fitted : (vol : List ℕ) → Ranged vol → Fitted vol no_store
unfolding no_store blank_of unfit_of
none_fitted vol r = record { ranged = r; count = length_zeros 24; ok = ok_unfit 0; stands = λ f. absurd (false≢true f); map = λ f. absurd (false≢true f) }

mount_none : (vol : List ℕ) (m : Medium) {e : Error} → (mount_of vol m).outcome ≡ Err e → (mount_call vol m).store ≡ no_store
unfolding mount_call mount_of
mount_none vol m {e} q =
    on_done_keeps (λ (s : Store). s ≡ no_store) (mount_of vol m).outcome _ _ (λ d. clash q d)
    (λ _ _. on_done_keeps (λ (r : Mounted). r.outcome ≡ Err e → r.store ≡ no_store) (current_of vol m).outcome _ _ (λ _ z. clash z refl) (λ _ _ _. refl) q)

pub mount_fitted : (vol : List ℕ) (m : Medium) → Ranged vol → Fitted vol (mount_call vol m).store
mount_fitted vol m r = go (mount_of vol m).outcome refl
  where
    go : (o : Result Unit Error) → (mount_of vol m).outcome ≡ o → Fitted vol (mount_call vol m).store
    go (Err e) q = subst (Fitted vol) (sym (mount_none vol m q)) (none_fitted vol r)
    go (Ok tt) q =
        let s : Stands vol (mount_call vol m).store.copy (mount_call vol m).store.head = rw (call_store vol m q) (mount_stands vol m q).1 in
        record {
          ranged = r;
          count = (r _ _ s.found).count;
          ok = (store_facts _ (sectors_of vol) (mounted_ok vol m q)).map;
          stands = λ _. s;
          map = mounted_mapped vol m q;
        }

pub format_fitted : (vol : List ℕ) (m : Medium) (size seed : ℕ) → is_ok (format_call vol m size seed).call.answer ≡ true → Ranged vol
    → Fitted (format_call vol m size seed).vol (format_call vol m size seed).call.store
unfolding format_call
format_fitted vol m size seed t r =
    let f : FormatMade size vol m (format_of size seed vol m) = format_made size seed vol m (λ c h e. (r c h e).generation) (done_of _ t) in
    record {
      ranged = f.ranged r;
      count = f.inv.range.count;
      ok = (inv_held f.inv).map;
      stands = λ _. f.inv.sound.stands;
      map = zeroed_mapped _ _ f.body f.chunks_range.1 f.free;
    }

-- ---- the store in hand stays

-- its copy stands on, and the body is as it was
still : {vol v : List ℕ} {st : Store} → Ranged v → (Stands vol st.copy st.head → Stands v st.copy st.head)
    → (Stands vol st.copy st.head → (k : ℕ) → k < 24 → sector_at v (body_at st k) ≡ sector_at vol (body_at st k)) → Fitted vol st → Fitted v st
still {vol} {v} {st} r stands body h =
    record {
      ranged = r;
      count = h.count;
      ok = h.ok;
      stands = λ f. stands (h.stands f);
      map = λ f.
          let s = h.stands f in
          let most = copy_most vol _ _ s.found in
          mapped_kept refl (links_stay vol st v st refl refl (λ k l. body s k (omega arith))) refl h.map f;
    }

beyond : (vol v : List ℕ) (st : Store) → length v ≡ length vol → ((j : ℕ) → j < 64 → sector_at v j ≡ sector_at vol j) → Fitted vol st → Fitted v st
beyond vol v st size same h =
    let copies = copies_beyond vol v size same in
    still (λ c g e. h.ranged c g (sym (copies c) ∙ e)) (stands_beyond size copies) (λ _ k l. same (body_at st k) (omega (arith, base_most st.copy))) h

-- another writer
served : (vol : List ℕ) (st : Store) (w : Option Writer) → Fitted vol st → Fitted vol (record { copy = st.copy; head = st.head; writer = w; free = st.free })
served vol st w h =
    record { ranged = h.ranged; count = h.count; ok = h.ok; stands = h.stands; map = mapped_kept refl (links_stay vol st vol _ refl refl (λ k l. refl)) refl h.map }

unformatted : (vol : List ℕ) (m : Medium) (size seed : ℕ) (st : Store) → is_ok (format_call vol m size seed).call.answer ≡ false → Fitted vol st
    → Fitted (format_call vol m size seed).vol st
unfolding format_call
unformatted vol m size seed st n h = go (format_of size seed vol m).ans.outcome refl
  where
    go : (o : Result Unit Error) → (format_of size seed vol m).ans.outcome ≡ o → Fitted (format_of size seed vol m).vol st
    go (Ok tt) q = absurd (true≢false (ap (λ (x : Result Unit Error). is_ok (outcome_of x)) (sym q) ∙ n))
    go (Err e) q =
        let f : FormatStopped vol m (format_of size seed vol m) = format_stopped size seed vol m q in
        still (f.ranged h.ranged) (f.stands st) (f.body st) h

-- ---- a commit

-- what a call knows of its edit is enough, once the next id has its width
fits : (edit : Edit) (st : Store) → st.head.next_id < 2 ^ 32 → Suits edit st → Fits edit st.head.chunks
fits Format st n f = f
fits (Create slot id chunk) st n f = (f.0, omega (arith, f.1, f.2), f.3)
fits (Extend slot position next last partial records) st n f = f.0
fits (Remove slot) st n f = f

fitting : (edit : Edit) (st : Store) → is_format edit ≡ false → Suits edit st → Fitting st edit
unfolding is_format
fitting Format st plain f = absurd (true≢false plain)
fitting (Create slot id chunk) st plain f = (f.0, f.3)
fitting (Extend slot position next last partial records) st plain f = let g = f.0 in (g.0, g.1, g.2, g.3, f.1)
fitting (Remove slot) st plain f = f

module _ (edit : Edit) (name vol : List ℕ) (m : Medium) (st : Store) (good : Good vol st) (short : length name ≤ 40) where
  abbrev out : Out
  out = commit_of edit name vol m st

  unmade : Fitted vol st → {e : Error} → out.ans.outcome ≡ Err e → Fitted out.vol out.ans.store
  unmade h {e} q =
      let copy = (store_facts st (sectors_of vol) good.ok).copy in
      let two : st.copy + (1 - st.copy) ≡ 1 = omega arith in
      let b = commit_beside edit name vol m st good.ok good.count short q in
      rw ((commit_keeps edit name vol m st good.ok good.count short).refused e q)
      (still (ranged_stopped (1 - st.copy) (omega arith) b.0 b.1 h.ranged) (λ s. stands_beside (1 - st.copy) s two b.0 b.1)
      (λ _. body_beside st.copy (1 - st.copy) two b.0) h)

  made : Suits edit st → is_format edit ≡ false → Fitted vol st → out.ans.outcome ≡ Ok tt → EachSkipped Honest out.skipped → Fitted out.vol out.ans.store
  made suits plain h accepted each =
      let c = commit_copies edit name vol m st accepted in
      let s : Stands vol st.copy st.head = own_stands vol m st c.0 c.1 in
      let r : InRange st.head = h.ranged st.copy st.head s.found in
      let new = commit_stands edit name vol m st good.ok s r (fits edit st r.next suits) short accepted in
      let k = commit_keeps edit name vol m st good.ok good.count short in
      let held = store_facts st (sectors_of vol) good.ok in
      record {
        ranged = new.1 h.ranged;
        count = k.count;
        ok = (store_facts _ (sectors_of out.vol) k.ok).map;
        stands = λ _. new.0;
        map = edited_mapped name vol st out.vol out.ans.store held.head edit (fitting edit st plain suits) short
            (due_edited (commit_due edit name vol m st accepted good.ok good.count short each)) held.map h.map;
      }

-- ---- so every history does

pub fitted_lasts : Lasts Honest Fitted
fitted_lasts =
    record {
      count = λ vol st h _. h.count;
      made = λ edit name vol m st good short. made edit name vol m st good short;
      unmade = λ edit name vol m st good short h q. unmade edit name vol m st good short h q;
      beyond = beyond;
      closed = λ vol st id. served vol st _;
      opened = λ vol st token id. served vol st _;
      mounted = λ vol m st h. mount_fitted vol m h.ranged;
      formatted = λ vol m size seed st t _ h. format_fitted vol m size seed t h.ranged;
      unformatted = unformatted;
    }
