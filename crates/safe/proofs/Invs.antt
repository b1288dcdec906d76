-- What holds between the calls: mount gives the store value, writing a record keeps it, and so does a copy written anew, by any plan. Assumes nothing.
use Rattle.std.specs.Prelude.{None}
use Rattle.std.specs.Prelude.{Err, Ok}
use mathlib.Core.Path.{◌≡◌, sym, ap, ◌∙◌}
use mathlib.Core.Bool.{true}
use mathlib.Core.List.{List}
use mathlib.Core.Logic.{inl, inr, ⊎_elim}
use Prim.Native.Nat.{ℕ, ◌+◌, ◌-◌, ◌<◌, ◌≤◌}
use native.Mathlib.Omega.{arith}
use borrow.Author.Tests.{eq-eqb, ne_eqb}
use lib.Dec.{ltb}
use lib.ListN.{length}
use Rattle.le.proofs.Choices.{pick_true, pick_false}
use Rattle.le.proofs.Bools.{and_true}
use Rattle.medium.specs.declared.Error.{Error}
use Rattle.medium.specs.declared.Medium.{Medium}
use Rattle.medium.specs.Refusal.{on_done}
use Rattle.medium.specs.Frame.{Kept, Spends}
use Rattle.medium.specs.Sector.{sectors_of, sector_at, read_of, Readable, write_of}
use Rattle.medium.proofs.Frame.{kept_sectors, write_kept}
use Rattle.freemap.specs.Map.{unfit_of, map_ok}
use Rattle.handles.specs.declared.Header.{Header}
use Rattle.handles.specs.declared.Store.{Store}
use Rattle.handles.specs.Handles.{body_of, base_of, store_ok}
use Rattle.handles.proofs.Laws.{Held, store_facts, store_ok_lem, base_most}
use Rattle.handles.specs.Body.{body_at, check_of}
use Rattle.header.specs.declared.codec.Decoded.{Decoded}
use Rattle.header.specs.declared.codec.Replica.TheVariants.{Absent}
use Rattle.header.specs.Header.{ours, bare, decode_of, Bytes}
use Rattle.header.specs.Copies.{copy_of, same_store, mount_of}
use Rattle.plan.specs.Copy.{Plan, free_after, copy_out}
use Rattle.safe.specs.Copy.{Good, Tied}
use Rattle.safe.specs.Mounts.{Newest, Lists}
use Rattle.safe.specs.Inv.{Inv, SameRecords, Numbered}
use Rattle.safe.proofs.Copy.{copy_frame, copy_finished}
use Rattle.safe.proofs.Sums.{finished_range, finished_sane}
use Rattle.safe.proofs.Current.{stands_mount}
use Rattle.safe.proofs.Mounts.{copies_beyond, stands_beyond}
use Rattle.safe.proofs.Ranged.{either, bytes_ranged}
use Rattle.safe.proofs.Bodies.{copy_most, stopped_sound, finished_sound}

-- ---- a medium whose sectors all read

pub reads : (m : Medium) (vol : List ℕ) → Readable vol m → (k : ℕ) → k < sectors_of vol → read_of m k ≡ Ok tt
unfolding read_of
reads m vol r k l = pick_false _ _ (ne_eqb k m.unreadable (λ e. omega arith))

-- writes leave it so
pub readable_still : {m u : Medium} (vol v : List ℕ) → Spends m u → length v ≡ length vol → Readable vol m → Readable v u
readable_still vol v used size r = rw (size, used.unreadable) r

-- ---- mount

pub inv_held : {vol : List ℕ} {st : Store} → Inv vol st → Held st (sectors_of vol)
inv_held {vol} {st} inv = store_facts st (sectors_of vol) inv.ok

pub inv_mount : (vol : List ℕ) (m : Medium) (st : Store) → Inv vol st → Readable vol m
    → mount_of vol m ≡ record { outcome = Ok tt; store = record { copy = st.copy; head = st.head; writer = None; free = unfit_of } }
inv_mount vol m st inv r =
    let e : 64 ≤ sectors_of vol = (inv_held inv).enough in
    stands_mount vol st.head m (reads m vol r 0 (omega arith)) (reads m vol r 32 (omega arith)) st.copy inv.sound.stands

-- ---- a body sector is read and passes, so that no walk is refused

module _ (vol : List ℕ) (m : Medium) (st : Store) (inv : Inv vol st) (r : Readable vol m) (k : ℕ) (l : k < body_of st.head.chunks) where
  pub inv_check : check_of vol m st k ≡ Ok tt
  unfolding check_of on_done
  inv_check =
      let f : body_at st k < sectors_of vol = omega (arith, base_most st.copy, (inv_held inv).enough, (inv_held inv).head.chunks_most) in
      rw (reads m vol r (body_at st k) f) (pick_true _ _ (eq-eqb _ _ (inv.sound.own k l)))

-- ---- whom the store value serves is not asked, and of its map only the rule

pub inv_map : {vol : List ℕ} {st su : Store} → su.copy ≡ st.copy → su.head ≡ st.head → map_ok su.free st.head.chunks ≡ true → Inv vol st → Inv vol su
unfolding store_ok
inv_map {vol} {st} {su} a b c inv =
    let sane = (and_true _ _ (and_true (ltb st.copy 2) _ inv.ok).1).0 in
    record { ok = store_ok_lem su (sectors_of vol) (rw a (inv_held inv).copy) (rw b sane) (rw b c); range = rw b inv.range; sound = rw (a, b) inv.sound }

pub inv_writer : {vol : List ℕ} {st su : Store} → su.copy ≡ st.copy → su.head ≡ st.head → su.free ≡ st.free → Inv vol st → Inv vol su
inv_writer a b c inv = inv_map a b (rw c (inv_held inv).map) inv

-- ---- writing a record

-- a volume whose first 64 sectors are as they were
pub inv_beyond : (vol v : List ℕ) (st : Store) → Inv vol st → length v ≡ length vol → ((j : ℕ) → j < 64 → sector_at v j ≡ sector_at vol j) → Inv v st
inv_beyond vol v st inv size same =
    let head : (c : ℕ) → copy_of v (base_of c) ≡ copy_of vol (base_of c) = copies_beyond vol v size same in
    let body : (c k : ℕ) → k < 24 → sector_at v (base_of c + 1 + k) ≡ sector_at vol (base_of c + 1 + k) = λ c k l. same (base_of c + 1 + k) (omega (arith, base_most c)) in
    let s = inv.sound in
    record {
      ok = rw size inv.ok;
      range = inv.range;
      sound = record {
        stands = stands_beyond size head s.stands;
        own = λ k l. rw (body st.copy k (omega (arith, (inv_held inv).head.chunks_most))) (s.own k l);
        other = λ g e q k l.
            let x = sym (head (1 - st.copy)) ∙ e in
            rw (body (1 - st.copy) k (omega (arith, copy_most vol (base_of (1 - st.copy)) g x))) (s.other g x q k l);
      };
    }

pub inv_record : (vol : List ℕ) (m : Medium) (k : ℕ) (bytes : List ℕ) (st : Store) → Inv vol st → 64 ≤ k → k < sectors_of vol → length bytes ≡ 512 → Inv (write_of vol m k bytes).vol st
inv_record vol m k bytes st inv far inside size =
    let kept = write_kept vol m k bytes size inside in
    inv_beyond vol (write_of vol m k bytes).vol st inv kept.size (λ j l. kept.same j (inl (omega arith)))

-- ---- a copy written anew

-- no record is touched
pub kept_records : {vol v : List ℕ} (c : ℕ) → Kept (base_of c) 25 vol v → SameRecords vol v
kept_records c kept j l = kept.same j (inr (omega (arith, base_most c)))

module _ (p : Plan) (vol : List ℕ) (m : Medium) (good : Good p vol) where
  -- refused: the store beside it holds on
  pub stopped_inv : {st : Store} {e : Error} → decode_of p.first (sectors_of vol) ≡ bare Absent → Inv vol st → st.copy + p.copy ≡ 1
      → (copy_out p vol m).ans.outcome ≡ Err e → Inv (copy_out p vol m).vol st
  stopped_inv none inv two q =
      record { ok = rw (kept_sectors (copy_frame p vol m good)) inv.ok; range = inv.range; sound = stopped_sound p vol m good none inv.sound two q }

  -- accepted: the new store holds
  pub finished_inv : map_ok (free_after p vol) p.head.chunks ≡ true → Newest p vol → Tied p vol
      → ((g : Header) → copy_of vol (base_of (1 - p.copy)) ≡ ours g → same_store p.head g ≡ true → Lists vol (1 - p.copy) g)
      → (copy_out p vol m).ans.outcome ≡ Ok tt → Inv (copy_out p vol m).vol (copy_out p vol m).ans.store
  finished_inv map new tied old q =
      let done = copy_finished p vol m good q in
      let c : (copy_out p vol m).ans.store.copy ≡ p.copy = ap (λ (s : Store). s.copy) done.store in
      let f : (copy_out p vol m).ans.store.free ≡ free_after p vol = ap (λ (s : Store). s.free) done.store in
      let n : (copy_out p vol m).ans.store.head.chunks ≡ p.head.chunks = ap (λ (h : Header). h.chunks) done.head in
      record {
        ok = rw (kept_sectors (copy_frame p vol m good)) (store_ok_lem _ (sectors_of vol) (rw c new.number) (finished_sane done (sectors_of vol) ∙ new.sane) (rw (f, n) map));
        range = finished_range done new.range;
        sound = rw c (finished_sound p vol m good new tied old q);
      }

-- ---- generations

pub inv_numbered : {vol : List ℕ} {st : Store} → Inv vol st → Numbered vol
inv_numbered {vol} {st} inv c h e =
    ⊎_elim
    (λ q. let g : h ≡ st.head = ap (λ (d : Decoded). d.head) (sym e ∙ ap (copy_of vol) q ∙ inv.sound.stands.found) in rw g inv.range.generation)
    (λ q. omega (arith, inv.sound.stands.older h (ap (copy_of vol) (sym q) ∙ e), inv.range.generation))
    (either c st.copy (inv_held inv).copy)

pub bytes_numbered : (vol : List ℕ) → Bytes vol → Numbered vol
bytes_numbered vol small c h e = (bytes_ranged vol small c h e).generation
