-- 02, S-7: after a format, refused or accepted, a mount gives the old store or the new. Assumes nothing.
use Rattle.std.specs.Prelude.{None}
use Rattle.std.specs.Prelude.{Err, Ok, Result}
use Rattle.medium.specs.declared.Error.{Error}
use mathlib.Core.Path.{◌≡◌, refl, sym, ◌∙◌, subst, ap}
use mathlib.Core.Bool.{Bool, true, false, ◌||◌}
use mathlib.Core.List.{List}
use Prim.Native.Nat.{ℕ, ◌+◌, ◌<◌, ◌≤◌}
use native.Mathlib.Omega.{arith}
use lib.ListN.{length}
use Rattle.le.proofs.Choices.{pick_keeps_by}
use Rattle.medium.specs.declared.Medium.{Medium}
use Rattle.medium.specs.Refusal.{on_done, ok}
use Rattle.medium.specs.Sector.{sectors_of, sector_at}
use Rattle.medium.proofs.Laws.{done_told, not_done, on_done_done}
use Rattle.handles.specs.declared.Store.{Store}
use Rattle.handles.specs.Body.{body_at}
use Rattle.handles.specs.Handles.{table_of, body_of, base_of}
use Rattle.handles.proofs.Laws.{sane_facts}
use Rattle.header.specs.declared.answers.Mounted.{Mounted}
use Rattle.header.specs.declared.answers.Copies.{Copies}
use Rattle.header.specs.declared.answers.Current.{Current}
use Rattle.header.specs.Header.{Bytes}
use Rattle.header.specs.Copies.{is_ours, copy_of, both_of, takes_b, taken_of, choice_of, current_of, mount_of}
use Rattle.header.proofs.Accepted.{copy_valid, copy_sane, mount_current}
use Rattle.header.proofs.Edges.{headers_read}
use Rattle.header.proofs.Range.{no_way}
use Rattle.plan.specs.Copy.{Out}
use Rattle.format.specs.Format.{format_of}
use Rattle.safe.specs.Inv.{FormatStopped, FormatMade}
use Rattle.safe.specs.Mounts.{Stands}
use Rattle.safe.proofs.Bodies.{copy_most}
use Rattle.safe.proofs.Current.{stands_mount, current_stands}
use Rattle.safe.proofs.Format.{format_stopped, format_bytes}
use Rattle.reader.proofs.Frame.{next_frame, seek_frame}
use Rattle.store.specs.Reading.{mount_call, filled_of}
use Rattle.store.specs.Writing.{format_call}
use Rattle.store.proofs.Frame.{find_frame, list_frame, reader_frame}
use Rattle.store.proofs.Mounts.{map_again}
use Rattle.power.specs.OldOrNew.{MountGives, SameReadings, OldOrNew, AfterFormat, ValidMounts}
use Rattle.freemap.specs.declared.FreeMap.{FreeMap}

-- mount gives the store whose copy stands
stands_gives : (vol : List ℕ) (st : Store) → st.writer ≡ None → Stands vol st.copy st.head → MountGives vol st
unfolding mount_call on_done
stands_gives vol st w s u r =
    rw (stands_mount vol st.head u r.0 r.1 st.copy s, sym w)
    (ap (λ (x : FreeMap). record { answer = ok tt; store = record { copy = st.copy; head = st.head; writer = st.writer; free = x }; medium = u }) (map_again vol u st _ refl refl))

-- and the store of an accepted mount is one
pub mount_stands : (vol : List ℕ) (u : Medium) → (mount_of vol u).outcome ≡ Ok tt → ((mount_of vol u).store.writer ≡ None) × Stands vol (mount_of vol u).store.copy (mount_of vol u).store.head
mount_stands vol u q =
    let t = mount_current vol u q in
    subst (λ (r : Mounted). (r.store.writer ≡ None) × Stands vol r.store.copy r.store.head) (sym t.1) (refl, current_stands vol u t.0)

-- a store whose body and data sectors are as they were reads as it did
old_reads : {vol v : List ℕ} {st : Store} → Stands vol st.copy st.head → length v ≡ length vol
    → ((k : ℕ) → k < 24 → sector_at v (body_at st k) ≡ sector_at vol (body_at st k)) → ((j : ℕ) → 64 ≤ j → sector_at v j ≡ sector_at vol j) → SameReadings vol v st
old_reads {vol} {v} {st} s size held records =
    let most = copy_most vol (base_of st.copy) st.head s.found in
    let body : (k : ℕ) → k < body_of st.head.chunks → sector_at v (body_at st k) ≡ sector_at vol (body_at st k) = λ k l. held k (omega arith) in
    let links : (t : ℕ) → t < table_of st.head.chunks → sector_at v (body_at st (8 + t)) ≡ sector_at vol (body_at st (8 + t)) = λ t l. body (8 + t) (omega arith) in
    record {
      list = λ m. list_frame vol v m st size body;
      find = λ m. find_frame vol v m st size body;
      reader = λ m. reader_frame vol v m st size body;
      next = λ m. next_frame vol v m st size links records;
      seek = λ m. seek_frame vol v m st size links records;
    }

module _ (vol : List ℕ) (m : Medium) (size seed : ℕ) (st : Store) (w : st.writer ≡ None) (stands : Stands vol st.copy st.head) (bytes : Bytes vol) where
  abbrev out : Out
  out = format_of size seed vol m

  by_outcome : (o : Result Unit Error) → out.ans.outcome ≡ o → OldOrNew vol st (format_call vol m size seed)
  unfolding format_call
  by_outcome (Err e) q =
      let f : FormatStopped vol m out = format_stopped size seed vol m q in
      record {
        old = λ n _. record {
          mounts = stands_gives out.vol st w (f.stands st stands);
          body = f.body st stands;
          records = f.records;
          readings = old_reads stands f.size (f.body st stands) f.records;
        };
        new = λ t. not_done (sym q ∙ done_told out.ans.outcome t);
      }
  by_outcome (Ok tt) q =
      let f : FormatMade size vol m out = format_bytes size seed vol m bytes q in
      record {
        old = λ n t. absurd (let z : ◌≡◌ {A = ℕ} 0 1 = cc in omega arith);
        new = λ _. stands_gives out.vol out.ans.store f.writer f.inv.sound.stands;
      }

pub old_or_new : AfterFormat
unfolding mount_call
old_or_new vol u m size seed bytes a =
    let d = done_told (mount_of vol u).outcome a in
    let t = mount_stands vol u d in
    rw (on_done_done (filled_of vol u (mount_of vol u).store) (λ e. (mount_of vol u).store) d)
    (by_outcome vol m size seed (filled_of vol u (mount_of vol u).store) t.0 t.1 bytes (format_of size seed vol m).ans.outcome refl)

-- ---- 02's words for such a volume

-- with a valid copy one is taken
choice_done : (c : Copies) → (is_ours c.a || is_ours c.b) ≡ true → (choice_of c).outcome ≡ Ok tt
unfolding choice_of takes_b taken_of
choice_done c v =
    pick_keeps_by Taken (takes_b c) _ _ (λ _. refl)
    (λ t. pick_keeps_by Taken (is_ours c.a) _ _ (λ _. refl)
    (λ a. let b : is_ours c.b ≡ true = rw a at v in no_way (sym (rw (a, b) at t))))
  where
    Taken : Current → Type 0
    Taken r = r.outcome ≡ Ok tt

-- and there are 64 sectors
valid_room : (vol : List ℕ) (k : ℕ) → is_ours (copy_of vol k).kind ≡ true → 64 ≤ sectors_of vol
valid_room vol k e = omega (arith, (sane_facts (copy_of vol k).head (sectors_of vol) (copy_sane vol k (copy_of vol k).head (copy_valid vol k e))).room)

enough : (vol : List ℕ) → (is_ours (copy_of vol 0).kind || is_ours (copy_of vol 32).kind) ≡ true → 64 ≤ sectors_of vol
enough vol = go (is_ours (copy_of vol 0).kind) refl
  where
    go : (t : Bool) → is_ours (copy_of vol 0).kind ≡ t → (t || is_ours (copy_of vol 32).kind) ≡ true → 64 ≤ sectors_of vol
    go true e v = valid_room vol 0 e
    go false e v = valid_room vol 32 v

-- so where both headers read and neither is foreign, a mount is accepted
pub valid_mounts : ValidMounts
unfolding mount_call mount_of current_of on_done
valid_mounts vol u r v =
    rw (headers_read vol u (enough vol v.valid) r.0 r.1 v.known_a v.known_b, choice_done (both_of (copy_of vol 0) (copy_of vol 32)) v.valid)
