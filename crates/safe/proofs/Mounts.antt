-- What mount takes after a copy was written anew, whatever the writes left: stopped, what it took before; finished, the new copy. Assumes nothing.
use Rattle.std.specs.Prelude.{None}
use Rattle.std.specs.Prelude.{Err, Ok}
use mathlib.Core.Path.{◌≡◌, refl, sym, ap, ◌∙◌}
use mathlib.Core.List.{List}
use mathlib.Core.Logic.{◌⊎◌, inl, inr, ⊎_elim}
use Prim.Native.Nat.{ℕ, ◌+◌, ◌-◌, ◌<◌}
use native.Mathlib.Omega.{arith}
use lib.ListN.{length}
use Rattle.medium.specs.declared.Error.{Error}
use Rattle.medium.specs.declared.Medium.{Medium}
use Rattle.medium.specs.Sector.{sectors_of, sector_at, read_of}
use Rattle.medium.specs.Frame.{Kept}
use Rattle.medium.proofs.Frame.{kept_sectors}
use Rattle.freemap.specs.Map.{unfit_of}
use Rattle.handles.specs.declared.Header.{Header}
use Rattle.handles.specs.Handles.{base_of}
use Rattle.handles.proofs.Laws.{base_most}
use Rattle.header.specs.declared.codec.Decoded.{Decoded}
use Rattle.header.specs.declared.codec.Replica.TheVariants.{Absent}
use Rattle.header.specs.Header.{ours, bare, decode_of}
use Rattle.header.specs.Copies.{is_ours, copy_of, mount_of}
use Rattle.header.proofs.Accepted.{mount_current}
use Rattle.header.proofs.Range.{no_way}
use Rattle.header.proofs.RoundTrip.{decode_encode}
use Rattle.plan.specs.Copy.{Plan, copy_out}
use Rattle.safe.specs.Copy.{target, Good}
use Rattle.safe.specs.Mounts.{Stands, Newest}
use Rattle.safe.proofs.Frame.{header_beside}
use Rattle.safe.proofs.Copy.{copy_frame, copy_stopped, copy_finished}
use Rattle.safe.proofs.Sums.{finished_range, finished_sane}
use Rattle.safe.proofs.Current.{stands_mount, current_stands}

-- ---- a copy whose sector is as it was, and one that is gone

pub copy_same : (vol v : List ℕ) (k : ℕ) → sectors_of v ≡ sectors_of vol → sector_at v k ≡ sector_at vol k → copy_of v k ≡ copy_of vol k
unfolding copy_of
copy_same vol v k n e = rw (n, e)

copy_holds : (vol v bytes : List ℕ) (k : ℕ) → sectors_of v ≡ sectors_of vol → sector_at v k ≡ bytes → copy_of v k ≡ decode_of bytes (sectors_of vol)
unfolding copy_of
copy_holds vol v bytes k n e = rw (n, e)

-- the copy beside the one that is written
pub beside : {vol v : List ℕ} (c b : ℕ) → c + b ≡ 1 → Kept (base_of b) 25 vol v → copy_of v (base_of c) ≡ copy_of vol (base_of c)
beside {vol} {v} c b e kept = copy_same vol v (base_of c) (kept_sectors kept) (header_beside c b e kept)

-- both copies, where the first 64 sectors are as they were
pub copies_beyond : (vol v : List ℕ) → length v ≡ length vol → ((j : ℕ) → j < 64 → sector_at v j ≡ sector_at vol j) → (c : ℕ) → copy_of v (base_of c) ≡ copy_of vol (base_of c)
copies_beyond vol v size same c = copy_same vol v (base_of c) (rw size) (same (base_of c) (omega (arith, base_most c)))

pub gone : {A : Type 0} {g : Header} → bare Absent ≡ ours g → A
gone q = no_way (ap (λ (d : Decoded). is_ours d.kind) q)

-- what stands stands on while the other copy is written, if that is as it was or absent
pub stands_beside : {vol v : List ℕ} {c : ℕ} {h : Header} (b : ℕ) → Stands vol c h → c + b ≡ 1 → Kept (base_of b) 25 vol v
    → (copy_of v (base_of b) ≡ copy_of vol (base_of b)) ⊎ (copy_of v (base_of b) ≡ bare Absent) → Stands v c h
stands_beside {vol} {v} {c} {h} b s e kept o =
    let f : 1 - c ≡ b = omega arith in
    record {
      enough = rw (kept_sectors kept) s.enough;
      number = s.number;
      found = beside c b e kept ∙ s.found;
      known = rw f (⊎_elim (λ a. rw a (rw f at s.known)) (λ a. rw a refl) o);
      older = rw f (⊎_elim (λ a g q. (rw f at s.older) g (sym a ∙ q)) (λ a g q. gone (sym a ∙ q)) o);
    }

-- and while both copies are as they were
pub stands_beyond : {vol v : List ℕ} {c : ℕ} {h : Header} → length v ≡ length vol → ((b : ℕ) → copy_of v (base_of b) ≡ copy_of vol (base_of b)) → Stands vol c h → Stands v c h
stands_beyond {c = c} size same s =
    record {
      enough = rw size s.enough;
      number = s.number;
      found = same c ∙ s.found;
      known = rw (same (1 - c)) s.known;
      older = λ g e. s.older g (sym (same (1 - c)) ∙ e);
    }

-- ---- the laws

module _ (p : Plan) (vol : List ℕ) (m : Medium) (good : Good p vol) where
  -- refused: the copy that was to be written is as it was, or absent where the first image is
  pub stopped_copy : {e : Error} → decode_of p.first (sectors_of vol) ≡ bare Absent → (copy_out p vol m).ans.outcome ≡ Err e
      → ((copy_out p vol m).vol ≡ vol) ⊎ (copy_of (copy_out p vol m).vol (target p) ≡ bare Absent)
  stopped_copy none q =
      ⊎_elim inl
      (λ a. inr (copy_holds vol _ p.first (target p) (kept_sectors (copy_frame p vol m good)) a ∙ none))
      (copy_stopped p vol m good q).1

  pub stopped_target : {e : Error} → decode_of p.first (sectors_of vol) ≡ bare Absent → (copy_out p vol m).ans.outcome ≡ Err e
      → (copy_of (copy_out p vol m).vol (target p) ≡ copy_of vol (target p)) ⊎ (copy_of (copy_out p vol m).vol (target p) ≡ bare Absent)
  stopped_target none q = ⊎_elim (λ a. inl (ap (λ (v : List ℕ). copy_of v (target p)) a)) inr (stopped_copy none q)

  -- so the copy that stood stands
  pub stopped_stands : {c : ℕ} {h : Header} {e : Error} → decode_of p.first (sectors_of vol) ≡ bare Absent → Stands vol c h → c + p.copy ≡ 1
      → (copy_out p vol m).ans.outcome ≡ Err e → Stands (copy_out p vol m).vol c h
  stopped_stands none s other q = stands_beside p.copy s other (copy_frame p vol m good) (stopped_target none q)

  -- and mount gives what it gave before
  pub stopped_mount : {e : Error} (n u : Medium) → decode_of p.first (sectors_of vol) ≡ bare Absent → (mount_of vol n).outcome ≡ Ok tt
      → (mount_of vol n).store.copy + p.copy ≡ 1 → (copy_out p vol m).ans.outcome ≡ Err e → read_of u 0 ≡ Ok tt → read_of u 32 ≡ Ok tt
      → mount_of (copy_out p vol m).vol u ≡ mount_of vol n
  stopped_mount n u none accepted other q a b =
      let t = mount_current vol n accepted in
      let s = stopped_stands none (current_stands vol n t.0) (rw t.1 at other) q in
      stands_mount _ _ u a b _ s ∙ sym t.1

  -- accepted: the new copy stands
  pub finished_stands : Newest p vol → (copy_out p vol m).ans.outcome ≡ Ok tt → Stands (copy_out p vol m).vol p.copy (copy_out p vol m).ans.store.head
  finished_stands new q =
      let kept = copy_frame p vol m good in
      let done = copy_finished p vol m good q in
      let sane = finished_sane done (sectors_of vol) ∙ new.sane in
      let same = beside (1 - p.copy) p.copy (omega (arith, new.number)) kept in
      record {
        enough = rw (kept_sectors kept) good.enough;
        number = new.number;
        found = copy_holds vol _ _ (target p) (kept_sectors kept) done.header ∙ decode_encode _ (sectors_of vol) sane (finished_range done new.range);
        known = rw same new.known;
        older = λ g e. rw done.head (new.older g (sym same ∙ e));
      }

  -- so mount gives it
  pub finished_mount : (u : Medium) → Newest p vol → (copy_out p vol m).ans.outcome ≡ Ok tt → read_of u 0 ≡ Ok tt → read_of u 32 ≡ Ok tt
      → mount_of (copy_out p vol m).vol u ≡ record { outcome = Ok tt; store = record { copy = p.copy; head = (copy_out p vol m).ans.store.head; writer = None; free = unfit_of } }
  finished_mount u new q a b = stands_mount _ _ u a b p.copy (finished_stands new q)
