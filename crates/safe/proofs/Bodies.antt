-- What holds of a volume between the calls holds after a copy was written anew, whatever the writes left. Assumes nothing.
use Rattle.std.specs.Prelude.{Err, Ok}
use mathlib.Core.Path.{◌≡◌, sym, ap, ◌∙◌, subst}
use mathlib.Core.Bool.{true, false, ◌&&◌}
use mathlib.Core.List.{List}
use mathlib.Core.Logic.{⊎_elim}
use Prim.Native.Nat.{ℕ, ◌+◌, ◌-◌, ◌≤◌}
use native.Mathlib.Omega.{arith}
use borrow.Author.Tests.{eqb-true}
use lib.Dec.{eqb}
use lib.ListN.{get_or}
use Rattle.le.proofs.Bools.{and_true}
use Rattle.medium.specs.declared.Error.{Error}
use Rattle.medium.specs.declared.Medium.{Medium}
use Rattle.medium.specs.Sector.{sectors_of}
use Rattle.medium.specs.Frame.{Kept}
use Rattle.handles.specs.declared.Header.{Header}
use Rattle.handles.specs.Handles.{base_of}
use Rattle.handles.proofs.Laws.{sane_facts}
use Rattle.header.specs.declared.codec.Replica.TheVariants.{Absent}
use Rattle.header.specs.Header.{ours, bare, decode_of}
use Rattle.header.specs.Copies.{is_ours, copy_of, same_store}
use Rattle.header.proofs.Accepted.{copy_valid, copy_sane}
use Rattle.header.proofs.Range.{no_way}
use Rattle.plan.specs.Copy.{Plan, is_format, copy_out}
use Rattle.safe.specs.Copy.{target, Good, Tied}
use Rattle.safe.specs.Mounts.{Newest, Lists, Sound}
use Rattle.safe.proofs.Frame.{body_beside}
use Rattle.safe.proofs.Copy.{copy_frame, copy_finished}
use Rattle.safe.proofs.Sums.{finished_sums}
use Rattle.safe.proofs.Mounts.{beside, gone, stopped_copy, stopped_stands, finished_stands}

same_chunks : (h g : Header) → same_store h g ≡ true → h.chunks ≡ g.chunks
unfolding same_store
same_chunks h g q = eqb-true h.chunks g.chunks (and_true (eqb h.chunks g.chunks) _ (and_true (eqb h.id g.id) _ q).1).0

-- ---- what ties a plan to the volume

pub format_tied : (p : Plan) (vol : List ℕ) → is_format p.edit ≡ true → p.known ≡ false → Tied p vol
format_tied p vol f n = record { start = λ q. no_way (sym q ∙ f); own = λ q. no_way (sym q ∙ f); other = λ q. no_way (sym n ∙ q) }

-- a commit from the copy that stands, with what its other header lists
pub sound_tied : (p : Plan) (vol : List ℕ) → Sound vol p.store.copy p.store.head → p.store.copy + p.copy ≡ 1
    → p.head.crcs ≡ p.store.head.crcs → p.head.chunks ≡ p.store.head.chunks
    → p.known ≡ (is_ours (copy_of vol (target p)).kind && same_store p.store.head (copy_of vol (target p)).head)
    → p.listed ≡ (copy_of vol (target p)).head.crcs → Tied p vol
sound_tied p vol s two crcs chunks known listed =
    let e : 1 - p.store.copy ≡ p.copy = omega arith in
    record {
      start = λ _. crcs;
      own = λ _ k l. s.own k (rw chunks at l);
      other = λ q k l.
          let g : Header = (copy_of vol (target p)).head in
          let t = and_true (is_ours (copy_of vol (target p)).kind) (same_store p.store.head g) (sym known ∙ q) in
          let o = rw e at (s.other g) in
          o (copy_valid vol (target p) t.0) t.1 k (rw (chunks ∙ same_chunks p.store.head g t.1) at l) ∙ ap (λ (x : List ℕ). get_or x k 0) (sym listed);
    }

-- ---- the laws

-- a body beside the copy that is written is as it was
lists_beside : {vol v : List ℕ} (c b : ℕ) (h : Header) → h.chunks ≤ 2048 → c + b ≡ 1 → Kept (base_of b) 25 vol v → Lists vol c h → Lists v c h
lists_beside c b h most two kept own k l = rw (body_beside c b two kept k (omega arith)) (own k l)

-- a valid copy has at most so many chunks
pub copy_most : (vol : List ℕ) (k : ℕ) (h : Header) → copy_of vol k ≡ ours h → h.chunks ≤ 2048
copy_most vol k h e = (sane_facts h (sectors_of vol) (copy_sane vol k h e)).chunks_most

module _ (p : Plan) (vol : List ℕ) (m : Medium) (good : Good p vol) where
  pub stopped_sound : {c : ℕ} {h : Header} {e : Error} → decode_of p.first (sectors_of vol) ≡ bare Absent → Sound vol c h → c + p.copy ≡ 1
      → (copy_out p vol m).ans.outcome ≡ Err e → Sound (copy_out p vol m).vol c h
  stopped_sound {c} {h} none s two q =
      let b : 1 - c ≡ p.copy = omega arith in
      ⊎_elim
      (λ a. subst (λ (v : List ℕ). Sound v c h) (sym a) s)
      (λ a. record {
        stands = stopped_stands p vol m good none s.stands two q;
        own = lists_beside c p.copy h (copy_most vol (base_of c) h s.stands.found) two (copy_frame p vol m good) s.own;
        other = λ g x. gone (sym a ∙ (rw b at x));
      })
      (stopped_copy p vol m good none q)

  -- the copy beside the new one is of another store, or its header lists its body
  pub finished_sound : Newest p vol → Tied p vol
      → ((g : Header) → copy_of vol (base_of (1 - p.copy)) ≡ ours g → same_store p.head g ≡ true → Lists vol (1 - p.copy) g)
      → (copy_out p vol m).ans.outcome ≡ Ok tt → Sound (copy_out p vol m).vol p.copy (copy_out p vol m).ans.store.head
  unfolding same_store
  finished_sound new tied old q =
      let done = copy_finished p vol m good q in
      let kept = copy_frame p vol m good in
      let two : 1 - p.copy + p.copy ≡ 1 = omega (arith, new.number) in
      record {
        stands = finished_stands p vol m good new q;
        own = λ k l. sym (finished_sums done tied k (rw (ap (λ (x : Header). x.chunks) done.head) at l));
        other = λ g x y.
            let z = sym (beside (1 - p.copy) p.copy two kept) ∙ x in
            lists_beside (1 - p.copy) p.copy g (copy_most vol (base_of (1 - p.copy)) g z) two kept (old g z (rw done.head at y));
      }
