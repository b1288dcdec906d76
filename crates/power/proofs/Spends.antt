-- The number of writes of a copy of whose body nothing is known: each body sector is written, and the header twice. With fewer left it is refused with
-- 4; and none of its sectors is left unwritten. And of one whose body sectors are all left: two. Assumes nothing.
use Rattle.std.specs.Prelude.{Err, Ok}
use Prim.Native.Nat.{ℕ, zero, suc, ◌+◌, ◌≤◌, ◌<◌}
use mathlib.Core.Path.{◌≡◌, refl, ap, subst, ◌∙◌}
use mathlib.Core.Bool.{Bool, true, false}
use mathlib.Core.List.{List, []}
use native.Mathlib.Omega.{arith}
use borrow.Author.Tests.{eq-eqb, ne_eqb, ltb-true, ltb-false}
use lib.Dec.{ltb}
use lib.ListN.{length}
use Rattle.le.specs.Choice.{pick}
use Rattle.le.proofs.Choices.{pick_true}
use Rattle.medium.specs.declared.Error.TheVariants.{Media}
use Rattle.medium.specs.declared.Medium.{Medium}
use Rattle.medium.specs.Refusal.{on_done}
use Rattle.medium.specs.Sector.{sectors_of, spend_of, WriteOut, write_of}
use Rattle.medium.proofs.Laws.{on_done_no, on_done_done}
use Rattle.medium.specs.Frame.{Kept}
use Rattle.medium.proofs.Frame.{kept_more, kept_wide, kept_sectors, write_spends, write_kept}
use Rattle.handles.specs.declared.Header.{Header}
use Rattle.handles.proofs.Laws.{base_most}
use Rattle.header.specs.Header.{encode_of}
use Rattle.header.proofs.Range.{no_way}
use Rattle.safe.specs.Copy.{target, target_at, body_count, Good}
use Rattle.safe.proofs.Moves.{move_before, good_ready}
use Rattle.plan.specs.Copy.{Plan, Move, unread, matched, put, bad, BodyOut, with_crc, Out, move_of, act_of, body_sector_of, body_from, leaves, skips, skipped_from, free_after, last_of, first_of, copy_out}
use Rattle.plan.proofs.Keeps.{Fills, move_fills}
use Rattle.layout.proofs.Facts.{case}

-- ---- one write

module _ (vol : List ℕ) (m : Medium) (k : ℕ) (bytes : List ℕ) where
  pub write_some : 1 ≤ m.left → ((write_of vol m k bytes).ans.outcome ≡ Ok tt) × ((write_of vol m k bytes).ans.medium.left + 1 ≡ m.left)
  unfolding write_of spend_of pick
  write_some h = let z = ne_eqb m.left 0 (λ e. omega arith) in rw z (refl, omega arith)

  pub write_media : m.left ≡ 0 → (write_of vol m k bytes).ans.outcome ≡ Err Media
  unfolding write_of spend_of pick
  write_media h = rw (eq-eqb m.left 0 h)

-- ---- the body

-- n writes from the medium u on
pub record Spent (n : ℕ) (u : Medium) (o : BodyOut) : Type 0 where
  pub enough : n ≤ u.left → (o.ans.outcome ≡ Ok tt) × (o.ans.medium.left + n ≡ u.left)
  pub short : u.left < n → o.ans.outcome ≡ Err Media

-- every body sector is written
abbrev pub AllPut : Plan → List ℕ → Medium → Type 0
AllPut p vol m = (k : ℕ) → k < body_count p → (c : ℕ) × (bytes : List ℕ) × (move_of p vol m k ≡ put c bytes)

module _ (p : Plan) (vol : List ℕ) (m : Medium) (good : Good p vol) (puts : AllPut p vol m) where
  module _ (n k : ℕ) (v : List ℕ) (u : Medium) (h : Header) (c : ℕ) (bytes : List ℕ) (move : move_of p v u k ≡ put c bytes) where
    abbrev w : WriteOut
    w = write_of v u (target_at p k) bytes

    abbrev one : BodyOut
    one = record { vol = w.vol; ans = record { outcome = w.ans.outcome; medium = w.ans.medium; head = with_crc h k c } }

    more : body_from p (suc n) k v u h ≡ on_done w.ans.outcome (body_from p n (k + 1) w.vol w.ans.medium (with_crc h k c)) (λ e. one)
    unfolding body_from body_sector_of act_of
    more = rw move

    spent_more : Spent n w.ans.medium (body_from p n (k + 1) w.vol w.ans.medium (with_crc h k c)) → Spent (suc n) u (body_from p (suc n) k v u h)
    spent_more r =
        case u.left 0
        (λ z. let x = more ∙ on_done_no _ _ (write_media v u (target_at p k) bytes z) in
        record {
          enough = λ l. absurd (omega arith);
          short = λ _. ap (λ (o : BodyOut). o.ans.outcome) x ∙ write_media v u (target_at p k) bytes z;
        })
        (λ z. let s = write_some v u (target_at p k) bytes (omega (arith, z)) in
        let x = more ∙ on_done_done _ _ s.0 in
        record {
          enough = λ l. let y = r.enough (omega (arith, s.1)) in rw x (y.0, omega (arith, y.1, s.1));
          short = λ l. ap (λ (o : BodyOut). o.ans.outcome) x ∙ r.short (omega (arith, s.1));
        })

  body_spent : (n k : ℕ) (v : List ℕ) (u : Medium) (h : Header) → k + n ≤ body_count p → Kept (target p) 25 vol v → u.unreadable ≡ m.unreadable
      → Spent n u (body_from p n k v u h)
  unfolding body_from
  body_spent zero k v u h fits kept same = record { enough = λ _. (refl, omega arith); short = λ l. absurd (omega arith) }
  body_spent (suc n) k v u h fits kept same =
      let few : k < 24 = omega (arith, good.chunks) in
      let x = puts k (omega arith) in
      let now : move_of p v u k ≡ put x.0 x.1 = move_before p vol good k few kept m u same ∙ x.2 in
      let size : length x.1 ≡ 512 = subst Fills x.2 (move_fills p vol m k (good_ready good) few) in
      let inside : target_at p k < sectors_of v = rw (kept_sectors kept) (omega (arith, base_most p.copy, good.enough)) in
      spent_more n k v u h x.0 x.1 now
      (body_spent n (k + 1) _ _ _ (omega arith) (kept_more kept (kept_wide (omega arith) (omega arith) (write_kept v u (target_at p k) x.1 size inside)))
      ((write_spends v u (target_at p k) x.1).unreadable ∙ same))

  -- ---- none is left unwritten

  none_skipped : (n k : ℕ) → k + n ≤ body_count p → skipped_from p vol m n k ≡ []
  unfolding skipped_from skips leaves pick
  none_skipped zero k fits = refl
  none_skipped (suc n) k fits = let x = puts k (omega arith) in rw x.2 (none_skipped n (k + 1) (omega arith))

  -- ---- the copy

  abbrev z : WriteOut
  z = first_of p vol m

  abbrev b : BodyOut
  b = body_from p (body_count p) 0 z.vol z.ans.medium p.head

  body : Spent (body_count p) z.ans.medium b
  body =
      body_spent (body_count p) 0 z.vol z.ans.medium p.head (omega arith)
      (kept_wide (omega arith) (omega arith) (write_kept vol m (target p) p.first good.first (omega (arith, base_most p.copy, good.enough))))
      (write_spends vol m (target p) p.first).unreadable

  abbrev last_part : Out
  last_part = last_of p (free_after p vol) (skipped_from p vol m (body_count p) 0) b.vol b.ans.medium b.ans.head

  reaches : z.ans.outcome ≡ Ok tt → b.ans.outcome ≡ Ok tt → copy_out p vol m ≡ last_part
  unfolding copy_out
  reaches s t = on_done_done _ _ s ∙ on_done_done _ _ t

  pub copy_enough : body_count p + 2 ≤ m.left → ((copy_out p vol m).ans.outcome ≡ Ok tt) × ((copy_out p vol m).skipped ≡ [])
  unfolding last_of
  copy_enough l =
      let s = write_some vol m (target p) p.first (omega arith) in
      let t = body.enough (omega (arith, s.1)) in
      let u = write_some b.vol b.ans.medium (target p) (encode_of b.ans.head) (omega (arith, s.1, t.1)) in
      let x = reaches s.0 t.0 ∙ on_done_done _ _ u.0 in
      (ap (λ (o : Out). o.ans.outcome) x, ap (λ (o : Out). o.skipped) x ∙ none_skipped (body_count p) 0 (omega arith))

  pub copy_short : m.left < body_count p + 2 → (copy_out p vol m).ans.outcome ≡ Err Media
  unfolding copy_out last_of
  copy_short l =
      case m.left 0
      (λ e. ap (λ (o : Out). o.ans.outcome) (on_done_no _ _ (write_media vol m (target p) p.first e)))
      (λ e. let s = write_some vol m (target p) p.first (omega (arith, e)) in go s.0 s.1 (ltb z.ans.medium.left (body_count p)) refl)
    where
      go : z.ans.outcome ≡ Ok tt → z.ans.medium.left + 1 ≡ m.left → (t : Bool) → ltb z.ans.medium.left (body_count p) ≡ t → (copy_out p vol m).ans.outcome ≡ Err Media
      go s r true t = ap (λ (o : Out). o.ans.outcome) (on_done_done _ _ s ∙ on_done_no _ _ (body.short (ltb-true _ _ t)))
      go s r false t =
          let y = body.enough (ltb-false _ _ t) in
          ap (λ (o : Out). o.ans.outcome)
          (on_done_done _ _ s ∙ on_done_done _ _ y.0 ∙ on_done_no _ _ (write_media b.vol b.ans.medium (target p) (encode_of b.ans.head) (omega (arith, y.1, r, l))))

-- ---- a copy whose body sectors are all left unwritten: the header alone is written, twice

module _ (p : Plan) (vol : List ℕ) (m : Medium) (good : Good p vol) (all : (k : ℕ) → k < body_count p → skips p vol m k ≡ true) where
  act_none : (mv : Move) (v : List ℕ) (u : Medium) (h : Header) (k : ℕ) → leaves mv ≡ true
      → ((act_of p mv v u h k).vol ≡ v) × ((act_of p mv v u h k).ans.outcome ≡ Ok tt) × ((act_of p mv v u h k).ans.medium ≡ u)
  unfolding act_of leaves
  act_none unread v u h k e = (refl, refl, refl)
  act_none (matched c) v u h k e = (refl, refl, refl)
  act_none (put c bytes) v u h k e = no_way e
  act_none (bad x) v u h k e = no_way e

  body_none : (n k : ℕ) (v : List ℕ) (u : Medium) (h : Header) → k + n ≤ body_count p → Kept (target p) 25 vol v → u.unreadable ≡ m.unreadable
      → ((body_from p n k v u h).ans.outcome ≡ Ok tt) × ((body_from p n k v u h).ans.medium ≡ u)
  unfolding body_from body_sector_of skips
  body_none zero k v u h fits kept same = (refl, refl)
  body_none (suc n) k v u h fits kept same =
      let now : move_of p v u k ≡ move_of p vol m k = move_before p vol good k (omega (arith, good.chunks)) kept m u same in
      let s = act_none (move_of p v u k) v u h k (ap leaves now ∙ all k (omega arith)) in
      let o : BodyOut = act_of p (move_of p v u k) v u h k in
      let more = body_none n (k + 1) o.vol o.ans.medium o.ans.head (omega arith) (rw s.0 kept) (rw s.2 same) in
      rw (on_done_done (body_from p n (k + 1) o.vol o.ans.medium o.ans.head) (λ e. o) s.1) (more.0, more.1 ∙ s.2)

  -- each is listed
  pub all_listed : (n k : ℕ) → k + n ≤ body_count p → length (skipped_from p vol m n k) ≡ n
  unfolding skipped_from
  all_listed zero k fits = refl
  all_listed (suc n) k fits = ap length (pick_true _ _ (all k (omega arith))) ∙ ap suc (all_listed n (k + 1) (omega arith))

  pub copy_two : 2 ≤ m.left → ((copy_out p vol m).ans.outcome ≡ Ok tt) × ((copy_out p vol m).skipped ≡ skipped_from p vol m (body_count p) 0)
  unfolding copy_out last_of
  copy_two l =
      let z : WriteOut = first_of p vol m in
      let b : BodyOut = body_from p (body_count p) 0 z.vol z.ans.medium p.head in
      let s = write_some vol m (target p) p.first (omega arith) in
      let t = body_none (body_count p) 0 z.vol z.ans.medium p.head (omega arith)
      (kept_wide (omega arith) (omega arith) (write_kept vol m (target p) p.first good.first (omega (arith, base_most p.copy, good.enough))))
      (write_spends vol m (target p) p.first).unreadable in
      let u = write_some b.vol b.ans.medium (target p) (encode_of b.ans.head) (rw t.1 (omega (arith, s.1))) in
      let x = on_done_done _ _ s.0 ∙ on_done_done _ _ t.0 ∙ on_done_done _ _ u.0 in
      (ap (λ (o : Out). o.ans.outcome) x, ap (λ (o : Out). o.skipped) x)
