-- What an accepted mount gives: a valid copy that stands on the volume. Assumes nothing.
use Rattle.std.specs.Prelude.{Ok}
use mathlib.Core.Path.{◌≡◌, refl, sym, ap, ◌∙◌}
use mathlib.Core.Bool.{true, false, ◌||◌}
use mathlib.Core.List.{List}
use Prim.Native.Nat.{ℕ, ◌*◌, ◌≤◌, ◌<◌}
use borrow.Author.Tests.{ltb-false}
use lib.Dec.{lit<}
use Rattle.le.specs.Choice.{pick}
use Rattle.le.proofs.Choices.{pick_keeps, pick_keeps_by}
use Rattle.le.proofs.Bools.{and_true}
use Rattle.medium.specs.declared.Medium.{Medium}
use Rattle.medium.specs.Sector.{sectors_of, sector_at}
use Rattle.medium.proofs.Laws.{on_done_keeps, length_sector, not_done}
use Rattle.freemap.proofs.Rule.{ok_unfit}
use Rattle.handles.specs.declared.Header.{Header}
use Rattle.handles.specs.Handles.{base_of, sane_of, store_ok}
use Rattle.handles.proofs.Laws.{store_ok_lem}
use Rattle.header.specs.declared.answers.Mounted.{Mounted}
use Rattle.header.specs.declared.codec.Decoded.{Decoded}
use Rattle.header.specs.declared.answers.Copies.{Copies}
use Rattle.header.specs.declared.answers.Current.{Current}
use Rattle.header.specs.Header.{ours, Bytes, InRange}
use Rattle.header.specs.Copies.{is_ours, is_foreign, is_damaged, copy_of, both_of, headers_of, takes_b, taken_of, no_current, choice_of, current_of, mounted, mount_of}
use Rattle.header.proofs.Range.{bytes_part, valid, decode_range}

-- ---- both headers, accepted

pub record Both (vol : List ℕ) (c : Copies) : Type 0 where
  pub enough : 64 ≤ sectors_of vol
  pub same : c ≡ both_of (copy_of vol 0) (copy_of vol 32)
  pub not_a : is_foreign (copy_of vol 0).kind ≡ false
  pub not_b : is_foreign (copy_of vol 32).kind ≡ false

pub headers_both : (vol : List ℕ) (m : Medium) → (headers_of vol m).outcome ≡ Ok tt → Both vol (headers_of vol m)
unfolding headers_of
headers_both vol m =
    pick_keeps_by (Good vol) _ _ _ (λ _. not_done)
    (λ n. on_done_keeps (Good vol) _ _ _
    (λ _. pick_keeps_by (Good vol) _ _ _ (λ _. not_done)
    (λ p. on_done_keeps (Good vol) _ _ _
    (λ _. pick_keeps_by (Good vol) _ _ _ (λ _. not_done) (λ q _. record { enough = ltb-false (sectors_of vol) 64 n; same = refl; not_a = p; not_b = q }))
    (λ e _. not_done)))
    (λ e _. not_done))
  where
    Good : List ℕ → Copies → Type 0
    Good vol c = c.outcome ≡ Ok tt → Both vol c

-- ---- the copy taken is one of the two, and its header is the one on the volume

-- a kind that says valid stands beside the header that the sector holds
pub copy_valid : (vol : List ℕ) (k : ℕ) → is_ours (copy_of vol k).kind ≡ true → copy_of vol k ≡ ours (copy_of vol k).head
unfolding copy_of
copy_valid vol k e =
    let t = valid (sector_at vol k) (sectors_of vol) e in
    t.0 ∙ ap ours (sym (ap (λ (d : Decoded). d.head) t.0))

pub record Taken (vol : List ℕ) (c : Current) : Type 0 where
  pub copy : c.copy < 2
  pub found : copy_of vol (base_of c.copy) ≡ ours c.head

b_valid : (c : Copies) → takes_b c ≡ true → is_ours c.b ≡ true
unfolding takes_b
b_valid c t = (and_true _ _ t).0

abbrev Sound : List ℕ → Current → Type 0
Sound vol r = r.outcome ≡ Ok tt → Taken vol r

choice_taken : (vol : List ℕ) (c : Copies) → c ≡ both_of (copy_of vol 0) (copy_of vol 32) → Sound vol (choice_of c)
unfolding choice_of taken_of no_current base_of pick
choice_taken vol c s =
    rw s
    (pick_keeps_by (Sound vol) (takes_b (both_of (copy_of vol 0) (copy_of vol 32))) _ _
    (λ t _. record { copy = lit< tt; found = copy_valid vol 32 (b_valid _ t) })
    (λ _. pick_keeps_by (Sound vol) (is_ours (copy_of vol 0).kind) _ _
    (λ t _. record { copy = lit< tt; found = copy_valid vol 0 t })
    (λ _. pick_keeps (Sound vol) (is_damaged (copy_of vol 0).kind || is_damaged (copy_of vol 32).kind) _ _ not_done not_done)))

pub current_taken : (vol : List ℕ) (m : Medium) → (current_of vol m).outcome ≡ Ok tt → Taken vol (current_of vol m)
unfolding current_of no_current
current_taken vol m =
    on_done_keeps (Sound vol) (headers_of vol m).outcome _ _
    (λ o. choice_taken vol (headers_of vol m) (headers_both vol m o).same)
    (λ e _. not_done)

-- mount takes what `current` took
pub mount_current : (vol : List ℕ) (m : Medium) → (mount_of vol m).outcome ≡ Ok tt → ((current_of vol m).outcome ≡ Ok tt) × (mount_of vol m ≡ mounted (current_of vol m))
unfolding mount_of
mount_current vol m =
    on_done_keeps (λ (r : Mounted). r.outcome ≡ Ok tt → ((current_of vol m).outcome ≡ Ok tt) × (r ≡ mounted (current_of vol m))) (current_of vol m).outcome _ _
    (λ o _. (o, refl))
    (λ e _. not_done)

-- ---- what stands on the volume as a valid copy

module _ (vol : List ℕ) (k : ℕ) (h : Header) (e : copy_of vol k ≡ ours h) where
  pub copy_sane : sane_of h (sectors_of vol) ≡ true
  unfolding copy_of
  copy_sane =
      let t = valid (sector_at vol k) (sectors_of vol) (ap (λ (d : Decoded). is_ours d.kind) e) in
      rw (ap (λ (d : Decoded). d.head) (sym t.0 ∙ e)) at t.1

  pub copy_range : k < sectors_of vol → Bytes vol → InRange h
  unfolding copy_of sector_at
  copy_range f small = (decode_range (sector_at vol k) (sectors_of vol) h (length_sector vol k f) (bytes_part (512 * k) 512 vol small) e).1

-- the store of an accepted mount passes refusal 3
module _ (vol : List ℕ) (m : Medium) (accepted : (mount_of vol m).outcome ≡ Ok tt) where
  taken : Taken vol (current_of vol m)
  taken = current_taken vol m (mount_current vol m accepted).0

  same : (mount_of vol m).store ≡ (mounted (current_of vol m)).store
  same = ap (λ (r : Mounted). r.store) (mount_current vol m accepted).1

  head_sane : sane_of (current_of vol m).head (sectors_of vol) ≡ true
  head_sane = copy_sane vol (base_of (current_of vol m).copy) (current_of vol m).head taken.found

  pub mount_ok : store_ok (mount_of vol m).store (sectors_of vol) ≡ true
  mount_ok = rw same (store_ok_lem _ (sectors_of vol) taken.copy head_sane (ok_unfit (current_of vol m).head.chunks))
