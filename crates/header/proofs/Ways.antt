-- What the ways through `decode` and `headers` show of `decode_of` and `headers_of`, from what the calls on them ensure. Assumes nothing.
use Rattle.std.specs.Prelude.{Err, Ok, Result}
use mathlib.Core.Path.{◌≡◌, sym, ap, ◌∙◌}
use mathlib.Core.Bool.{Bool, true, false, ◌&&◌}
use mathlib.Core.List.{List}
use Prim.Native.Nat.{ℕ, ◌≤◌}
use lib.Dec.{ltb}
use Rattle.le.specs.Choice.{pick}
use Rattle.le.specs.Field.{get_le}
use Rattle.runs.specs.Run.{starts_with}
use Rattle.seal.specs.Seal.{is_sealed}
use Rattle.medium.specs.declared.Error.{Error}
use Rattle.medium.specs.declared.Error.TheVariants as no
use Rattle.medium.specs.declared.Medium.{Medium}
use Rattle.medium.specs.Refusal.{on_done}
use Rattle.medium.specs.Sector.{sectors_of, read_of}
use Rattle.handles.specs.declared.Header.{Header}
use Rattle.handles.specs.Handles.{body_of, sane_of}
use Rattle.handles.proofs.Laws.{sane_facts}
use Rattle.header.specs.declared.codec.Decoded.{Decoded}
use Rattle.header.specs.declared.answers.Copies.{Copies}
use Rattle.header.specs.declared.codec.Replica.TheVariants.{Ours, Foreign, Damaged, Absent}
use Rattle.header.specs.Header.{magic, fixed_ok, crcs_of, head_of, with_crcs, ours, bare, decode_of}
use Rattle.header.specs.Copies.{is_foreign, copy_of, both_of, no_copies, headers_of}

-- ---- decode

pub absent : (l : List ℕ) (sectors : ℕ) {m : Bool} {r : Decoded} → m ≡ starts_with magic l → m ≡ false → r ≡ bare Absent → r ≡ decode_of l sectors
unfolding decode_of pick
absent l sectors em t er = rw (← em, t) er

pub damaged : (l : List ℕ) (sectors : ℕ) {m n : Bool} {r : Decoded} → m ≡ starts_with magic l → m ≡ true → n ≡ is_sealed l → n ≡ false → r ≡ bare Damaged
    → r ≡ decode_of l sectors
unfolding decode_of pick
damaged l sectors em tm en tn er = rw (← em, tm, ← en, tn) er

-- what is known once the numbers of a sector are in a header, and tested
pub record Read (l : List ℕ) (sectors : ℕ) (h : Header) (t : Bool) : Type 0 where
  pub marked : starts_with magic l ≡ true
  pub sealed : is_sealed l ≡ true
  pub same : h ≡ with_crcs (head_of l) h.crcs
  pub sane : t ≡ sane_of h sectors

module _ {l : List ℕ} {sectors : ℕ} {h : Header} {t : Bool} (k : Read l sectors h t) where
  chunks_is : h.chunks ≡ get_le 4 48 l
  unfolding head_of
  chunks_is = ap (λ (x : Header). x.chunks) k.same

  sane_is : t ≡ sane_of (head_of l) sectors
  unfolding sane_of
  sane_is = k.sane ∙ ap (λ (x : Header). sane_of x sectors) k.same

  rest : decode_of l sectors ≡ pick (t && fixed_ok l h.chunks) (ours (head_of l)) (bare Foreign)
  unfolding decode_of pick
  rest = rw (k.marked, k.sealed, ← sane_is, ← chunks_is)

  pub insane : {r : Decoded} → t ≡ false → r ≡ bare Foreign → r ≡ decode_of l sectors
  unfolding pick
  insane f er = rw (rest, f) er

  pub most : t ≡ true → h.chunks ≤ 2048
  most e = (sane_facts h sectors (sym k.sane ∙ e)).chunks_most

  pub wrong : {p : Bool} {r : Decoded} → t ≡ true → p ≡ fixed_ok l h.chunks → p ≡ false → r ≡ bare Foreign → r ≡ decode_of l sectors
  unfolding pick
  wrong e ep tp er = rw (rest, e, ← ep, tp) er

  pub found : {p : Bool} {n : ℕ} {y : List ℕ} → t ≡ true → p ≡ fixed_ok l h.chunks → p ≡ true → n ≡ body_of h.chunks → y ≡ crcs_of n l
      → record { kind = Ours; head = with_crcs h y } ≡ decode_of l sectors
  unfolding pick head_of
  found {y = y} e ep tp en ey =
      let z : y ≡ crcs_of (body_of (get_le 4 48 l)) l = ey ∙ rw (en, chunks_is) in
      rw (rest, e, ← ep, tp) (ap (λ (x : Header). ours (with_crcs x y)) k.same ∙ rw z)

-- ---- headers

-- what is known once A is read: d is A, and f says whether it is foreign
pub record Seen (vol : List ℕ) (m : Medium) (d : Decoded) (f : Bool) : Type 0 where
  pub enough : ltb (sectors_of vol) 64 ≡ false
  pub reads : read_of m 0 ≡ Ok tt
  pub copy : d ≡ copy_of vol 0
  pub foreign : f ≡ is_foreign d.kind

module _ {vol : List ℕ} {m : Medium} {d : Decoded} {f : Bool} (k : Seen vol m d f) where
  left : headers_of vol m ≡ pick f (no_copies no.Foreign)
      (on_done (read_of m 32) (pick (is_foreign (copy_of vol 32).kind) (no_copies no.Foreign) (both_of d (copy_of vol 32))) no_copies)
  unfolding headers_of pick on_done
  left = rw (k.enough, k.reads, ← k.copy, ← k.foreign)

  pub foreign_a : {r : Copies} → f ≡ true → r ≡ no_copies no.Foreign → r ≡ headers_of vol m
  unfolding pick
  foreign_a t er = rw (left, t) er

  pub unread_b : {o : Result Unit Error} {e : Error} {r : Copies} → f ≡ false → o ≡ read_of m 32 → o ≡ Err e → r ≡ no_copies e → r ≡ headers_of vol m
  unfolding pick on_done
  unread_b t eo q er = rw (left, t, ← eo, q) er

  module _ {o : Result Unit Error} {b : Decoded} {g : Bool} (t : f ≡ false) (eo : o ≡ read_of m 32) (q : o ≡ Ok tt) (eb : b ≡ copy_of vol 32) (eg : g ≡ is_foreign b.kind) where
    pub foreign_b : {r : Copies} → g ≡ true → r ≡ no_copies no.Foreign → r ≡ headers_of vol m
    unfolding pick on_done
    foreign_b u er = rw (left, t, ← eo, q, ← eb, ← eg, u) er

    pub both : g ≡ false → both_of d b ≡ headers_of vol m
    unfolding pick on_done
    both u = rw (left, t, ← eo, q, ← eb, ← eg, u)
