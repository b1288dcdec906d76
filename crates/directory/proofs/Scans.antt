-- A walk of the directory: the loop's invariant; what each visit keeps holds of the answer; only the eight directory sectors are read. Assumes nothing.
use mathlib.Core.Path.{◌≡◌, refl, ap, ◌∙◌, subst}
use mathlib.Core.List.{List}
use Prim.Native.Nat.{ℕ, ◌+◌, ◌/◌, ◌<◌, ◌≤◌, zero-le}
use native.Mathlib.Omega.{arith}
use Rattle.std.specs.Prelude.{Option, None, Some, Result, Ok, Err}
use Rattle.le.specs.Part.{part}
use Rattle.medium.specs.declared.Error.{Error}
use Rattle.medium.specs.declared.Medium.{Medium}
use Rattle.medium.specs.Sector.{sector_at, read_of}
use Rattle.handles.specs.declared.Store.{Store}
use Rattle.handles.specs.Body.{body_at, check_of, due_of}
use Rattle.walk.specs.Walk.{Visit, next, stop, visits}
use Rattle.walk.proofs.Laws.{At, at_start, at_next, at_stop, at_end, walk_keeps, walk_alike}
use Rattle.directory.specs.declared.File.{File}
use Rattle.directory.specs.Entry.{file_of, entry_at, slot_at}
use Rattle.directory.specs.Scan.{Visitor, on_slot, scan_of}

-- the loop has come to slot i with the state s
pub record ScanAt {S R : Type 0} (v : Visitor S R) (vol : List ℕ) (m : Medium) (st : Store) (whole : R) (i : ℕ) (s : S) : Type 0 where
  pub come : At (on_slot v (entry_at vol st)) (slot_at vol m st) v.done 64 whole i s

pub scan_start : {S R : Type 0} (v : Visitor S R) (vol : List ℕ) (m : Medium) (st : Store) (s : S) → ScanAt v vol m st (scan_of v vol m st s) 0 s
scan_start v vol m st s = record { come = at_start _ _ _ _ _ }

module _ {S R : Type 0} {v : Visitor S R} {vol : List ℕ} {m : Medium} {st : Store} {whole : R} {i : ℕ} {s : S} (a : ScanAt v vol m st whole i s) where
  pub scan_end : 64 ≤ i → v.done s ≡ whole
  scan_end h = at_end a.come h

  -- one turn: x is what the call at slot i answered
  module _ (h : i < 64) {x : Result (Option File) Error} (e : x ≡ slot_at vol m st i) where
    pub at_refused : {c : Error} {r : R} → x ≡ Err c → r ≡ v.refuse c s → r ≡ whole
    at_refused q g = g ∙ at_stop a.come h e q refl

    module _ {o : Option File} (p : x ≡ Ok o) where
      pub at_free : {t : S} → o ≡ None → v.free i s ≡ next t → ScanAt v vol m st whole (i + 1) t
      at_free q g = record { come = at_next a.come h e (p ∙ ap Ok q) g }

      module _ {f : File} (q : o ≡ Some f) where
        pub at_file : {t : S} → v.file i f.id (part 0 f.len (entry_at vol st i)) s ≡ next t → ScanAt v vol m st whole (i + 1) t
        at_file g = record { come = at_next a.come h e (p ∙ ap Ok q) g }

        pub at_last : {r : R} → v.file i f.id (part 0 f.len (entry_at vol st i)) s ≡ stop r → r ≡ whole
        at_last g = at_stop a.come h e (p ∙ ap Ok q) g

-- what a visit leaves: P where it goes on, Q where it stops
abbrev pub Left : {S R : Type 0} → (S → Type 0) → (R → Type 0) → Visit S R → Type 0
Left P Q (next t) = P t
Left P Q (stop r) = Q r

module _ {S R : Type 0} (v : Visitor S R) (vol : List ℕ) (m : Medium) (st : Store) (P : ℕ → S → Type 0) (Q : R → Type 0)
    (refuses : (i : ℕ) (t : S) (e : Error) → i < 64 → P i t → slot_at vol m st i ≡ Err e → Q (v.refuse e t))
    (frees : (i : ℕ) (t : S) → i < 64 → P i t → slot_at vol m st i ≡ Ok None → Left (P (i + 1)) Q (v.free i t))
    (files : (i : ℕ) (t : S) (id len : ℕ) → i < 64 → P i t → slot_at vol m st i ≡ file_of id len → Left (P (i + 1)) Q (v.file i id (part 0 len (entry_at vol st i)) t))
    (ends : (t : S) → P 64 t → Q (v.done t)) where
  visit : (i : ℕ) (t : S) → i < 64 → P i t → (x : Result (Option File) Error) → slot_at vol m st i ≡ x → Left (P (i + 1)) Q (on_slot v (entry_at vol st) i t x)
  visit i t h p (Err e) q = refuses i t e h p q
  visit i t h p (Ok None) q = frees i t h p q
  visit i t h p (Ok (Some f)) q = files i t f.id f.len h p q

  pub scan_keeps : (s : S) → P 0 s → Q (scan_of v vol m st s)
  unfolding visits
  scan_keeps s p =
      walk_keeps _ v.done 64 P Q
      (λ k t u h q e. subst (Left (P (k + 1)) Q) e (visit k t h q (slot_at vol m st k) refl))
      (λ k t r h q e. subst (Left (P (k + 1)) Q) e (visit k t h q (slot_at vol m st k) refl))
      ends 0 s zero-le p

-- ---- the frame

on_alike : {S R : Type 0} (v : Visitor S R) (e e' : ℕ → List ℕ) (i : ℕ) (t : S) → e i ≡ e' i → (x : Result (Option File) Error) → on_slot v e i t x ≡ on_slot v e' i t x
on_alike v e e' i t h (Err c) = refl
on_alike v e e' i t h (Ok None) = refl
on_alike v e e' i t h (Ok (Some f)) = ap (λ (l : List ℕ). v.file i f.id (part 0 f.len l) t) h

check_alike : (vol vol' : List ℕ) (m m' : Medium) (st : Store) (k : ℕ) → m.unreadable ≡ m'.unreadable → sector_at vol (body_at st k) ≡ sector_at vol' (body_at st k)
    → check_of vol m st k ≡ check_of vol' m' st k
unfolding check_of read_of
check_alike vol vol' m m' st k e h = rw (e, h)

-- two directories whose sectors are the same
module _ (vol vol' : List ℕ) (st st' : Store) (same : (k : ℕ) → k < 8 → sector_at vol (body_at st k) ≡ sector_at vol' (body_at st' k)) where
  pub entry_alike : (i : ℕ) → i < 64 → entry_at vol st i ≡ entry_at vol' st' i
  unfolding entry_at
  entry_alike i h = rw (same (i / 8) (omega arith))

-- and are refused alike
module _ (vol vol' : List ℕ) (m m' : Medium) (st st' : Store)
    (same : (k : ℕ) → k < 8 → sector_at vol (body_at st k) ≡ sector_at vol' (body_at st' k))
    (check : (k : ℕ) → k < 8 → check_of vol m st k ≡ check_of vol' m' st' k) where
  pub slot_alike : (i : ℕ) → i < 64 → slot_at vol m st i ≡ slot_at vol' m' st' i
  unfolding slot_at due_of
  slot_alike i h = rw (entry_alike vol vol' st st' same i h, check (i / 8) (omega arith))

  pub scan_alike : {S R : Type 0} (v : Visitor S R) (s : S) → scan_of v vol m st s ≡ scan_of v vol' m' st' s
  unfolding visits
  scan_alike v s =
      walk_alike _ _ v.done 64
      (λ k t h.
      ap (on_slot v (entry_at vol st) k t) (slot_alike k h)
      ∙ on_alike v (entry_at vol st) (entry_at vol' st') k t (entry_alike vol vol' st st' same k h) (slot_at vol' m' st' k))
      0 s zero-le

-- volumes that agree there give the same walk, at every visitor; of the medium only the unreadable sector counts
pub scan_frame : {S R : Type 0} (v : Visitor S R) (vol vol' : List ℕ) (m m' : Medium) (st : Store) (s : S) → m.unreadable ≡ m'.unreadable
    → ((k : ℕ) → k < 8 → sector_at vol (body_at st k) ≡ sector_at vol' (body_at st k)) → scan_of v vol m st s ≡ scan_of v vol' m' st s
scan_frame v vol vol' m m' st s e same = scan_alike vol vol' m m' st st same check v s
  where
    check : (k : ℕ) → k < 8 → check_of vol m st k ≡ check_of vol' m' st k
    check k h = check_alike vol vol' m m' st k e (same k h)
