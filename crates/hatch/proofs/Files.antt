-- `MARKS` and the other files of a list, where a file of that name is made, and where the one with an id changes and that is `MARKS`. Assumes nothing.
use Prim.Native.Nat.{ℕ}
use mathlib.Core.Path.{◌≡◌, refl, ap, sym, ◌∙◌}
use mathlib.Core.Logic.{◌≢◌}
use mathlib.Core.Bool.{Bool, true, false, not, ◌||◌, true≢false, false≢true}
use mathlib.Core.List.Memᴰ
use mathlib.Core.List.{List, [], ◌∷◌, ◌++◌, map}
use lib.Dec.{eqb}
use Rattle.le.specs.Choice.{pick}
use Rattle.le.proofs.Choices.{pick_keeps, pick_false}
use Rattle.runs.specs.Run.{same_bytes}
use Rattle.runs.proofs.Tests.{same_true, same_self}
use Rattle.marks.specs.Line.{marks_name}
use Rattle.power.specs.Book.{File, keep, on_file, with_chunk, with_payload, without_name}
use Rattle.power.specs.Points.{has_name}
use Rattle.power.proofs.Whole.{Apart}
use Rattle.power.proofs.Members.{Mem, changed, changed_here, changed_other, mem_on, on_mem}
use Rattle.power.proofs.Points.{has_some, has_true}
use Rattle.hatch.specs.Claim.{marks_in}

abbrev is_marks : File → Bool
is_marks f = same_bytes marks_name f.name

-- a file made
module _ (id : ℕ) where
  abbrev new : File
  new = record { name = marks_name; id = id; chunks = 1; payloads = [] }

  pub marks_new : (fs : List File) → marks_in (fs ++ (new ∷ [])) ≡ marks_in fs
  unfolding marks_in
  marks_new [] = pick_keeps (λ (l : List (List ℕ)). l ≡ []) (is_marks new) _ _ refl refl
  marks_new (f ∷ fs) = rw (marks_new fs)

  pub others_new : (fs : List File) → without_name marks_name (fs ++ (new ∷ [])) ≡ without_name marks_name fs
  unfolding without_name keep
  others_new [] = pick_false _ _ (ap not (same_self marks_name))
  others_new (f ∷ fs) = rw (others_new fs)

-- ---- the file with an id changed

-- `MARKS` is there, and it alone has the id
pub record Owner (id : ℕ) (fs : List File) : Type 0 where
  pub own : (f : File) → Mem f fs → f.name ≡ marks_name → f.id ≡ id
  pub others : (f : File) → Mem f fs → f.name ≢ marks_name → f.id ≢ id
  pub there : has_name marks_name fs ≡ true

apart_same : (fs : List File) → Apart fs → (f g : File) → Mem f fs → Mem g fs → f.id ≡ g.id → f ≡ g
apart_same [] a f g m _ e = elim m [ ]
apart_same (x ∷ fs) a f g (Memᴰ.head p) (Memᴰ.head q) e = p ∙ sym q
apart_same (x ∷ fs) a f g (Memᴰ.head p) (Memᴰ.tail m) e = absurd (a.0 g m (ap (λ (h : File). h.id) (sym p) ∙ e))
apart_same (x ∷ fs) a f g (Memᴰ.tail m) (Memᴰ.head q) e = absurd (a.0 f m (ap (λ (h : File). h.id) (sym q) ∙ sym e))
apart_same (x ∷ fs) a f g (Memᴰ.tail m) (Memᴰ.tail n) e = apart_same fs a.1 f g m n e

pub owner_of_lem : (id : ℕ) (fs : List File) → Apart fs → ((f : File) → Mem f fs → f.name ≡ marks_name → f.id ≡ id) → (f : File) → Mem f fs → f.name ≡ marks_name → Owner id fs
owner_of_lem id fs apart own f mem e =
    record {
      own = own;
      others = λ g m n q. n (ap (λ (h : File). h.name) (apart_same fs apart g f m mem (q ∙ sym (own f mem e))) ∙ e);
      there = has_true marks_name fs f mem e;
    }

module _ (id : ℕ) (u : File → File) (same : (f : File) → ((u f).name ≡ f.name) × ((u f).id ≡ f.id)) where
  same_changed : (f : File) → ((changed id u f).name ≡ f.name) × ((changed id u f).id ≡ f.id)
  same_changed f = pick_keeps (λ (g : File). (g.name ≡ f.name) × (g.id ≡ f.id)) (eqb f.id id) (u f) f (same f) (refl, refl)

  pub owner_on : (fs : List File) → Owner id fs → Owner id (on_file id u fs)
  owner_on fs o =
      record {
        own = λ g m e. let s = from g m in s.3 ∙ o.own s.0 s.1 (sym s.2 ∙ e);
        others = λ g m n q. let s = from g m in o.others s.0 s.1 (λ e. n (s.2 ∙ e)) (sym s.3 ∙ q);
        there =
            let s = has_some marks_name fs o.there in
            has_true marks_name (on_file id u fs) (changed id u s.0) (mem_on id u s.0 fs s.1) ((same_changed s.0).0 ∙ s.2);
      }
    where
      from : (g : File) → Mem g (on_file id u fs) → (f : File) × Mem f fs × (g.name ≡ f.name) × (g.id ≡ f.id)
      from g m =
          let s = on_mem id u g fs m in
          let c = same_changed s.0 in
          (s.0, s.1, ap (λ (h : File). h.name) s.2 ∙ c.0, ap (λ (h : File). h.id) s.2 ∙ c.1)

  -- the others stay
  pub others_on : (fs : List File) → ((f : File) → Mem f fs → f.name ≢ marks_name → f.id ≢ id) → without_name marks_name (on_file id u fs) ≡ without_name marks_name fs
  unfolding without_name keep on_file pick
  others_on [] h = refl
  others_on (f ∷ fs) h = go (is_marks f) refl (others_on fs (λ g m. h g (Memᴰ.tail m)))
    where
      go : (t : Bool) → is_marks f ≡ t → without_name marks_name (on_file id u fs) ≡ without_name marks_name fs → without_name marks_name (on_file id u (f ∷ fs)) ≡ without_name marks_name (f ∷ fs)
      go true e ih =
          let s : is_marks (changed id u f) ≡ true = ap (same_bytes marks_name) (same_changed f).0 ∙ e in
          pick_false _ _ (ap not s) ∙ ih ∙ sym (pick_false _ _ (ap not e))
      go false e ih =
          let n : f.name ≢ marks_name = λ q. true≢false (sym (ap (same_bytes marks_name) q ∙ same_self marks_name) ∙ e) in
          rw (changed_other id u f (h f (Memᴰ.head refl) n), e) (ap (λ (l : List File). f ∷ l) ih)

-- a chunk more leaves the payloads
pub marks_chunk : (id : ℕ) (fs : List File) → marks_in (on_file id with_chunk fs) ≡ marks_in fs
unfolding marks_in on_file
marks_chunk id [] = refl
marks_chunk id (f ∷ fs) =
    let ih : marks_in (map (changed id with_chunk) fs) ≡ marks_in fs = marks_chunk id fs in
    pick_keeps (λ (g : File). marks_in (g ∷ map (changed id with_chunk) fs) ≡ marks_in (f ∷ fs)) (eqb f.id id) _ _ (rw ih) (rw ih)

-- a record goes behind the payloads
pub marks_record : (id : ℕ) (x : List ℕ) (fs : List File) → ((f : File) → Mem f fs → f.name ≡ marks_name → f.id ≡ id) → has_name marks_name fs ≡ true
    → marks_in (on_file id (with_payload x) fs) ≡ marks_in fs ++ (x ∷ [])
unfolding marks_in on_file has_name pick
marks_record id x [] own h = absurd (false≢true h)
marks_record id x (f ∷ fs) own h = go (is_marks f) refl h (λ k. marks_record id x fs (λ g m. own g (Memᴰ.tail m)) k)
  where
    u : File → File
    u = with_payload x

    go : (t : Bool) → is_marks f ≡ t → (t || has_name marks_name fs) ≡ true → (has_name marks_name fs ≡ true → marks_in (on_file id u fs) ≡ marks_in fs ++ (x ∷ []))
        → marks_in (on_file id u (f ∷ fs)) ≡ marks_in (f ∷ fs) ++ (x ∷ [])
    go true e k ih = rw (changed_here id u f (own f (Memᴰ.head refl) (sym (same_true marks_name f.name e))), e)
    go false e k ih =
        let s : is_marks (changed id u f) ≡ false = ap (same_bytes marks_name) (pick_keeps (λ (g : File). g.name ≡ f.name) (eqb f.id id) (u f) f refl refl) ∙ e in
        rw (s, e) (ih k)
