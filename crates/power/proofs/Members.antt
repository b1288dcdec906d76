-- Laws of lists of files: which files a list has after one is changed, kept, taken out or added, that no two have one id, and how many there are.
-- Assumes nothing.
use Prim.Native.Nat.{ℕ, ◌+◌, ◌≤◌, min}
use mathlib.Core.Path.{◌≡◌, refl, ap, sym, ◌∙◌, subst}
use mathlib.Core.Logic.{◌≢◌, ◌⊎◌, inl, inr}
use mathlib.Core.Bool.{Bool, true, false, not}
use mathlib.Core.Option.{Option, none, some}
use mathlib.Core.List.Memᴰ
use mathlib.Core.List.{List, [], ◌∷◌, ◌++◌, map, Memᴰ}
use native.Mathlib.Omega.{arith}
use borrow.Author.Tests.{eq-eqb, ne_eqb, leb-true, leb-false}
use lib.Dec.{eqb, leb}
use lib.ListN.{length, length-map}
use Rattle.le.specs.Choice.{pick}
use Rattle.le.proofs.Choices.{pick_keeps, pick_keeps_by, pick_true, pick_false}
use Rattle.power.specs.Book.{File, keep, on_file, smallest}
use Rattle.power.proofs.Whole.{Apart}

abbrev pub Mem : File → List File → Type 0
Mem f fs = Memᴰ f fs

-- ---- one file changed

mem_map : (u : File → File) (f : File) (fs : List File) → Mem f fs → Mem (u f) (map u fs)
mem_map u f [] m = elim m [ ]
mem_map u f (x ∷ fs) (Memᴰ.head e) = Memᴰ.head (ap u e)
mem_map u f (x ∷ fs) (Memᴰ.tail m) = Memᴰ.tail (mem_map u f fs m)

map_mem : (u : File → File) (g : File) (fs : List File) → Mem g (map u fs) → (f : File) × Mem f fs × (g ≡ u f)
map_mem u g [] m = absurd (Memᴰ.not-nil m)
map_mem u g (x ∷ fs) m = go (Memᴰ.cases_cons m) (λ t. map_mem u g fs t)
  where
    go : (g ≡ u x) ⊎ Mem g (map u fs) → (Mem g (map u fs) → (f : File) × Mem f fs × (g ≡ u f)) → (f : File) × Mem f (x ∷ fs) × (g ≡ u f)
    go (inl e) ih = (x, Memᴰ.head refl, e)
    go (inr t) ih = let h = ih t in (h.0, Memᴰ.tail h.1, h.2)

apart_map : (u : File → File) → ((f : File) → (u f).id ≡ f.id) → (fs : List File) → Apart fs → Apart (map u fs)
apart_map u same [] a = tt
apart_map u same (x ∷ fs) a =
    (λ g m q. let k = map_mem u g fs m in a.0 k.0 k.1 (sym (same x) ∙ q ∙ ap (λ (f : File). f.id) k.2 ∙ same k.0), apart_map u same fs a.1)

module _ (id : ℕ) (u : File → File) where
  -- what becomes of a file
  abbrev pub changed : File → File
  changed f = pick (eqb f.id id) (u f) f

  pub changed_here : (f : File) → f.id ≡ id → changed f ≡ u f
  changed_here f e = pick_true (u f) f (eq-eqb f.id id e)

  pub changed_other : (f : File) → f.id ≢ id → changed f ≡ f
  changed_other f e = pick_false (u f) f (ne_eqb f.id id e)

  pub mem_on : (f : File) (fs : List File) → Mem f fs → Mem (changed f) (on_file id u fs)
  unfolding on_file
  mem_on f fs m = mem_map changed f fs m

  pub on_mem : (g : File) (fs : List File) → Mem g (on_file id u fs) → (f : File) × Mem f fs × (g ≡ changed f)
  unfolding on_file
  on_mem g fs m = map_mem changed g fs m

  pub apart_on : ((f : File) → (u f).id ≡ f.id) → (fs : List File) → Apart fs → Apart (on_file id u fs)
  unfolding on_file
  apart_on same = apart_map changed (λ f. pick_keeps (λ (g : File). g.id ≡ f.id) (eqb f.id id) (u f) f (same f) refl)

  pub length_on : (fs : List File) → length (on_file id u fs) ≡ length fs
  unfolding on_file
  length_on fs = length-map fs changed

-- ---- some files kept

module _ (p : File → Bool) where
  pub mem_keep : (f : File) (fs : List File) → Mem f fs → p f ≡ true → Mem f (keep p fs)
  unfolding keep
  mem_keep f [] m q = elim m [ ]
  mem_keep f (x ∷ fs) (Memᴰ.head e) q = rw (pick_true (x ∷ keep p fs) (keep p fs) (ap p (sym e) ∙ q)) (Memᴰ.head e)
  mem_keep f (x ∷ fs) (Memᴰ.tail m) q =
      pick_keeps (Mem f) (p x) (x ∷ keep p fs) (keep p fs) (Memᴰ.tail (mem_keep f fs m q)) (mem_keep f fs m q)

  pub keep_mem : (f : File) (fs : List File) → Mem f (keep p fs) → Mem f fs × (p f ≡ true)
  unfolding keep
  keep_mem f [] = λ m. absurd (Memᴰ.not-nil m)
  keep_mem f (x ∷ fs) =
      pick_keeps_by (λ (l : List File). Mem f l → Mem f (x ∷ fs) × (p f ≡ true)) (p x) (x ∷ keep p fs) (keep p fs)
      (λ e m. step e (λ t. keep_mem f fs t) (Memᴰ.cases_cons m))
      (λ e m. let h = keep_mem f fs m in (Memᴰ.tail h.0, h.1))
    where
      step : p x ≡ true → (Mem f (keep p fs) → Mem f fs × (p f ≡ true)) → (f ≡ x) ⊎ Mem f (keep p fs) → Mem f (x ∷ fs) × (p f ≡ true)
      step e ih (inl q) = (Memᴰ.head q, ap p q ∙ e)
      step e ih (inr t) = let h = ih t in (Memᴰ.tail h.0, h.1)

  pub apart_keep : (fs : List File) → Apart fs → Apart (keep p fs)
  unfolding keep
  apart_keep [] a = tt
  apart_keep (x ∷ fs) a =
      pick_keeps Apart (p x) (x ∷ keep p fs) (keep p fs) (λ g m. a.0 g (keep_mem g fs m).0, apart_keep fs a.1) (apart_keep fs a.1)

  -- all of them
  pub keep_all : (fs : List File) → ((f : File) → Mem f fs → p f ≡ true) → keep p fs ≡ fs
  unfolding keep
  keep_all [] h = refl
  keep_all (x ∷ fs) h =
      pick_true (x ∷ keep p fs) (keep p fs) (h x (Memᴰ.head refl)) ∙ ap (λ (l : List File). x ∷ l) (keep_all fs (λ f m. h f (Memᴰ.tail m)))

-- two tests that agree on the files
pub keep_same : (p q : File → Bool) (fs : List File) → ((f : File) → Mem f fs → p f ≡ q f) → keep p fs ≡ keep q fs
unfolding keep
keep_same p q [] h = refl
keep_same p q (x ∷ fs) h = rw (h x (Memᴰ.head refl), keep_same p q fs (λ f m. h f (Memᴰ.tail m)))

-- the file of an id taken out
abbrev pub is_not : ℕ → File → Bool
is_not id f = not (eqb f.id id)

pub not_here : (id : ℕ) (f : File) → f.id ≡ id → is_not id f ≡ false
not_here id f e = rw (eq-eqb f.id id e)

pub not_other : (id : ℕ) (f : File) → f.id ≢ id → is_not id f ≡ true
not_other id f e = rw (ne_eqb f.id id e)

pub length_without : (f : File) (fs : List File) → Apart fs → Mem f fs → length (keep (is_not f.id) fs) + 1 ≡ length fs
unfolding keep
length_without f [] a m = elim m [ ]
length_without f (x ∷ fs) a (Memᴰ.head e) =
    let all : keep (is_not f.id) fs ≡ fs = keep_all (is_not f.id) fs (λ g m. not_other f.id g (λ q. a.0 g m (ap (λ (h : File). h.id) (sym e) ∙ sym q))) in
    rw (pick_false (x ∷ keep (is_not f.id) fs) (keep (is_not f.id) fs) (not_here f.id x (ap (λ (h : File). h.id) (sym e))), all) (omega arith)
length_without f (x ∷ fs) a (Memᴰ.tail m) =
    rw (pick_true (x ∷ keep (is_not f.id) fs) (keep (is_not f.id) fs) (not_other f.id x (λ q. a.0 f m q)))
    (omega (arith, length_without f fs a.1 m))

-- ---- a file added

pub apart_more : (fs : List File) (f : File) → Apart fs → ((g : File) → Mem g fs → g.id ≢ f.id) → Apart (fs ++ (f ∷ []))
apart_more [] f a h = (λ g m. absurd (Memᴰ.not-nil m), tt)
apart_more (x ∷ fs) f a h = (λ g m. go g (Memᴰ.append_cases fs m), apart_more fs f a.1 (λ g m. h g (Memᴰ.tail m)))
  where
    go : (g : File) → Mem g fs ⊎ Mem g (f ∷ []) → x.id ≢ g.id
    go g (inl m) = a.0 g m
    go g (inr m) = λ q. h x (Memᴰ.head refl) (q ∙ ap (λ (k : File). k.id) (Memᴰ.eq_of_singleton m))

pub mem_old : (f : File) (fs : List File) (g : File) → Mem f fs → Mem f (fs ++ (g ∷ []))
mem_old f fs g m = Memᴰ.append_left (g ∷ []) m

pub mem_new : (fs : List File) (g : File) → Mem g (fs ++ (g ∷ []))
mem_new fs g = Memᴰ.append_right fs (Memᴰ.head refl)

pub more_mem : (f : File) (fs : List File) (g : File) → Mem f (fs ++ (g ∷ [])) → Mem f fs ⊎ (f ≡ g)
more_mem f fs g m = go (Memᴰ.append_cases fs m)
  where
    go : Mem f fs ⊎ Mem f (g ∷ []) → Mem f fs ⊎ (f ≡ g)
    go (inl a) = inl a
    go (inr a) = inr (Memᴰ.eq_of_singleton a)

-- ---- the smallest id

abbrev smaller_of : ℕ → Option ℕ → Option ℕ
smaller_of i none = some i
smaller_of i (some j) = some (min i j)

abbrev Least : List File → Option ℕ → Type 0
Least fs none = (g : File) → Mem g fs → ⊥
Least fs (some id) = ((f : File) × Mem f fs × (f.id ≡ id)) × ((g : File) → Mem g fs → id ≤ g.id)

least_more : (x : File) (fs : List File) (o : Option ℕ) → Least fs o → Least (x ∷ fs) (smaller_of x.id o)
least_more x fs none h = ((x, Memᴰ.head refl, refl), λ g m. only g (Memᴰ.cases_cons m))
  where
    only : (g : File) → (g ≡ x) ⊎ Mem g fs → x.id ≤ g.id
    only g (inl e) = rw e (omega arith)
    only g (inr m) = absurd (h g m)
least_more x fs (some j) h = (which (leb x.id j) refl, λ g m. each g (Memᴰ.cases_cons m))
  where
    which : (b : Bool) → leb x.id j ≡ b → (f : File) × Mem f (x ∷ fs) × (f.id ≡ min x.id j)
    which true e = (x, Memᴰ.head refl, omega (arith, leb-true x.id j e))
    which false e = let k = h.0 in (k.0, Memᴰ.tail k.1, omega (arith, k.2, leb-false x.id j e))

    each : (g : File) → (g ≡ x) ⊎ Mem g fs → min x.id j ≤ g.id
    each g (inl e) = rw e (omega arith)
    each g (inr m) = omega (arith, h.1 g m)

smallest_more : (x : File) (fs : List File) → smallest (x ∷ fs) ≡ smaller_of x.id (smallest fs)
unfolding smallest
smallest_more x fs = go (smallest fs) refl
  where
    go : (o : Option ℕ) → smallest fs ≡ o → smallest (x ∷ fs) ≡ smaller_of x.id (smallest fs)
    go none e = rw e refl
    go (some id) e = rw e refl

least_smallest : (fs : List File) → Least fs (smallest fs)
unfolding smallest
least_smallest [] = λ g m. Memᴰ.not-nil m
least_smallest (x ∷ fs) = subst (Least (x ∷ fs)) (sym (smallest_more x fs)) (least_more x fs (smallest fs) (least_smallest fs))

pub smallest_is : (fs : List File) (f : File) → Mem f fs → ((g : File) → Mem g fs → f.id ≤ g.id) → smallest fs ≡ some f.id
smallest_is fs f m least = go (smallest fs) (least_smallest fs)
  where
    go : (o : Option ℕ) → Least fs o → o ≡ some f.id
    go none h = absurd (h f m)
    go (some id) h = let k = h.0 in let q : id ≡ f.id = omega (arith, k.2, least k.0 k.1, h.1 f m) in rw q
