-- The finer book only ever grows: the parts of an id that a file has or had are never changed but behind their last payload. So what stood before a
-- record number that was the file's end stands there for good, until an accepted format. Assumes nothing.
use Prim.Native.Nat.{ℕ, ◌+◌, ◌-◌, ◌≤◌, ◌<◌}
use mathlib.Core.Path.{◌≡◌, refl, ap, sym, ◌∙◌}
use mathlib.Core.Bool.{true, false, true≢false}
use mathlib.Core.List.{List, [], ◌∷◌, ◌++◌, append_assoc, append-nil}
use native.Mathlib.Nat.{le_refl}
use native.Mathlib.Omega.{arith}
use lib.ListN.{length, take}
use lib.Seq.{take_at, take_all}
use Rattle.le.proofs.Choices.{pick_keeps, pick_keeps_by}
use Rattle.plan.specs.Copy.{Kind, formatted, rolled_over, deleted, deleted_oldest, created, extended, recorded}
use Rattle.reading.specs.Below.{Parts, end_number, below}
use Rattle.reading.proofs.Rest.{below_none}
use Rattle.power.specs.Calls.{Call, mount, format, create, open_append, append, sync, delete, delete_oldest, query}
use Rattle.power.specs.Book as book
use Rattle.power.specs.Book.{Fed, Terms, terms_of}
use Rattle.power.specs.History.{World, ran, fed_by}
use Rattle.power.specs.Points.{begins, Unbroken}
use Rattle.power.proofs.Fine.{Fine, forget, on_part, first_part, more_part, last_part, entered, entered_all, before_steps, after_steps, written, fine_of}
use Rattle.power.proofs.Parts.{joined, part_other}

-- ---- the relation on the parts of one id

-- all but the last part are as they were, and that one has payloads behind its own, or none
unfoldable pub Grows : Parts → Parts → Type 0
Grows [] qs = Unit {0}
Grows (p ∷ []) [] = ⊥
Grows (p ∷ []) (q ∷ qs) = (x : List (List ℕ)) × (q ≡ p ++ x)
Grows (p ∷ r ∷ ps) [] = ⊥
Grows (p ∷ r ∷ ps) (q ∷ qs) = (q ≡ p) × Grows (r ∷ ps) qs

pub grows_refl : (ps : Parts) → Grows ps ps
unfolding Grows
grows_refl [] = tt
grows_refl (p ∷ []) = ([], sym (append-nil p))
grows_refl (p ∷ r ∷ ps) = (refl, grows_refl (r ∷ ps))

pub grows_trans : (ps qs rs : Parts) → Grows ps qs → Grows qs rs → Grows ps rs
unfolding Grows
grows_trans [] qs rs a b = tt
grows_trans (p ∷ []) [] rs a b = absurd a
grows_trans (p ∷ []) (q ∷ []) [] a b = absurd b
grows_trans (p ∷ []) (q ∷ []) (r ∷ rs) a b = (a.0 ++ b.0, b.1 ∙ ap (λ (l : List (List ℕ)). l ++ b.0) a.1 ∙ append_assoc p a.0 b.0)
grows_trans (p ∷ []) (q ∷ s ∷ qs) [] a b = absurd b
grows_trans (p ∷ []) (q ∷ s ∷ qs) (r ∷ rs) a b = (a.0, b.0 ∙ a.1)
grows_trans (p ∷ o ∷ ps) [] rs a b = absurd a
grows_trans (p ∷ o ∷ []) (q ∷ []) rs a b = absurd a.1
grows_trans (p ∷ o ∷ n ∷ ps) (q ∷ []) rs a b = absurd a.1
grows_trans (p ∷ o ∷ ps) (q ∷ s ∷ qs) [] a b = absurd b
grows_trans (p ∷ o ∷ ps) (q ∷ s ∷ qs) (r ∷ rs) a b = (b.0 ∙ a.0, grows_trans (o ∷ ps) (s ∷ qs) rs a.1 b.1)

-- a record, and a chunk more
grows_last : (x : List ℕ) (ps : Parts) → Grows ps (last_part x ps)
unfolding Grows last_part
grows_last x [] = tt
grows_last x (p ∷ []) = (x ∷ [], refl)
grows_last x (p ∷ r ∷ ps) = (refl, grows_last x (r ∷ ps))

grows_more : (ps : Parts) → Grows ps (more_part ps)
unfolding Grows
grows_more [] = tt
grows_more (p ∷ []) = ([], sym (append-nil p))
grows_more (p ∷ r ∷ ps) = (refl, grows_more (r ∷ ps))

-- ---- the relation on books

pub record Grown (b c : Fine) : Type 0 where
  pub ids : b.ids ≤ c.ids
  pub size : c.size ≡ b.size
  pub parts : (i : ℕ) → i < b.ids → Grows (b.parts i) (c.parts i)

pub grown_refl : (b : Fine) → Grown b b
grown_refl b = record { ids = le_refl b.ids; size = refl; parts = λ i h. grows_refl (b.parts i) }

pub grown_trans : (a b c : Fine) → Grown a b → Grown b c → Grown a c
grown_trans a b c g h =
    record {
      ids = omega (arith, g.ids, h.ids);
      size = h.size ∙ g.size;
      parts = λ i k. grows_trans (a.parts i) (b.parts i) (c.parts i) (g.parts i k) (h.parts i (omega (arith, k, g.ids)));
    }

-- nothing of it is touched
grown_same : (b c : Fine) → c.ids ≡ b.ids → c.size ≡ b.size → c.parts ≡ b.parts → Grown b c
grown_same b c i z p =
    record {
      ids = omega (arith, i);
      size = z;
      parts = λ j h. rw p (grows_refl (b.parts j));
    }

on_grows : (id : ℕ) (u : Parts → Parts) (f : ℕ → Parts) → ((ps : Parts) → Grows ps (u ps)) → (i : ℕ) → Grows (f i) (on_part id u f i)
unfolding on_part
on_grows id u f h i = pick_keeps (Grows (f i)) _ _ _ (h (f i)) (grows_refl (f i))

-- ---- a step, steps, a call

grown_entered : (t : Terms) (k : Kind) (b : Fine) → Grown b (entered t k b)
unfolding entered book.entered
grown_entered t formatted b = grown_same b _ refl refl refl
grown_entered t rolled_over b = grown_same b _ refl refl refl
grown_entered t deleted_oldest b = grown_same b _ refl refl refl
grown_entered t deleted b = grown_same b _ refl refl refl
grown_entered t created b =
    record {
      ids = omega arith;
      size = refl;
      parts = λ i h. rw (part_other b.ids first_part b.parts i (λ e. absurd (omega (arith, h, e)))) (grows_refl (b.parts i));
    }
grown_entered t extended b = record { ids = le_refl b.ids; size = refl; parts = λ i h. on_grows b.file more_part b.parts grows_more i }
grown_entered t recorded b =
    record { ids = le_refl b.ids; size = refl; parts = λ i h. on_grows b.file (last_part (take 486 b.unwritten)) b.parts (grows_last (take 486 b.unwritten)) i }

grown_all : (t : Terms) (ks : List Kind) (b : Fine) → Grown b (entered_all t ks b)
unfolding entered_all
grown_all t [] b = grown_refl b
grown_all t (k ∷ ks) b = grown_trans b (entered t k b) (entered_all t ks (entered t k b)) (grown_entered t k b) (grown_all t ks (entered t k b))

grown_before : (c : Call) (b : Fine) → Grown b (before_steps c b)
unfolding before_steps book.before_steps
grown_before (append left bytes) b = grown_same b _ refl refl refl
grown_before (mount m) b = grown_refl b
grown_before (format m size seed) b = grown_refl b
grown_before (create rules left name rolls dir) b = grown_refl b
grown_before (open_append rules left name rolls dir) b = grown_refl b
grown_before (sync left) b = grown_refl b
grown_before (delete left name) b = grown_refl b
grown_before (delete_oldest left dir) b = grown_refl b
grown_before (query q) b = grown_refl b

grown_after : (c : Call) (b : Fine) → begins c true ≡ false → Grown b (after_steps c b)
unfolding after_steps book.after_steps begins
grown_after (create rules left name rolls dir) b e = grown_same b _ refl refl refl
grown_after (open_append rules left name rolls dir) b e = grown_same b _ refl refl refl
grown_after (mount m) b e = grown_refl b
grown_after (format m size seed) b e = absurd (true≢false e)
grown_after (append left bytes) b e = grown_refl b
grown_after (sync left) b e = grown_refl b
grown_after (delete left name) b e = grown_refl b
grown_after (delete_oldest left dir) b e = grown_refl b
grown_after (query q) b e = grown_refl b

pub call_grown : (c : Call) (fed : Fed) (b : Fine) → begins c fed.accepted ≡ false → Grown b (written c fed b)
unfolding written
call_grown c fed b e =
    let t : Terms = terms_of c fed.open_file (forget b) in
    let x : Fine = before_steps c b in
    let y : Fine = entered_all t fed.kinds x in
    let g : Grown b y = grown_trans b x y (grown_before c b) (grown_all t fed.kinds x) in
    pick_keeps_by (Grown b) fed.accepted (after_steps c y) y
    (λ a. let z : begins c true ≡ false = ap (begins c) (sym a) ∙ e in grown_trans b y (after_steps c y) g (grown_after c y z))
    (λ a. g)

-- ---- a history with no accepted format

pub history_grown : (cs : List Call) (w : World) (b : Fine) → Unbroken w cs → Grown b (fine_of w cs b)
unfolding Unbroken fine_of fed_by
history_grown [] w b u = grown_refl b
history_grown (c ∷ cs) w b u =
    let x : Fine = written c (fed_by w c) b in
    grown_trans b x (fine_of (ran w c).world cs x) (call_grown c (fed_by w c) b u.0) (history_grown cs (ran w c).world x u.1)

-- ---- record numbers

-- no chunk has more records than sectors
unfoldable pub Fit : ℕ → Parts → Type 0
Fit size [] = Unit {0}
Fit size (p ∷ ps) = (length p ≤ size) × Fit size ps

-- what stood below the end stands there
pub grown_below : (size : ℕ) (ps qs : Parts) → Fit size ps → Grows ps qs → below size (end_number size ps) qs ≡ joined ps
unfolding Grows Fit end_number below joined
grown_below size [] qs f g = below_none size qs
grown_below size (p ∷ []) [] f g = absurd g
grown_below size (p ∷ []) (q ∷ qs) f g =
    let z : length p - size ≡ 0 = omega (arith, f.0) in
    rw (g.1, take_at p g.0 (length p) refl, z) (ap (λ (l : List (List ℕ)). p ++ l) (below_none size qs))
grown_below size (p ∷ r ∷ ps) [] f g = absurd g
grown_below size (p ∷ r ∷ ps) (q ∷ qs) f g =
    let n : ℕ = end_number size (r ∷ ps) in
    let z : size + n - size ≡ n = omega arith in
    let t : take (size + n) p ≡ p = take_all (size + n) p (omega (arith, f.0)) in
    rw (g.0, t, z) (ap (λ (l : List (List ℕ)). p ++ l) (grown_below size (r ∷ ps) qs f.1 g.1))
