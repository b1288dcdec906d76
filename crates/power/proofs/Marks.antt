-- S-1: what a file of one name holds through the steps of a call, on 01's book: the same payloads, while the file is there, unless a record goes to it
-- or a file of the name is made where there was one. And what was remembered of other files stands. Assumes nothing.
use Prim.Native.Nat.{ℕ, ◌<◌}
use mathlib.Core.Path.{◌≡◌, refl, ap, sym, subst, ◌∙◌}
use mathlib.Core.Logic.{◌≢◌, ◌⊎◌, inl, inr}
use mathlib.Core.Option.{Option, none, some}
use mathlib.Core.List.Memᴰ
use mathlib.Core.List.{List, [], ◌∷◌, ◌++◌}
use native.Mathlib.Omega.{arith}
use lib.Dec.{eqb}
use lib.ListN.{take}
use Rattle.le.proofs.Choices.{pick_keeps}
use Rattle.plan.specs.Copy.{Kind, formatted, rolled_over, deleted, deleted_oldest, created, extended, recorded}
use Rattle.reading.specs.Below.{Parts, end_number, below}
use Rattle.layout.proofs.Facts.{case}
use Rattle.power.specs.Calls.{Call, mount, format, create, open_append, append, sync, delete, delete_oldest, query}
use Rattle.power.specs.Book.{File, Book, Fed, Terms, terms_of, smallest, keep, may_go, with_chunk, with_payload, without_id, without_oldest, without_name, entered, entered_all, before_steps, after_steps, written}
use Rattle.power.specs.Points.{Pin}
use Rattle.power.proofs.Fine.{Fine}
use Rattle.power.proofs.Parts.{joined}
use Rattle.power.proofs.Grows.{Grows, grows_trans, Grown, Fit, grown_below}
use Rattle.power.proofs.Members.{Mem, changed, changed_here, changed_other, on_mem, keep_mem, more_mem}

-- ---- what was remembered of a file when a point was set

-- of the finer book: the id was given, and its chunks, as they were then, have only grown
pub record Pinned (b : Fine) (q : Pin) : Type 0 where
  pub parts : Parts
  pub given : q.id < b.ids
  pub fit : Fit b.size parts
  pub number : end_number b.size parts ≡ q.number
  pub payloads : joined parts ≡ q.payloads
  pub grows : Grows parts (b.parts q.id)

pub pinned_grown : {b c : Fine} {q : Pin} → Grown b c → Pinned b q → Pinned c q
pinned_grown {b} {c} {q} g p =
    record {
      parts = p.parts;
      given = omega (arith, p.given, g.ids);
      fit = rw g.size p.fit;
      number = rw g.size p.number;
      payloads = p.payloads;
      grows = grows_trans p.parts (b.parts q.id) (c.parts q.id) p.grows (g.parts q.id p.given);
    }

-- below the number stands what was remembered
pub pinned_below : {b : Fine} {q : Pin} → Pinned b q → below b.size q.number (b.parts q.id) ≡ q.payloads
pinned_below {b} {q} p = rw (← p.number) (grown_below b.size p.parts (b.parts q.id) p.fit p.grows) ∙ p.payloads

-- ---- the file of a name

abbrev pub Holding : List ℕ → List (List ℕ) → List File → Type 0
Holding name l files = (f : File) → Mem f files → f.name ≡ name → f.payloads ≡ l

without_mem : (i : Option ℕ) (f : File) (fs : List File) → Mem f (without_id i fs) → Mem f fs
unfolding without_id
without_mem none f fs m = m
without_mem (some id) f fs m = (keep_mem _ f fs m).0

oldest_mem : (dir : Option (List ℕ)) (spared : Option ℕ) (f : File) (fs : List File) → Mem f (without_oldest dir spared fs) → Mem f fs
unfolding without_oldest
oldest_mem none spared f fs m = m
oldest_mem (some dir) spared f fs m = without_mem (smallest (keep (may_go dir spared) fs)) f fs m

-- the steps that leave it: no record goes to a file of the name, and where one is made nothing is to be held
unfoldable pub Quiet : List ℕ → List (List ℕ) → Terms → Kind → Book → Type 0
Quiet name l t formatted b = Unit {0}
Quiet name l t rolled_over b = Unit {0}
Quiet name l t deleted_oldest b = Unit {0}
Quiet name l t deleted b = Unit {0}
Quiet name l t created b = t.name ≡ name → l ≡ []
Quiet name l t extended b = Unit {0}
Quiet name l t recorded b = (f : File) → Mem f b.files → f.id ≡ b.file → f.name ≢ name

unfoldable pub QuietAll : List ℕ → List (List ℕ) → Terms → List Kind → Book → Type 0
QuietAll name l t [] b = Unit {0}
QuietAll name l t (k ∷ ks) b = Quiet name l t k b × QuietAll name l t ks (entered t k b)

before_files : (c : Call) (b : Book) → (before_steps c b).files ≡ b.files
unfolding before_steps
before_files (append left bytes) b = refl
before_files (mount m) b = refl
before_files (format m size seed) b = refl
before_files (create rules left n rolls dir) b = refl
before_files (open_append rules left n rolls dir) b = refl
before_files (sync left) b = refl
before_files (delete left n) b = refl
before_files (delete_oldest left dir) b = refl
before_files (query q) b = refl

after_files : (c : Call) (b : Book) → (after_steps c b).files ≡ b.files
unfolding after_steps
after_files (create rules left n rolls dir) b = refl
after_files (open_append rules left n rolls dir) b = refl
after_files (mount m) b = refl
after_files (format m size seed) b = refl
after_files (append left bytes) b = refl
after_files (sync left) b = refl
after_files (delete left n) b = refl
after_files (delete_oldest left dir) b = refl
after_files (query q) b = refl

-- a call that makes no step leaves the files
pub files_stay : (c : Call) (fed : Fed) (b : Book) → fed.kinds ≡ [] → (written c fed b).files ≡ b.files
unfolding written entered_all
files_stay c fed b quiet =
    rw quiet (pick_keeps (λ (x : Book). x.files ≡ b.files) fed.accepted _ _ (after_files c (before_steps c b) ∙ before_files c b) (before_files c b))

module _ (name : List ℕ) (l : List (List ℕ)) where
  chunk_same : (id : ℕ) (f : File) → ((changed id with_chunk f).name ≡ f.name) × ((changed id with_chunk f).payloads ≡ f.payloads)
  chunk_same id f = pick_keeps (λ (g : File). (g.name ≡ f.name) × (g.payloads ≡ f.payloads)) (eqb f.id id) _ _ (refl, refl) (refl, refl)

  pub holding_entered : (t : Terms) (k : Kind) (b : Book) → Holding name l b.files → Quiet name l t k b → Holding name l (entered t k b).files
  unfolding entered Quiet without_name
  holding_entered t formatted b h q f m e = absurd (Memᴰ.not-nil m)
  holding_entered t rolled_over b h q f m e = h f (oldest_mem t.dir t.spared f b.files m) e
  holding_entered t deleted_oldest b h q f m e = h f (oldest_mem t.dir t.spared f b.files m) e
  holding_entered t deleted b h q f m e = h f (keep_mem _ f b.files m).0 e
  holding_entered t created b h q f m e = go (more_mem f b.files _ m)
    where
      go : Mem f b.files ⊎ (f ≡ record { name = t.name; id = b.next; chunks = 1; payloads = [] }) → f.payloads ≡ l
      go (inl x) = h f x e
      go (inr x) = ap (λ (g : File). g.payloads) x ∙ sym (q (ap (λ (g : File). g.name) (sym x) ∙ e))
  holding_entered t extended b h q g m e =
      let o = on_mem b.file with_chunk g b.files m in
      let c = chunk_same b.file o.0 in
      ap (λ (f : File). f.payloads) o.2 ∙ c.1 ∙ h o.0 o.1 (sym c.0 ∙ ap (λ (f : File). f.name) (sym o.2) ∙ e)
  holding_entered t recorded b h q g m e = go (on_mem b.file (with_payload (take 486 b.unwritten)) g b.files m)
    where
      u : File → File
      u = with_payload (take 486 b.unwritten)

      go : (f : File) × Mem f b.files × (g ≡ changed b.file u f) → g.payloads ≡ l
      go o = case o.0.id b.file
          (λ x. absurd (q o.0 o.1 x (ap (λ (f : File). f.name) (sym (o.2 ∙ changed_here b.file u o.0 x)) ∙ e)))
          (λ x.
          let y : g ≡ o.0 = o.2 ∙ changed_other b.file u o.0 x in
          ap (λ (f : File). f.payloads) y ∙ h o.0 o.1 (ap (λ (f : File). f.name) (sym y) ∙ e))

  -- the record of a setting: the file of the name is the appender's
  pub holding_record : (t : Terms) (b : Book) → Holding name l b.files → ((f : File) → Mem f b.files → f.name ≡ name → f.id ≡ b.file)
      → Holding name (l ++ (take 486 b.unwritten ∷ [])) (entered t recorded b).files
  unfolding entered
  holding_record t b h own g m e = go (on_mem b.file (with_payload (take 486 b.unwritten)) g b.files m)
    where
      u : File → File
      u = with_payload (take 486 b.unwritten)

      same_name : (f : File) → (changed b.file u f).name ≡ f.name
      same_name f = pick_keeps (λ (x : File). x.name ≡ f.name) (eqb f.id b.file) _ _ refl refl

      go : (f : File) × Mem f b.files × (g ≡ changed b.file u f) → g.payloads ≡ l ++ (take 486 b.unwritten ∷ [])
      go o =
          let n : o.0.name ≡ name = sym (same_name o.0) ∙ ap (λ (f : File). f.name) (sym o.2) ∙ e in
          let y : g ≡ u o.0 = o.2 ∙ changed_here b.file u o.0 (own o.0 o.1 n) in
          ap (λ (f : File). f.payloads) y ∙ ap (λ (p : List (List ℕ)). p ++ (take 486 b.unwritten ∷ [])) (h o.0 o.1 n)

  holding_all : (t : Terms) (ks : List Kind) (b : Book) → Holding name l b.files → QuietAll name l t ks b → Holding name l (entered_all t ks b).files
  unfolding entered_all QuietAll
  holding_all t [] b h q = h
  holding_all t (k ∷ ks) b h q = holding_all t ks (entered t k b) (holding_entered t k b h q.0) q.1

  -- a call whose steps are all quiet
  pub holding_written : (c : Call) (fed : Fed) (b : Book) → Holding name l b.files → QuietAll name l (terms_of c fed.open_file b) fed.kinds (before_steps c b)
      → Holding name l (written c fed b).files
  unfolding written
  holding_written c fed b h q =
      let t : Terms = terms_of c fed.open_file b in
      let b' : Book = entered_all t fed.kinds (before_steps c b) in
      let x : Holding name l b'.files = holding_all t fed.kinds (before_steps c b) (subst (Holding name l) (sym (before_files c b)) h) q in
      pick_keeps (λ (y : Book). Holding name l y.files) fed.accepted (after_steps c b') b' (subst (Holding name l) (sym (after_files c b')) x) x
