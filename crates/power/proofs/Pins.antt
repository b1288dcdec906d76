-- S-1: a file read up to the number at which its reader once found the end gives the payloads that it gave then, whatever calls came between, as long
-- as no format was accepted and a file has the id. Assumes nothing.
use Prim.Native.Nat.{ℕ, suc, ◌≤◌, ◌<◌}
use mathlib.Core.Path.{◌≡◌, ap, sym, subst, ◌∙◌}
use mathlib.Core.List.{List, [], ◌∷◌, Memᴰ}
use native.Mathlib.Omega.{arith}
use lib.Dec.{lit≤}
use lib.ListN.{length}
use Rattle.le.specs.Part.{zeros}
use Rattle.le.proofs.Parts.{length_zeros}
use Rattle.medium.specs.declared.Medium.{Medium}
use Rattle.medium.specs.Sector.{Readable}
use Rattle.handles.specs.declared.Store.{Store}
use Rattle.plan.specs.Copy.{Distinct}
use Rattle.reader.specs.declared.Reader.{Reader}
use Rattle.reader.specs.Calls.{next_call}
use Rattle.layout.specs.Segments.{Segment, segment_at}
use Rattle.reading.specs.GivesTo.{GivesTo}
use Rattle.reading.specs.GivesUpto.{GivesUpto}
use Rattle.reading.specs.Below.{parts_of, end_number, below}
use Rattle.store.specs.Reading.{mount_call, reader_call}
use Rattle.power.specs.Calls.{Call}
use Rattle.power.specs.Book.{File, Book}
use Rattle.power.specs.History.{World, after, book_of, Premise}
use Rattle.power.specs.Points.{Unbroken}
use Rattle.power.proofs.Fine.{Fine, fine_of, forget_history}
use Rattle.power.proofs.Parts.{joined, joined_payloads}
use Rattle.power.proofs.Grows.{Grown, Fit, history_grown, grown_below}
use Rattle.power.proofs.Whole.{Whole, Keeps, Booked}
use Rattle.power.proofs.Shown.{as_mounted, mount_gives, whole_mounted, each_ends, each_below}
use Rattle.power.proofs.History.{history_keeps}

-- ---- a file of the book

fit_parts : (size : ℕ) (g : List Segment) → ((p : ℕ) → p < length g → length (segment_at g p).payloads ≤ size) → Fit size (parts_of g)
unfolding Fit
fit_parts size [] h = tt
fit_parts size (s ∷ g) h = (h 0 (omega arith), fit_parts size g (λ p k. h (suc p) (omega (arith, k))))

module _ {vol : List ℕ} {st : Store} {G : ℕ → List Segment} {b : Fine} (w : Whole vol st G b) (f : File) (mem : Memᴰ f b.files) where
  pub file_known : f.id < b.ids
  file_known = let o = w.ties.from f mem in rw w.ids (w.good.older o.0 f.name f.id o.1 o.2)

  pub file_fit : Fit b.size (b.parts f.id)
  file_fit =
      let o = w.ties.from f mem in
      rw (w.size, ← w.parts.hold o.0 f.name f.id o.1 o.2) (fit_parts st.head.chunk (G o.0) (λ p h. w.good.fits o.0 p o.1 h))

  pub file_joined : joined (b.parts f.id) ≡ f.payloads
  file_joined =
      let o = w.ties.from f mem in
      ap joined (sym (w.parts.hold o.0 f.name f.id o.1 o.2)) ∙ joined_payloads (G o.0) ∙ ap (λ (x : File). x.payloads) (sym o.3)

-- ---- the number at which a reader finds the end is one

pub gives_one : (vol : List ℕ) (m : Medium) (st : Store) (l : List (List ℕ)) (rd : Reader) (n k : ℕ) → GivesTo vol m st rd l n → GivesTo vol m st rd l k → n ≡ k
unfolding GivesTo
gives_one vol m st [] rd n k a b =
    let e : 486 ≤ length (zeros 486) = rw (length_zeros 486) (lit≤ tt) in
    sym (a (zeros 486) e).1 ∙ (b (zeros 486) e).1
gives_one vol m st (x ∷ xs) rd n k a b =
    let e : 486 ≤ length (zeros 486) = rw (length_zeros 486) (lit≤ tt) in
    gives_one vol m st xs (next_call vol m st rd (zeros 486)).reader n k (a (zeros 486) e).2 (b (zeros 486) e).2

-- ---- the law

-- a file up to a number, by a store value
abbrev pub ReadsUpto : List ℕ → Medium → Store → List ℕ → ℕ → List (List ℕ) → Type 0
ReadsUpto vol m st name n l = GivesUpto vol m st (record { reader = (reader_call vol m st name).reader; limit = n }) l

-- what is below the number that was the end, in a book that has grown
grown_file : {b c : Fine} → Grown b c → (f g : File) → f.id < b.ids → Fit b.size (b.parts f.id) → g.id ≡ f.id
    → below c.size (end_number b.size (b.parts f.id)) (c.parts g.id) ≡ joined (b.parts f.id)
grown_file {b} {c} g f x h fit e = rw (g.size, e) (grown_below b.size (b.parts f.id) (c.parts f.id) fit (g.parts f.id h))

module _ (w : World) (b : Fine) (k : Keeps w b) (cs : List Call) (u : Unbroken w cs) (f : File) (mem : Memᴰ f b.files) where
  abbrev end : ℕ
  end = end_number b.size (b.parts f.id)

  abbrev later : Fine
  later = fine_of w cs b

  still : (g : File) → g.id ≡ f.id → below later.size end (later.parts g.id) ≡ f.payloads
  still g e = grown_file (history_grown cs w b u) f g (file_known k.whole f mem) (file_fit k.whole f mem) e ∙ file_joined k.whole f mem

  -- by any store value on which the invariant holds
  reads_so : (st : Store) (G : ℕ → List Segment) → Whole (after w cs).vol st G later → (g : File) → Memᴰ g later.files → g.id ≡ f.id
      → (m : Medium) → Readable (after w cs).vol m → ReadsUpto (after w cs).vol m st g.name end f.payloads
  reads_so st G x g i e m r =
      subst (ReadsUpto (after w cs).vol m st g.name end) (still g e) (each_below (after w cs).vol m st G later x r g i end)

-- in 01's terms alone: n is the number at which the file's reader found the end, by the store value in hand then
pub reads_as_set : (w : World) (b : Book) → Booked w b → (cs : List Call) → Premise Distinct w cs → Unbroken w cs
    → (f : File) → Memᴰ f b.files → (u : Medium) → Readable w.vol u
    → (n : ℕ) → GivesTo w.vol u w.store (reader_call w.vol u w.store f.name).reader f.payloads n
    → (g : File) → Memᴰ g (book_of w cs b).files → g.id ≡ f.id
    → (m : Medium) → Readable (after w cs).vol m
    → ReadsUpto (after w cs).vol m (after w cs).store g.name n f.payloads
    × ReadsUpto (after w cs).vol m (mount_call (after w cs).vol m).store g.name n f.payloads
reads_as_set w b k cs p z f mem u r n to g i e m q =
    let b' : Fine = k.fine in
    let mem' : Memᴰ f b'.files = rw (ap (λ (x : Book). x.files) k.same) mem in
    let files : (fine_of w cs b').files ≡ (book_of w cs b).files = ap (λ (x : Book). x.files) (forget_history w cs b' ∙ ap (book_of w cs) k.same) in
    let i' : Memᴰ g (fine_of w cs b').files = rw files i in
    let is : n ≡ end_number b'.size (b'.parts f.id)
    = gives_one w.vol u w.store f.payloads (reader_call w.vol u w.store f.name).reader n (end_number b'.size (b'.parts f.id)) to
    (each_ends w.vol u w.store k.keeps.layout b' k.keeps.whole r f mem') in
    let h : Keeps (after w cs) (fine_of w cs b') = history_keeps cs w b' k.keeps p in
    rw is (
      reads_so w b' k.keeps cs z f mem' (after w cs).store h.layout h.whole g i' e m q,
      rw (mount_gives (after w cs).vol m (after w cs).store h.whole.inv q)
          (reads_so w b' k.keeps cs z f mem' (as_mounted (after w cs).vol m (after w cs).store) h.layout (whole_mounted m h.whole) g i' e m q),
    )
