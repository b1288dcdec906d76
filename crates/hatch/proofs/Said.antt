-- S-1: the lines of points with different names: of each name the first that says something is its own. So in a store that the points are remembered of
-- reading gives what each remembers. Assumes nothing.
use Rattle.std.specs.Prelude.{Ok}
use Prim.Native.Nat.{ℕ, ◌<◌}
use mathlib.Core.Path.{◌≡◌, refl, ap, sym, subst, ◌∙◌}
use mathlib.Core.Logic.{◌≢◌, ◌⊎◌, inl, inr}
use mathlib.Core.Bool.{Bool, true, false}
use mathlib.Core.List.Memᴰ
use mathlib.Core.List.{List, [], ◌∷◌, ◌++◌, map, Memᴰ}
use native.Mathlib.Omega.{arith}
use Rattle.std.specs.Prelude.{Some, None}
use Rattle.le.specs.Choice.{pick}
use Rattle.names.specs.Names.{point_ok}
use Rattle.marks.specs.Line.{marks_name, line_of, says_of}
use Rattle.marks.proofs.Round.{line_back, line_other}
use Rattle.medium.specs.declared.Medium.{Medium}
use Rattle.medium.specs.Refusal.{ok, refused, on_done, on_ok}
use Rattle.medium.specs.Sector.{Readable}
use Rattle.handles.specs.declared.Store.{Store}
use Rattle.layout.specs.Segments.{Segment}
use Rattle.points.specs.Look.{Place, absent, unset, line, asked_point, on_place, place_of, look_of}
use Rattle.store.specs.Reading.{reader_of_id_call}
use Rattle.store.specs.Asked.{asked_of}
use Rattle.points.specs.Reading.{upto_of, point_call}
use Rattle.power.specs.Points.{Pin, has_name}
use Rattle.power.proofs.Fine.{Fine}
use Rattle.power.proofs.Whole.{Whole}
use Rattle.power.proofs.Shown.{asked}
use Rattle.power.proofs.Points.{Points, has_some}
use Rattle.power.proofs.ById.{id_none, pin_by_id}
use Rattle.power.proofs.Remembers.{each_pin}
use Rattle.hatch.specs.Pins.{ReadsAsSet}
use Rattle.hatch.specs.Claim.{or_next, first_of}
use Rattle.hatch.proofs.Looks.{look_book, look_absent}

abbrev pub pin_line : Pin → List ℕ
pin_line q = line_of q.name q.id q.number

pub marks_some : marks_name ≢ []
marks_some e = let z : ◌≡◌ {A = ℕ} 0 1 = cc in omega arith

-- ---- points with names of the alphabet and numbers of 32 bits, no two with one name

pub record Fits (q : Pin) : Type 0 where
  pub name : point_ok q.name ≡ true
  pub id : q.id < 4294967296
  pub number : q.number < 4294967296

abbrev pub Differ : List Pin → Type 0
Differ [] = Unit {0}
Differ (q ∷ qs) = Fits q × ((r : Pin) → Memᴰ r qs → r.name ≢ q.name) × Differ qs

more_mem : (r : Pin) (qs : List Pin) (q : Pin) → Memᴰ r (qs ++ (q ∷ [])) → Memᴰ r qs ⊎ (r ≡ q)
more_mem r [] q (Memᴰ.head e) = inr e
more_mem r [] q (Memᴰ.tail m) = absurd (Memᴰ.not-nil m)
more_mem r (x ∷ qs) q (Memᴰ.head e) = inl (Memᴰ.head e)
more_mem r (x ∷ qs) q (Memᴰ.tail m) = go (more_mem r qs q m)
  where
    go : Memᴰ r qs ⊎ (r ≡ q) → Memᴰ r (x ∷ qs) ⊎ (r ≡ q)
    go (inl i) = inl (Memᴰ.tail i)
    go (inr e) = inr e

pub differ_more : (qs : List Pin) (q : Pin) → Differ qs → Fits q → ((r : Pin) → Memᴰ r qs → r.name ≢ q.name) → Differ (qs ++ (q ∷ []))
differ_more [] q d t h = (t, λ r m. absurd (Memᴰ.not-nil m), tt)
differ_more (x ∷ qs) q d t h = (d.0, λ r m. go r (more_mem r qs q m), differ_more qs q d.2 t (λ r m. h r (Memᴰ.tail m)))
  where
    go : (r : Pin) → Memᴰ r qs ⊎ (r ≡ q) → r.name ≢ x.name
    go r (inl i) = d.1 r i
    go r (inr e) = λ n. h x (Memᴰ.head refl) (sym n ∙ ap (λ (y : Pin). y.name) e)

-- ---- what their lines say

says_none : (p : List ℕ) (qs : List Pin) → Differ qs → ((q : Pin) → Memᴰ q qs → q.name ≢ p) → first_of (says_of p) (map pin_line qs) ≡ None
unfolding first_of or_next
says_none p [] d h = refl
says_none p (q ∷ qs) d h =
    rw (line_other q.name d.0.name q.id q.number p (h q (Memᴰ.head refl))) (says_none p qs d.2 (λ r m. h r (Memᴰ.tail m)))

says_pin : (qs : List Pin) → Differ qs → (q : Pin) → Memᴰ q qs → first_of (says_of q.name) (map pin_line qs) ≡ Some (record { id = q.id; number = q.number })
unfolding first_of or_next
says_pin [] d q m = elim m [ ]
says_pin (x ∷ qs) d q (Memᴰ.head e) =
    let t : Fits q = subst Fits (sym e) d.0 in
    rw (← e, line_back q.name t.name q.id q.number t.id t.number)
says_pin (x ∷ qs) d q (Memᴰ.tail m) =
    rw (line_other x.name d.0.name x.id x.number q.name (λ n. d.1 q m (sym n))) (says_pin qs d.2 q m)

-- ---- what is found of a point in `MARKS`, by any store value on which the invariant holds

module _ (vol : List ℕ) (m : Medium) (st : Store) (G : ℕ → List Segment) (b : Fine) (w : Whole vol st G b) (r : Readable vol m)
    (pins : List Pin) (points : Points marks_name marks_some pin_line b pins) (d : Differ pins) where
  -- in the file of that name, if there is one
  found_by : (p : List ℕ) (P : Place → Type 0) → (pins ≡ [] → P absent) → P (place_of (first_of (says_of p) (map pin_line pins))) → (l : Place) × (look_of vol m st p ≡ ok l) × P l
  found_by p P none some = go (has_name marks_name b.files) refl
    where
      go : (t : Bool) → has_name marks_name b.files ≡ t → (l : Place) × (look_of vol m st p ≡ ok l) × P l
      go false h = (absent, look_absent vol m st G b w r p h, none (points.none h))
      go true h =
          let o = has_some marks_name b.files h in
          let same : o.0.payloads ≡ map pin_line pins = points.lines o.0 o.1 o.2 in
          (place_of (first_of (says_of p) (map pin_line pins)), look_book vol m st G b w r o.0 o.1 p o.2 ∙ ap (λ (l : List (List ℕ)). ok (place_of (first_of (says_of p) l))) same, some)

  abbrev Unset : Place → Type 0
  Unset l = (l ≡ absent) ⊎ (l ≡ unset)

  look_unset : (p : List ℕ) → ((q : Pin) → Memᴰ q pins → q.name ≢ p) → (l : Place) × (look_of vol m st p ≡ ok l) × Unset l
  unfolding place_of
  look_unset p none = found_by p Unset (λ _. inl refl) (rw (says_none p pins d none) (inr refl))

  pub look_set : (q : Pin) → Memᴰ q pins → look_of vol m st q.name ≡ ok (line q.id q.number)
  unfolding place_of
  look_set q has =
      let o = found_by q.name (λ l. l ≡ line q.id q.number) (λ e. absurd (Memᴰ.not-nil (subst (Memᴰ q) e has))) (rw (says_pin pins d q has)) in
      o.1 ∙ ap ok o.2

  -- ---- reading

  module _ (p : List ℕ) (fine : point_ok p ≡ true) where
    passes : asked_point (asked_of vol st true) p ≡ Ok tt
    unfolding asked_point on_done pick
    passes = rw (asked vol m st G b w r true refl, fine)

    read_unset : (l : Place) → look_of vol m st p ≡ ok l → Unset l → (point_call vol m st p).answer ≡ refused 9
    unfolding point_call on_done on_ok on_place
    read_unset l e (inl z) = rw (passes, e, z)
    read_unset l e (inr z) = rw (passes, e, z)

    read_set : (q : Pin) → Memᴰ q pins → q.name ≡ p → point_call vol m st p ≡ upto_of q.number (reader_of_id_call vol m st q.id)
    unfolding point_call on_done on_ok on_place
    read_set q has n = let e : look_of vol m st p ≡ ok (line q.id q.number) = rw (← n) (look_set q has) in rw (passes, e)

    pub reads_as_set : ReadsAsSet vol m st b.files pins p
    unfolding on_ok
    reads_as_set =
        record {
          unknown = λ none. let o = look_unset p none in read_unset o.0 o.1 o.2;
          lost = λ q has n none. rw (read_set q has n) (id_none vol m st G b w r q.id none);
          given = λ q has n f mem e.
              let x = pin_by_id vol m st G b w r q (each_pin b pins points.each q has) f mem e in
              rw (read_set q has n, x.0) (refl, x.1);
        }
