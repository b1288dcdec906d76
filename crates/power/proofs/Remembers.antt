-- S-1: the points of a store, on 01's book: they begin with an accepted format, go through any calls that put no record into the file of the lines, and
-- through a setting; and each gives, up to its number, what it remembers, by the reader of its id. Assumes nothing.
use Prim.Native.Nat.{ℕ, ◌<◌}
use mathlib.Core.Path.{◌≡◌, refl, ap, sym, subst, ◌∙◌}
use mathlib.Core.Logic.{◌≢◌}
use mathlib.Core.Bool.{Bool, true, false}
use mathlib.Core.List.Memᴰ
use mathlib.Core.List.{List, [], ◌∷◌, ◌++◌, Memᴰ}
use lib.ListN.{length, get_or}
use Rattle.medium.specs.declared.Medium.{Medium}
use Rattle.medium.specs.Refusal.{ok}
use Rattle.medium.specs.Sector.{Readable}
use Rattle.plan.specs.Copy.{Distinct}
use Rattle.append.specs.declared.Appender.{Appender}
use Rattle.reading.specs.GivesTo.{GivesTo}
use Rattle.store.specs.Reading.{reader_call}
use Rattle.store.specs.Writing.{format_call}
use Rattle.power.specs.Calls.{present, Call, create, open_append, append, sync}
use Rattle.power.specs.Book.{File, Book, new_book}
use Rattle.power.specs.History.{World, ran, fed_by, after, book_of, Clean, Premise}
use Rattle.power.specs.Claim.{started}
use Rattle.power.specs.Points.{Pin, has_name, pins_after, SparedAll, begins}
use Rattle.power.proofs.Fine.{Fine, forget, new_fine, fine_of, forget_history}
use Rattle.power.proofs.Whole.{Keeps}
use Rattle.power.proofs.History.{history_keeps, started_fine}
use Rattle.power.proofs.Pins.{gives_one}
use Rattle.power.proofs.Marks.{Pinned}
use Rattle.power.proofs.Points.{Each, Points, history_points, pin_new, pin_found}
use Rattle.power.proofs.Sets.{still_points, unmade_points, set_opened, set_made}

pub each_pin : (b : Fine) (qs : List Pin) → Each b qs → (q : Pin) → Memᴰ q qs → Pinned b q
each_pin b [] h q m = elim m [ ]
each_pin b (x ∷ qs) h q (Memᴰ.head e) = subst (Pinned b) (sym e) h.0
each_pin b (x ∷ qs) h q (Memᴰ.tail m) = each_pin b qs h.1 q m

module _ (name : List ℕ) (some : name ≢ []) (line_of : Pin → List ℕ) where
  pub record Remembers (w : World) (b : Book) (pins : List Pin) : Type 0 where
    pub fine : Fine
    pub same : forget fine ≡ b
    pub keeps : Keeps w fine
    pub points : Points name some line_of fine pins

  pub remember_start : (vol : List ℕ) (m : Medium) (size seed : ℕ) (ap : Appender) → ((k : ℕ) → get_or vol k 0 < 256) → (format_call vol m size seed).call.answer ≡ ok tt
      → Readable vol m → Clean vol (format_call vol m size seed).call.store → Remembers (started (format_call vol m size seed) ap) new_book []
  remember_start vol m size seed ap bytes a r clean =
      record {
        fine = new_fine size;
        same = refl;
        keeps = started_fine vol m size seed ap bytes a r clean;
        points = record { each = tt; lines = λ f mem e. absurd (Memᴰ.not-nil mem); none = λ _. refl };
      }

  -- calls that put no record into a file of the name
  pub remember_calls : (cs : List Call) (w : World) (b : Book) (pins : List Pin) → Remembers w b pins → Premise Distinct w cs → SparedAll name w cs b
      → Remembers (after w cs) (book_of w cs b) (pins_after name w cs b pins)
  remember_calls cs w b pins r p s =
      let s' : SparedAll name w cs (forget r.fine) = rw r.same s in
      record {
        fine = fine_of w cs r.fine;
        same = forget_history w cs r.fine ∙ ap (book_of w cs) r.same;
        keeps = history_keeps cs w r.fine r.keeps p;
        points =
            subst (λ (x : Book). Points name some line_of (fine_of w cs r.fine) (pins_after name w cs x pins)) r.same
            (history_points name some line_of cs w r.fine r.keeps p s' pins r.points);
      }

  -- ---- a setting: the file of the lines made, or opened, without rollover; the line appended; a sync

  abbrev pub opens : Bool → ℕ → List ℕ → Call
  opens true left dir = create present left name false dir
  opens false left dir = open_append present left name false dir

  -- of a point's name and a file of the book: its id, the number at which its reader finds the end, what it gives
  abbrev pub pin_at : List ℕ → File → ℕ → Pin
  pin_at point f n = record { name = point; id = f.id; number = n; payloads = f.payloads }

  module _ (w : World) (b : Book) (pins : List Pin) (r : Remembers w b pins) where
    files : r.fine.files ≡ b.files
    files = ap (λ (x : Book). x.files) r.same

    -- what any list of calls leaves, where the points are known
    leaves : (cs : List Call) (qs : List Pin) → Premise Distinct w cs → Points name some line_of (fine_of w cs r.fine) qs → Remembers (after w cs) (book_of w cs b) qs
    leaves cs qs p x =
        record {
          fine = fine_of w cs r.fine;
          same = forget_history w cs r.fine ∙ ap (book_of w cs) r.same;
          keeps = history_keeps cs w r.fine r.keeps p;
          points = x;
        }

    -- a call that makes no step and is no accepted format
    pub remember_still : (c : Call) → (fed_by w c).kinds ≡ [] → begins c (ran w c).accepted ≡ false → Premise Distinct w (c ∷ []) → Remembers (after w (c ∷ [])) (book_of w (c ∷ []) b) pins
    unfolding fine_of
    remember_still c quiet same p = leaves (c ∷ []) pins p (still_points name some line_of c w r.fine pins quiet same r.points)

    -- the opening is refused
    pub remember_unopened : (fresh : Bool) (left : ℕ) (dir : List ℕ) → Premise Distinct w (opens fresh left dir ∷ []) → (ran w (opens fresh left dir)).accepted ≡ false
        → Remembers (after w (opens fresh left dir ∷ [])) (book_of w (opens fresh left dir ∷ []) b) pins
    unfolding fine_of begins fed_by ran
    remember_unopened true left dir p q = leaves (opens true left dir ∷ []) pins p (unmade_points name some line_of w r.fine r.keeps pins r.points left dir q)
    remember_unopened false left dir p q = remember_still (opens false left dir) refl refl p

    module _ (point : List ℕ) (f : File) (mem : Memᴰ f b.files) (u : Medium) (reads : Readable w.vol u)
        (n : ℕ) (ends : GivesTo w.vol u w.store (reader_call w.vol u w.store f.name).reader f.payloads n) where
      in_fine : Memᴰ f r.fine.files
      in_fine = rw files mem

      pinned : Pinned r.fine (pin_at point f n)
      pinned =
          let found = pin_found point r.keeps.whole f in_fine u reads in
          let one = gives_one w.vol u w.store f.payloads _ _ n found ends in
          subst (λ (k : ℕ). Pinned r.fine (pin_at point f k)) one (pin_new point r.keeps.whole f in_fine)

      module _ (few : length (line_of (pin_at point f n)) < 486) (bytes : line_of (pin_at point f n) ≢ []) (fresh : Bool) (left₁ left₂ left₃ : ℕ) (dir : List ℕ) where
        abbrev pub setting : List Call
        setting = opens fresh left₁ dir ∷ append left₂ (line_of (pin_at point f n)) ∷ sync left₃ ∷ []

        module _ (p : Premise Distinct w setting) (accepted : (ran w (opens fresh left₁ dir)).accepted ≡ true) where
          abbrev synced : Bool
          synced = (ran (ran (ran w (opens fresh left₁ dir)).world (append left₂ (line_of (pin_at point f n)))).world (sync left₃)).accepted

          both : (synced ≡ true → Points name some line_of (fine_of w setting r.fine) (pins ++ (pin_at point f n ∷ []))) × (synced ≡ false → Points name some line_of (fine_of w setting r.fine) pins)
          unfolding fine_of Premise
          both = go fresh p accepted
            where
              go : (t : Bool) → Premise Distinct w (opens t left₁ dir ∷ append left₂ (line_of (pin_at point f n)) ∷ sync left₃ ∷ []) → (ran w (opens t left₁ dir)).accepted ≡ true
                  → ((ran (ran (ran w (opens t left₁ dir)).world (append left₂ (line_of (pin_at point f n)))).world (sync left₃)).accepted ≡ true
                  → Points name some line_of (fine_of w (opens t left₁ dir ∷ append left₂ (line_of (pin_at point f n)) ∷ sync left₃ ∷ []) r.fine) (pins ++ (pin_at point f n ∷ [])))
                  × ((ran (ran (ran w (opens t left₁ dir)).world (append left₂ (line_of (pin_at point f n)))).world (sync left₃)).accepted ≡ false
                  → Points name some line_of (fine_of w (opens t left₁ dir ∷ append left₂ (line_of (pin_at point f n)) ∷ sync left₃ ∷ []) r.fine) pins)
              go true x a = set_made name some line_of pins (pin_at point f n) few bytes left₂ left₃ w r.fine r.keeps r.points pinned left₁ dir x.1 a
              go false x a = set_opened name some line_of pins (pin_at point f n) few bytes left₂ left₃ w r.fine r.keeps r.points pinned left₁ dir a

          pub remember_set : synced ≡ true → Remembers (after w setting) (book_of w setting b) (pins ++ (pin_at point f n ∷ []))
          remember_set s = leaves setting (pins ++ (pin_at point f n ∷ [])) p (both.0 s)

          pub remember_unset : synced ≡ false → Remembers (after w setting) (book_of w setting b) pins
          remember_unset s = leaves setting pins p (both.1 s)

    -- ---- what is read

    -- where there is no file of the lines, there is no point
    pub remember_none : has_name name b.files ≡ false → pins ≡ []
    remember_none h = r.points.none (rw files h)
