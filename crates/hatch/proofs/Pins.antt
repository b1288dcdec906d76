-- S-1: a history of acts in which only setting appended to `MARKS` keeps the points in mind, each with what its file's reader gave; so reading up to a
-- point gives just that. A setting goes by its calls: refused it leaves the points, accepted it adds its own. Assumes nothing.
use Prim.Native.Nat.{ℕ, ◌<◌}
use mathlib.Core.Path.{◌≡◌, refl, ap, sym, subst, ◌∙◌}
use mathlib.Core.Logic.{◌≢◌}
use mathlib.Core.Bool.{Bool, true, false, ◌||◌, true≢false, false≢true}
use mathlib.Core.List.{List, [], ◌∷◌, ◌++◌, Memᴰ}
use native.Mathlib.Omega.{arith}
use lib.ListN.{length}
use Rattle.le.specs.Choice.{pick}
use Rattle.le.proofs.Choices.{pick_keeps}
use Rattle.runs.specs.Run.{same_bytes}
use Rattle.runs.proofs.Tests.{same_true}
use Rattle.names.specs.Names.{name_ok}
use Rattle.marks.specs.Line.{marks_name, line_of}
use Rattle.marks.proofs.Round.{line_some}
use Rattle.medium.specs.Refusal.{Answer, ok, refused, on_ok}
use Rattle.medium.proofs.Laws.{on_done_keeps, on_ok_keeps}
use Rattle.plan.specs.Copy.{Distinct}
use Rattle.append.specs.Calls.{AppCall}
use Rattle.reading.specs.GivesTo.{GivesTo}
use Rattle.reading.specs.Below.{end_number}
use Rattle.store.specs.Asked.{asked_name}
use Rattle.store.specs.Reading.{reader_call}
use Rattle.store.specs.Writing.{format_call}
use Rattle.store.proofs.Laws.{asked_done}
use Rattle.points.specs.Look.{absent, unset, line, look_of, end_of}
use Rattle.points.specs.Set.{SetCall, not_set, set_by, open_of, then_append, then_sync, mark_of, set_from, set_call}
use Rattle.power.specs.Calls.{Call, append, sync}
use Rattle.power.specs.Book.{File, Book, written, new_book}
use Rattle.power.specs.History.{World, is_ok, with_left, ran, fed_by, after, book_of, Premise}
use Rattle.power.specs.Claim.{started}
use Rattle.power.specs.Points.{Pin, has_name, forgotten, pins_after, SparedBy, SparedAll}
use Rattle.power.proofs.Fine.{Fine}
use Rattle.power.proofs.Whole.{Keeps}
use Rattle.power.proofs.Members.{Mem}
use Rattle.power.proofs.Queries.{keeps_medium}
use Rattle.power.proofs.Pins.{file_known}
use Rattle.power.proofs.History.{weaker}
use Rattle.power.proofs.Shown.{as_mounted, mount_gives, whole_mounted, each_ends}
use Rattle.power.proofs.Points.{has_none}
use Rattle.power.proofs.Remembers.{Remembers, remember_start, remember_calls, remember_unopened, pin_at, remember_set, remember_unset, remember_none}
use Rattle.points.proofs.Offers.{asked_passed}
use Rattle.hatch.specs.Acts.{Act, call, set_point, read_point, next_upto, lent, set_in, after_set, acted, after_acts, opening_call, line_calls, setting_calls, calls_of, calls_in}
use Rattle.hatch.specs.Claim.{Alike}
use Rattle.hatch.specs.Pins.{pin_for, pinned_by, pins_of, Spares, OnlySet, Gave, InMind, AsSet, AsSetWeaker}
use Rattle.hatch.proofs.Alike.{alike_book, alike_premise}
use Rattle.hatch.proofs.Acts.{Found, line_ways, set_ways, act_counts, on_place_keeps}
use Rattle.hatch.proofs.Stops.{line_few, not_empty, appends, book_append, premise_append}
use Rattle.hatch.proofs.Looks.{end_book, end_none, end_fits}
use Rattle.hatch.proofs.Said.{pin_line, marks_some, Fits, Differ, differ_more, look_set, reads_as_set}

-- ---- what is kept through a history

record Kept (w : World) (b : Book) (pins : List Pin) : Type 0 where
  remembers : Remembers marks_name marks_some pin_line w b pins
  differ : Differ pins

-- the writes left count for nothing
kept_alike : {w v : World} {b : Book} {pins : List Pin} → Alike w v → Kept w b pins → Kept v b pins
kept_alike {w} {v} e k =
    let r = k.remembers in
    let x : Keeps (lent 0 w) r.fine = keeps_medium (with_left 0 w.medium) r.keeps.readable r.keeps in
    let y : Keeps (lent 0 v) r.fine = subst (λ (u : World). Keeps u r.fine) e x in
    record {
      remembers = record { fine = r.fine; same = r.same; keeps = keeps_medium v.medium y.readable y; points = r.points };
      differ = k.differ;
    }

-- where there is no file `MARKS` there is no point
still : {w : World} {b : Book} {pins : List Pin} → Kept w b pins → forgotten marks_name b.files pins ≡ pins
unfolding forgotten pick
still {w} {b} {pins} k = go (has_name marks_name b.files) refl
  where
    go : (t : Bool) → has_name marks_name b.files ≡ t → pick t pins [] ≡ pins
    go true h = refl
    go false h = sym (remember_none marks_name marks_some pin_line w b pins k.remembers h)

-- ---- a setting: the file and its point

point_of : (point name : List ℕ) (number : ℕ) (fs : List File) → has_name name fs ≡ true
    → (f : File) × Mem f fs × (f.name ≡ name) × (pin_for point name number fs ≡ record { name = point; id = f.id; number = number; payloads = f.payloads } ∷ [])
unfolding has_name pin_for pick
point_of point name number [] h = absurd (false≢true h)
point_of point name number (f ∷ fs) h = go (λ k. point_of point name number fs k) (same_bytes name f.name) refl h
  where
    new : File → Pin
    new g = record { name = point; id = g.id; number = number; payloads = g.payloads }

    go : (has_name name fs ≡ true → (g : File) × Mem g fs × (g.name ≡ name) × (pin_for point name number fs ≡ new g ∷ []))
        → (t : Bool) → same_bytes name f.name ≡ t → (t || has_name name fs) ≡ true
        → (g : File) × Mem g (f ∷ fs) × (g.name ≡ name) × (pick t (new f ∷ []) (pin_for point name number fs) ≡ new g ∷ [])
    go more true e k = (f, Memᴰ.head refl, sym (same_true name f.name e), refl)
    go more false e k = let o = more k in (o.0, Memᴰ.tail o.1, o.2, o.3)

module _ (v : World) (b : Book) (pins : List Pin) (k : Kept v b pins) (point name : List ℕ) where
  abbrev fine : Fine
  fine = k.remembers.fine

  files : fine.files ≡ b.files
  files = ap (λ (x : Book). x.files) k.remembers.same

  -- the point of the file of the name, with the number at which its reader finds the end
  abbrev added : List Pin
  added = on_ok (end_of v.vol v.medium v.store name) (λ e. pin_for point name e.1 b.files) (λ n. [])

  abbrev Sets : World → Bool → List Call → Type 0
  Sets x t cs = Premise Distinct v cs → Kept x (book_of v cs b) (pick t (pins ++ added) pins)

  not_known : (fresh : Bool) → look_of v.vol v.medium v.store point ≡ ok (pick fresh absent unset) → (q : Pin) → Memᴰ q pins → q.name ≢ point
  unfolding pick
  not_known fresh e q has n =
      let r = k.remembers in
      let set = look_set v.vol v.medium v.store r.keeps.layout r.fine r.keeps.whole r.keeps.readable pins r.points k.differ q has in
      go fresh (sym e ∙ subst (λ (p : List ℕ). look_of v.vol v.medium v.store p ≡ ok (line q.id q.number)) n set)
    where
      go : (t : Bool) → ok (pick t absent unset) ≡ ok (line q.id q.number) → ⊥
      go true z = let y : ◌≡◌ {A = ℕ} 0 1 = cc in omega (arith, y)
      go false z = let y : ◌≡◌ {A = ℕ} 0 1 = cc in omega (arith, y)

  abbrev pin_from : File → ℕ → Pin
  pin_from f n = pin_at marks_name marks_some pin_line point f n

  -- the file that a setting found, and the point that it adds
  record Target (e : ℕ × ℕ) : Type 0 where
    file : File
    mem : Mem file b.files
    named : file.name ≡ name
    id : file.id ≡ e.0
    ends : GivesTo v.vol v.medium v.store (reader_call v.vol v.medium v.store file.name).reader file.payloads e.1
    fits : Fits (pin_from file e.1)
    few : length (pin_line (pin_from file e.1)) < 486
    adds : added ≡ pin_from file e.1 ∷ []

  target : (fresh : Bool) (e : ℕ × ℕ) → Found v point name fresh e → Target e
  unfolding on_ok
  target fresh e f = go (has_name name b.files) refl
    where
      r : Remembers marks_name marks_some pin_line v b pins
      r = k.remembers

      go : (t : Bool) → has_name name b.files ≡ t → Target e
      go false h =
          let ok_name = (asked_done v.vol v.store (name_ok name) refl (asked_passed (asked_name v.vol v.store name) point refl f.asked).0).named in
          let none = end_none v.vol v.medium v.store r.keeps.layout r.fine r.keeps.whole r.keeps.readable name ok_name
          (λ g mem. has_none name b.files h g (rw files at mem)) in
          absurd (let y : ok e ≡ refused 9 = sym f.ended ∙ none in let z : ◌≡◌ {A = ℕ} 0 1 = cc in omega (arith, z))
      go true h =
          let o = point_of point name e.1 b.files h in
          let g = o.0 in
          let mem : Mem g fine.files = rw files o.1 in
          let found = end_book v.vol v.medium v.store r.keeps.layout r.fine r.keeps.whole r.keeps.readable g mem in
          let fit = end_fits v.vol v.medium v.store r.keeps.layout r.fine r.keeps.whole r.keeps.readable g mem in
          let n : ℕ = end_number fine.size (fine.parts g.id) in
          let both : ok e ≡ ok (g.id, n) = sym f.ended ∙ subst (λ (x : List ℕ). end_of v.vol v.medium v.store x ≡ ok (g.id, n)) o.2 found in
          let same : e ≡ (g.id, n) = cc in
          let number : n ≡ e.1 = ap (λ (x : ℕ × ℕ). x.1) (sym same) in
          record {
            file = g;
            mem = o.1;
            named = o.2;
            id = ap (λ (x : ℕ × ℕ). x.0) (sym same);
            ends =
                subst (λ (i : ℕ). GivesTo v.vol v.medium v.store (reader_call v.vol v.medium v.store g.name).reader g.payloads i) number
                (each_ends v.vol v.medium v.store r.keeps.layout r.fine r.keeps.whole r.keeps.readable g mem);
            fits =
                record {
                  name = (asked_passed (asked_name v.vol v.store name) point refl f.asked).1;
                  id = omega (arith, file_known r.keeps.whole g mem, r.keeps.whole.ids, r.keeps.whole.inv.range.next);
                  number = omega (arith, fit, number);
                };
            few = line_few _ point g.id e.1 f.asked;
            adds = rw f.ended o.3;
          }

  -- ---- its calls

  module _ (n : ℕ) (f : File) (mem : Mem f b.files) (ends : GivesTo v.vol v.medium v.store (reader_call v.vol v.medium v.store f.name).reader f.payloads n)
      (fits : Fits (pin_from f n)) (few : length (pin_line (pin_from f n)) < 486) (adds : added ≡ pin_from f n ∷ []) (new : (q : Pin) → Memᴰ q pins → q.name ≢ point) where
    abbrev bytes : List ℕ
    bytes = pin_line (pin_from f n)

    some : bytes ≢ []
    some = not_empty bytes (line_some point f.id n)

    differs : Differ (pins ++ added)
    differs = rw adds (differ_more pins (pin_from f n) k.differ fits new)

    abbrev c₁ : Bool → Call
    c₁ fresh = opening_call fresh v.medium.left

    unopened : (fresh : Bool) → (ran v (c₁ fresh)).accepted ≡ false → Sets (ran v (c₁ fresh)).world false (c₁ fresh ∷ [])
    unfolding opening_call pick after
    unopened true a p = record { remembers = remember_unopened marks_name marks_some pin_line v b pins k.remembers true v.medium.left [] p a; differ = k.differ }
    unopened false a p = record { remembers = remember_unopened marks_name marks_some pin_line v b pins k.remembers false v.medium.left [] p a; differ = k.differ }

    abbrev w₁ : Bool → World
    w₁ fresh = (ran v (c₁ fresh)).world

    abbrev c₂ : Bool → Call
    c₂ fresh = append (w₁ fresh).medium.left bytes

    unlined : (fresh : Bool) → (ran v (c₁ fresh)).accepted ≡ true → (ran (w₁ fresh) (c₂ fresh)).accepted ≡ false
        → Sets (ran (w₁ fresh) (c₂ fresh)).world false (c₁ fresh ∷ c₂ fresh ∷ [])
    unfolding Premise
    unlined fresh a r p = absurd (true≢false (sym (appends v fine k.remembers.keeps fresh _ _ 0 bytes few some a p.0 p.1) ∙ r))

    abbrev w₂ : Bool → World
    w₂ fresh = (ran (w₁ fresh) (c₂ fresh)).world

    abbrev c₃ : Bool → Call
    c₃ fresh = sync (w₂ fresh).medium.left

    lined : (fresh : Bool) → (ran v (c₁ fresh)).accepted ≡ true → (t : Bool) → (ran (w₂ fresh) (c₃ fresh)).accepted ≡ t
        → Sets (ran (w₂ fresh) (c₃ fresh)).world t (c₁ fresh ∷ c₂ fresh ∷ c₃ fresh ∷ [])
    unfolding opening_call pick after
    lined true a true s p =
        record {
          remembers =
              rw adds (remember_set marks_name marks_some pin_line v b pins k.remembers point f mem v.medium k.remembers.keeps.readable n ends few some true _ _ _ [] p a s);
          differ = differs;
        }
    lined true a false s p =
        record {
          remembers = remember_unset marks_name marks_some pin_line v b pins k.remembers point f mem v.medium k.remembers.keeps.readable n ends few some true _ _ _ [] p a s;
          differ = k.differ;
        }
    lined false a true s p =
        record {
          remembers =
              rw adds (remember_set marks_name marks_some pin_line v b pins k.remembers point f mem v.medium k.remembers.keeps.readable n ends few some false _ _ _ [] p a s);
          differ = differs;
        }
    lined false a false s p =
        record {
          remembers = remember_unset marks_name marks_some pin_line v b pins k.remembers point f mem v.medium k.remembers.keeps.readable n ends few some false _ _ _ [] p a s;
          differ = k.differ;
        }

    line_kept : (fresh : Bool) → (let c : SetCall = mark_of fresh bytes n v.vol v.medium v.store in Sets (after_set v c) (is_ok c.call.answer) (line_calls fresh bytes v))
    line_kept fresh = line_ways Sets v fresh bytes n (unopened fresh) (unlined fresh) (λ a r. lined fresh a _ refl)

  set_kept : Sets (after_set v (set_in v point name)) (is_ok (set_in v point name).call.answer) (setting_calls v point name)
  unfolding book_of pick
  set_kept =
      set_ways v point name Sets (λ _. k)
      (λ fresh e f.
      let t = target fresh e f in
      subst (λ (i : ℕ).
      let c : SetCall = mark_of fresh (line_of point i e.1) e.1 v.vol v.medium v.store in
      Sets (after_set v c) (is_ok c.call.answer) (line_calls fresh (line_of point i e.1) v)) t.id
      (line_kept e.1 t.file t.mem t.ends t.fits t.few t.adds (not_known fresh f.looked) fresh))

  -- ---- the number that it answers

  abbrev Told : SetCall → Type 0
  Told c = is_ok c.call.answer ≡ true → pin_for point name c.call.number b.files ≡ added

  by_last : (e : ℕ × ℕ) → end_of v.vol v.medium v.store name ≡ ok e → (opened : Bool) (c : AppCall) → Told (set_by opened e.1 c)
  unfolding on_ok
  by_last e q opened c = go c.call.answer
    where
      go : (a : Answer (Unit {0})) → is_ok a ≡ true → pin_for point name (on_ok a (λ t. e.1) (λ n. 0)) b.files ≡ added
      go (ok t) h = rw q refl
      go (refused n) h = absurd (false≢true h)

  marked_told : (fresh : Bool) (e : ℕ × ℕ) → end_of v.vol v.medium v.store name ≡ ok e → (x : List ℕ) → Told (mark_of fresh x e.1 v.vol v.medium v.store)
  unfolding mark_of
  marked_told fresh e q x =
      let o : AppCall = open_of fresh v.vol v.medium v.store in
      let a : AppCall = then_append x o in
      on_ok_keeps Told o.call.answer (λ t. on_ok_keeps Told a.call.answer (λ t. by_last e q true (then_sync a)) (λ n. by_last e q true a)) (λ n. by_last e q false o)

  from_told : (fresh : Bool) → Told (set_from fresh v.vol v.medium v.store point name)
  unfolding set_from on_ok
  from_told fresh = go (end_of v.vol v.medium v.store name) refl
    where
      go : (a : Answer (ℕ × ℕ)) → end_of v.vol v.medium v.store name ≡ a → Told (set_from fresh v.vol v.medium v.store point name)
      go (ok e) q = subst (λ (x : Answer (ℕ × ℕ)). Told (on_ok x (λ y. mark_of fresh (line_of point y.0 y.1) y.1 v.vol v.medium v.store) (not_set v.vol v.medium v.store)))
          (sym q) (marked_told fresh e q (line_of point e.0 e.1))
      go (refused n) q = rw q (λ h. absurd (false≢true h))

  set_told : Told (set_in v point name)
  unfolding set_call
  set_told =
      on_done_keeps Told _ _ _
      (λ _. on_ok_keeps Told _ (λ l. on_place_keeps Told l (from_told true) (from_told false) (λ id n h. absurd (false≢true h))) (λ n h. absurd (false≢true h)))
      (λ e _ h. absurd (false≢true h))

  set_pins : on_ok (set_in v point name).call.answer (λ t. pins ++ pin_for point name (set_in v point name).call.number b.files) (λ n. pins)
      ≡ pick (is_ok (set_in v point name).call.answer) (pins ++ added) pins
  unfolding on_ok pick
  set_pins = go (set_in v point name).call.answer set_told
    where
      go : (a : Answer (Unit {0})) → (is_ok a ≡ true → pin_for point name (set_in v point name).call.number b.files ≡ added)
          → on_ok a (λ t. pins ++ pin_for point name (set_in v point name).call.number b.files) (λ n. pins) ≡ pick (is_ok a) (pins ++ added) pins
      go (ok t) h = ap (λ (l : List Pin). pins ++ l) (h refl)
      go (refused n) h = refl

  target_gave : is_ok (set_in v point name).call.answer ≡ true → (e : ℕ × ℕ) → Target e → Gave v point name b.files
  target_gave a e t =
      let gave = subst (λ (x : List ℕ). GivesTo v.vol v.medium v.store (reader_call v.vol v.medium v.store x).reader t.file.payloads e.1) t.named t.ends in
      record { pin = pin_from t.file e.1; adds = set_told a ∙ t.adds; named = refl; gave = gave }

  set_gave : is_ok (set_in v point name).call.answer ≡ true → Gave v point name b.files
  set_gave a = set_ways v point name (λ x t cs. t ≡ true → Gave v point name b.files) (λ h. absurd (false≢true h)) (λ fresh e f _. target_gave a e (target fresh e f)) a

-- ---- an act

call_kept : (w : World) (c : Call) (b : Book) (pins : List Pin) → Kept w b pins → Premise Distinct w (c ∷ []) → SparedBy marks_name w c b
    → Kept (ran w c).world (book_of w (c ∷ []) b) (forgotten marks_name (book_of w (c ∷ []) b).files pins)
unfolding after book_of pins_after SparedAll forgotten
call_kept w c b pins k p s =
    record {
      remembers = remember_calls marks_name marks_some pin_line (c ∷ []) w b pins k.remembers p (s, tt);
      differ = pick_keeps Differ (has_name marks_name (written c (fed_by w c) b).files) pins [] k.differ tt;
    }

act_kept : (w : World) (a : Act) (b : Book) (pins : List Pin) → Kept w b pins → Premise Distinct w (calls_of w a) → Spares w a b
    → Kept (acted w a) (book_of w (calls_of w a) b) (forgotten marks_name (book_of w (calls_of w a) b).files (pinned_by w a b pins))
unfolding acted calls_of pinned_by Spares book_of after
act_kept w (call c) b pins k p s = call_kept w c b pins k p s
act_kept w (set_point left point name) b pins k p s =
    let v : World = lent left w in
    let cs : List Call = setting_calls v point name in
    let k' : Kept v b pins = kept_alike {w = w} {v = v} refl k in
    let x = set_kept v b pins k' point name (alike_premise Distinct cs w v refl p) in
    let l : List Pin = pinned_by w (set_point left point name) b pins in
    let y : Kept (acted w (set_point left point name)) (book_of v cs b) l = subst (Kept (after_set v (set_in v point name)) (book_of v cs b)) (sym (set_pins v b pins k' point name)) x in
    let z : Kept (acted w (set_point left point name)) (book_of w cs b) l = subst (λ (c : Book). Kept (acted w (set_point left point name)) c l) (alike_book cs v w b refl) y in
    rw (still z) z
act_kept w (read_point point) b pins k p s = rw (still k) (kept_alike {w = w} {v = acted w (read_point point)} (sym (act_counts w (read_point point))) k)
act_kept w (next_upto u out) b pins k p s = rw (still k) (kept_alike {w = w} {v = acted w (next_upto u out)} (sym (act_counts w (next_upto u out))) k)

-- ---- a history

acts_kept : (acts : List Act) (w : World) (b : Book) (pins : List Pin) → Kept w b pins → Premise Distinct w (calls_in w acts) → OnlySet w acts b
    → Kept (after_acts w acts) (book_of w (calls_in w acts) b) (pins_of w acts b pins)
unfolding after_acts calls_in pins_of OnlySet book_of
acts_kept [] w b pins k p s = k
acts_kept (a ∷ acts) w b pins k p s =
    let cs : List Call = calls_of w a in
    let ds : List Call = calls_in (acted w a) acts in
    let parts = premise_append Distinct cs ds w p in
    let same = act_counts w a in
    let b' : Book = book_of w cs b in
    let x = acts_kept acts (acted w a) b' _ (act_kept w a b pins k parts.0 s.0) (alike_premise Distinct ds (after w cs) (acted w a) (sym same) parts.1) s.1 in
    let book : book_of (acted w a) ds b' ≡ book_of w (cs ++ ds) b = alike_book ds (acted w a) (after w cs) b' same ∙ sym (book_append cs ds w b) in
    subst (λ (c : Book). Kept (after_acts (acted w a) acts) c (pins_of w (a ∷ acts) b pins)) book x

-- ---- the points in mind

kept_mind : (w : World) (b : Book) (pins : List Pin) → Kept w b pins → InMind w b.files pins
kept_mind w b pins k =
    let r = k.remembers in
    let whole = r.keeps.whole in
    let same : r.fine.files ≡ b.files = ap (λ (c : Book). c.files) r.same in
    record {
      reads = λ p fit m reads. rw (← same) (
        reads_as_set w.vol m w.store r.keeps.layout r.fine whole reads pins r.points k.differ p fit,
        rw (mount_gives w.vol m w.store whole.inv reads)
            (reads_as_set w.vol m (as_mounted w.vol m w.store) r.keeps.layout r.fine (whole_mounted m whole) reads pins r.points k.differ p fit),
      );
      gave = λ left point name a. set_gave (lent left w) b pins (kept_alike {w = w} {v = lent left w} refl k) point name a;
    }

pub as_set : AsSetWeaker
as_set vol m size seed app acts bytes a r clean premise only =
    let w : World = started (format_call vol m size seed) app in
    let k : Kept w new_book [] = record { remembers = remember_start marks_name marks_some pin_line vol m size seed app bytes a r clean; differ = tt } in
    kept_mind (after_acts w acts) (book_of w (calls_in w acts) new_book) (pins_of w acts new_book []) (acts_kept acts w new_book [] k premise only)

pub as_set_literal : AsSet
as_set_literal vol m size seed app acts bytes a r clean premise only =
    let w : World = started (format_call vol m size seed) app in
    as_set vol m size seed app acts bytes a r clean (weaker (calls_in w acts) w premise) only
