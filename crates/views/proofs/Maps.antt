-- S-3: after a finished commit the map tells the new body's table, where it told the old one's: the edit moves the bits of the links that it changes.
-- Assumes nothing.
use Rattle.std.specs.Prelude.{Result, Ok, Err}
use Prim.Native.Nat.{ℕ, ◌+◌, ◌*◌, ◌/◌, ◌%◌, ◌<◌, ◌≤◌}
use mathlib.Core.Path.{◌≡◌, refl, sym, ap, ◌∙◌, subst}
use mathlib.Core.Logic.{◌≢◌}
use mathlib.Core.Bool.{Bool, true, false, true≢false, false≢true, not, ◌&&◌, ◌||◌, and-true, and-false, or-true, or-false}
use mathlib.Core.List.{List}
use native.Mathlib.Omega.{arith}
use borrow.Author.Tests.{ltb-true, ltb-false, lt-ltb, eq-eqb, ne_eqb}
use lib.Dec.{eqb, ltb}
use lib.ListN.{length}
use Rattle.le.specs.Choice.{pick}
use Rattle.le.specs.Part.{part, zeros}
use Rattle.le.proofs.Parts.{part_zeros}
use Rattle.le.proofs.Bools.{or_second}
use Rattle.le.proofs.Choices.{pick_true, pick_false}
use Rattle.medium.specs.declared.Error.{Error}
use Rattle.medium.specs.Sector.{sectors_of, sector_at}
use Rattle.freemap.specs.declared.FreeMap.{FreeMap}
use Rattle.freemap.specs.Map.{marks, map_of, full_of, map_ok}
use Rattle.freemap.proofs.Words.{marks_words}
use Rattle.handles.specs.declared.Store.{Store}
use Rattle.handles.specs.Body.{body_at}
use Rattle.handles.specs.Handles.{body_of}
use Rattle.handles.proofs.Laws.{Sane}
use Rattle.table.specs.declared.Link.{Link}
use Rattle.table.specs.declared.LinkAt.{LinkAt}
use Rattle.table.specs.declared.LinkAt.TheVariants as link
use Rattle.table.specs.Link.{link_part, link_in, owned_by}
use Rattle.table.specs.Table.{links_of}
use Rattle.table.proofs.Numbers.{link_zero}
use Rattle.table.proofs.Tells.{is_free, Tells, Mapped, outside}
use Rattle.table.proofs.Mapped.{past_none}
use Rattle.plan.specs.declared.Edit.{Edit}
use Rattle.plan.specs.declared.Edit.TheVariants.{Format, Create, Extend, Remove}
use Rattle.plan.specs.Copy.{is_format, mark_after, map_after}
use Rattle.layout.specs.Views.{link_view, disk_of}
use Rattle.layout.specs.Changes.{SameLinks}
use Rattle.layout.proofs.Facts.{case}
use Rattle.views.specs.Edited.{Edited}
use Rattle.views.proofs.Shows.{link_freed, link_past}
use Rattle.views.proofs.Edits.{same_shape, link_same}
use Rattle.views.proofs.Makes.{created_link, created_links, new_now, links_same, mark_now}
use Rattle.views.proofs.Removes.{links_cleared}

-- what is told of a link: it is not refused, and its bit is b
abbrev Told : Result LinkAt Error → Bool → Type 0
Told x b = ((e : Error) → x ≡ Err e → ⊥) × (b ≡ is_free x)

-- a chunk that is linked, whatever its bit was
linked_told : {x : Result LinkAt Error} {l : Link} (b t : Bool) → x ≡ Ok (link.Linked l) → t ≡ true → Told x (b && not t)
unfolding is_free
linked_told {x} {l} b t q e = (λ r z. no_link (sym q ∙ z), rw (q, e) (and-false b))
  where
    no_link : {r : Error} → ◌≡◌ {A = Result LinkAt Error} (Ok (link.Linked l)) (Err r) → ⊥
    no_link z = let n : ◌≡◌ {A = ℕ} 0 1 = cc in omega arith

-- one that stays as it was
same_told : {x y : Result LinkAt Error} (b t : Bool) → x ≡ y → t ≡ false → Told y b → Told x (b && not t)
same_told b t q e h = (λ r z. h.0 r (sym q ∙ z), rw (q, e) (and-true b ∙ h.1))

free_link : {e : Error} → ◌≡◌ {A = Result LinkAt Error} (Ok link.Free) (Err e) → ⊥
free_link z = let n : ◌≡◌ {A = ℕ} 0 1 = cc in omega arith

-- an edit whose numbers are those of the store, and whose mark has fewer records than the chunk
abbrev pub Fitting : Store → Edit → Type 0
Fitting st Format = ⊥
Fitting st (Create slot id chunk) = (slot < 64) × (chunk < st.head.chunks)
Fitting st (Extend slot position next last partial records) =
    (slot < 64) × (position + 1 < 32768) × (next < st.head.chunks) × (last < st.head.chunks) × (partial ≡ true → records < st.head.chunk)
Fitting st (Remove slot) = slot < 64

past_link : {e : Error} → ◌≡◌ {A = Result LinkAt Error} (Ok link.Past) (Err e) → ⊥
past_link z = let n : ◌≡◌ {A = ℕ} 0 1 = cc in omega arith

module _ (name vol : List ℕ) (st : Store) (v : List ℕ) (t : Store) (sane : Sane st.head (sectors_of vol)) where
  abbrev bit : ℕ → Bool
  bit = marks st.free.words

  abbrev Before : Type 0
  Before = (c : ℕ) → c < links_of st.head.chunks → Told (link_view vol st c) (bit c)

  module _ (before : Before) (c : ℕ) (h : c < links_of st.head.chunks) where
    created_told : {slot id chunk : ℕ} → Edited (Create slot id chunk) name vol st v t → slot < 64 → chunk < st.head.chunks → length name ≤ 40
        → Told (link_view v t c) (bit c && not (eqb c chunk))
    created_told {chunk = chunk} done hs hc short =
        case c chunk
        (λ e. linked_told (bit c) (eqb c chunk) (ap (link_view v t) e ∙ created_link sane done hs hc short) (eq-eqb c chunk e))
        (λ n. same_told (bit c) (eqb c chunk) (created_links sane done hs hc short c h n) (ne_eqb c chunk n) (before c h))

    extended_told : {slot position next last : ℕ} {partial : Bool} {records : ℕ} → Edited (Extend slot position next last partial records) name vol st v t
        → slot < 64 → position + 1 < 32768 → next < st.head.chunks → last < st.head.chunks → (partial ≡ true → records < st.head.chunk)
        → Told (link_view v t c) (bit c && not (eqb c next || (partial && eqb c last)))
    extended_told {next = next} {last} {partial} done hs hp hn hl few = go partial refl
      where
        plain : (partial ≡ true → c ≢ last) → (p : Bool) → partial ≡ p → (p && eqb c last) ≡ false → Told (link_view v t c) (bit c && not (eqb c next || (p && eqb c last)))
        plain m p q f =
            case c next
            (λ e. linked_told (bit c) (eqb c next || (p && eqb c last)) (ap (link_view v t) e ∙ new_now sane done hs hp hn hl (λ y. subst (λ (x : ℕ). x ≢ last) e (m y)))
            (rw (eq-eqb c next e) refl))
            (λ n. same_told (bit c) (eqb c next || (p && eqb c last)) (links_same sane done hs hp hn hl c h n m) (rw (ne_eqb c next n) f) (before c h))

        go : (p : Bool) → partial ≡ p → Told (link_view v t c) (bit c && not (eqb c next || (p && eqb c last)))
        go false q = plain (λ y. absurd (true≢false (sym y ∙ q))) false q refl
        go true q =
            case c last
            (λ e. linked_told (bit c) _ (ap (link_view v t) e ∙ mark_now sane done hs hp hn hl q (few q)) (or_second (eqb c next) _ (eq-eqb c last e)))
            (λ n. plain (λ _. n) true q (ne_eqb c last n))

    removed_told : {slot : ℕ} → Edited (Remove slot) name vol st v t → slot < 64 → Told (link_view v t c) (bit c || (ltb c st.head.chunks && owned_by slot (link_part vol st c)))
    unfolding is_free link_view
    removed_told {slot} done hs = go (owned_by slot (link_part vol st c)) (ltb c st.head.chunks) refl refl
      where
        was : link_part v t c ≡ pick (owned_by slot (link_part vol st c)) (zeros 4) (link_part vol st c)
        was = links_cleared sane done hs c h

        zeroed : owned_by slot (link_part vol st c) ≡ true → (b : Bool) → ltb c st.head.chunks ≡ b → link_view v t c ≡ pick b (Ok link.Free) (Ok link.Past)
        zeroed q b e =
            ap (λ (x : List ℕ). link_in x (ltb c t.head.chunks) t.head.chunk) (was ∙ pick_true _ _ q)
            ∙ link_zero (ltb c t.head.chunks) t.head.chunk ∙ ap (λ (x : Bool). pick x (Ok link.Free) (Ok link.Past)) (ap (ltb c) (same_shape sane done).chunks ∙ e)

        go : (o b : Bool) → owned_by slot (link_part vol st c) ≡ o → ltb c st.head.chunks ≡ b → Told (link_view v t c) (bit c || (b && o))
        go true true q e = let f : link_view v t c ≡ Ok link.Free = zeroed q true e ∙ pick_true _ _ refl in (λ r z. free_link (sym f ∙ z), or-true (bit c) ∙ sym (ap is_free f))
        go true false q e =
            let f : link_view v t c ≡ Ok link.Past = zeroed q false e ∙ pick_false _ _ refl in
            (λ r z. past_link (sym f ∙ z), or-false (bit c) ∙ (before c h).1 ∙ outside vol st c (ltb-false _ _ e) ∙ sym (ap is_free f))
        go false b q e =
            let f : link_view v t c ≡ link_view vol st c = link_same sane done c (was ∙ pick_false _ _ q) in
            (λ r z. (before c h).0 r (sym f ∙ z), ap (λ (x : Bool). bit c || x) (and-false b) ∙ or-false (bit c) ∙ (before c h).1 ∙ sym (ap is_free f))

  edited_told : (edit : Edit) → Fitting st edit → length name ≤ 40 → Edited edit name vol st v t → Before
      → (c : ℕ) → c < links_of st.head.chunks → Told (link_view v t c) (mark_after edit vol st st.head.chunks c)
  unfolding mark_after
  edited_told Format f short done before c h = absurd f
  edited_told (Create slot id chunk) f short done before c h = created_told before c h done f.0 f.1 short
  edited_told (Extend slot position next last partial records) f short done before c h = extended_told before c h done f.0 f.1 f.2 f.3 f.4
  edited_told (Remove slot) f short done before c h = removed_told before c h done f

  -- by rule 3 no bit past the chunks is set, and no link there is free
  before_told : map_ok st.free st.head.chunks ≡ true → st.free.fit ≡ true → Tells vol st st.free.words → Before
  unfolding link_view
  before_told ok fit tells c h = go (ltb c st.head.chunks) refl
    where
      go : (b : Bool) → ltb c st.head.chunks ≡ b → Told (link_view vol st c) (bit c)
      go true e = (tells.sound c h, tells.bits c (ltb-true _ _ e))
      go false e = let l : st.head.chunks ≤ c = ltb-false _ _ e in (tells.sound c h, past_none st ok fit c l (omega (arith, sane.chunks_most)) ∙ sym (outside vol st c l))

  not_format : (e : Edit) → Fitting st e → is_format e ≡ false
  unfolding is_format
  not_format Format f = absurd f
  not_format (Create slot id chunk) f = refl
  not_format (Extend slot position next last partial records) f = refl
  not_format (Remove slot) f = refl

  pub edited_mapped : (edit : Edit) → Fitting st edit → length name ≤ 40 → Edited edit name vol st v t → map_ok st.free st.head.chunks ≡ true → Mapped vol st → Mapped v t
  unfolding link_view map_after
  edited_mapped edit f short done ok mapped fit = go st.free.fit refl
    where
      go : (b : Bool) → st.free.fit ≡ b → Tells v t t.free.words
      go true q =
          let told = edited_told edit f short done (before_told ok q (mapped q)) in
          let n : t.head.chunks ≡ st.head.chunks = (same_shape sane done).chunks in
          let w : t.free ≡ map_of (mark_after edit vol st st.head.chunks) = done.free ∙ pick_true _ _ (or_second (is_format edit) st.free.fit q) in
          record {
            sound = λ c h. (told c (rw (sym n) h)).0;
            bits = λ c h. ap (λ (x : FreeMap). marks x.words c) w ∙ marks_words _ c (omega (arith, n, sane.chunks_most)) ∙ (told c (omega (arith, n))).1;
          }
      go false q =
          let w : t.free ≡ st.free = done.free ∙ pick_false _ _ (rw (not_format edit f, q)) in
          absurd (false≢true (sym q ∙ ap (λ (x : FreeMap). x.fit) (sym w) ∙ fit))

-- ---- what changes no link

pub mapped_kept : {vol v : List ℕ} {st t : Store} → t.head.chunks ≡ st.head.chunks → SameLinks (disk_of vol st) (disk_of v t) → t.free ≡ st.free → Mapped vol st → Mapped v t
unfolding link_view
mapped_kept {vol} {v} {st} {t} n same f mapped fit =
    let tells = mapped (ap (λ (x : FreeMap). x.fit) (sym f) ∙ fit) in
    record {
      sound = λ c h e q. tells.sound c (rw (sym n) h) e (sym (same c (rw (sym n) h)) ∙ q);
      bits = λ c h. ap (λ (x : FreeMap). marks x.words c) f ∙ tells.bits c (omega (arith, n)) ∙ ap is_free (sym (same c (omega (arith, n))));
    }

-- ---- an empty store

pub zeroed_mapped : (vol : List ℕ) (st : Store) → ((k : ℕ) → k < body_of st.head.chunks → sector_at vol (body_at st k) ≡ zeros 512) → st.head.chunks ≤ 2048
    → st.free ≡ full_of st.head.chunks → Mapped vol st
unfolding link_part link_view is_free
zeroed_mapped vol st body most full _ = record { sound = λ c h e q. absurd (refused c h e q); bits = λ c h. marked c h ∙ sym (ap is_free (link_freed vol st c (blank c (omega arith)) h)) }
  where
    blank : (c : ℕ) → c < links_of st.head.chunks → link_part vol st c ≡ zeros 4
    blank c h = ap (part (4 * (c % 128)) 4) (body (8 + c / 128) (omega arith)) ∙ part_zeros (4 * (c % 128)) 4 512 (omega arith)

    marked : (c : ℕ) → c < st.head.chunks → marks st.free.words c ≡ true
    marked c h = ap (λ (x : FreeMap). marks x.words c) full ∙ marks_words _ c (omega arith) ∙ lt-ltb c st.head.chunks h

    refused : (c : ℕ) → c < links_of st.head.chunks → (e : Error) → link_view vol st c ≡ Err e → ⊥
    refused c h e q = go (ltb c st.head.chunks) refl
      where
        go : (b : Bool) → ltb c st.head.chunks ≡ b → ⊥
        go true l = free_link (sym (link_freed vol st c (blank c h) (ltb-true _ _ l)) ∙ q)
        go false l = past_link (sym (link_past vol st c (blank c h) (ltb-false _ _ l)) ∙ q)
