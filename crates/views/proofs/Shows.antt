-- What the bytes of an entry, a link and a record show in the views: of those made, of zeros, and of those found. Assumes nothing.
use Rattle.std.specs.Prelude.{Result, Ok, Err, Some}
use mathlib.Core.Path.{◌≡◌, refl, ◌∙◌}
use mathlib.Core.Bool.{Bool, true, false}
use mathlib.Core.List.{List}
use Prim.Native.Nat.{ℕ, ◌+◌, ◌^◌, ◌<◌, ◌≤◌}
use native.Mathlib.Omega.{arith}
use native.Mathlib.Numerals.{add-one}
use borrow.Author.Tests.{ne_eqb, lt-ltb, le-ltb}
use lib.Dec.{eqb, eqb-suc-suc}
use lib.ListN.{length}
use Rattle.le.specs.Part.{zeros}
use Rattle.le.proofs.Choices.{pick_true, pick_false}
use Rattle.medium.specs.declared.Error.{Error}
use Rattle.names.specs.Names.{name_ok}
use Rattle.names.proofs.Laws.{name_short}
use Rattle.handles.specs.declared.Store.{Store}
use Rattle.directory.specs.Entry.{entry_bytes, entry_of}
use Rattle.directory.proofs.Entries.{entry_made, entry_name, entry_cleared}
use Rattle.table.specs.declared.Link.{Link}
use Rattle.table.specs.declared.LinkAt.{LinkAt}
use Rattle.table.specs.declared.LinkAt.TheVariants as link
use Rattle.table.specs.Link.{link_bytes, link_in, link_part, owned_by}
use Rattle.table.proofs.Numbers.{Sound, Said, refused, past, free, linked, link_said, link_bytes_lem, link_zero}
use Rattle.record.specs.Record.{record_of, judge_of}
use Rattle.record.proofs.RoundTrip.{Passes, judge_facts, judge_made, judge_carries, payload_made}
use Rattle.layout.specs.Views.{Entry, vacant, named, stored, entry_view, link_view, rec_view}
use Rattle.layout.specs.Segments.{is_of}

-- ---- an entry

abbrev pub shown_as : List ℕ → Entry
shown_as e = entry_view e (entry_of e)

pub entry_shown : (name : List ℕ) (id : ℕ) → name_ok name ≡ true → (id ≡ 0 → ⊥) → id < 2 ^ 32 → shown_as (entry_bytes name id) ≡ named name id
unfolding entry_view
entry_shown name id ok some small = rw (entry_made name id ok some small, entry_name name id (name_short name ok))

pub entry_vacant : shown_as (zeros 64) ≡ vacant
unfolding entry_view
entry_vacant = rw entry_cleared

-- ---- a link

-- whose link it is: the low 7 bits say it, but where the link is refused
owned_said : (slot : ℕ) {low : ℕ} {inside : Bool} {size : ℕ} (x : Result LinkAt Error) → Said low inside size x → ((e : Error) → x ≡ Err e → ⊥) → eqb low (slot + 1) ≡ is_of slot x
unfolding is_of
owned_said slot (Err e) refused passes = absurd (passes e refl)
owned_said slot {low} (Ok link.Past) (past z) passes = ne_eqb low (slot + 1) (λ q. omega arith)
owned_said slot {low} (Ok link.Free) (free z h) passes = ne_eqb low (slot + 1) (λ q. omega arith)
owned_said slot (Ok (link.Linked l)) (linked o h s) passes = rw (o, add-one l.slot, add-one slot) (eqb-suc-suc l.slot slot)

module _ (vol : List ℕ) (st : Store) (c : ℕ) where
  pub link_shown : (l : Link) → Sound l st.head.chunk → st.head.chunk ≤ 512 → c < st.head.chunks → link_part vol st c ≡ link_bytes l → link_view vol st c ≡ Ok (link.Linked l)
  unfolding link_view
  link_shown l s most h e = rw (e, lt-ltb c st.head.chunks h) (link_bytes_lem l st.head.chunk s most)

  pub link_freed : link_part vol st c ≡ zeros 4 → c < st.head.chunks → link_view vol st c ≡ Ok link.Free
  unfolding link_view
  link_freed e h = rw (e, lt-ltb c st.head.chunks h) (link_zero true st.head.chunk ∙ pick_true _ _ refl)

  pub link_past : link_part vol st c ≡ zeros 4 → st.head.chunks ≤ c → link_view vol st c ≡ Ok link.Past
  unfolding link_view
  link_past e h = rw (e, le-ltb c st.head.chunks h) (link_zero false st.head.chunk ∙ pick_false _ _ refl)

  pub owned_shown : (slot : ℕ) → ((e : Error) → link_view vol st c ≡ Err e → ⊥) → owned_by slot (link_part vol st c) ≡ is_of slot (link_view vol st c)
  unfolding link_view link_in owned_by
  owned_shown slot passes = owned_said slot (link_view vol st c) (link_said _ _ _ _) passes

-- ---- a record

module _ (id file number : ℕ) (x : List ℕ) (hid : id < 2 ^ 64) (hfile : file < 2 ^ 32) (hnumber : number < 2 ^ 32) (least : 1 ≤ length x) (most : length x ≤ 486) where
  pub record_shown : rec_view id (record_of id file number x) ≡ stored file number x
  unfolding rec_view
  record_shown =
      let made : judge_of id file number (record_of id file number x) ≡ Some (length x) = judge_made id file number x most hid hfile hnumber least in
      let p : Passes id file number (record_of id file number x) (length x) = judge_facts id file number (record_of id file number x) made in
      pick_true _ _ (judge_carries id file number (record_of id file number x) made)
      ∙ rw (p.owner, p.place, p.size, payload_made id file number x most)
