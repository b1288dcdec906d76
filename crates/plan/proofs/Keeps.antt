-- What writing a body keeps, whatever the writes left: every sector but its own, the medium record but for writes left, and the header's numbers.
-- Assumes nothing.
use mathlib.Core.Path.{◌≡◌, refl, ap, ◌∙◌}
use mathlib.Core.List.{List}
use Prim.Native.Nat.{ℕ, zero, suc, ◌+◌, ◌*◌, ◌%◌, ◌≤◌, ◌<◌}
use native.Mathlib.Omega.{arith}
use lib.Dec.{leb}
use lib.ListN.{length, length-set}
use Rattle.le.specs.Part.{zeros}
use Rattle.le.proofs.Choices.{pick_keeps}
use Rattle.le.proofs.Parts.{length_over, length_zeros}
use Rattle.medium.specs.declared.Medium.{Medium}
use Rattle.medium.specs.Sector.{sectors_of, sector_at}
use Rattle.medium.proofs.Laws.{length_sector, on_done_keeps}
use Rattle.medium.specs.Frame.{Kept, Spends}
use Rattle.medium.proofs.Frame.{kept_none, kept_more, kept_wide, spends_none, spends_more, write_spends, write_kept}
use Rattle.handles.specs.declared.Header.{Header}
use Rattle.handles.specs.Body.{body_at}
use Rattle.handles.specs.Handles.{base_of}
use Rattle.handles.proofs.Laws.{base_most}
use Rattle.header.specs.Header.{with_crcs}
use Rattle.directory.specs.Entry.{entry_bytes}
use Rattle.directory.proofs.Entries.{length_entry}
use Rattle.table.specs.declared.Link.{Link}
use Rattle.table.specs.Link.{link_bytes}
use Rattle.table.proofs.Clears.{length_cleared}
use Rattle.table.proofs.Numbers.{length_link}
use Rattle.plan.specs.declared.Edit.{Edit}
use Rattle.plan.specs.declared.Edit.TheVariants.{Format, Create, Extend, Remove}
use Rattle.plan.specs.Edit.{entry_put, link_put, slot_cleared, edit_of}
use Rattle.plan.specs.Copy.{Plan, Move, unread, matched, put, bad, due_bytes, due_move, move_of, BodyOut, act_of, body_sector_of, body_from}

-- ---- an edited sector is a sector

abbrev Whole : List ℕ → Type 0
Whole s = length s ≡ 512

entry_whole : (k slot : ℕ) (bytes s : List ℕ) → length bytes ≡ 64 → Whole s → Whole (entry_put k slot bytes s)
unfolding entry_put
entry_whole k slot bytes s n e = pick_keeps Whole _ _ _ (length_over (64 * (slot % 8)) bytes s (rw (n, e) (omega arith)) ∙ e) e

link_whole : (k chunk : ℕ) (link : Link) (s : List ℕ) → Whole s → Whole (link_put k chunk link s)
unfolding link_put
link_whole k chunk link s e =
    let n : length (link_bytes link) ≡ 4 = length_link link in
    pick_keeps Whole _ _ _ (length_over (4 * (chunk % 128)) (link_bytes link) s (rw (n, e) (omega arith)) ∙ e) e

pub edit_whole : (e : Edit) (name : List ℕ) (k : ℕ) (s : List ℕ) → length name ≤ 40 → length s ≡ 512 → length (edit_of e name k s) ≡ 512
unfolding edit_of slot_cleared
edit_whole Format name k s short n = length_zeros 512
edit_whole (Create slot id chunk) name k s short n = link_whole k chunk _ _ (entry_whole k slot (entry_bytes name id) s (length_entry name id short) n)
edit_whole (Extend slot position next last partial records) name k s short n =
    let linked = link_whole k next _ s n in
    pick_keeps Whole partial _ _ (link_whole k last _ _ linked) linked
edit_whole (Remove slot) name k s short n = pick_keeps Whole (leb 8 k) _ _ (length_cleared slot s n) (entry_whole k slot (zeros 64) s (length_zeros 64) n)

-- ---- a step, and the body

-- a plan on a volume that has both copies' sectors
pub record Ready (p : Plan) (vol : List ℕ) : Type 0 where
  pub short : length p.name ≤ 40
  pub enough : 64 ≤ sectors_of vol

pub ready_still : (p : Plan) (vol v : List ℕ) → length v ≡ length vol → Ready p vol → Ready p v
ready_still p vol v e r = record { short = r.short; enough = rw e r.enough }

pub due_whole : (p : Plan) (vol : List ℕ) (k : ℕ) → Ready p vol → k < 24 → length (due_bytes p vol k) ≡ 512
unfolding due_bytes
due_whole p vol k r l =
    let at : ℕ = body_at p.store k in
    let f : at < sectors_of vol = omega (arith, base_most p.store.copy, r.enough) in
    let n : Whole (sector_at vol at) = length_sector vol at f in
    pick_keeps Whole _ _ _ (edit_whole p.edit p.name k (sector_at vol at) r.short n) n

-- what a move writes is a sector
abbrev pub Fills : Move → Type 0
Fills unread = Unit
Fills (matched c) = Unit
Fills (put c bytes) = Whole bytes
Fills (bad e) = Unit

pub move_fills : (p : Plan) (vol : List ℕ) (m : Medium) (k : ℕ) → Ready p vol → k < 24 → Fills (move_of p vol m k)
unfolding move_of due_move
move_fills p vol m k r l =
    pick_keeps Fills _ _ _ (length_zeros 512)
    (pick_keeps Fills _ _ _ tt
    (on_done_keeps Fills _ _ _ (λ _. pick_keeps Fills _ _ _ tt (due_whole p vol k r l)) (λ _ _. tt)))

-- what n body sectors from k on leave, however they end: of the volume all but their own places, of the medium record all but writes left, and of the
-- header all but checksums
pub record Stays (p : Plan) (k n : ℕ) (vol : List ℕ) (m : Medium) (h : Header) (o : BodyOut) : Type 0 where
  pub frame : Kept (base_of p.copy + 1 + k) n vol o.vol
  pub medium : Spends m o.ans.medium
  pub numbers : o.ans.head ≡ with_crcs h o.ans.head.crcs
  pub count : length o.ans.head.crcs ≡ length h.crcs

act_stays : (p : Plan) (move : Move) (vol : List ℕ) (m : Medium) (h : Header) (k : ℕ) → Fills move → 64 ≤ sectors_of vol → k < 24 → Stays p k 1 vol m h (act_of p move vol m h k)
unfolding act_of
act_stays p unread vol m h k w e l = record { frame = kept_none _ 1 vol; medium = spends_none m; numbers = refl; count = refl }
act_stays p (matched c) vol m h k w e l = record { frame = kept_none _ 1 vol; medium = spends_none m; numbers = refl; count = length-set h.crcs k c }
act_stays p (bad r) vol m h k w e l = record { frame = kept_none _ 1 vol; medium = spends_none m; numbers = refl; count = refl }
act_stays p (put c bytes) vol m h k w e l =
    let at : ℕ = base_of p.copy + 1 + k in
    let f : at < sectors_of vol = omega (arith, base_most p.copy) in
    record { frame = write_kept vol m at bytes w f; medium = write_spends vol m at bytes; numbers = refl; count = length-set h.crcs k c }

pub sector_stays : (p : Plan) (vol : List ℕ) (m : Medium) (h : Header) (k : ℕ) → Ready p vol → k < 24 → Stays p k 1 vol m h (body_sector_of p vol m h k)
unfolding body_sector_of
sector_stays p vol m h k r l = act_stays p (move_of p vol m k) vol m h k (move_fills p vol m k r l) r.enough l

pub stays_wide : {p : Plan} {k n : ℕ} {vol : List ℕ} {m : Medium} {h : Header} {s : BodyOut} → Stays p k 1 vol m h s → Stays p k (suc n) vol m h s
stays_wide q = record { frame = kept_wide (omega arith) (omega arith) q.frame; medium = q.medium; numbers = q.numbers; count = q.count }

pub stays_more : {p : Plan} {k n : ℕ} {vol : List ℕ} {m : Medium} {h : Header} (s o : BodyOut) → Stays p k 1 vol m h s → Stays p (k + 1) n s.vol s.ans.medium s.ans.head o
    → Stays p k (suc n) vol m h o
stays_more s o a b =
    record {
      frame = kept_more (stays_wide a).frame (kept_wide (omega arith) (omega arith) b.frame);
      medium = spends_more a.medium b.medium;
      numbers = b.numbers ∙ ap (λ (x : Header). with_crcs x o.ans.head.crcs) a.numbers;
      count = b.count ∙ a.count;
    }

pub body_stays : (p : Plan) (n k : ℕ) (vol : List ℕ) (m : Medium) (h : Header) → Ready p vol → k + n ≤ 24 → Stays p k n vol m h (body_from p n k vol m h)
unfolding body_from
body_stays p zero k vol m h r l = record { frame = kept_none _ 0 vol; medium = spends_none m; numbers = refl; count = refl }
body_stays p (suc n) k vol m h r l =
    let s : BodyOut = body_sector_of p vol m h k in
    let one : Stays p k 1 vol m h s = sector_stays p vol m h k r (omega arith) in
    on_done_keeps (Stays p k (suc n) vol m h) s.ans.outcome _ _
    (λ _. stays_more s _ one (body_stays p n (k + 1) s.vol s.ans.medium s.ans.head (ready_still p vol s.vol one.frame.size r) (omega arith)))
    (λ _ _. stays_wide one)
