-- S-5 in histories. Since that request a create or an opening of a dot name leaves world and book as they were, but for the writes left that it was
-- given; one of any other name is the same call by either rules. And three histories with a file `.a` from before it: stopped in its deletion it is
-- found, deleted it is gone, and so rolled over. Assumes nothing.
use Prim.Native.Nat.{ℕ, ◌≤◌, ◌<◌}
use mathlib.Core.Path.{◌≡◌, refl, ap}
use mathlib.Core.Logic.{◌≢◌}
use mathlib.Core.Bool.{Bool, true, false}
use mathlib.Core.Option.{none, some}
use mathlib.Core.List.{List, [], ◌∷◌}
use native.Mathlib.Omega.{arith}
use lib.ListN.{length}
use Rattle.le.specs.Choice.{pick}
use Rattle.le.specs.Part.{zeros}
use Rattle.names.specs.Names.{name_ok, dotted}
use Rattle.names.proofs.Edges.{dot_edges}
use Rattle.medium.specs.declared.Medium.{Medium}
use Rattle.medium.specs.Sector.{sectors_of}
use Rattle.handles.specs.Handles.{store_ok}
use Rattle.plan.specs.Copy.{Distinct}
use Rattle.append.specs.declared.Appender.{Appender}
use Rattle.store.specs.Opening.{open_fine}
use Rattle.store.specs.Writing.{format_call}
use Rattle.store.proofs.Dots.{dots}
use Rattle.power.specs.Calls.{earlier, present, Call, mount, format, create, open_append, append, sync, delete}
use Rattle.power.specs.Book.{Book, entered_all, before_steps, written}
use Rattle.power.specs.History.{World, Ran, if_ok, with_left, ran_create, ran_reopen, ran, fed_by, after, Honest, Premise}
use Rattle.power.specs.Claim.{Holds, started}
use Rattle.power.proofs.Sanity.{one_batch}
use Rattle.power.proofs.Undone.{two_writes}
use Rattle.power.proofs.Rolled.{Batch, rolled_history}

-- ---- 16

module _ (w : World) (left : ℕ) (name : List ℕ) (rolls : Bool) (dir : List ℕ) (ok : store_ok w.store (sectors_of w.vol) ≡ true)
    (fine : open_fine name rolls dir ≡ true) (has : dotted name ≡ true) where
  abbrev as_it_was : Ran
  as_it_was =
      record {
        world = record { vol = w.vol; store = w.store; appender = w.appender; medium = with_left left w.medium };
        accepted = false;
        steps = [];
      }

  pub create_retired : ran w (create present left name rolls dir) ≡ as_it_was
  unfolding ran if_ok
  create_retired =
      let r = (dots.dots w.vol (with_left left w.medium) w.store name rolls dir ok fine has).0 in
      rw (r.answer, r.volume, r.store, r.medium, r.steps)

  pub open_retired : ran w (open_append present left name rolls dir) ≡ as_it_was
  unfolding ran if_ok
  open_retired =
      let r = (dots.dots w.vol (with_left left w.medium) w.store name rolls dir ok fine has).1 in
      rw (r.answer, r.store, r.medium)

  -- and the book
  still : (c : Call) (b : Book) → ran w c ≡ as_it_was → before_steps c b ≡ b → written c (fed_by w c) b ≡ b
  unfolding written fed_by entered_all pick
  still c b q same = rw (q, same)

  pub retired_book : (b : Book)
      → (written (create present left name rolls dir) (fed_by w (create present left name rolls dir)) b ≡ b)
      × (written (open_append present left name rolls dir) (fed_by w (open_append present left name rolls dir)) b ≡ b)
  unfolding before_steps
  retired_book b = (still (create present left name rolls dir) b create_retired refl, still (open_append present left name rolls dir) b open_retired refl)

-- ---- any other name: one call by either rules

module _ (w : World) (left : ℕ) (name : List ℕ) (rolls : Bool) (dir : List ℕ) (plain : dotted name ≡ false) where
  pub create_either : ran w (create present left name rolls dir) ≡ ran w (create earlier left name rolls dir)
  unfolding ran
  create_either = ap (ran_create w) (dots.plain w.vol (with_left left w.medium) w.store name rolls dir plain).0

  pub open_either : ran w (open_append present left name rolls dir) ≡ ran w (open_append earlier left name rolls dir)
  unfolding ran
  open_either = ap (ran_reopen w) (dots.plain w.vol (with_left left w.medium) w.store name rolls dir plain).1

-- ---- a file from before

-- `.a`
abbrev dot_a : List ℕ
dot_a = 46 ∷ 97 ∷ []

fine_a : name_ok dot_a ≡ true
fine_a = dot_edges.first.0

-- not `b`
not_b : dot_a ≢ 98 ∷ []
not_b e = let n : ◌≡◌ {A = ℕ} 2 1 = ap length e in omega (arith, n)

module _ (seed : ℕ) (m : Medium) (ap₀ : Appender) (left : 11 ≤ m.left) where
  -- 128 sectors
  module _ (r : 128 ≤ m.unreadable) where
    abbrev fresh : World
    fresh = started (format_call (zeros 65536) m 4 seed) ap₀

    -- its deletion with one write left is stopped
    module _ (bytes : List ℕ) (least : 1 ≤ length bytes) (most : length bytes < 486) where
      abbrev stopped : List Call
      stopped = create earlier 11 dot_a false [] ∷ append 0 bytes ∷ sync 1 ∷ delete 1 dot_a ∷ []

      abbrev mounted : List Call
      mounted = create earlier 11 dot_a false [] ∷ append 0 bytes ∷ sync 1 ∷ delete 1 dot_a ∷ mount (after fresh stopped).medium ∷ []

      pub dot_found : Premise Honest fresh mounted × Holds (after fresh mounted).vol (record {
        next = 2;
        files = (record { name = dot_a; id = 1; chunks = 1; payloads = bytes ∷ [] }) ∷ [];
        file = 1;
        rollover = none;
        unwritten = [];
      })
      dot_found = one_batch seed m ap₀ left earlier dot_a tt fine_a r bytes least most

    -- with two it is done
    abbrev deleted : List Call
    deleted = create earlier 11 dot_a false [] ∷ delete 2 dot_a ∷ []

    pub dot_gone : Premise Honest fresh deleted × Holds (after fresh deleted).vol (record { next = 2; files = []; file = 1; rollover = none; unwritten = [] })
    dot_gone = let t = two_writes seed m ap₀ left r earlier dot_a tt fine_a in (t.0, t.2)

  -- 66 sectors, two chunks of one record: `b`, of today, has a rollover over the root, and its second batch takes the chunk of `.a`
  module _ (r : 66 ≤ m.unreadable) (x y z : List ℕ) (hx : Batch x) (hy : Batch y) (hz : Batch z) where
    abbrev fresh_66 : World
    fresh_66 = started (format_call (zeros 33792) m 1 seed) ap₀

    abbrev rolls : List Call → List Call
    rolls more =
        create earlier 11 dot_a false [] ∷ append 0 x ∷ sync 1 ∷ create present 11 (98 ∷ []) true [] ∷ append 0 y ∷ sync 1 ∷ append 0 z ∷ sync 23
        ∷ open_append present 0 (98 ∷ []) true [] ∷ more

    -- the premise is that of a longer history, with a second format behind these calls
    pub dot_rolled : (u : Medium) (again : ℕ) → 26 ≤ u.left → Premise Distinct fresh_66 (rolls (format u 1 again ∷ []))
        → Holds (after fresh_66 (rolls [])).vol (record {
          next = 3;
          files = (record { name = 98 ∷ []; id = 2; chunks = 2; payloads = y ∷ z ∷ [] }) ∷ [];
          file = 2;
          rollover = some [];
          unwritten = [];
        })
    dot_rolled u again room p = (rolled_history earlier dot_a tt fine_a not_b seed m ap₀ left r x y z hx hy hz u again room p).2
