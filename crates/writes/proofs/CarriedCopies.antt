-- Each part of a call that writes a copy anew carries more writes through: one write, the body, the copy, a commit and a removal. Of the medium record
-- they read which sector is unreadable, and writes left only to spend one. Assumes nothing.
use Rattle.std.specs.Prelude.{Err, Ok, Option, None, Some, Result}
use Prim.Native.Nat.{ℕ, zero, suc, ◌+◌, ◌-◌, ◌^◌, ◌≤◌}
use mathlib.Core.Path.{◌≡◌, refl, ap}
use mathlib.Core.Bool.{Bool, true, false}
use mathlib.Core.List.{List, []}
use native.Mathlib.Omega.{arith}
use borrow.Author.Tests.{eqb-true, eqb-false}
use lib.Dec.{eqb}
use Rattle.medium.specs.declared.Error.{Error}
use Rattle.directory.specs.declared.Old.{Old}
use Rattle.le.specs.Choice.{pick}
use Rattle.le.specs.Part.{part}
use Rattle.medium.specs.declared.Error.TheVariants.{Media, Spent, Stale}
use Rattle.medium.specs.declared.Medium.{Medium}
use Rattle.medium.specs.declared.Written.{Written}
use Rattle.medium.specs.Refusal.{on_done}
use Rattle.medium.specs.Sector.{read_of, spend_of, WriteOut, write_at, write_of}
use Rattle.medium.proofs.Frame.{write_spends}
use Rattle.freemap.specs.declared.FreeMap.{FreeMap}
use Rattle.handles.specs.declared.Header.{Header}
use Rattle.handles.specs.declared.Store.{Store}
use Rattle.handles.specs.Body.{check_of, due_of}
use Rattle.handles.specs.Handles.{body_of, base_of}
use Rattle.header.specs.Copies.{headers_of, current_of}
use Rattle.header.specs.Header.{encode_of}
use Rattle.directory.specs.Entry.{entry_at, slot_at}
use Rattle.directory.specs.Scan.{oldest_of}
use Rattle.plan.specs.declared.Edit.{Edit}
use Rattle.plan.specs.declared.Edit.TheVariants.{Remove}
use Rattle.plan.specs.Copy.{Plan, Move, unread, matched, put, bad, BodyOut, Skipped, Out, move_of, act_of, body_sector_of, body_from, skips, skipped_from, with_crc, free_after, last_of, first_of, copy_out, refused_out}
use Rattle.plan.proofs.Decides.{move_decides}
use Rattle.commit.specs.Commit.{commit_plan, is_current, commit_of}
use Rattle.remove.specs.Remove.{closed_for, remove_of, GoneOut, none_out, gone_of, oldest_gone, remove_oldest_of}
use Rattle.writes.specs.More.{more, gone_more}
use Rattle.writes.proofs.Carries.{Holder, alone, Carries, still, given, inside, either, unless, both, onward}

-- ---- what they hand back

abbrev written : Holder WriteOut
written = record { held = λ w. w.ans.medium; raised = λ d w. record { vol = w.vol; ans = record { outcome = w.ans.outcome; medium = more d w.ans.medium } } }

abbrev body : Holder BodyOut
body =
    record {
      held = λ b. b.ans.medium;
      raised = λ d b. record { vol = b.vol; ans = record { outcome = b.ans.outcome; medium = more d b.ans.medium; head = b.ans.head } };
    }

abbrev pub copied : Holder Out
copied =
    record {
      held = λ o. o.ans.medium;
      raised = λ d o. record { vol = o.vol; ans = record { outcome = o.ans.outcome; medium = more d o.ans.medium; store = o.ans.store }; skipped = o.skipped };
    }

abbrev pub gone : Holder GoneOut
gone = record { held = λ g. g.ans.medium; raised = λ d g. record { vol = g.vol; ans = gone_more d g.ans; skipped = g.skipped } }

-- ---- one write

-- by whether none is left
abbrev paid : Medium → Bool → Written
paid m none =
    pick none
    (record { outcome = Err Media; medium = m })
    (record { outcome = Ok tt; medium = record { left = m.left - 1; unreadable = m.unreadable; entropy = m.entropy; token = m.token } })

module _ (d : ℕ) where
  spend_same : (m : Medium) → d ≤ (spend_of (more d m)).medium.left
      → spend_of (more d m) ≡ (record { outcome = (spend_of m).outcome; medium = more d (spend_of m).medium })
  unfolding spend_of pick
  spend_same m = go (eqb m.left 0) refl (eqb (m.left + d) 0) refl
    where
      go : (t : Bool) → eqb m.left 0 ≡ t → (s : Bool) → eqb (m.left + d) 0 ≡ s → d ≤ (paid (more d m) s).medium.left
          → paid (more d m) s ≡ (record { outcome = (paid m t).outcome; medium = more d (paid m t).medium })
      go true p true q l = refl
      go true p false q l = absurd (let x = eqb-true m.left 0 p in let y = eqb-false (m.left + d) 0 q in omega (arith, x, y, l))
      go false p true q l = absurd (let x = eqb-false m.left 0 p in let y = eqb-true (m.left + d) 0 q in omega (arith, x, y))
      go false p false q l =
          let x = eqb-false m.left 0 p in
          let e : m.left + d - 1 ≡ m.left - 1 + d = omega (arith, x) in
          ap (λ (n : ℕ). record { outcome = Ok tt; medium = record { left = n; unreadable = m.unreadable; entropy = m.entropy; token = m.token } }) e

  pub write_carries : (vol : List ℕ) (k : ℕ) (bytes : List ℕ) → Carries d alone written (λ m. write_of vol m k bytes)
  unfolding write_of
  write_carries vol k bytes =
      record {
        falls = λ m. (write_spends vol m k bytes).left;
        same = λ m l. ap (λ (w : Written). record { vol = on_done w.outcome (write_at vol k bytes) (λ e. vol); ans = w }) (spend_same m l);
      }

  -- ---- the body

  module _ (p : Plan) where
    move_same : (vol : List ℕ) (m : Medium) (k : ℕ) → move_of p vol (more d m) k ≡ move_of p vol m k
    move_same vol m k = move_decides p k vol vol refl m (more d m) refl

    act_carries : (move : Move) (vol : List ℕ) (h : Header) (k : ℕ) → Carries d alone body (λ m. act_of p move vol m h k)
    unfolding act_of
    act_carries unread vol h k = still (λ m. refl) (λ m. refl)
    act_carries (matched c) vol h k = still (λ m. refl) (λ m. refl)
    act_carries (bad e) vol h k = still (λ m. refl) (λ m. refl)
    act_carries (put c bytes) vol h k =
        both (λ w. record { vol = w.vol; ans = record { outcome = w.ans.outcome; medium = w.ans.medium; head = with_crc h k c } })
        (write_carries vol (base_of p.copy + 1 + k) bytes) (still (λ w. refl) (λ w. refl))

    sector_carries : (vol : List ℕ) (h : Header) (k : ℕ) → Carries d alone body (λ m. body_sector_of p vol m h k)
    unfolding body_sector_of
    sector_carries vol h k = given (λ m. move_of p vol m k) (λ move m. act_of p move vol m h k) (λ m. move_same vol m k) (λ move. act_carries move vol h k)

    body_carries : (n k : ℕ) (vol : List ℕ) (h : Header) → Carries d alone body (λ m. body_from p n k vol m h)
    unfolding body_from
    body_carries zero k vol h = still (λ m. refl) (λ m. refl)
    body_carries (suc n) k vol h =
        onward (λ s. s.ans.outcome) (λ s. body_from p n (k + 1) s.vol s.ans.medium s.ans.head) (λ s e. s) (λ s. refl)
        (sector_carries vol h k)
        (inside (λ s m. body_from p n (k + 1) s.vol m s.ans.head) (λ s. refl) (λ s. refl) (λ s. body_carries n (k + 1) s.vol s.ans.head))
        (λ e. still (λ s. refl) (λ s. refl))

    -- ---- the copy

    skipped_same : (vol : List ℕ) (m : Medium) (n k : ℕ) → skipped_from p vol (more d m) n k ≡ skipped_from p vol m n k
    unfolding skipped_from skips
    skipped_same vol m zero k = refl
    skipped_same vol m (suc n) k = rw (move_same vol m k, skipped_same vol m n (k + 1)) refl

    last_carries : (free : FreeMap) (skipped : List Skipped) (vol : List ℕ) (h : Header) → Carries d alone copied (λ m. last_of p free skipped vol m h)
    unfolding last_of
    last_carries free skipped vol h =
        onward (λ w. w.ans.outcome)
        (λ w. record {
          vol = w.vol;
          ans = record { outcome = Ok tt; medium = w.ans.medium; store = record { copy = p.copy; head = h; writer = p.store.writer; free = free } };
          skipped = skipped;
        })
        (λ w. refused_out p.store w.vol w.ans.medium) (λ w. refl)
        (write_carries vol (base_of p.copy) (encode_of h)) (still (λ w. refl) (λ w. refl)) (λ e. still (λ w. refl) (λ w. refl))

    abbrev size : ℕ
    size = body_of p.head.chunks

    -- after the first write
    abbrev ended : FreeMap → List Skipped → BodyOut → Out
    ended free skipped b = on_done b.ans.outcome (last_of p free skipped b.vol b.ans.medium b.ans.head) (refused_out p.store b.vol b.ans.medium)

    ended_carries : (free : FreeMap) (skipped : List Skipped) (vol : List ℕ) → Carries d alone copied (λ m. ended free skipped (body_from p size 0 vol m p.head))
    ended_carries free skipped vol =
        onward (λ b. b.ans.outcome) (λ b. last_of p free skipped b.vol b.ans.medium b.ans.head) (λ b. refused_out p.store b.vol b.ans.medium) (λ b. refl)
        (body_carries size 0 vol p.head)
        (inside (λ b m. last_of p free skipped b.vol m b.ans.head) (λ b. refl) (λ b. refl) (λ b. last_carries free skipped b.vol b.ans.head))
        (λ e. still (λ b. refl) (λ b. refl))

    abbrev begun : FreeMap → List Skipped → WriteOut → Out
    begun free skipped z = on_done z.ans.outcome (ended free skipped (body_from p size 0 z.vol z.ans.medium p.head)) (refused_out p.store z.vol z.ans.medium)

    pub copy_carries : (vol : List ℕ) → Carries d alone copied (λ m. copy_out p vol m)
    unfolding copy_out
    copy_carries vol =
        given (λ m. skipped_from p vol m size 0) (λ skipped m. begun (free_after p vol) skipped (first_of p vol m)) (λ m. skipped_same vol m size 0)
        (λ skipped.
        onward (λ z. z.ans.outcome) (λ z. ended (free_after p vol) skipped (body_from p size 0 z.vol z.ans.medium p.head)) (λ z. refused_out p.store z.vol z.ans.medium) (λ z. refl)
        (write_carries vol (base_of p.copy) p.first)
        (inside (λ z m. ended (free_after p vol) skipped (body_from p size 0 z.vol m p.head)) (λ z. refl) (λ z. refl) (λ z. ended_carries (free_after p vol) skipped z.vol))
        (λ e. still (λ z. refl) (λ z. refl)))

  -- ---- the commit

  current_same : (vol : List ℕ) (m : Medium) → current_of vol (more d m) ≡ current_of vol m
  unfolding current_of headers_of read_of
  current_same vol m = refl

  pub commit_carries : (edit : Edit) (name vol : List ℕ) (st : Store) → Carries d alone copied (λ m. commit_of edit name vol m st)
  unfolding commit_of
  commit_carries edit name vol st =
      given (λ m. current_of vol m)
      (λ c m. on_done c.outcome
      (pick (is_current c st)
      (pick (eqb st.head.generation (2 ^ 64 - 1)) (refused_out st vol m Spent) (copy_out (commit_plan c edit name st) vol m))
      (refused_out st vol m Stale))
      (refused_out st vol m))
      (current_same vol)
      (λ c. unless c.outcome
      (either (is_current c st)
      (either (eqb st.head.generation (2 ^ 64 - 1)) (still (λ m. refl) (λ m. refl)) (copy_carries (commit_plan c edit name st) vol))
      (still (λ m. refl) (λ m. refl)))
      (λ e. still (λ m. refl) (λ m. refl)))

  -- ---- a removal

  module _ (vol : List ℕ) (st : Store) where
    pub remove_carries : (slot id : ℕ) → Carries d alone copied (λ m. remove_of vol m st slot id)
    unfolding remove_of
    remove_carries slot id =
        onward (λ o. o.ans.outcome)
        (λ o. record { vol = o.vol; ans = record { outcome = Ok tt; medium = o.ans.medium; store = closed_for id o.ans.store }; skipped = o.skipped })
        (λ o e. o) (λ o. refl)
        (commit_carries (Remove slot) [] vol st) (still (λ o. refl) (λ o. refl)) (λ e. still (λ o. refl) (λ o. refl))

    gone_carries : (name : List ℕ) (len : ℕ) → Carries d copied gone (gone_of name len)
    unfolding gone_of
    gone_carries name len =
        given (λ o. o.ans.outcome)
        (λ t o. on_done t
        (record {
          vol = o.vol;
          ans = record { outcome = Ok tt; medium = o.ans.medium; store = o.ans.store; any = true; name = name; length = len };
          skipped = o.skipped;
        })
        (λ e. none_out o))
        (λ o. refl) (λ t. unless t (still (λ o. refl) (λ o. refl)) (λ e. still (λ o. refl) (λ o. refl)))

    old_carries : (f : Result (Option Old) Error) → Carries d alone gone (λ m. oldest_gone vol m st f)
    unfolding oldest_gone
    old_carries (Err e) = still (λ m. refl) (λ m. refl)
    old_carries (Ok None) = still (λ m. refl) (λ m. refl)
    old_carries (Ok (Some old)) =
        both (gone_of (part 0 40 (entry_at vol st old.slot)) old.len) (remove_carries old.slot old.id) (gone_carries (part 0 40 (entry_at vol st old.slot)) old.len)

    oldest_same : (dir : List ℕ) (spared : Option ℕ) (m : Medium) → oldest_of vol (more d m) st dir spared ≡ oldest_of vol m st dir spared
    unfolding oldest_of slot_at due_of check_of read_of
    oldest_same dir spared m = refl

    pub oldest_carries : (dir : List ℕ) (spared : Option ℕ) → Carries d alone gone (λ m. remove_oldest_of vol m st dir spared)
    unfolding remove_oldest_of
    oldest_carries dir spared =
        given (λ m. oldest_of vol m st dir spared) (λ f m. oldest_gone vol m st f) (oldest_same dir spared) old_carries
