-- What create keeps, accepted or refused: what a caller goes on with. Assumes nothing.
use Rattle.std.specs.Prelude.{Err, Ok, None}
use Rattle.std.proofs.Common.{◌≡◌, ℕ, zero, suc, ◌+◌, ◌-◌, ◌%◌, ◌^◌, ◌<◌, ◌≤◌, true, false, eqb, List, length, sym, refl, ap, zero-le, lit≤, le-leb}
use Rattle.le.proofs.Choices.{pick_keeps, pick_keeps_by}
use Rattle.medium.specs.declared.Error.{Error}
use Rattle.medium.specs.declared.Error.TheVariants.{Corrupt, Exists, Full, Spent}
use Rattle.medium.specs.declared.Medium.{Medium}
use Rattle.medium.specs.Sector.{sectors_of}
use Rattle.medium.proofs.Laws.{on_done_keeps, not_done}
use Rattle.handles.specs.declared.Store.{Store}
use Rattle.handles.specs.Handles.{store_ok, opened_by}
use Rattle.handles.proofs.Laws.{store_facts}
use Rattle.directory.specs.Scan.{look_of}
use Rattle.directory.proofs.Ranges.{look_free}
use Rattle.directory.proofs.Decides.{on_free_keeps, on_looked_keeps}
use Rattle.table.specs.Free.{free_of}
use Rattle.table.proofs.Mapped.{free_range}
use Rattle.table.proofs.Decides.{on_pick_keeps}
use Rattle.plan.specs.declared.Edit.TheVariants.{Create}
use Rattle.plan.specs.Copy.{Out}
use Rattle.commit.specs.Commit.{commit_of}
use Rattle.remove.specs.Remove.{GoneOut, remove_oldest_of}
use Rattle.remove.proofs.Keeps.{Good, Stands, stands_none, stands_more, commit_stands, OutStands, GoneStands, oldest_stands}
use Rattle.append.specs.declared.Handed.{Handed}
use Rattle.append.specs.declared.Tail.TheVariants.{At}
use Rattle.append.specs.Appender.{dir_bytes, tail_ok, is_closed, no_appender}
use Rattle.append.specs.Flush.{AppOut}
use Rattle.append.specs.Calls.{may_write}
use Rattle.append.proofs.Ways.{refusal}
use Rattle.files.specs.declared.Rollover.{Rollover}
use Rattle.files.specs.declared.Turn.{Turn}
use Rattle.files.specs.Opened.{refused_at, next_token, written_by, opened_out}
use Rattle.files.specs.Create.{Next, make_out, over_out, round_out, create_from, create_of, Turned}
use Rattle.files.proofs.Opens.{over_ok, opened_may}

-- what holds of every refusal after some commits, and of every new file's appender, holds of what create gives
pub record Holds (vol : List ℕ) (m : Medium) (st : Store) (rollover : Rollover) (P : List ℕ → Handed → Type 0) : Type 0 where
  pub no : (v : List ℕ) (n : Medium) (s : Store) (e : Error) → Stands vol m st v n s → P v (refusal e n s no_appender)
  pub yes : (v : List ℕ) (n : Medium) (s : Store) (slot id chunk : ℕ) → Stands vol m st v n s → slot < 64 → (id ≡ 0 → ⊥) → chunk < s.head.chunks
      → P v (opened_out v n s slot id chunk 0 (At 0) rollover).ans

module _ (vol₀ : List ℕ) (m₀ : Medium) (st₀ : Store) (rollover : Rollover) (P : List ℕ → Handed → Type 0) (p : Holds vol₀ m₀ st₀ rollover P) (name : List ℕ) (short : length name ≤ 40) where
  abbrev Out_holds : AppOut → Type 0
  Out_holds o = P o.vol o.ans

  module _ (vol : List ℕ) (m : Medium) (st : Store) (k : Stands vol₀ m₀ st₀ vol m st) where
    make_holds : (slot chunk : ℕ) → slot < 64 → chunk < st.head.chunks → Out_holds (make_out name rollover vol m st slot chunk)
    unfolding make_out opened_out
    make_holds slot chunk h c =
        let id : ℕ = st.head.next_id in
        let o : Out = commit_of (Create slot id chunk) name vol m st in
        let s : OutStands vol m st o = commit_stands (Create slot id chunk) name vol m st k.good short in
        pick_keeps Out_holds (eqb id (2 ^ 32 - 1)) _ _ (p.no vol m st Spent k)
        (on_done_keeps Out_holds o.ans.outcome _ _
        (λ _. p.yes o.vol o.ans.medium o.ans.store slot id chunk (stands_more k s) h (store_facts st (sectors_of vol) k.good.ok).head.next (rw s.chunks c))
        (λ e _. p.no o.vol o.ans.medium o.ans.store e (stands_more k s)))

    module _ (next : Next) (hn : (v : List ℕ) (n : Medium) (s : Store) → Stands vol₀ m₀ st₀ v n s → Out_holds (next v n s)) where
      over_holds : Out_holds (over_out rollover next vol m st)
      unfolding over_out
      over_holds =
          let g : GoneOut = remove_oldest_of vol m st (dir_bytes rollover.dir) None in
          let s : GoneStands vol m st g = oldest_stands vol m st (dir_bytes rollover.dir) None k.good in
          pick_keeps Out_holds rollover.rolls _ _
          (on_done_keeps Out_holds g.ans.outcome _ _
          (λ _. pick_keeps Out_holds g.ans.any _ _ (hn g.vol g.ans.medium g.ans.store (stands_more k s))
          (p.no g.vol g.ans.medium g.ans.store Full (stands_more k s)))
          (λ e _. p.no g.vol g.ans.medium g.ans.store e (stands_more k s)))
          (p.no vol m st Full k)

      pub round_holds : Out_holds (round_out name rollover next vol m st)
      unfolding round_out
      round_holds =
          on_looked_keeps Out_holds (look_of vol m st name) _ _ (λ e. p.no vol m st e k)
          (λ s q. pick_keeps Out_holds s.exists _ _ (p.no vol m st Exists k)
          (on_free_keeps Out_holds s.free _ _ (λ _. over_holds)
          (λ slot u. on_pick_keeps Out_holds (free_of vol m st) _ _ _ (λ e. p.no vol m st e k) over_holds
          (λ c w. make_holds slot c (look_free vol m st name q u).below (free_range vol m st (store_facts _ _ k.good.ok).map w)))))

  pub from_holds : (n : ℕ) (vol : List ℕ) (m : Medium) (st : Store) → Stands vol₀ m₀ st₀ vol m st → Out_holds (create_from n name rollover vol m st)
  unfolding create_from
  from_holds zero vol m st k = p.no vol m st Corrupt k
  from_holds (suc n) vol m st k = round_holds vol m st k (create_from n name rollover) (from_holds n)

-- ---- what a caller goes on with

-- the open appender is no part of what refusal 3 tests
opened_good : (vol : List ℕ) (st : Store) (token id : ℕ) → Good vol st → Good vol (written_by token id st)
unfolding store_ok
opened_good vol st token id g = record { ok = g.ok; count = g.count }

-- a volume of the same length, the medium record but for writes left and the token, and a store value of the same sizes that passes refusal 3. Accepted,
-- the next token is taken, and the appender with it is the store's, with the call's rollover, and may write; refused, none is taken
pub record Created (vol : List ℕ) (m : Medium) (st : Store) (rollover : Rollover) (v : List ℕ) (x : Handed) : Type 0 where
  pub size : length v ≡ length vol
  pub left : x.medium.left ≤ m.left
  pub unreadable : x.medium.unreadable ≡ m.unreadable
  pub entropy : x.medium.entropy ≡ m.entropy
  pub good : Good v x.store
  pub id : x.store.head.id ≡ st.head.id
  pub chunks : x.store.head.chunks ≡ st.head.chunks
  pub chunk : x.store.head.chunk ≡ st.head.chunk
  pub token : x.outcome ≡ Ok tt → x.medium.token ≡ next_token m
  pub writer : x.outcome ≡ Ok tt → x.store.writer ≡ opened_by (next_token m) x.appender.id
  pub appender : x.outcome ≡ Ok tt → (x.appender.token ≡ next_token m) × (x.appender.rolls ≡ rollover.rolls) × (x.appender.dir ≡ rollover.dir) × (x.appender.fill ≡ 0)
  pub may : x.outcome ≡ Ok tt → over_ok rollover ≡ true → may_write v x.store x.appender ≡ Ok tt
  pub refused : (e : Error) → x.outcome ≡ Err e → (x.medium.token ≡ m.token) × (x.appender ≡ no_appender)

module _ (vol : List ℕ) (m : Medium) (st : Store) (rollover : Rollover) where
  no_keeps : (v : List ℕ) (n : Medium) (s : Store) (e : Error) → Stands vol m st v n s → Created vol m st rollover v (refusal e n s no_appender)
  no_keeps v n s e k =
      record {
        size = k.size;
        left = k.medium.left;
        unreadable = k.medium.unreadable;
        entropy = k.medium.entropy;
        good = k.good;
        id = k.id;
        chunks = k.chunks;
        chunk = k.chunk;
        token = not_done;
        writer = not_done;
        appender = not_done;
        may = not_done;
        refused = λ _ _. (k.medium.token, refl);
      }

  yes_keeps : (v : List ℕ) (n : Medium) (s : Store) (slot id chunk : ℕ) → Stands vol m st v n s → slot < 64 → (id ≡ 0 → ⊥) → chunk < s.head.chunks
      → Created vol m st rollover v (opened_out v n s slot id chunk 0 (At 0) rollover).ans
  unfolding opened_out tail_ok is_closed
  yes_keeps v n s slot id chunk k hs hi hc =
      let t : next_token n ≡ next_token m = ap (λ (x : ℕ). (x + 1) % 2 ^ 32) k.medium.token in
      record {
        size = k.size;
        left = k.medium.left;
        unreadable = k.medium.unreadable;
        entropy = k.medium.entropy;
        good = opened_good v s (next_token n) id k.good;
        id = k.id;
        chunks = k.chunks;
        chunk = k.chunk;
        token = λ _. t;
        writer = λ _. ap (λ (x : ℕ). opened_by x id) t;
        appender = λ _. (t, refl, refl, refl);
        may = λ _ o. opened_may s (next_token n) slot id chunk 0 (At 0) rollover hs hi hc (lit≤ tt) (le-leb 0 s.head.chunk zero-le) o v k.good.ok refl;
        refused = λ _ d. not_done (sym d);
      }

  holds : Holds vol m st rollover (Created vol m st rollover)
  holds = record { no = no_keeps; yes = yes_keeps }

  module _ (name : List ℕ) (short : length name ≤ 40) (good : Good vol st) where
    pub create_keeps : Created vol m st rollover (create_of name rollover vol m st).vol (create_of name rollover vol m st).ans
    create_keeps = from_holds vol m st rollover (Created vol m st rollover) holds name short 2 vol m st (stands_none vol m st good)

    -- after the oldest file went, a further round begins with a good store value
    pub again_good : {v : List ℕ} {r : Turn} → Turned v r (λ next. round_out name rollover next vol m st) → r.again ≡ true → Good v r.answer.store
    again_good {v} {r} t a =
        let next : Next = λ w n s. refused_at w n s Corrupt in
        let o : AppOut = round_out name rollover next vol m st in
        let h : Created vol m st rollover o.vol o.ans =
        round_holds vol m st rollover (Created vol m st rollover) holds name short vol m st (stands_none vol m st good) next (λ w n s k. no_keeps w n s Corrupt k) in
        (rw ((t.again a).1 next) at h.good)
