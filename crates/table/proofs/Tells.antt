-- S-3: a map tells the table of the store's own copy, as bytes: its checksums are not asked. The map that mount makes tells it. Assumes nothing.
use Rattle.std.specs.Prelude.{Result, Ok, Err}
use Prim.Native.Nat.{ℕ, ◌+◌, ◌/◌, ◌%◌, ◌<◌, ◌≤◌}
use mathlib.Core.Path.{◌≡◌, refl, sym, ap, ◌∙◌, subst}
use mathlib.Core.Bool.{Bool, true, false, false≢true, ◌&&◌}
use mathlib.Core.List.{List}
use native.Mathlib.Omega.{arith}
use borrow.Author.Count.{below_more, below_none}
use borrow.Author.Tests.{ltb-false, le-ltb}
use lib.Dec.{ltb, eqb}
use Rattle.le.specs.Part.{zeros}
use Rattle.le.proofs.Choices.{pick_false, pick_keeps}
use Rattle.medium.specs.declared.Error.{Error}
use Rattle.medium.specs.declared.Error.TheVariants.{Corrupt}
use Rattle.medium.specs.declared.Medium.{Medium}
use Rattle.medium.proofs.Laws.{on_done_keeps}
use Rattle.freemap.specs.declared.FreeMap.{FreeMap}
use Rattle.freemap.specs.Map.{marks, words_of, map_of, put_of, unfit_of, map_ok}
use Rattle.freemap.proofs.Words.{marks_words, words_alike, zeros_words}
use Rattle.freemap.proofs.Upto.{upto, upto_none, upto_more, upto_same}
use Rattle.freemap.proofs.Rule.{ok_told, ok_unfit}
use Rattle.handles.specs.declared.Store.{Store}
use Rattle.handles.specs.Body.{due_of}
use Rattle.table.specs.declared.LinkAt.{LinkAt}
use Rattle.table.specs.declared.LinkAt.TheVariants as link
use Rattle.table.specs.Link.{link_of, link_in, link_held, link_at}
use Rattle.table.specs.Table.{links_of}
use Rattle.table.specs.Free.{map_v, map_at}
use Rattle.table.proofs.Walks.{table_keeps}

-- ---- the table as bytes: its checksums are not asked

unfoldable pub is_free : Result LinkAt Error → Bool
is_free (Err e) = false
is_free (Ok link.Past) = false
is_free (Ok link.Free) = true
is_free (Ok (link.Linked l)) = false

pub is_free_lem : (x : Result LinkAt Error) → is_free x ≡ true → x ≡ Ok link.Free
unfolding is_free
is_free_lem (Err e) q = absurd (false≢true q)
is_free_lem (Ok link.Past) q = absurd (false≢true q)
is_free_lem (Ok link.Free) q = refl
is_free_lem (Ok (link.Linked l)) q = absurd (false≢true q)

-- no link is refused, and a bit is set exactly where the chunk's link is free
pub record Tells (vol : List ℕ) (st : Store) (ws : List ℕ) : Type 0 where
  pub sound : (c : ℕ) → c < links_of st.head.chunks → (e : Error) → link_held vol st c ≡ Err e → ⊥
  pub bits : (c : ℕ) → c < st.head.chunks → marks ws c ≡ is_free (link_held vol st c)

-- of a fit map
abbrev pub Mapped : List ℕ → Store → Type 0
Mapped vol st = st.free.fit ≡ true → Tells vol st st.free.words

module _ (vol : List ℕ) (m : Medium) (st : Store) where
  -- a link that a walk meets is what its bytes say
  abbrev pub Met : Result LinkAt Error → Type 0
  Met (Err e) = ⊥
  Met (Ok link.Past) = Unit
  Met (Ok link.Free) = Unit
  Met (Ok (link.Linked l)) = Unit

  pub met_held : (k : ℕ) (x : Result LinkAt Error) → Met x → link_at vol m st k ≡ x → link_held vol st k ≡ x
  unfolding link_at
  met_held k x h =
      on_done_keeps (λ (y : Result LinkAt Error). y ≡ x → link_held vol st k ≡ x) (due_of vol m st (eqb (k % 128) 0) (8 + k / 128)) _ _ (λ _ q. q)
      (λ e _ q. absurd (subst Met (sym q) h))

-- a link past the last chunk is no free one
pub outside : (vol : List ℕ) (st : Store) (c : ℕ) → st.head.chunks ≤ c → is_free (link_held vol st c) ≡ false
unfolding link_in link_of is_free
outside vol st c h =
    rw (le-ltb c st.head.chunks h)
    (pick_keeps (λ (x : Result LinkAt Error). is_free x ≡ false) _ _ _ (rw (pick_false {A = Result LinkAt Error} (Ok link.Free) (Ok link.Past) refl))
    (rw (pick_false {A = Result LinkAt Error} _ (Err Corrupt) refl)))

-- ---- the map that mount makes

module _ (vol : List ℕ) (m : Medium) (st : Store) where
  abbrev frees : ℕ → Bool
  frees c = is_free (link_held vol st c)

  -- no link below k is refused, for its sector or for its bytes
  abbrev pub Passes : ℕ → Type 0
  Passes k = (c : ℕ) → c < k → Met vol m st (link_at vol m st c)

  pub passes_sound : {k : ℕ} → Passes k → (c : ℕ) → c < k → (e : Error) → link_held vol st c ≡ Err e → ⊥
  passes_sound p c h e q = subst (Met vol m st) (sym (met_held vol m st c (link_at vol m st c) (p c h) refl) ∙ q) (p c h)

  -- of the links below k
  record Built (k : ℕ) (ws : List ℕ) : Type 0 where
    passes : Passes k
    words : ws ≡ words_of (upto (λ c. false) frees k)

  one_more : (k : ℕ) (x : Result LinkAt Error) → Met vol m st x → Passes k → link_at vol m st k ≡ x → Passes (k + 1)
  one_more k x h p q = below_more (λ (c : ℕ). Met vol m st (link_at vol m st c)) k p (subst (Met vol m st) (sym q) h)

  -- a link that is not free
  unfree : (k : ℕ) (ws : List ℕ) (x : Result LinkAt Error) → Met vol m st x → is_free x ≡ false → Built k ws → link_at vol m st k ≡ x → Built (k + 1) ws
  unfree k ws x h f b q =
      record {
        passes = one_more k x h b.passes q;
        words = b.words ∙ upto_same (λ c. false) frees k (ap is_free (met_held vol m st k x h q) ∙ f);
      }

  freed : (k : ℕ) (ws : List ℕ) → Built k ws → link_at vol m st k ≡ Ok link.Free → Built (k + 1) (put_of ws k true)
  unfolding is_free
  freed k ws b q =
      record {
        passes = one_more k (Ok link.Free) tt b.passes q;
        words = ap (λ (x : List ℕ). put_of x k true) b.words ∙ upto_more (λ c. false) frees k (ap is_free (met_held vol m st k (Ok link.Free) tt q));
      }

  -- that of the free links where none is refused, and else the unfit one
  pub data Filled (map : FreeMap) : Type 0 where
    whole : Passes (links_of st.head.chunks) → map ≡ map_of frees → Filled map
    broken : {c : ℕ} {e : Error} → c < links_of st.head.chunks → link_at vol m st c ≡ Err e → map ≡ unfit_of → Filled map

  filled : (ws : List ℕ) → Built (links_of st.head.chunks) ws → Filled (record { fit = true; words = ws })
  filled ws b =
      whole b.passes
      (ap (λ (x : List ℕ). record { fit = true; words = x }) (b.words ∙ words_alike _ frees (λ c _. go c (ltb c (links_of st.head.chunks)) refl)))
    where
      go : (c : ℕ) (t : Bool) → ltb c (links_of st.head.chunks) ≡ t → (t && frees c) ≡ frees c
      go c true q = refl
      go c false q = let h : links_of st.head.chunks ≤ c = ltb-false _ _ q in sym (outside vol st c (omega arith))

  pub mount_fills : Filled (map_at vol m st)
  unfolding map_at is_free
  mount_fills =
      table_keeps map_v vol m st Built Filled
      (λ k ws e i b q. broken i q refl)
      (λ k ws b q. unfree k ws (Ok link.Past) tt refl b q)
      (λ k ws b h q. freed k ws b q)
      (λ k l ws b h d q. unfree k ws (Ok (link.Linked l)) tt refl b q)
      filled (zeros 32) (record { passes = below_none _; words = zeros_words ∙ upto_none (λ c. false) frees })

module _ (vol : List ℕ) (m : Medium) (st : Store) (most : st.head.chunks ≤ 2048) where
  -- it passes refusal 3 and, where it is fit, tells the table
  pub record Fair (map : FreeMap) : Type 0 where
    pub ok : map_ok map st.head.chunks ≡ true
    pub tells : map.fit ≡ true → Tells vol st map.words

  fair : (map : FreeMap) → Filled vol m st map → Fair map
  unfolding unfit_of
  fair map (whole p q) =
      rw q
      (record {
        ok = ok_told _ st.head.chunks (λ c h l. outside vol st c h);
        tells = λ _. record { sound = passes_sound vol m st p; bits = λ c h. marks_words _ c (omega arith) };
      })
  fair map (broken h r q) = rw q (record { ok = ok_unfit st.head.chunks; tells = λ f. absurd (false≢true f) })

  pub mount_fair : Fair (map_at vol m st)
  mount_fair = fair (map_at vol m st) (mount_fills vol m st)
