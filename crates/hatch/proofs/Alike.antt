-- The writes left in a world count for nothing: worlds that are alike but for them take the same calls to worlds that are alike, with the same book and
-- the same premise. For every call that can write gets its writes anew, and a query changes nothing. Assumes nothing.
use mathlib.Core.Path.{◌≡◌, refl, ap, sym, subst, ◌∙◌}
use mathlib.Core.List.{List, [], ◌∷◌}
use Rattle.plan.specs.Copy.{Skipped}
use Rattle.power.specs.Calls.{Call, Query, list, find, reader, next, seek, mount, format, create, open_append, append, sync, delete, delete_oldest, query}
use Rattle.power.specs.Book.{Book, written}
use Rattle.power.specs.History.{World, answered, ran, fed_by, after, book_of, Given, EachStep, Premise}
use Rattle.power.proofs.Fine.{Fine, beside, forget, forget_written}
use Rattle.power.proofs.Queries.{query_book, query_world}
use Rattle.hatch.specs.Acts.{lent}
use Rattle.hatch.specs.Claim.{Alike}

-- a query leaves 01's book
query_same : (q : Query) (w : World) (b : Book) → written (query q) (fed_by w (query q)) b ≡ b
query_same q w b =
    let x : Fine = beside b (λ i. []) 0 0 in
    sym (forget_written (query q) (fed_by w (query q)) x) ∙ ap forget (query_book q w x)

query_steps : (q : Query) (w : World) → (ran w (query q)).steps ≡ []
unfolding ran answered
query_steps (list dir counts rows) w = refl
query_steps (find name) w = refl
query_steps (reader name) w = refl
query_steps (next rd out) w = refl
query_steps (seek rd number) w = refl

-- ---- one call, in a world and in the same with no writes left

record Same (w v : World) (c : Call) : Type 0 where
  world : Alike (ran w c).world (ran v c).world
  book : (b : Book) → written c (fed_by w c) b ≡ written c (fed_by v c) b
  steps : (ran w c).steps ≡ (ran v c).steps
  into : Given w c → Given v c
  back : Given v c → Given w c

same_lent : (c : Call) (w : World) → Same w (lent 0 w) c
unfolding ran fed_by Given
same_lent (mount m) w = record { world = refl; book = λ b. refl; steps = refl; into = λ g. g; back = λ g. g }
same_lent (format m size seed) w = record { world = refl; book = λ b. refl; steps = refl; into = λ g. g; back = λ g. g }
same_lent (create rules left name rolls dir) w = record { world = refl; book = λ b. refl; steps = refl; into = λ g. g; back = λ g. g }
same_lent (open_append rules left name rolls dir) w = record { world = refl; book = λ b. refl; steps = refl; into = λ g. g; back = λ g. g }
same_lent (append left bytes) w = record { world = refl; book = λ b. refl; steps = refl; into = λ g. g; back = λ g. g }
same_lent (sync left) w = record { world = refl; book = λ b. refl; steps = refl; into = λ g. g; back = λ g. g }
same_lent (delete left name) w = record { world = refl; book = λ b. refl; steps = refl; into = λ g. g; back = λ g. g }
same_lent (delete_oldest left dir) w = record { world = refl; book = λ b. refl; steps = refl; into = λ g. g; back = λ g. g }
same_lent (query q) w =
    record {
      world = ap (lent 0) (query_world q w) ∙ sym (ap (lent 0) (query_world q (lent 0 w)));
      book = λ b. query_same q w b ∙ sym (query_same q (lent 0 w) b);
      steps = query_steps q w ∙ sym (query_steps q (lent 0 w));
      into = λ g. g;
      back = λ g. g;
    }

-- ---- one call, and a list of calls, in two worlds that are alike

alike_call : (c : Call) (w v : World) → Alike w v → Same w v c
alike_call c w v e =
    let x = same_lent c w in
    let y = same_lent c v in
    record {
      world = x.world ∙ ap (λ (u : World). lent 0 (ran u c).world) e ∙ sym y.world;
      book = λ b. x.book b ∙ ap (λ (u : World). written c (fed_by u c) b) e ∙ sym (y.book b);
      steps = x.steps ∙ ap (λ (u : World). (ran u c).steps) e ∙ sym y.steps;
      into = λ g. y.back (subst (λ (u : World). Given u c) e (x.into g));
      back = λ g. x.back (subst (λ (u : World). Given u c) (sym e) (y.into g));
    }

pub alike_after : (cs : List Call) (w v : World) → Alike w v → Alike (after w cs) (after v cs)
unfolding after
alike_after [] w v e = e
alike_after (c ∷ cs) w v e = alike_after cs (ran w c).world (ran v c).world (alike_call c w v e).world

pub alike_book : (cs : List Call) (w v : World) (b : Book) → Alike w v → book_of w cs b ≡ book_of v cs b
unfolding book_of
alike_book [] w v b e = refl
alike_book (c ∷ cs) w v b e =
    let s = alike_call c w v e in
    alike_book cs (ran w c).world (ran v c).world (written c (fed_by w c) b) s.world ∙ ap (book_of (ran v c).world cs) (s.book b)

pub alike_premise : (P : Skipped → Type 0) (cs : List Call) (w v : World) → Alike w v → Premise P w cs → Premise P v cs
unfolding Premise
alike_premise P [] w v e p = tt
alike_premise P (c ∷ cs) w v e p =
    let s = alike_call c w v e in
    (s.into p.0, subst (EachStep P) s.steps p.1, alike_premise P cs (ran w c).world (ran v c).world s.world p.2)
