-- A link and the counts never give 11. Assumes nothing.
use Rattle.std.specs.Prelude.{Err, Result, Ok}
use mathlib.Core.Path.{refl, subst}
use mathlib.Core.List.{List}
use Prim.Native.Nat.{ℕ, ◌+◌, ◌/◌, ◌%◌}
use lib.Dec.{eqb}
use Rattle.le.proofs.Choices.{pick_keeps}
use Rattle.medium.specs.declared.Error.{Error}
use Rattle.medium.specs.declared.Medium.{Medium}
use Rattle.medium.proofs.Laws.{on_done_keeps}
use Rattle.medium.proofs.Stale.{NotStale, no_stale}
use Rattle.handles.specs.declared.Store.{Store}
use Rattle.handles.specs.Body.{due_of}
use Rattle.handles.proofs.Laws.{due_not_stale}
use Rattle.table.specs.declared.LinkAt.{LinkAt}
use Rattle.table.specs.declared.LinkAt.TheVariants as link
use Rattle.table.specs.Link.{link_of, link_in, link_at}
use Rattle.table.specs.Table.{count_v, count_of}
use Rattle.table.proofs.Walks.{table_keeps}

module _ (vol : List ℕ) (m : Medium) (st : Store) where
  abbrev Seen : Result LinkAt Error → Type 0
  Seen (Err e) = NotStale (Err e)
  Seen (Ok link.Past) = Unit
  Seen (Ok link.Free) = Unit
  Seen (Ok (link.Linked l)) = Unit

  seen : (c : ℕ) → Seen (link_at vol m st c)
  unfolding link_at link_in link_of
  seen c =
      on_done_keeps Seen (due_of vol m st (eqb (c % 128) 0) (8 + c / 128)) _ _
      (λ _. pick_keeps Seen _ _ _ (pick_keeps Seen _ _ _ tt tt) (pick_keeps Seen _ _ _ tt refl))
      (λ e q. no_stale (due_not_stale vol m st (eqb (c % 128) 0) (8 + c / 128)) q)

  pub count_not_stale : (counts : List ℕ) → NotStale (count_of vol m st counts).outcome
  unfolding count_of
  count_not_stale counts =
      table_keeps count_v vol m st (λ k t. Unit) (λ r. NotStale r.outcome) (λ k t e h p q. subst Seen q (seen k)) (λ k t p q. tt) (λ k t p h q. tt)
      (λ k l t p h d q. tt) (λ t p. tt) counts tt
