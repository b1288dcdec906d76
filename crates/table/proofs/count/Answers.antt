use Rattle.std.proofs.Common.{rules}
use mathlib.Core.Path.{refl, ap}
use native.Mathlib.Omega.{arith}
use lib.ListN.{length-set}
use Rattle.walk.proofs.Laws.{at_start, at_end}
use Rattle.table.specs.Table.{Counted, count_of}
use Rattle.table.proofs.Numbers.{linked_slot}
use Rattle.table.proofs.Turns.{refused_turn, linked_turn, unlinked_turn}
use Rattle.table.proofs.Walks.{count_below}
use Rattle.table.proofs.count.Goals as goal
use Rattle.table.proofs.count.Goals.{in-Linked, in_default}

pub loop-chunk-init : goal.loop-chunk-init
unfolding count_of
loop-chunk-init c = (at_start _ _ _ _ _, refl, λ k h. omega (arith, c.requires.3 k h))

pub returns-in_err-link : goal.returns-in_err-link
returns-in_err-link c =
    let q = refused_turn c.loop-chunk.invariant.0 (omega arith) c.link_at.ensures c.in_err-link.was in
    (search (rules, ap (λ (x : Counted). x.outcome) q), ap (λ (x : Counted). x.counts) q)

pub offset_bounds-counts-link : goal.offset_bounds-counts-link
offset_bounds-counts-link c = omega (arith, linked_slot _ _ _ _ c.link_at.ensures c.in_ok-link.was c.in-Linked.is)

pub bounds-counts-link : goal.bounds-counts-link
bounds-counts-link c = omega (arith, linked_slot _ _ _ _ c.link_at.ensures c.in_ok-link.was c.in-Linked.is)

pub bounds-counts-link-in-Linked : goal.bounds-counts-link-in-Linked
bounds-counts-link-in-Linked c = omega (arith, linked_slot _ _ _ _ c.link_at.ensures c.in_ok-link.was c.in-Linked.is)

pub overflow_add-counts : goal.overflow_add-counts
overflow_add-counts c =
    let h = linked_slot _ _ _ _ c.link_at.ensures c.in_ok-link.was c.in-Linked.is in
    omega (arith, c.loop-chunk.invariant.2 _ h)

pub loop-chunk-preserved : goal.loop-chunk-preserved
loop-chunk-preserved c =
    let l = c.loop-chunk in
    elim c.match-branch-2.branch [
      | in-Linked w ↦
          let b = linked_slot _ _ _ _ c.link_at.ensures c.in_ok-link.was w.in-Linked.is in (
            linked_turn l.invariant.0 (omega arith) c.link_at.ensures c.in_ok-link.was w.in-Linked.is w.counts-is,
            rw (w.counts-is, length-set) l.invariant.1,
            rw w.counts-is (count_below l.counts _ l.chunk b (omega (arith, b)) l.invariant.2),
          )
      | in_default w ↦ (
        unlinked_turn l.invariant.0 (omega arith) c.link_at.ensures c.in_ok-link.was (λ k u. refl) w.in_default.not-Linked w.counts-is,
        rw w.counts-is l.invariant.1,
        rw w.counts-is (λ k h. omega (arith, l.invariant.2 k h)),
      )
    ]

pub returns : goal.returns
returns c =
    let q = at_end c.loop-chunk.invariant.0 (omega arith) in
    (ap (λ (x : Counted). x.outcome) q, ap (λ (x : Counted). x.counts) q)
