use Rattle.std.proofs.Common.{◌≡◌, Ok, Err, rules, sym, ap, ◌∙◌, arith}
use lib.Seq.{length-take-le}
use Rattle.le.specs.Part.{zeros}
use Rattle.points.proofs.Scans.{turn_refused, turn_hole, turn_end, turn_payload, next_size}
use Rattle.points.proofs.scan.turn.Goals.{in-Payload, in-Hole, in-End}
use Rattle.points.proofs.scan.turn.Goals as goal

pub returns-in_err-found : goal.returns-in_err-found
unfolding zeros
returns-in_err-found c =
    let a = c.args in
    let e : c.from_residual.result ≡ Err c.in_err-found.field-0.0 = search rules in
    rw e (turn_refused _ a.volume.now a.medium a.store a.reader c.next-r.result c.next-r.ensures c.in_err-found.was)

pub slice_bounds-out-end : goal.slice_bounds-out-end
unfolding zeros
slice_bounds-out-end c =
    let a = c.args in
    omega (arith, next_size a.volume.now a.medium a.store a.reader c.next-r.result c.next-r.ensures (c.in_ok-found.was ∙ ap Ok c.in-Payload.is))

pub slice_bounds-sight_of-end : goal.slice_bounds-sight_of-end
unfolding zeros
slice_bounds-sight_of-end c =
    let a = c.args in
    let h = next_size a.volume.now a.medium a.store a.reader c.next-r.result c.next-r.ensures (c.in_ok-found.was ∙ ap Ok c.in-Payload.is) in
    sym (length-take-le c.in-Payload.length _ (omega (arith, h.0, h.1)))

pub returns : goal.returns
unfolding zeros
returns c =
    let a = c.args in
    let r = c.next-r in
    elim c.match-found.branch [
      | in-Payload w ↦ rw w.sight-is (turn_payload _ a.volume.now a.medium a.store a.reader r.result r.ensures (c.in_ok-found.was ∙ ap Ok w.in-Payload.is) w.sight_of-sight.ensures)
      | in-Hole w ↦ rw w.sight-is (turn_hole _ a.volume.now a.medium a.store a.reader r.result r.ensures (c.in_ok-found.was ∙ ap Ok w.in-Hole.is))
      | in-End w ↦ rw w.sight-is (turn_end _ a.volume.now a.medium a.store a.reader r.result r.ensures (c.in_ok-found.was ∙ ap Ok w.in-End.is))
    ]
