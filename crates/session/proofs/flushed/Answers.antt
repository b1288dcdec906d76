use Rattle.std.proofs.Common.{◌≡◌, Err, refl, rules}
use Rattle.session.proofs.Ways.{room_not, room_refused, room_is}
use Rattle.session.proofs.flushed.Goals as goal

pub returns-in_err-f : goal.returns-in_err-f
returns-in_err-f c =
    let f = c.args.f in
    let e : c.from_residual.result ≡ Err c.in_err-f.field-0.0 = search rules in
    (refl, rw e (room_not f.outcome f.appender c.in_err-f.was))

pub returns-in-Refused : goal.returns-in-Refused
returns-in-Refused c =
    let f = c.args.f in
    (refl, room_refused f.outcome f.appender c.in_ok-f.was c.room.ensures c.in-Refused.is)

pub returns-in-Is : goal.returns-in-Is
returns-in-Is c =
    let f = c.args.f in
    (refl, room_is f.outcome f.appender c.in_ok-f.was c.room.ensures c.in-Is.is)
