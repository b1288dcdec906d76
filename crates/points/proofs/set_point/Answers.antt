use Rattle.points.proofs.Offers.{asked_short, set_refused, set_unread, set_known, set_absent, set_there}
use Rattle.points.proofs.set_point.Goals as goal

pub returns-in-Err : goal.returns-in-Err
returns-in-Err c =
    let a = c.args in
    set_refused a.volume.now a.medium a.store a.point.now a.name.now c.name_ok.ensures c.asked.ensures
    c.not_set.result c.in-Err.is c.not_set.ensures

pub set_from-requires : goal.set_from-requires
set_from-requires c = asked_short _ _ c.asked.ensures c.in_default.is

pub set_from-requires-in-Ok-Unset : goal.set_from-requires-in-Ok-Unset
set_from-requires-in-Ok-Unset c = asked_short _ _ c.asked.ensures c.in_default.is

pub returns-in-Err-look : goal.returns-in-Err-look
returns-in-Err-look c =
    let a = c.args in
    set_unread a.volume.now a.medium a.store a.point.now a.name.now c.name_ok.ensures c.asked.ensures
    c.not_set-in-Err-look.result c.in_default.is _ c.look.ensures c.in-Err-look.is c.not_set-in-Err-look.ensures

pub returns-in-Ok-Absent : goal.returns-in-Ok-Absent
returns-in-Ok-Absent c =
    let a = c.args in
    set_absent a.volume.now a.medium a.store a.point.now a.name.now c.name_ok.ensures c.asked.ensures
    c.set_from.result c.in_default.is _ c.look.ensures c.in-Ok-Absent.is c.in-Ok-Absent.field-0-is c.set_from.ensures.0 c.set_from.ensures.1

pub returns-in-Ok-Unset : goal.returns-in-Ok-Unset
returns-in-Ok-Unset c =
    let a = c.args in
    set_there a.volume.now a.medium a.store a.point.now a.name.now c.name_ok.ensures c.asked.ensures
    c.set_from-in-Ok-Unset.result c.in_default.is _ c.look.ensures c.in-Ok-Unset.is c.in-Ok-Unset.field-0-is c.set_from-in-Ok-Unset.ensures.0 c.set_from-in-Ok-Unset.ensures.1

pub returns-in-Ok-Line : goal.returns-in-Ok-Line
returns-in-Ok-Line c =
    let a = c.args in
    set_known a.volume.now a.medium a.store a.point.now a.name.now c.name_ok.ensures c.asked.ensures
    c.not_set-in-Ok-Line.result c.in_default.is _ c.look.ensures c.in-Ok-Line.is c.in-Ok-Line.field-0-is c.not_set-in-Ok-Line.ensures
