use native.Mathlib.Omega.{arith}
use Rattle.format.proofs.Writes.{first_refused, body_refused, last_refused, made}
use Rattle.format.proofs.make.Goals as goal

pub returns-in-Err : goal.returns-in-Err
returns-in-Err c =
    let a = c.args in
    first_refused a.copy a.head a.volume.now a.medium c.write_unmarked-z.ensures.0 c.write_unmarked-z.ensures.1
    c.in-Err.is c.refused.ensures

pub zero_body-b-requires : goal.zero_body-b-requires
zero_body-b-requires c =
    (omega (arith, c.write_unmarked-z.auto.volume, c.requires.0), c.requires.1, c.requires.2)

pub returns-in-Err-zeroed : goal.returns-in-Err-zeroed
returns-in-Err-zeroed c =
    let a = c.args in
    body_refused a.copy a.head a.volume.now a.medium c.write_unmarked-z.ensures.0 c.write_unmarked-z.ensures.1 c.requires.2
    c.in_default.is c.zero_body-b.ensures.0 c.zero_body-b.ensures.1 c.in-Err-zeroed.is
    c.refused-in-Err-zeroed.ensures

pub write_head-w-requires : goal.write_head-w-requires
write_head-w-requires c =
    (omega (arith, c.write_unmarked-z.auto.volume, c.zero_body-b.auto.volume, c.requires.0), c.requires.1)

pub returns-in-Err-last : goal.returns-in-Err-last
returns-in-Err-last c =
    let a = c.args in
    last_refused a.copy a.head a.volume.now a.medium c.write_unmarked-z.ensures.0 c.write_unmarked-z.ensures.1 c.requires.2
    c.in_default.is c.zero_body-b.ensures.0 c.zero_body-b.ensures.1 c.in_default-zeroed.is
    c.write_head-w.ensures.0 c.write_head-w.ensures.1 c.in-Err-last.is c.refused-in-Err-last.ensures

pub full-free-requires : goal.full-free-requires
full-free-requires c = omega (arith, c.requires.1)

pub returns : goal.returns
returns c =
    let a = c.args in
    made a.copy a.head a.volume.now a.medium c.write_unmarked-z.ensures.0 c.write_unmarked-z.ensures.1 c.requires.2
    c.in_default.is c.zero_body-b.ensures.0 c.zero_body-b.ensures.1 c.in_default-zeroed.is
    c.write_head-w.ensures.0 c.write_head-w.ensures.1 c.full-free.ensures c.in_default-last.is
