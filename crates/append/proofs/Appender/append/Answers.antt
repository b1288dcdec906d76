use borrow.Author.Rules.{rules}
use mathlib.Core.Path.{◌≡◌, sym, ◌∙◌}
use lib.ListN.{length}
use Rattle.append.specs.Calls.{append_call}
use Rattle.append.specs.Flush.{append_of}
use Rattle.append.proofs.Facts.{May, may_facts}
use Rattle.append.proofs.Offers.{offer_refused, offer_done}
use Rattle.append.proofs.Appender.append.Goals as goal

pub returns-in-Err : goal.returns-in-Err
unfolding append_call
returns-in-Err c =
    let a = c.args in
    offer_refused a.volume.now a.medium a.store a.self (append_of a.bytes.now a.volume.now a.medium a.store a.self)
    c.check-o.ensures c.in-Err.is c.stopped.ensures

pub put-requires : goal.put-requires
put-requires c =
    let a = c.args in
    let n : length a.self.buffer ≡ 486 = search (rules, c.well_formed.0) in
    let f : May a.volume.now a.store a.self = may_facts a.volume.now a.store a.self n
    (sym c.check-o.ensures ∙ c.in_default.is) in
    (f.ok, f.fit, f.room)

pub returns : goal.returns
unfolding append_call
returns c =
    let a = c.args in
    offer_done a.volume.now a.medium a.store a.self (append_of a.bytes.now a.volume.now a.medium a.store a.self)
    c.check-o.ensures c.in_default.is c.put.ensures
