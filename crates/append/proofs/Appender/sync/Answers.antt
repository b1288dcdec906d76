use borrow.Author.Rules.{rules}
use mathlib.Core.Path.{◌≡◌, sym, ◌∙◌}
use lib.ListN.{length}
use Rattle.append.specs.Calls.{sync_call}
use Rattle.append.specs.Flush.{sync_of}
use Rattle.append.proofs.Facts.{May, may_facts}
use Rattle.append.proofs.Offers.{offer_refused, offer_done, sync_flushed}
use Rattle.append.proofs.Appender.sync.Goals as goal

pub returns-in-Err : goal.returns-in-Err
unfolding sync_call
returns-in-Err c =
    let a = c.args in
    offer_refused a.volume.now a.medium a.store a.self (sync_of a.volume.now a.medium a.store a.self) c.check-o.ensures
    c.in-Err.is c.stopped.ensures

pub flush-requires : goal.flush-requires
flush-requires c =
    let a = c.args in
    let n : length a.self.buffer ≡ 486 = search (rules, c.well_formed.0) in
    let f : May a.volume.now a.store a.self = may_facts a.volume.now a.store a.self n
    (sym c.check-o.ensures ∙ c.in_default.is) in
    (f.ok, f.fit)

pub returns : goal.returns
unfolding sync_call
returns c =
    let a = c.args in
    let some : a.self.fill ≡ 0 → ⊥ = search rules in
    offer_done a.volume.now a.medium a.store a.self (sync_of a.volume.now a.medium a.store a.self) c.check-o.ensures
    c.in_default.is (sync_flushed a.volume.now a.medium a.store a.self some c.flush.ensures)
