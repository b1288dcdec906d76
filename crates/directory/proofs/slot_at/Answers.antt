use Rattle.std.proofs.Common.{ap, sym, ◌∙◌}
use Rattle.medium.specs.Refusal.{on_done}
use Rattle.directory.specs.Entry.{entry_of, slot_at}
use Rattle.directory.proofs.Entries.{found_file}
use Rattle.directory.proofs.Places.{entry_slice}
use Rattle.directory.proofs.slot_at.Goals as goal

pub returns-clause-read : goal.returns-clause-read
unfolding slot_at on_done
returns-clause-read c =
    let a = c.args in
    let due = sym c.due.ensures ∙ c.in_ok-due.was in
    rw due (c.decode_entry.ensures ∙ ap entry_of (entry_slice a.volume.now a.store a.slot c.entry_place-a.ensures.0))

pub returns-clause-short : goal.returns-clause-short
returns-clause-short c = λ file q. (found_file c.args.volume.now c.args.medium c.args.store c.args.slot (returns-clause-read c) q).short
