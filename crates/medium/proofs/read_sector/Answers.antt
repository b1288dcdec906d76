use mathlib.Core.Path.{◌≡◌, refl, sym, ◌∙◌}
use Rattle.medium.proofs.Laws.{read_whole}
use Rattle.le.proofs.Turns.{told}
use Rattle.medium.specs.Refusal.{on_done}
use borrow.Author.Rules.{rules}
use Rattle.std.proofs.Common.{Err}
use Rattle.medium.proofs.read_sector.Goals as goal

pub returns-in_err-readable : goal.returns-in_err-readable
unfolding on_done
returns-in_err-readable c =
    let e : c.from_residual.result ≡ Err c.in_err-readable.field-0.0 = search rules in
    (e ∙ told c.in_err-readable.was c.readable.ensures, rw (told c.readable.ensures c.in_err-readable.was) refl)

pub returns : goal.returns
unfolding on_done
returns c =
    let t = told c.readable.ensures c.in_ok-readable.was in
    (sym t, c.put_bytes.ensures ∙ read_whole c.args.volume.now c.args.sector.now c.args.at c.requires c.told-sector ∙ rw t refl)
