use Rattle.handles.specs.Handles.{store_ok}
use Rattle.handles.proofs.Store.handle_ok.Goals as goal

pub returns : goal.returns
unfolding store_ok
returns c = rw (c.sane.ensures, c.map_ok.ensures)
