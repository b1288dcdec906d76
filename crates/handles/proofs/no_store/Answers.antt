use Rattle.handles.specs.Handles.{no_store}
use Rattle.handles.proofs.no_store.Goals as goal

pub returns : goal.returns
unfolding no_store
returns c = cc
