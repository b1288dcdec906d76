-- The first write of a commit: the other header is no copy from then on, until the new one is whole. Assumes nothing.
use mathlib.Core.Path.{◌≡◌}
use mathlib.Core.List.{List}
use Prim.Native.Nat.{ℕ}
use Rattle.handles.specs.declared.Store.{Store}
use Rattle.header.specs.declared.answers.Current.{Current}
use Rattle.header.specs.declared.codec.Replica.TheVariants.{Absent}
use Rattle.header.specs.Header.{bare, decode_of}
use Rattle.header.proofs.RoundTrip.{zeros_absent}
use Rattle.plan.specs.declared.Edit.{Edit}
use Rattle.commit.specs.Commit.{commit_plan}

pub commit_first : (c : Current) (edit : Edit) (name : List ℕ) (st : Store) (sectors : ℕ) → decode_of (commit_plan c edit name st).first sectors ≡ bare Absent
unfolding commit_plan
commit_first c edit name st sectors = zeros_absent sectors
