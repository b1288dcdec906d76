use Rattle.le.proofs.Turns.{told}
use Rattle.points.specs.Told.{sought_of, sight_of}
use Rattle.points.proofs.scan.sight_of.Goals as goal

pub returns-in-None : goal.returns-in-None
unfolding sought_of sight_of
returns-in-None c = rw c.in-None.is

pub returns-in-None-says : goal.returns-in-None-says
unfolding sought_of sight_of
returns-in-None-says c =
    rw (c.in-Some.is, told c.says.ensures c.in-None-says.is)

pub returns-in-Some-says : goal.returns-in-Some-says
unfolding sought_of sight_of
returns-in-Some-says c =
    rw (c.in-Some.is, told c.says.ensures c.in-Some-says.is)
