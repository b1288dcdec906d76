-- Demand 3: the calls of a history, with their arguments. Writes left is set anew, to any number, with each call that can write and with open_append,
-- which writes nothing; a mount or format gets a whole medium record. A read or seek gets any reader. Assumes nothing.
use Rattle.std.specs.Prelude.{ℕ, Bool, List}
use Rattle.medium.specs.declared.Medium.{Medium}
use Rattle.reader.specs.declared.Reader.{Reader}

-- the calls that only read
pub data Query : Type 0 where
  list : (dir counts rows : List ℕ) → Query
  find : (name : List ℕ) → Query
  reader : (name : List ℕ) → Query
  next : (rd : Reader) (out : List ℕ) → Query
  seek : (rd : Reader) (number : ℕ) → Query

-- S-5: the rules that a create or an opening goes by: those from before that request, which are 01's, or those since
pub data Rules : Type 0 where
  earlier : Rules
  present : Rules

-- of create and open_append: the rules then in force, whether a rollover is set, and its directory
pub data Call : Type 0 where
  mount : Medium → Call
  format : (m : Medium) (size seed : ℕ) → Call
  create : (rules : Rules) (left : ℕ) (name : List ℕ) (rolls : Bool) (dir : List ℕ) → Call
  open_append : (rules : Rules) (left : ℕ) (name : List ℕ) (rolls : Bool) (dir : List ℕ) → Call
  append : (left : ℕ) (bytes : List ℕ) → Call
  sync : (left : ℕ) → Call
  delete : (left : ℕ) (name : List ℕ) → Call
  delete_oldest : (left : ℕ) (dir : List ℕ) → Call
  query : Query → Call
