-- The calls that only read keep the invariant: they hand the medium record back as it was, make no step, and leave the book as it is. Assumes nothing.
use mathlib.Core.Path.{◌≡◌, refl}
use mathlib.Core.Bool.{Bool, true, false}
use Rattle.le.specs.Choice.{pick}
use Rattle.medium.specs.declared.Medium.{Medium}
use Rattle.medium.specs.Sector.{Readable}
use Rattle.writes.proofs.Nothing.{list_medium, find_medium, reader_medium, next_medium, seek_medium}
use Rattle.power.specs.Calls.{Query, list, find, reader, next, seek, query}
use Rattle.power.specs.History.{World, answered, ran, fed_by}
use Rattle.power.specs.Book as book
use Rattle.power.proofs.Fine.{Fine, entered_all, before_steps, after_steps, written}
use Rattle.power.proofs.Whole.{Keeps}

-- ---- the book of a call that makes no step and settles nothing

pub pick_same : {A : Type 0} (t : Bool) (x : A) → pick t x x ≡ x
unfolding pick
pick_same true x = refl
pick_same false x = refl

-- ---- the calls

-- another record of the medium, of which as many sectors read
pub keeps_medium : {w : World} {b : Fine} (u : Medium) → Readable w.vol u → Keeps w b
    → Keeps (record { vol = w.vol; store = w.store; appender = w.appender; medium = u }) b
keeps_medium u r k = record { layout = k.layout; whole = k.whole; owns = record { writes = k.owns.writes }; readable = r }

pub query_book : (q : Query) (w : World) (b : Fine) → written (query q) (fed_by w (query q)) b ≡ b
unfolding written fed_by ran entered_all before_steps book.before_steps after_steps book.after_steps answered
query_book (list dir counts rows) w b = pick_same _ b
query_book (find name) w b = pick_same _ b
query_book (reader name) w b = pick_same _ b
query_book (next rd out) w b = pick_same _ b
query_book (seek rd number) w b = pick_same _ b

pub query_world : (q : Query) (w : World) → (ran w (query q)).world ≡ w
unfolding ran answered
query_world (list dir counts rows) w = rw (list_medium w.vol w.medium w.store dir counts rows) refl
query_world (find name) w = rw (find_medium w.vol w.medium w.store name) refl
query_world (reader name) w = rw (reader_medium w.vol w.medium w.store name) refl
query_world (next rd out) w = rw (next_medium w.vol w.medium w.store rd out) refl
query_world (seek rd number) w = rw (seek_medium w.vol w.medium w.store rd number) refl

pub query_keeps : (q : Query) (w : World) (b : Fine) → Keeps w b → Keeps (ran w (query q)).world (written (query q) (fed_by w (query q)) b)
query_keeps q w b k = rw (query_world q w, query_book q w b) k
