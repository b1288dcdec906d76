-- Mount keeps the invariant: it is accepted, and its store is the one that there was, with no writer. Assumes nothing.
use mathlib.Core.Path.{◌≡◌, refl}
use Rattle.medium.specs.declared.Medium.{Medium}
use Rattle.medium.specs.Sector.{Readable}
use Rattle.power.specs.Calls.{mount}
use Rattle.power.specs.History.{World, ran, fed_by}
use Rattle.power.specs.Book as book
use Rattle.power.proofs.Fine.{Fine, entered_all, before_steps, after_steps, written}
use Rattle.power.proofs.Whole.{Keeps}
use Rattle.power.proofs.Stays.{owns_none}
use Rattle.power.proofs.Shown.{as_mounted, mount_gives, whole_mounted}
use Rattle.power.proofs.Queries.{pick_same}

mount_book : (m : Medium) (w : World) (b : Fine) → written (mount m) (fed_by w (mount m)) b ≡ b
unfolding written fed_by ran entered_all before_steps book.before_steps after_steps book.after_steps
mount_book m w b = pick_same _ b

mount_world : (m : Medium) (w : World) (b : Fine) → Keeps w b → Readable w.vol m
    → (ran w (mount m)).world ≡ record { vol = w.vol; store = as_mounted w.vol m w.store; appender = w.appender; medium = m }
unfolding ran
mount_world m w b k r = rw (mount_gives w.vol m w.store k.whole.inv r)

pub mount_keeps : (m : Medium) (w : World) (b : Fine) → Keeps w b → Readable w.vol m → Keeps (ran w (mount m)).world (written (mount m) (fed_by w (mount m)) b)
mount_keeps m w b k r =
    rw (mount_world m w b k r, mount_book m w b)
    (record { layout = k.layout; whole = whole_mounted m k.whole; owns = owns_none refl; readable = r })
