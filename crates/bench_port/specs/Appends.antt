-- A loop of appends, for bench: how many calls were accepted, and the volume after them. Assumes nothing.
use Rattle.std.specs.Prelude.{ℕ, zero, suc, ◌+◌, false, List}
use Rattle.medium.specs.declared.Medium.{Medium}
use Rattle.medium.specs.Refusal.{Answer, ok, refused}
use Rattle.handles.specs.declared.Store.{Store}
use Rattle.append.specs.declared.Appender.{Appender}
use Rattle.append.specs.Calls.{AppTold, AppCall, append_call}
use Rattle.store.specs.Reading.{StoreCall, mount_call}
use Rattle.store.specs.Opening.{open_call}

-- 1 where a call was accepted
abbrev pub once_of : Answer Unit → ℕ
once_of (ok _) = 1
once_of (refused _) = 0

-- the same bytes so many times, after n calls that were accepted: each call has what the one before handed back
unfoldable pub appends_of : ℕ → ℕ → List ℕ → List ℕ → Medium → Store → Appender → ℕ × List ℕ
appends_of zero n bytes vol m st ap = (n, vol)
appends_of (suc k) n bytes vol m st ap =
    let c : AppCall = append_call vol m st ap bytes in
    appends_of k (n + once_of c.call.answer) bytes c.vol c.call.medium c.call.store c.call.appender

-- mount, open_append without a rollover, and the appends; a refusal of the first two hands on what no append accepts
unfoldable pub times_of : List ℕ → ℕ → ℕ → ℕ → List ℕ → List ℕ → ℕ → ℕ × List ℕ
times_of vol left unreadable entropy name bytes times =
    let s : StoreCall = mount_call vol (record { left = left; unreadable = unreadable; entropy = entropy; token = 0 }) in
    let o : AppTold = (open_call vol s.medium s.store name false name).call in
    appends_of times 0 bytes vol o.medium o.store o.appender
