-- A finer book: 01's book, and beside it what each id's chunks hold, in order, the next id and the sectors per chunk. A step changes the parts of one
-- id: a created file has one empty part, an extension adds one, a record goes behind the last. Only an accepted format sets the next id and the size
-- anew. Forgetting all that gives 01's book, step by step and call by call. Assumes nothing.
use Prim.Native.Nat.{ℕ, ◌+◌}
use mathlib.Core.Path.{◌≡◌, refl, ap, ◌∙◌}
use mathlib.Core.Bool.{Bool, true, false}
use mathlib.Core.Option.{Option}
use mathlib.Core.List.{List, [], ◌∷◌, ◌++◌}
use lib.Dec.{eqb}
use lib.ListN.{take}
use Rattle.le.specs.Choice.{pick}
use Rattle.reading.specs.Below.{Parts}
use Rattle.plan.specs.Copy.{Kind, formatted, rolled_over, deleted, deleted_oldest, created, extended, recorded}
use Rattle.power.specs.Calls.{Call, mount, format, create, open_append, append, sync, delete, delete_oldest, query}
use Rattle.power.specs.Book as book
use Rattle.power.specs.Book.{File, Book, Fed, Terms, terms_of}
use Rattle.power.specs.History.{World, ran, fed_by, book_of}

pub record Fine : Type 0 where
  pub next : ℕ
  pub files : List File
  pub file : ℕ
  pub rollover : Option (List ℕ)
  pub unwritten : List ℕ
  pub parts : ℕ → Parts
  pub ids : ℕ
  pub size : ℕ

abbrev pub forget : Fine → Book
forget b = record { next = b.next; files = b.files; file = b.file; rollover = b.rollover; unwritten = b.unwritten }

-- ---- the parts of one id

unfoldable pub on_part : ℕ → (Parts → Parts) → (ℕ → Parts) → ℕ → Parts
on_part id u f i = pick (eqb i id) (u (f i)) (f i)

abbrev pub first_part : Parts → Parts
first_part ps = [] ∷ []

abbrev pub more_part : Parts → Parts
more_part ps = ps ++ ([] ∷ [])

-- behind the last payload of the last chunk
unfoldable pub last_part : List ℕ → Parts → Parts
last_part x [] = []
last_part x (p ∷ []) = (p ++ (x ∷ [])) ∷ []
last_part x (p ∷ q ∷ ps) = p ∷ last_part x (q ∷ ps)

-- ---- steps: 01's book goes as 01 says, and the rest beside it

abbrev pub beside : Book → (ℕ → Parts) → ℕ → ℕ → Fine
beside x parts ids size =
    record { next = x.next; files = x.files; file = x.file; rollover = x.rollover; unwritten = x.unwritten; parts = parts; ids = ids; size = size }

abbrev pub with_files : List File → Fine → Fine
with_files fs b = beside (book.with_files fs (forget b)) b.parts b.ids b.size

abbrev parts_by : Kind → Fine → ℕ → Parts
parts_by created b = on_part b.ids first_part b.parts
parts_by extended b = on_part b.file more_part b.parts
parts_by recorded b = on_part b.file (last_part (take 486 b.unwritten)) b.parts
parts_by formatted b = b.parts
parts_by rolled_over b = b.parts
parts_by deleted b = b.parts
parts_by deleted_oldest b = b.parts

abbrev ids_by : Kind → ℕ → ℕ
ids_by created n = n + 1
ids_by extended n = n
ids_by recorded n = n
ids_by formatted n = n
ids_by rolled_over n = n
ids_by deleted n = n
ids_by deleted_oldest n = n

unfoldable pub entered : Terms → Kind → Fine → Fine
entered t k b = beside (book.entered t k (forget b)) (parts_by k b) (ids_by k b.ids) b.size

unfoldable pub entered_all : Terms → List Kind → Fine → Fine
entered_all t [] b = b
entered_all t (k ∷ ks) b = entered_all t ks (entered t k b)

-- ---- calls

unfoldable pub before_steps : Call → Fine → Fine
before_steps c b = beside (book.before_steps c (forget b)) b.parts b.ids b.size

abbrev pub opened_for : ℕ → Option (List ℕ) → Fine → Fine
opened_for id dir b = beside (book.opened_for id dir (forget b)) b.parts b.ids b.size

-- an accepted format sets the next id and the size
abbrev formats : Call → (ℕ → ℕ) → ℕ → ℕ
formats (format m size seed) f n = f size
formats (mount m) f n = n
formats (create rules left name rolls dir) f n = n
formats (open_append rules left name rolls dir) f n = n
formats (append left bytes) f n = n
formats (sync left) f n = n
formats (delete left name) f n = n
formats (delete_oldest left dir) f n = n
formats (query q) f n = n

unfoldable pub after_steps : Call → Fine → Fine
after_steps c b = beside (book.after_steps c (forget b)) b.parts (formats c (λ size. 1) b.ids) (formats c (λ size. size) b.size)

unfoldable pub written : Call → Fed → Fine → Fine
written c fed b =
    let b' : Fine = entered_all (terms_of c fed.open_file (forget b)) fed.kinds (before_steps c b) in
    pick fed.accepted (after_steps c b') b'

abbrev pub new_fine : ℕ → Fine
new_fine size = beside book.new_book (λ i. []) 1 size

unfoldable pub fine_of : World → List Call → Fine → Fine
fine_of w [] b = b
fine_of w (c ∷ cs) b = fine_of (ran w c).world cs (written c (fed_by w c) b)

-- ---- forgetting the parts gives 01's book

forget_all : (t : Terms) (ks : List Kind) (b : Fine) → forget (entered_all t ks b) ≡ book.entered_all t ks (forget b)
unfolding entered_all entered book.entered_all
forget_all t [] b = refl
forget_all t (k ∷ ks) b = forget_all t ks (entered t k b)

forget_pick : (t : Bool) (x y : Fine) → forget (pick t x y) ≡ pick t (forget x) (forget y)
unfolding pick
forget_pick true x y = refl
forget_pick false x y = refl

pub forget_written : (c : Call) (fed : Fed) (b : Fine) → forget (written c fed b) ≡ book.written c fed (forget b)
unfolding written before_steps after_steps book.written
forget_written c fed b =
    let t : Terms = terms_of c fed.open_file (forget b) in
    let b' : Fine = entered_all t fed.kinds (before_steps c b) in
    forget_pick fed.accepted (after_steps c b') b'
    ∙ ap (λ (x : Book). pick fed.accepted (book.after_steps c x) x) (forget_all t fed.kinds (before_steps c b))

pub forget_history : (w : World) (cs : List Call) (b : Fine) → forget (fine_of w cs b) ≡ book_of w cs (forget b)
unfolding fine_of book_of
forget_history w [] b = refl
forget_history w (c ∷ cs) b =
    forget_history (ran w c).world cs (written c (fed_by w c) b)
    ∙ ap (book_of (ran w c).world cs) (forget_written c (fed_by w c) b)
