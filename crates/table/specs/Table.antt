-- 01, "Link": The free chunk taken is the first at or after the cursor, going round. A chain passes when some link has position 0 and the largest
-- position is the count − 1. Where positions repeat, reading takes the highest chunk number; appending takes the lowest with the largest position.
-- And "Directory entry": the count buffer holds the chunks linked to each slot; a state refusal keeps the counts made before it. Assumes nothing.
use Rattle.std.specs.Prelude.{ℕ, ◌+◌, ◌-◌, ◌*◌, ◌%◌, ◌<◌, Bool, ◌&&◌, ◌||◌, List, eqb, ltb, get_or, set, Option, Some, None, Result, Ok, Err}
use Rattle.std.specs.Option.{ok_or}
use Rattle.le.specs.Choice.{pick}
use Rattle.medium.specs.declared.Error.{Error}
use Rattle.medium.specs.declared.Error.TheVariants.{Corrupt}
use Rattle.medium.specs.declared.Medium.{Medium}
use Rattle.handles.specs.declared.Store.{Store}
use Rattle.handles.specs.Handles.{table_of}
use Rattle.walk.specs.Walk.{Visit, next, stop, visits}
use Rattle.table.specs.declared.Link.{Link}
use Rattle.table.specs.declared.LinkAt.{LinkAt}
use Rattle.table.specs.declared.LinkAt.TheVariants as link
use Rattle.table.specs.declared.Place.{Place}
use Rattle.table.specs.declared.ChainState.{ChainState}
use Rattle.table.specs.declared.ChainParts.{ChainParts}
use Rattle.table.specs.Link.{link_at}

-- what a walk of the table does: at a refusal, at a free chunk, at a linked one, at the end
pub record TableVisit (S R : Type 0) : Type 0 where
  pub refuse : Error → S → R
  pub free : ℕ → S → S
  pub linked : ℕ → Link → S → S
  pub done : S → R

abbrev pub on_link : {S R : Type 0} → TableVisit S R → ℕ → S → Result LinkAt Error → Visit S R
on_link v i s (Err e) = stop (v.refuse e s)
on_link v i s (Ok link.Past) = next s
on_link v i s (Ok link.Free) = next (v.free i s)
on_link v i s (Ok (link.Linked l)) = next (v.linked i l s)

-- links in the table's sectors
abbrev pub links_of : ℕ → ℕ
links_of chunks = table_of chunks * 128

-- the walk of the whole table
abbrev pub over_table : {S R : Type 0} → TableVisit S R → List ℕ → Medium → Store → S → R
over_table v vol m st s = visits (on_link v) (link_at vol m st) v.done (links_of st.head.chunks) 0 s

-- a link of the slot at the position
abbrev pub sought : ℕ → ℕ → Link → Bool
sought slot position l = eqb l.slot slot && eqb l.position position

-- a chunk with its link
abbrev pub place_at : ℕ → Link → Place
place_at i l = record { chunk = i; link = l }

-- the chunk that has it: of several the last, and without one the table is corrupt
unfoldable pub locate_step : ℕ → ℕ → ℕ → Link → Option Place → Option Place
locate_step slot position i l s = pick (sought slot position l) (Some (place_at i l)) s

abbrev pub locate_v : ℕ → ℕ → TableVisit (Option Place) (Result Place Error)
locate_v slot position =
    record { refuse = λ e s. Err e; free = λ i s. s; linked = locate_step slot position; done = λ s. ok_or s Corrupt }

unfoldable pub locate_of : List ℕ → Medium → Store → ℕ → ℕ → Result Place Error
locate_of vol m st slot position = over_table (locate_v slot position) vol m st None

-- the chain of a slot: its count, the chunk of position 0, of several the last, and the first chunk with the largest position
unfoldable pub first_step : ℕ → Link → Option Place → Option Place
first_step i l s = pick (eqb l.position 0) (Some (place_at i l)) s

abbrev pub higher : Link → ChainState → Bool
higher l s = eqb s.count 0 || ltb s.top l.position

unfoldable pub chain_more : ℕ → Link → ChainState → ChainState
chain_more i l s =
    record {
      count = s.count + 1;
      first = first_step i l s.first;
      top = pick (higher l s) l.position s.top;
      last = pick (higher l s) i s.last;
    }

unfoldable pub chain_step : ℕ → ℕ → Link → ChainState → ChainState
chain_step slot i l s = pick (eqb l.slot slot) (chain_more i l s) s

-- it passes when some link has position 0 and the largest position is the count - 1
abbrev pub whole_of : ChainState → Option Place → Result ChainParts Error
whole_of s None = Err Corrupt
whole_of s (Some p) =
    pick (eqb (s.top + 1) s.count)
    (Ok (record { count = s.count; first = p.chunk; partial = p.link.partial; records = p.link.records; last = s.last }))
    (Err Corrupt)

unfoldable pub chain_end : ChainState → Result ChainParts Error
chain_end s = whole_of s s.first

abbrev pub no_chain : ChainState
no_chain = record { count = 0; first = None; top = 0; last = 0 }

abbrev pub chain_v : ℕ → TableVisit ChainState (Result ChainParts Error)
chain_v slot = record { refuse = λ e s. Err e; free = λ i s. s; linked = chain_step slot; done = chain_end }

unfoldable pub chain_of : List ℕ → Medium → Store → ℕ → Result ChainParts Error
chain_of vol m st slot = over_table (chain_v slot) vol m st no_chain

-- chunks from the cursor on to a chunk, going round
unfoldable pub distance_of : ℕ → ℕ → ℕ → ℕ
distance_of cursor chunks i = (i + (chunks - cursor)) % chunks

-- the free chunk that is nearest so
unfoldable pub free_step : ℕ → ℕ → ℕ → Option ℕ → Option ℕ
free_step cursor chunks i None = Some i
free_step cursor chunks i (Some b) = pick (ltb (distance_of cursor chunks i) (distance_of cursor chunks b)) (Some i) (Some b)

abbrev pub free_v : ℕ → ℕ → TableVisit (Option ℕ) (Result (Option ℕ) Error)
free_v cursor chunks = record { refuse = λ e s. Err e; free = free_step cursor chunks; linked = λ i l s. s; done = Ok }

unfoldable pub walk_free_of : List ℕ → Medium → Store → Result (Option ℕ) Error
walk_free_of vol m st = over_table (free_v st.head.cursor st.head.chunks) vol m st None

-- a pick, if there is one, lies before chunk i
abbrev pub Before : ℕ → Option ℕ → Type 0
Before i None = Unit
Before i (Some b) = b < i

-- the chunks linked to each slot, added to the counts; a refusal keeps what was counted before it
pub record Counted : Type 0 where
  pub outcome : Result Unit Error
  pub counts : List ℕ

abbrev pub count_v : TableVisit (List ℕ) Counted
count_v =
    record {
      refuse = λ e s. record { outcome = Err e; counts = s };
      free = λ i s. s;
      linked = λ i l s. set s l.slot (get_or s l.slot 0 + 1);
      done = λ s. record { outcome = Ok tt; counts = s };
    }

unfoldable pub count_of : List ℕ → Medium → Store → List ℕ → Counted
count_of vol m st counts = over_table count_v vol m st counts

-- ---- decisions by what a walk answers. They stay shut in proofs

unfoldable pub on_place : {A : Type 0} → Result Place Error → (Error → A) → (ℕ → Link → A) → A
on_place (Err e) f g = f e
on_place (Ok p) f g = g p.chunk p.link

unfoldable pub on_chain : {A : Type 0} → Result ChainParts Error → (Error → A) → (ChainParts → A) → A
on_chain (Err e) f g = f e
on_chain (Ok p) f g = g p

unfoldable pub on_pick : {A : Type 0} → Result (Option ℕ) Error → (Error → A) → A → (ℕ → A) → A
on_pick (Err e) f a g = f e
on_pick (Ok None) f a g = a
on_pick (Ok (Some chunk)) f a g = g chunk
