-- The starred rows of 01's Edges hold. Assumes nothing.
use Rattle.std.specs.Prelude.{None}
use Rattle.std.specs.Prelude.{Err, Ok}
use mathlib.Core.Path.{◌≡◌, ap, ◌∙◌}
use mathlib.Core.Bool.{Bool, true, false, not, ◌&&◌, ◌||◌, and-false}
use mathlib.Core.List.{List}
use Prim.Native.Nat.{ℕ, ◌≤◌}
use Rattle.le.specs.Choice.{pick}
use Rattle.names.specs.Names.{name_ok, dir_ok}
use Rattle.medium.specs.declared.Error.TheVariants.{Name}
use Rattle.medium.specs.declared.Medium.{Medium}
use Rattle.medium.specs.Refusal.{ok, refused, on_done, outcome_of}
use Rattle.medium.specs.Sector.{sectors_of, read_of}
use Rattle.freemap.specs.Map.{unfit_of}
use Rattle.handles.specs.declared.Header.{Header}
use Rattle.handles.specs.declared.Store.{Store}
use Rattle.handles.specs.Handles.{store_ok}
use Rattle.header.specs.Header.{ours}
use Rattle.header.specs.Copies.{copy_of}
use Rattle.format.proofs.Edges.{none_575, one_576}
use Rattle.header.proofs.Edges.{zeroed_refused, equal_takes_a}
use Rattle.names.proofs.Edges.{edges}
use Rattle.names.proofs.Laws.{in_root}
use Rattle.table.proofs.Edges.{edge_written}
use Rattle.append.specs.Calls.{AppCall, call_of}
use Rattle.append.specs.Flush.{AppOut}
use Rattle.files.specs.Opened.{refused_at}
use Rattle.store.specs.Asked.{asked_of}
use Rattle.store.specs.Edges.{NameRefused, DirRefused, Starred}
use Rattle.store.specs.Reading.{filled_of, mount_call, find_call, list_call, reader_call}
use Rattle.store.specs.Writing.{format_call, delete_call, oldest_told, oldest_call}
use Rattle.store.specs.Opening.{open_fine, admitted_of}
use Rattle.store.proofs.Appends.{append_485, append_486, append_487}
use Rattle.store.proofs.Lists.{long_enough}
use Rattle.store.proofs.Admits.{create_is, open_is}

module _ (vol : List ℕ) (m : Medium) (st : Store) (passes : store_ok st (sectors_of vol) ≡ true) where
  asked_no : (fine : Bool) → fine ≡ false → asked_of vol st fine ≡ Err Name
  unfolding asked_of pick
  asked_no fine h = rw (passes, h)

  opening_no : (name : List ℕ) (rolls : Bool) (dir : List ℕ) (work : AppOut) {c : AppCall} → open_fine name rolls dir ≡ false
      → c ≡ call_of (on_done (admitted_of vol st name rolls dir) work (refused_at vol m st)) → c.call.answer ≡ refused 1
  unfolding admitted_of on_done
  opening_no name rolls dir work h e = rw (e, asked_no (open_fine name rolls dir) h)

  name_refused : (name : List ℕ) → name_ok name ≡ false → NameRefused vol m st name
  unfolding find_call reader_call delete_call on_done
  name_refused name h =
      let no = asked_no (name_ok name) h in
      let unfit : (rolls : Bool) (dir : List ℕ) → open_fine name rolls dir ≡ false = λ rolls dir. ap (λ (t : Bool). t && (not rolls || dir_ok dir)) h in
      record {
        create = λ rolls dir. opening_no name rolls dir _ (unfit rolls dir) (create_is vol st name rolls dir m);
        open_append_lem = λ rolls dir. opening_no name rolls dir _ (unfit rolls dir) (open_is vol st name rolls dir m);
        find = rw no;
        reader = rw no;
        delete = rw no;
      }

  dir_refused : (dir : List ℕ) → dir_ok dir ≡ false → DirRefused vol m st dir
  unfolding oldest_call oldest_told list_call pick on_done
  dir_refused dir h =
      let no = asked_no (dir_ok dir) h in
      let unfit : (name : List ℕ) → open_fine name true dir ≡ false = λ name. ap (λ (t : Bool). name_ok name && t) h ∙ and-false (name_ok name) in
      record {
        create = λ name. opening_no name true dir _ (unfit name) (create_is vol st name true dir m);
        open_append_lem = λ name. opening_no name true dir _ (unfit name) (open_is vol st name true dir m);
        delete_oldest_lem = rw no;
        list = λ counts rows c r. rw (long_enough counts rows c r, no);
      }

module _ (vol : List ℕ) (m : Medium) (enough : 64 ≤ sectors_of vol) (a : read_of m 0 ≡ Ok tt) (b : read_of m 32 ≡ Ok tt) where
  equal : (x y : Header) → copy_of vol 0 ≡ ours x → copy_of vol 32 ≡ ours y → x.generation ≡ y.generation
      → mount_call vol m ≡ record { answer = ok tt; store = filled_of vol m (record { copy = 0; head = x; writer = None; free = unfit_of }); medium = m }
  unfolding mount_call on_done
  equal x y p q e = rw (equal_takes_a vol m enough a b x y p q e)

pub starred : Starred
unfolding mount_call format_call
starred =
    record {
      empty_name = edges.empty_name;
      root = edges.empty_dir;
      root_all = in_root;
      slash = edges.slash_name;
      slash_dir = edges.slash_dir;
      double = edges.double_slash;
      forty = edges.name_40;
      forty_one = edges.name_41;
      forty_dir = edges.dir_40;
      forty_one_dir = edges.dir_41;
      bad_name = λ vol m st name ok h. name_refused vol m st ok name h;
      bad_dir = λ vol m st dir ok h. dir_refused vol m st ok dir h;
      small = λ vol m seed h s. (none_575 seed vol m h s).1;
      enough = λ vol m seed h s less left. let d = one_576 seed vol m h s less left in (ap outcome_of d.0, d.1);
      link = edge_written;
      append_485 = append_485;
      append_486 = append_486;
      append_487 = append_487;
      zeroed = λ n m enough a b. (zeroed_refused n m enough a b).1;
      equal = equal;
    }
