-- Writes left of 26 are as good as any more: format and delete of the C calls then return the same number and leave the same volume. A format writes at
-- most 26 sectors, and so does a delete, on any volume. Assumes nothing.
use Prim.Native.Nat.{ℕ, ◌+◌, ◌-◌, ◌≤◌}
use mathlib.Core.Path.{◌≡◌, sym, ap, subst, ◌∙◌}
use mathlib.Core.List.{List}
use native.Mathlib.Nat.{le_refl}
use native.Mathlib.Omega.{arith}
use Rattle.le.specs.Choice.{pick}
use Rattle.names.specs.Names.{name_ok}
use Rattle.medium.specs.declared.Error.TheVariants as no
use Rattle.medium.specs.declared.Medium.{Medium}
use Rattle.medium.specs.Refusal.{number_of, on_ok}
use Rattle.medium.specs.Sector.{read_of}
use Rattle.header.specs.Copies.{headers_of, current_of, mount_of}
use Rattle.store.specs.Reading.{mount_call}
use Rattle.store.specs.Writing.{WriteCall}
use Rattle.writes.specs.More.{more}
use Rattle.writes.proofs.Ample.{format_enough, delete_enough}
use Rattle.firmware.specs.Calls.{medium_of, chunks_told, delete_told, format_host, delete_host}
use Rattle.table.specs.Free.{map_at}
use Rattle.table.specs.Link.{link_at}
use Rattle.handles.specs.Body.{check_of, due_of}

module _ (vol : List ℕ) where
  format_more : (d : ℕ) (m : Medium) (size seed : ℕ) → 26 ≤ m.left → format_host vol (more d m) size seed ≡ format_host vol m size seed
  unfolding format_host
  format_more d m size seed h = ap (λ (w : WriteCall). (chunks_told w.call, w.vol)) (format_enough vol m d size seed h)

  delete_more : (d : ℕ) (m : Medium) (name : List ℕ) → 26 ≤ m.left → delete_host vol (more d m) name ≡ delete_host vol m name
  unfolding delete_host mount_call mount_of current_of headers_of map_at link_at due_of check_of read_of
  delete_more d m name h =
      ap (λ (w : WriteCall). pick (name_ok name) (on_ok (mount_call vol m).answer (λ _. delete_told w) (λ n. (n, vol))) (number_of no.Name, vol))
      (delete_enough vol m d (mount_call vol m).store name h)

  -- of 26 or more, each as 26
  alike : {A : Type 0} (f : Medium → A) → ((d : ℕ) (m : Medium) → 26 ≤ m.left → f (more d m) ≡ f m)
      → (a b unreadable entropy : ℕ) → 26 ≤ a → 26 ≤ b → f (medium_of a unreadable entropy) ≡ f (medium_of b unreadable entropy)
  alike f h a b unreadable entropy p q = least a p ∙ sym (least b q)
    where
      least : (n : ℕ) → 26 ≤ n → f (medium_of n unreadable entropy) ≡ f (medium_of 26 unreadable entropy)
      least n l =
          let e : 26 + (n - 26) ≡ n = omega (arith, l) in
          subst (λ (k : ℕ). f (medium_of k unreadable entropy) ≡ f (medium_of 26 unreadable entropy)) e (h (n - 26) (medium_of 26 unreadable entropy) (le_refl 26))

  pub format_ample : (size seed a b unreadable entropy : ℕ) → 26 ≤ a → 26 ≤ b
      → format_host vol (medium_of a unreadable entropy) size seed ≡ format_host vol (medium_of b unreadable entropy) size seed
  format_ample size seed = alike (λ m. format_host vol m size seed) (λ d m. format_more d m size seed)

  pub delete_ample : (name : List ℕ) (a b unreadable entropy : ℕ) → 26 ≤ a → 26 ≤ b
      → delete_host vol (medium_of a unreadable entropy) name ≡ delete_host vol (medium_of b unreadable entropy) name
  delete_ample name = alike (λ m. delete_host vol m name) (λ d m. delete_more d m name)
