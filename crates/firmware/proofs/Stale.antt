-- The C calls never give 11: each mounts, so that a store value is current, and nothing else of theirs gives it. Assumes nothing.
use Rattle.std.specs.Prelude.{Ok}
use mathlib.Core.Path.{◌≡◌, refl, ap, ◌∙◌}
use mathlib.Core.List.{List}
use Prim.Native.Nat.{ℕ}
use native.Mathlib.Omega.{arith}
use lib.Dec.{ltb}
use lib.ListN.{length}
use Rattle.le.specs.Part.{zeros}
use Rattle.le.proofs.Choices.{pick_keeps}
use Rattle.names.specs.Names.{name_ok, dir_ok}
use Rattle.medium.specs.declared.Medium.{Medium}
use Rattle.medium.specs.Refusal.{Answer, ok, refused, on_ok}
use Rattle.medium.proofs.Laws.{done_told}
use Rattle.header.specs.Copies.{mount_of}
use Rattle.store.specs.Reading.{mount_call}
use Rattle.store.proofs.Stale.{mount_never, format_never, list_never, delete_never}
use Rattle.firmware.specs.Calls.{code_of, giving, mount_host, format_host, delete_host, list_host}

-- 256 plus an answer is not 11 either
code_never : (a : Answer Unit) (n : ℕ) → (a ≡ refused 11 → ⊥) → code_of (giving a n) ≡ 11 → ⊥
code_never (ok _) n h q = omega arith
code_never (refused e) n h q = h (ap refused q)

module _ (vol : List ℕ) (m : Medium) where
  abbrev Right : ℕ × List ℕ → Type 0
  Right r = r.0 ≡ 11 → ⊥

  -- a call on the store mounted, or the number of a refused mount
  mounted_never : (then : ℕ × List ℕ) (rest : List ℕ) → ((mount_of vol m).outcome ≡ Ok tt → Right then)
      → Right (on_ok (mount_call vol m).answer (λ _. then) (λ n. (n, rest)))
  unfolding mount_call on_ok
  mounted_never then rest h = go (mount_call vol m).answer refl
    where
      go : (a : Answer Unit) → (mount_call vol m).answer ≡ a → Right (on_ok a (λ _. then) (λ n. (n, rest)))
      go (ok _) q = h (done_told (mount_of vol m).outcome q)
      go (refused n) q = λ e. mount_never vol m (q ∙ ap refused e)

  pub record NeverStale : Type 0 where
    pub mount : mount_host vol m ≡ 11 → ⊥
    pub format : (size seed : ℕ) → (format_host vol m size seed).0 ≡ 11 → ⊥
    pub delete : (name : List ℕ) → (delete_host vol m name).0 ≡ 11 → ⊥
    pub list : (dir rows : List ℕ) → (list_host vol m dir rows).0 ≡ 11 → ⊥

  pub never_stale : NeverStale
  unfolding mount_call mount_host format_host delete_host list_host
  never_stale =
      record {
        mount = code_never _ _ (mount_never vol m);
        format = λ size seed. code_never _ _ (format_never vol m size seed);
        delete = λ name.
            pick_keeps Right (name_ok name) _ _ (mounted_never _ vol (λ d. code_never _ 0 (delete_never vol m d name))) (λ q. omega arith);
        list = λ dir rows.
            pick_keeps Right (ltb (length rows) 3072) _ _ (λ q. omega arith)
            (pick_keeps Right (dir_ok dir) _ _
            (mounted_never _ rows (λ d. code_never _ _ (list_never vol m (mount_call vol m).store dir (zeros 64) rows)))
            (λ q. omega arith));
      }
