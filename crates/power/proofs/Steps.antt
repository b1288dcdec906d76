-- The steps of one part of a call after those of another. Assumes nothing.
use mathlib.Core.Path.{◌≡◌, refl}
use mathlib.Core.List.{List, [], ◌∷◌, ◌++◌, map}
use Rattle.plan.specs.Copy.{Kind, Skipped, Step}
use Rattle.power.specs.Book.{Terms}
use Rattle.power.specs.History.{EachStep}
use Rattle.power.proofs.Fine.{Fine, entered, entered_all}

abbrev pub kinds_of : List Step → List Kind
kinds_of steps = map (λ (s : Step). s.kind) steps

pub entered_append : (t : Terms) (ss ts : List Step) (b : Fine) → entered_all t (kinds_of (ss ++ ts)) b ≡ entered_all t (kinds_of ts) (entered_all t (kinds_of ss) b)
unfolding entered_all
entered_append t [] ts b = refl
entered_append t (s ∷ ss) ts b = entered_append t ss ts (entered t s.kind b)

pub each_append : (P : Skipped → Type 0) (ss ts : List Step) → EachStep P (ss ++ ts) → EachStep P ss × EachStep P ts
unfolding EachStep
each_append P [] ts h = (tt, h)
each_append P (s ∷ ss) ts h = let r = each_append P ss ts h.1 in ((h.0, r.0), r.1)
