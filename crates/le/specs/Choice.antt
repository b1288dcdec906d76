-- A choice by a test. Assumes nothing.
use Rattle.std.specs.Prelude.{Bool, true, false}

-- x where the test holds, else y. It stays shut in proofs, so that a law by cases finds its arguments
unfoldable pub pick : {A : Type 0} → Bool → A → A → A
pick true x y = x
pick false x y = y
