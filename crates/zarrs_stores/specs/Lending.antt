-- How a store stood when it was lent.
use Rattle.std.specs.Prelude.{ℕ, Option, List}

-- The key that it was lent for, the value of each key by then, and how often each was asked for.
pub record Lending : Type 0 where
  pub key : List ℕ
  pub values : List ℕ → Option (List ℕ)
  pub asked : List ℕ → ℕ
