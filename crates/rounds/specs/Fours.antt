-- Four numbers as the values at 0, 1, 2 and 3 of a function.
-- What holds of the function's values then holds of each of the four, and they are below the modulus.
use Rattle.std.specs.Prelude.{◌≡◌, ℕ, T, List}
use Rattle.arithmetic.specs.Numbers.{modulo, all_reduced}
use Rattle.argument.specs.Sumcheck.{four_values}

pub record FourOf (p : ℕ) (f : ℕ → ℕ) (s : List ℕ) : Type 0 where
  pub values : s ≡ four_values (modulo p) f
  pub below : T (all_reduced (modulo p) s)

-- P at the four places
abbrev pub AtEach : (ℕ → Type 0) → Type 0
AtEach P = P 0 × P 1 × P 2 × P 3
