-- Counting: how many of the numbers, and how many rows of n numbers, pass a test.
-- Every bound up to soundness is stated with these definitions and no others.
use Rattle.std.specs.Prelude.{ℕ, zero, suc, ◌+◌, Bool, cond, List, [], ◌∷◌}
use Rattle.arithmetic.specs.Numbers.{Numbers}

-- f 0 + f 1 + .. + f (n - 1)
unfoldable pub sum_below : ℕ → (ℕ → ℕ) → ℕ
sum_below zero f = 0
sum_below (suc n) f = f n + sum_below n f

-- 1 where a test passes, else 0
abbrev pub indicator : Bool → ℕ
indicator b = cond b 1 0

module _ {K : Type 0} (N : Numbers K) where
  open N use {order, element}

  -- the sum of g over all rows of n numbers
  unfoldable pub sum_rows : ℕ → (List K → ℕ) → ℕ
  sum_rows zero g = g []
  sum_rows (suc n) g = sum_below order (λ i. sum_rows n (λ row. g (element i ∷ row)))

  -- how many rows of n numbers pass a test
  abbrev pub count_rows : ℕ → (List K → Bool) → ℕ
  count_rows n test = sum_rows n (λ row. indicator (test row))

  -- how many numbers pass a test
  abbrev pub count_numbers : (K → Bool) → ℕ
  count_numbers test = sum_below order (λ i. indicator (test (element i)))
