-- Number systems: the operations over which tables, claims and sumchecks are defined, and the numbers modulo p.
-- All that is above takes such a record, so that another system of numbers is one more instance of it.
use Rattle.std.specs.Prelude.{◌≡◌, ℕ, ◌+◌, ◌-◌, ◌*◌, ◌/◌, ◌%◌, ◌<◌, Bool, true, cond, ◌&&◌, ◌⊎◌, List, [], ◌∷◌, ◌==◌, nat_lt}

-- Several terms of K may stand for one number; `reduce` gives the one of them that counts as reduced.
pub record Numbers (K : Type 0) : Type 0 where
  pub reduce : K → K
  pub add : K → K → K
  pub sub : K → K → K
  pub mul : K → K → K
  -- the whole numbers, and the inverses of 1, 2 and 3
  pub nat : ℕ → K
  pub inverse : ℕ → K
  pub equal : K → K → Bool
  pub reduced : K → Bool
  -- how many numbers there are, and the i-th of them
  pub order : ℕ
  pub element : ℕ → K

-- The inverses of 1, 2 and 3 modulo p, for a p above 3 that neither 2 nor 3 divides.
abbrev pub inverse_modulo : ℕ → ℕ → ℕ
inverse_modulo p n =
    cond (n == 1) 1 (cond (n == 2) ((p + 1) / 2) (cond (p % 3 == 1) ((2 * p + 1) / 3) ((p + 1) / 3)))

-- The numbers from 0 to p - 1, with sums, differences and products modulo p.
abbrev pub modulo : ℕ → Numbers ℕ
modulo p =
    record {
      reduce = λ a. a % p;
      add = λ a b. (a + b) % p;
      sub = λ a b. (a + (p - b % p)) % p;
      mul = λ a b. (a * b) % p;
      nat = λ n. n;
      inverse = λ n. inverse_modulo p n;
      equal = λ a b. (a == b);
      reduced = λ a. nat_lt a p;
      order = p;
      element = λ i. i;
    }

-- A modulus is whole if a product of two numbers below it is 0 modulo p only where one of the two is 0.
abbrev pub Whole : ℕ → Type 0
Whole p = (1 < p) × ((a b : ℕ) → a < p → b < p → (a * b) % p ≡ 0 → (a ≡ 0) ⊎ (b ≡ 0))

module _ {K : Type 0} (N : Numbers K) where
  open N use {reduced}

  -- Each number of a list is reduced; modulo p, each is below p.
  unfoldable pub all_reduced : List K → Bool
  all_reduced [] = true
  all_reduced (x ∷ xs) = reduced x && all_reduced xs
