-- The sumcheck, variable by variable: the verifier's side, and the answers of an honest prover.
-- A prover is any function from the coins drawn so far to an answer; after a coin r it is the function of what follows r.
use Rattle.std.specs.Prelude.{ℕ, zero, suc, Bool, false, ◌&&◌, List, [], ◌∷◌, length, ◌==◌, slice_index_or}
use Rattle.arithmetic.specs.Numbers.{Numbers, all_reduced}
use Rattle.arithmetic.specs.Cubic.{interpolate}
use Rattle.tables.specs.Multilinear.{sum_corners}

abbrev pub Prover : Type 0 → Type 0
Prover K = List K → List K

abbrev pub after : {K : Type 0} → K → Prover K → Prover K
after r f coins = f (r ∷ coins)

module _ {K : Type 0} (N : Numbers K) where
  open N use {add, nat, equal}

  -- an answer has just so many numbers, all of them reduced
  abbrev pub well_formed : ℕ → List K → Bool
  well_formed n answer = length answer == n && all_reduced N answer

  -- the i-th number of an answer
  abbrev pub nth : List K → ℕ → K
  nth answer i = slice_index_or answer i (nat 0)

  -- For each of n variables the prover answers the values at 0 to 3 of a polynomial. Those at 0 and 1 have to add up to the
  -- total; a coin falls, and the total is now the polynomial's value there. `next` goes on with the point of the coins,
  -- the prover, the total and the other coins.
  unfoldable pub rounds : ℕ → (List K → Prover K → K → List K → Bool) → Prover K → K → List K → Bool
  rounds zero next f total coins = next [] f total coins
  rounds (suc n) next f total [] = false
  rounds (suc n) next f total (r ∷ coins) =
      well_formed 4 (f []) &&
      (equal (add (nth (f []) 0) (nth (f []) 1)) total &&
      rounds n (λ point. next (r ∷ point)) (after r f) (interpolate N (f []) r) coins)

  -- ---- the honest prover's side
  abbrev pub four_values : (K → K) → List K
  four_values g = g (nat 0) ∷ g (nat 1) ∷ g (nat 2) ∷ g (nat 3) ∷ []

  -- the sum of G over the remaining corners, as a function of the first variable that is left; then `next`
  unfoldable pub respond : ℕ → (List K → K) → (List K → Prover K) → Prover K
  respond zero G next coins = next [] coins
  respond (suc n) G next [] = four_values (λ t. sum_corners N n (λ z. G (t ∷ z)))
  respond (suc n) G next (r ∷ coins) = respond n (λ z. G (r ∷ z)) (λ z. next (r ∷ z)) coins
