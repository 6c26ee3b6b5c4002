-- Tables, and the one polynomial through each that has degree at most 1 in every variable: its multilinear extension.
-- A table of 2^k numbers has k variables, the first being the highest bit of a place; a corner has 0 or 1 for each.
use Rattle.std.specs.Prelude.{ℕ, zero, suc, ◌/◌, ◌%◌, ◌^◌, List, [], ◌∷◌, length, take, drop, slice_index_or}
use Rattle.arithmetic.specs.Numbers.{Numbers}

module _ {K : Type 0} (N : Numbers K) where
  open N use {reduce, add, sub, mul, nat}

  -- (1 - r) a + r b, place by place
  unfoldable pub blend : K → List K → List K → List K
  blend r [] ys = []
  blend r (a ∷ xs) [] = []
  blend r (a ∷ xs) (b ∷ ys) = add (mul (sub (nat 1) r) a) (mul r b) ∷ blend r xs ys

  -- the table that is left when the first variable is r: (1 - r) times the first half and r times the second
  abbrev pub fix_first : K → List K → List K
  fix_first r xs = blend r (take (length xs / 2) xs) (drop (length xs / 2) xs)

  -- the value of the multilinear extension at a point, one coordinate for each variable
  unfoldable pub mle : List K → List K → K
  mle xs [] = reduce (slice_index_or xs 0 (nat 0))
  mle xs (r ∷ point) = mle (fix_first r xs) point

  -- the eq polynomial: the product, over variables, of r c + (1 - r) (1 - c)
  unfoldable pub eq_poly : List K → List K → K
  eq_poly [] ys = nat 1
  eq_poly (r ∷ xs) [] = nat 1
  eq_poly (r ∷ xs) (c ∷ ys) = mul (add (mul r c) (mul (sub (nat 1) r) (sub (nat 1) c))) (eq_poly xs ys)

  -- the k bits of a place, the highest first: the corner at which it stands
  unfoldable pub bits_of : ℕ → ℕ → List K
  bits_of zero place = []
  bits_of (suc k) place = nat ((place / 2 ^ k) % 2) ∷ bits_of k place

  -- the sum of G over all corners of n variables
  unfoldable pub sum_corners : ℕ → (List K → K) → K
  sum_corners zero G = G []
  sum_corners (suc n) G = add (sum_corners n (λ z. G (nat 0 ∷ z))) (sum_corners n (λ z. G (nat 1 ∷ z)))
