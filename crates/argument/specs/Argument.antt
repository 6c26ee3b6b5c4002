-- The argument: layer by layer from the claimed outputs down to the inputs, and when it is believed.
-- Also how many coins it takes, and the count of its chances.
use Rattle.std.specs.Prelude.{ℕ, ◌+◌, ◌*◌, Bool, false, ◌&&◌, List, [], ◌∷◌, ◌++◌, length, take, drop, ◌==◌}
use Rattle.arithmetic.specs.Numbers.{Numbers}
use Rattle.tables.specs.Multilinear.{mle}
use Rattle.circuits.specs.Circuit.{Layer, Circuit, size_below, output_size}
use Rattle.argument.specs.Claims.{Claim, share_sum, expected}
use Rattle.argument.specs.Sumcheck.{Prover, after, well_formed, nth, rounds}

module _ {K : Type 0} (N : Numbers K) where
  open N use {add, mul, nat, equal}

  -- the claim about the layer below: shares 1 at x and s at y, total a + s b
  abbrev pub claim_below : List K → List K → List K → K → K → K → Claim K
  claim_below c x y a b s =
      record {
        copy = c;
        shares = record { factor = nat 1; point = x } ∷ record { factor = s; point = y } ∷ [];
        total = add a (mul s b);
      }

  -- Two numbers are answered, for the values below at (c, x) and (c, y). With them the layer's expression has to be the
  -- total; one more coin falls, and `next` goes on with the claim about the layer below.
  unfoldable pub values :
      Layer → ℕ → Claim K → List K → List K → List K → (Claim K → Prover K → List K → Bool) →
      Prover K → K → List K → Bool
  values l below k c x y next f total [] = false
  values l below k c x y next f total (s ∷ coins) =
      well_formed N 2 (f []) &&
      (equal (expected N l below k c x y (nth N (f []) 0) (nth N (f []) 1)) total &&
      next (claim_below c x y (nth N (f []) 0) (nth N (f []) 1) s) (after s f) coins)

  -- From a claim about the top one of these layers down to the inputs vs: a sumcheck over the variables of c, of x and of
  -- y, then the two values. About the inputs nobody is asked: the claim is worked out.
  unfoldable pub believes : ℕ → List Layer → ℕ → List K → Claim K → Prover K → List K → Bool
  believes copies [] inputs vs k f coins =
      equal (share_sum N vs k.copy k.shares) k.total && length coins == 0
  believes copies (l ∷ ls) inputs vs k f coins =
      let below = size_below ls inputs in
      rounds N copies
      (λ c. rounds N below (λ x. rounds N below (λ y. values l below k c x y (believes copies ls inputs vs))))
      f k.total coins

  -- the first claim: the claimed outputs' polynomial at the point that the first coins choose
  abbrev pub first_claim : Circuit → List K → List K → Claim K
  first_claim c claimed z =
      record {
        copy = take c.copies z;
        shares = record { factor = nat 1; point = drop c.copies z } ∷ [];
        total = mle N claimed z;
      }

-- ---- how many coins it takes
abbrev pub first_coins : Circuit → ℕ
first_coins c = c.copies + output_size c

unfoldable pub layer_coins : ℕ → List Layer → ℕ → ℕ
layer_coins copies [] inputs = 0
layer_coins copies (l ∷ ls) inputs = (copies + 2 * size_below ls inputs + 1) + layer_coins copies ls inputs

abbrev pub coins_of : Circuit → ℕ
coins_of c = first_coins c + layer_coins c.copies c.layers c.inputs

-- ---- the count of chances: a variable of the outputs counts 1, one of a layer 3, and each layer 1 more
unfoldable pub layer_chances : ℕ → List Layer → ℕ → ℕ
layer_chances copies [] inputs = 0
layer_chances copies (l ∷ ls) inputs =
    (3 * (copies + 2 * size_below ls inputs) + 1) + layer_chances copies ls inputs

abbrev pub chances_of : Circuit → ℕ
chances_of c = first_coins c + layer_chances c.copies c.layers c.inputs

module _ {K : Type 0} (N : Numbers K) where
  -- whether claimed outputs are believed, with this prover and these coins
  abbrev pub accepts : Circuit → List K → List K → Prover K → List K → Bool
  accepts c vs claimed f coins =
      let z = take (first_coins c) coins in
      (length coins == coins_of c) &&
      believes N c.copies c.layers c.inputs vs (first_claim N c claimed z) (λ later. f (z ++ later))
      (drop (first_coins c) coins)
