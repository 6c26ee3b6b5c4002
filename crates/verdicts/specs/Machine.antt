-- The verifier as a machine: where it stands, which answers fit there, and where an answer and a coin lead.
-- A whole run is a recursion over the coins, since each coin has just one answer before it.
use Rattle.std.specs.Prelude.{ℕ, zero, suc, ◌+◌, ◌*◌, Bool, true, false, cond, ◌&&◌, List, [], ◌∷◌, ◌++◌, length, take, drop, nat_lt, slice_index_or}
use Rattle.arithmetic.specs.Numbers.{Numbers}
use Rattle.arithmetic.specs.Cubic.{interpolate}
use Rattle.circuits.specs.Circuit.{Layer, Circuit, size_below}
use Rattle.argument.specs.Claims.{Claim, share_sum, expected}
use Rattle.argument.specs.Sumcheck.{well_formed, nth}
use Rattle.argument.specs.Argument.{claim_below, first_claim, first_coins}
use Rattle.verdicts.specs.declared.verdict.Place.TheVariants.{Variable, Values, Inputs}
use Rattle.verdicts.specs.declared.verdict.Verdict.{Verdict}
use Rattle.verdicts.specs.declared.verdict.Verdict.TheVariants.{Believed, Stopped}

-- the number that the call answers for each verdict
abbrev pub number_of : Verdict → ℕ
number_of Believed = 0
number_of (Stopped layer place) = 4

abbrev pub is_believed : Verdict → Bool
is_believed Believed = true
is_believed (Stopped layer place) = false

-- Before an answer: the circuit's copies and inputs, the number of this layer, this layer and those below it, the claim
-- about it, the coins of its variables so far, and what is claimed of the sum over the corners that are left.
pub record Stand (K : Type 0) : Type 0 where
  pub copies : ℕ
  pub inputs : ℕ
  pub layer : ℕ
  pub layers : List Layer
  pub claim : Claim K
  pub point : List K
  pub total : K

-- how many variables the sum of the top one of these layers has
abbrev pub variables : ℕ → ℕ → List Layer → ℕ
variables copies inputs [] = 0
variables copies inputs (l ∷ ls) = copies + 2 * size_below ls inputs

abbrev pub variables_of : {K : Type 0} → Stand K → ℕ
variables_of s = variables s.copies s.inputs s.layers

-- whether the answer that is due is that of a variable; else it is the two values
abbrev pub variable_due : {K : Type 0} → Stand K → Bool
variable_due s = nat_lt (length s.point) (variables_of s)

-- the size of what lies below the top layer
abbrev pub size_under : {K : Type 0} → Stand K → ℕ
size_under s = size_below (drop 1 s.layers) s.inputs

-- the coins so far cut into the three parts of a whole point
abbrev pub point_c : {K : Type 0} → Stand K → List K
point_c s = take s.copies s.point

abbrev pub point_x : {K : Type 0} → Stand K → List K
point_x s = take (size_under s) (drop s.copies s.point)

abbrev pub point_y : {K : Type 0} → Stand K → List K
point_y s = drop (s.copies + size_under s) s.point

-- the stand at a layer, from a claim about it
abbrev pub stand_at : {K : Type 0} → ℕ → ℕ → ℕ → List Layer → Claim K → Stand K
stand_at copies inputs layer ls k =
    record {
      copies = copies;
      inputs = inputs;
      layer = layer;
      layers = ls;
      claim = k;
      point = [];
      total = k.total;
    }

-- the stand after one more variable, with what is now claimed of the sum
abbrev pub after_variable : {K : Type 0} → Stand K → K → K → Stand K
after_variable s coin total =
    record {
      copies = s.copies;
      inputs = s.inputs;
      layer = s.layer;
      layers = s.layers;
      claim = s.claim;
      point = s.point ++ (coin ∷ []);
      total = total;
    }

-- the verdict where an answer does not fit
unfoldable pub doubt : {K : Type 0} → Stand K → Verdict
doubt s = Stopped s.layer (cond (variable_due s) (Variable (length s.point)) Values)

module _ {K : Type 0} (N : Numbers K) where
  open N use {add, nat, equal}

  -- the expression of the top layer at the coins so far, with the values a and b for those below
  abbrev pub expected_of : List Layer → ℕ → Claim K → List K → List K → List K → K → K → K
  expected_of [] below k c x y a b = nat 0
  expected_of (l ∷ ls) below k c x y a b = expected N l below k c x y a b

  abbrev pub fits_variable : Stand K → List K → Bool
  fits_variable s answer = well_formed N 4 answer && equal (add (nth N answer 0) (nth N answer 1)) s.total

  abbrev pub fits_values : Stand K → List K → Bool
  fits_values s answer =
      well_formed N 2 answer &&
      equal
      (expected_of s.layers (size_under s) s.claim (point_c s) (point_x s) (point_y s) (nth N answer 0) (nth N answer 1))
      s.total

  -- whether an answer is as it has to be
  unfoldable pub fits : Stand K → List K → Bool
  fits s answer = cond (variable_due s) (fits_variable s answer) (fits_values s answer)

  -- the stand at the layer below, after the two values and the coin
  abbrev pub after_values : Stand K → List K → K → Stand K
  after_values s answer coin =
      stand_at s.copies s.inputs (s.layer + 1) (drop 1 s.layers)
      (claim_below N (point_c s) (point_x s) (point_y s) (nth N answer 0) (nth N answer 1) coin)

  -- where an answer and the coin after it lead
  unfoldable pub next : Stand K → List K → K → Stand K
  next s answer coin =
      cond (variable_due s) (after_variable s coin (interpolate N answer coin)) (after_values s answer coin)

  -- the verdict at the inputs vs: the claim is worked out
  unfoldable pub settled : List K → Stand K → Verdict
  settled vs s =
      cond (equal (share_sum N vs s.claim.copy s.claim.shares) s.claim.total) Believed (Stopped s.layer Inputs)

  -- the verdict from here on, with these answers and coins; where these are as many as it takes, they end at the inputs
  unfoldable pub resume : List K → Stand K → List (List K) → List K → Verdict
  resume vs s answers [] = settled vs s
  resume vs s answers (coin ∷ coins) =
      cond (fits s (slice_index_or answers 0 [])) (resume vs (next s (slice_index_or answers 0 []) coin) (drop 1 answers) coins) (doubt s)

  -- where the machine begins, after the first coins
  abbrev pub start : Circuit → List K → List K → Stand K
  start c claimed z = stand_at c.copies c.inputs 0 c.layers (first_claim N c claimed z)

  -- the verdict over a whole transcript
  abbrev pub verdict : Circuit → List K → List K → List (List K) → List K → Verdict
  verdict c vs claimed answers coins =
      resume vs (start c claimed (take (first_coins c) coins)) answers (drop (first_coins c) coins)

  -- where the machine stands after n answers, each followed by its coin
  unfoldable pub stand_after : ℕ → Stand K → List (List K) → List K → Stand K
  stand_after zero s answers coins = s
  stand_after (suc n) s answers [] = s
  stand_after (suc n) s answers (coin ∷ coins) = stand_after n (next s (slice_index_or answers 0 []) coin) (drop 1 answers) coins
