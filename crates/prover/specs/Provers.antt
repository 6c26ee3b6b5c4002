-- Where the honest prover stands: what its tables hold at its coins, what it says from here on, and how much is left of it.
-- i and q are 1 while the tables of x, or of y, are not made yet at the coin at which their part begins.
use Rattle.std.specs.Prelude.{◌≡◌, ℕ, ◌+◌, ◌-◌, ◌*◌, ◌^◌, ◌<◌, ◌≤◌, cond, List, [], ◌∷◌, ◌++◌, length, take, drop, nat_lt}
use Rattle.arithmetic.specs.Numbers.{modulo}
use Rattle.circuits.specs.Circuit.{Layer, Circuit, size_below, all_values}
use Rattle.circuits.specs.Views.{layer_seen, layers_seen, copies_above, inputs_below, size_seen, places_below}
use Rattle.circuits.specs.declared.view.LayersView.{LayersView}
use Rattle.circuits.specs.Words.{modulus}
use Rattle.argument.specs.Claims.{Claim}
use Rattle.argument.specs.Sumcheck.{Prover}
use Rattle.argument.specs.Argument.{first_coins, layer_coins}
use Rattle.argument.specs.Honest.{honest_from, honest}
use Rattle.argument.specs.Transcript.{layer_words, answer_words}
use Rattle.claims.specs.Drawing.{coins_drawn}
use Rattle.claims.specs.Meaning.{shares_meant}
use Rattle.claims.specs.declared.claim.Shares.{Shares}
use Rattle.phases.specs.Standing.{claim_on, Rooms, CopyTables, LeftTables, RightTables}
use Rattle.phases.specs.declared.quarters.Tables.{Tables}
use Rattle.prover.specs.declared.due.Due.{Due}
use Rattle.prover.specs.declared.due.Due.TheVariants.{Copies, Left, Right, Values}
use Rattle.prover.specs.declared.prover.HonestProver.{HonestProver}

-- the tables of the part that the coins `history` have come to
pub record Parts (i q p : ℕ) (l : Layer) (m : ℕ) (k : Claim ℕ) (X : List ℕ) (copies : ℕ) (history : List ℕ) (factor a : ℕ) (v w h j : List ℕ) : Type 0 where
  pub over_copies : length history < copies + i → CopyTables p l m k X history (copies - length history) v w h
  pub over_left :
      copies + i ≤ length history → length history < copies + m + q →
      LeftTables p l m k X (take copies history) (drop copies history) (copies + m - length history) factor v w h j
  pub over_right :
      copies + m + q ≤ length history →
      RightTables p l m k X (take copies history) (take m (drop copies history)) (drop (copies + m) history) (copies + 2 * m - length history) a v h j

-- the layers below this one
abbrev pub rest_of : HonestProver → LayersView
rest_of t = t.rest

abbrev pub copies_of : HonestProver → ℕ
copies_of t = copies_above t.rest

abbrev pub below_of : HonestProver → ℕ
below_of t = places_below t.layer

-- how many variables the layer's sum has
abbrev pub variables_of : HonestProver → ℕ
variables_of t = copies_of t + 2 * below_of t

abbrev pub claim_held : HonestProver → Claim ℕ
claim_held t = claim_on (take (copies_of t) t.copy) (shares_meant (size_seen t.layer) t.shares)

abbrev pub values_held : HonestProver → List ℕ
values_held t =
    all_values (modulo modulus) (layers_seen t.rest) (2 ^ inputs_below t.rest) (2 ^ copies_of t) t.inputs.now

-- the coins of this layer so far
abbrev pub history : HonestProver → List ℕ
history t = coins_drawn t.drawn

-- what is due, with how many variables are left of that part
abbrev pub IsDue : HonestProver → Due → Type 0
IsDue t (Copies n) = (0 < n) × (length (history t) + n ≡ copies_of t)
IsDue t (Left n) = (0 < n) × (copies_of t ≤ length (history t)) × (length (history t) + n ≡ copies_of t + below_of t)
IsDue t (Right n) = (0 < n) × (copies_of t + below_of t ≤ length (history t)) × (length (history t) + n ≡ variables_of t)
IsDue t Values = length (history t) ≡ variables_of t

-- its parts at these coins of the layer
abbrev pub PartsAt : ℕ → ℕ → HonestProver → List ℕ → List ℕ → List ℕ → List ℕ → List ℕ → Type 0
PartsAt i q t coins v w h j =
    Parts i q modulus (layer_seen t.layer) (below_of t) (claim_held t) (values_held t) (copies_of t) coins t.factor t.at_x v w h j

-- the prover stands in these quarters
pub record StandsIn (i q : ℕ) (t : HonestProver) (v w h j : List ℕ) : Type 0 where
  pub rooms : Rooms v w h
  pub room_j : length j ≡ 65536
  pub parts : PartsAt i q t (history t) v w h j

-- the same of the struct of the four, which has their lengths: at these coins of the layer, and at those so far
abbrev pub StandsAt : ℕ → ℕ → HonestProver → List ℕ → Tables → Type 0
StandsAt i q t coins b = PartsAt i q t coins b.v.now b.w.now b.h.now b.j.now

abbrev pub Stands : ℕ → ℕ → HonestProver → Tables → Type 0
Stands i q t b = StandsAt i q t (history t) b

-- what the honest prover of this layer and those below says, as a function of the coins from the layer's first on
abbrev pub honest_at : HonestProver → Prover ℕ
honest_at t coins =
    honest_from (modulo modulus) (copies_of t) (layer_seen t.layer ∷ layers_seen t.rest) (inputs_below t.rest) t.inputs.now
    (claim_held t) coins

-- what it says from here on, as a function of the coins to come
abbrev pub speaks : HonestProver → Prover ℕ
speaks t later = honest_at t (history t ++ later)

-- how many coins are still to come, and how many words of answers
abbrev pub coins_left : HonestProver → ℕ
coins_left t =
    (variables_of t - length (history t) + 1) + layer_coins (copies_of t) (layers_seen t.rest) (inputs_below t.rest)

abbrev pub words_left : HonestProver → ℕ
words_left t =
    (4 * (variables_of t - length (history t)) + 2) + layer_words (copies_of t) (layers_seen t.rest) (inputs_below t.rest)

-- how many numbers the next answer has
abbrev pub answer_length : HonestProver → ℕ
answer_length t = cond (nat_lt (length (history t)) (variables_of t)) 4 2

-- a prover at the same layer, with the same inputs and the same claim, where the same parts are due at the same coins
pub record SameLayer (t r : HonestProver) : Type 0 where
  pub layer : r.layer ≡ t.layer
  pub rest : rest_of r ≡ rest_of t
  pub below : below_of r ≡ below_of t
  pub inputs : r.inputs ≡ t.inputs
  pub copy : r.copy ≡ t.copy
  pub shares : r.shares ≡ t.shares

-- one coin more, and nothing else
pub record Pushed (coin : ℕ) (t r : HonestProver) : Type 0 where
  pub same : SameLayer t r
  pub coins : history r ≡ history t ++ coin ∷ []
  pub factor : r.factor ≡ t.factor
  pub at_x : r.at_x ≡ t.at_x

-- with the factor of the part of x, and nothing else
pub record WithFactor (t r : HonestProver) : Type 0 where
  pub same : SameLayer t r
  pub drawn : r.drawn ≡ t.drawn
  pub at_x : r.at_x ≡ t.at_x

-- with the value at x, and nothing else
pub record WithValue (t r : HonestProver) : Type 0 where
  pub same : SameLayer t r
  pub drawn : r.drawn ≡ t.drawn
  pub factor : r.factor ≡ t.factor

-- a prover that goes on as another does
pub record Alike (t r : HonestProver) : Type 0 where
  pub says : (later : List ℕ) → speaks r later ≡ speaks t later
  pub coins : coins_left r ≡ coins_left t
  pub words : words_left r ≡ words_left t

-- a prover that goes on as another does after a coin
pub record Heard (coin : ℕ) (t r : HonestProver) : Type 0 where
  pub says : (later : List ℕ) → speaks r later ≡ speaks t (coin ∷ later)
  pub coins : coins_left t ≡ coins_left r + 1
  pub words : words_left t ≡ answer_length t + words_left r

-- a prover at the first of these layers, with a claim about it, before any coin
pub record Begins (ls : LayersView) (vs copy : List ℕ) (shares : Shares) (r : HonestProver) : Type 0 where
  pub says :
      (later : List ℕ) →
      speaks r later ≡
      honest_from (modulo modulus) (copies_above ls) (layers_seen ls) (inputs_below ls) vs
      (claim_on (take (copies_above ls) copy) (shares_meant (size_below (layers_seen ls) (inputs_below ls)) shares)) later
  pub coins : coins_left r ≡ layer_coins (copies_above ls) (layers_seen ls) (inputs_below ls)
  pub words : words_left r ≡ layer_words (copies_above ls) (layers_seen ls) (inputs_below ls)
  pub none : history r ≡ []

-- a prover at the outputs' layer, after the first of these coins
pub record Opened (c : Circuit) (vs coins : List ℕ) (r : HonestProver) : Type 0 where
  pub none : history r ≡ []
  pub says : (later : List ℕ) → speaks r later ≡ honest (modulo modulus) c vs (take (first_coins c) coins ++ later)
  pub coins_are : coins_left r ≡ layer_coins c.copies c.layers c.inputs
  pub words_are : words_left r ≡ answer_words c
