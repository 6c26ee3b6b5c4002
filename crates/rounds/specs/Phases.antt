-- The sums that the prover answers with in each phase of a layer, in a form that takes one pass over its tables.
-- First over the copies' variables; then over those of x; then over those of y, x being fixed.
use Rattle.std.specs.Prelude.{ℕ, List, [], ◌∷◌, ◌++◌}
use Rattle.arithmetic.specs.Numbers.{Numbers}
use Rattle.tables.specs.Multilinear.{mle, bits_of}
use Rattle.circuits.specs.Circuit.{Gate, combine}

module _ {K : Type 0} (N : Numbers K) where
  open N use {add, mul, nat}

  -- ---- the copies' variables
  -- the sum, over gates, of weight times the gate's value at the copies' point c, where v has the values below
  unfoldable pub gate_sum : ℕ → List Gate → List K → List K → List K → K
  gate_sum below [] ws v c = nat 0
  gate_sum below (g ∷ gs) [] v c = nat 0
  gate_sum below (g ∷ gs) (w ∷ ws) v c =
      add
      (mul w (combine N g.kind (mle N v (c ++ bits_of N below g.left)) (mle N v (c ++ bits_of N below g.right))))
      (gate_sum below gs ws v c)

  -- E(c) times that sum, where e is the table of E
  abbrev pub copy_sum : ℕ → List Gate → List K → List K → List K → List K → K
  copy_sum below gs ws e v c = mul (mle N e c) (gate_sum below gs ws v c)

  -- ---- the variables of x, and then those of y
  -- V(z) H(z) + J(z), by three tables
  abbrev pub product_sum : List K → List K → List K → List K → K
  product_sum v h j z = add (mul (mle N v z) (mle N h z)) (mle N j z)
