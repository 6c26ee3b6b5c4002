-- What the prover gathers from a layer's gates in one pass: their weights, and the tables H and J of x and then of y.
-- A gate of weight w and other value b stands for w (V + b) if it is a sum, for w b V if it is a product.
use Rattle.std.specs.Prelude.{ℕ, zero, suc, ◌+◌, List, [], ◌∷◌, map, length, slice_index_or, slice_set}
use Rattle.arithmetic.specs.Numbers.{Numbers}
use Rattle.circuits.specs.Circuit.{Kind, sum, product, Gate, Layer}
use Rattle.argument.specs.Claims.{Share}
use Rattle.claims.specs.Sums.{share_weight}

module _ {K : Type 0} (N : Numbers K) where
  open N use {add, mul, nat}

  -- the weights of n gates from place i on
  unfoldable pub weights : ℕ → List (Share K) → ℕ → ℕ → List K
  weights size ss i zero = []
  weights size ss i (suc n) = share_weight N size ss i ∷ weights size ss (i + 1) n

  -- those of all gates of a layer
  abbrev pub layer_weights : Layer → List (Share K) → List K
  layer_weights l ss = weights l.size ss 0 (length l.gates)

  -- all weights times a factor
  abbrev pub scaled : K → List K → List K
  scaled factor ws = map (λ w. mul w factor) ws

  -- adds a number at a place of a table
  abbrev pub add_at : List K → ℕ → K → List K
  add_at table i a = slice_set table i (add (slice_index_or table i (nat 0)) a)

  -- what a gate of weight w adds to H and to J, where b is the other value: w (V + b) for a sum, w b V for a product
  abbrev pub to_product : Kind → K → K → K
  to_product sum w b = w
  to_product product w b = mul w b

  abbrev pub to_rest : Kind → K → K → K
  to_rest sum w b = mul w b
  to_rest product w b = nat 0

  -- each gate adds an amount, which its weight is given to, at one of its places
  unfoldable pub gathered : (Gate → ℕ) → (Gate → K → K) → List Gate → List K → List K → List K
  gathered place amount [] ws table = table
  gathered place amount (g ∷ gs) [] table = table
  gathered place amount (g ∷ gs) (w ∷ ws) table = gathered place amount gs ws (add_at table (place g) (amount g w))

  -- H and J for x: by the gates' left places, the other value being that of the right place
  unfoldable pub gather_h : List Gate → List K → List K → List K → List K
  gather_h [] ws v table = table
  gather_h (g ∷ gs) [] v table = table
  gather_h (g ∷ gs) (w ∷ ws) v table =
      gather_h gs ws v (add_at table g.left (to_product g.kind w (slice_index_or v g.right (nat 0))))

  unfoldable pub gather_j : List Gate → List K → List K → List K → List K
  gather_j [] ws v table = table
  gather_j (g ∷ gs) [] v table = table
  gather_j (g ∷ gs) (w ∷ ws) v table =
      gather_j gs ws v (add_at table g.left (to_rest g.kind w (slice_index_or v g.right (nat 0))))

  -- the gates' weights times eq of the left place at x, which ex has for all places. They take the place of the weights
  -- before anything is gathered, so that the memory of ex is free for one of the two tables.
  unfoldable pub weights_at : List Gate → List K → List K → List K
  weights_at [] ws ex = []
  weights_at (g ∷ gs) [] ex = []
  weights_at (g ∷ gs) (w ∷ ws) ex = mul w (slice_index_or ex g.left (nat 0)) ∷ weights_at gs ws ex

  -- H and J for y: by the gates' right places, with such weights; the other value is a, the value at x
  unfoldable pub gather_hy : List Gate → List K → K → List K → List K
  gather_hy [] ws a table = table
  gather_hy (g ∷ gs) [] a table = table
  gather_hy (g ∷ gs) (w ∷ ws) a table = gather_hy gs ws a (add_at table g.right (to_product g.kind w a))

  unfoldable pub gather_jy : List Gate → List K → K → List K → List K
  gather_jy [] ws a table = table
  gather_jy (g ∷ gs) [] a table = table
  gather_jy (g ∷ gs) (w ∷ ws) a table = gather_jy gs ws a (add_at table g.right (to_rest g.kind w a))
