-- Layered circuits, the same in many copies, and the values that they give.
-- A circuit has 2^copies copies; its layers stand with the outputs' first; 2^inputs values go into each copy.
use Rattle.std.specs.Prelude.{ℕ, zero, suc, ◌^◌, Bool, true, ◌&&◌, List, [], ◌∷◌, ◌++◌, length, take, drop, ◌==◌, nat_le, nat_lt, slice_index_or}
use Rattle.arithmetic.specs.Numbers.{Numbers}

pub data Kind : Type 0 where
  sum product : Kind

-- the sum or the product of two values of the layer below, by their places in a copy
pub record Gate : Type 0 where
  pub kind : Kind
  pub left : ℕ
  pub right : ℕ

-- 2^size gates
pub record Layer : Type 0 where
  pub size : ℕ
  pub gates : List Gate

pub record Circuit : Type 0 where
  pub copies : ℕ
  pub inputs : ℕ
  pub layers : List Layer

-- ---- lawful circuits
-- the size of what lies directly below: the next layer, or the inputs
abbrev pub size_below : List Layer → ℕ → ℕ
size_below [] inputs = inputs
size_below (l ∷ ls) inputs = l.size

-- each gate takes places below n
unfoldable pub gates_fit : ℕ → List Gate → Bool
gates_fit n [] = true
gates_fit n (g ∷ gs) = nat_lt g.left n && (nat_lt g.right n && gates_fit n gs)

-- each layer has 2^size gates, and they take places that exist
unfoldable pub layers_fit : List Layer → ℕ → Bool
layers_fit [] inputs = true
layers_fit (l ∷ ls) inputs =
    (length l.gates == 2 ^ l.size) && (gates_fit (2 ^ size_below ls inputs) l.gates && layers_fit ls inputs)

-- there is a layer, and all places are there
abbrev pub lawful : Circuit → Bool
lawful c = nat_le 1 (length c.layers) && layers_fit c.layers c.inputs

-- the size of the outputs' layer
abbrev pub output_size : Circuit → ℕ
output_size c = size_below c.layers c.inputs

-- ---- values
module _ {K : Type 0} (N : Numbers K) where
  open N use {add, mul, nat}

  abbrev pub combine : Kind → K → K → K
  combine sum a b = add a b
  combine product a b = mul a b

  -- a gate over the values of the layer below it, in one copy
  abbrev pub gate_value : List K → Gate → K
  gate_value below g = combine g.kind (slice_index_or below g.left (nat 0)) (slice_index_or below g.right (nat 0))

  unfoldable pub gate_values : List K → List Gate → List K
  gate_values below [] = []
  gate_values below (g ∷ gs) = gate_value below g ∷ gate_values below gs

  -- one copy: the values of the top one of these layers
  unfoldable pub copy_values : List Layer → List K → List K
  copy_values [] vs = vs
  copy_values (l ∷ ls) vs = gate_values (copy_values ls vs) l.gates

  -- count copies, one after the other, with n inputs each
  unfoldable pub all_values : List Layer → ℕ → ℕ → List K → List K
  all_values ls n zero vs = []
  all_values ls n (suc count) vs = copy_values ls (take n vs) ++ all_values ls n count (drop n vs)

  -- the values of the top one of these layers, the lower part of a circuit, in all copies
  abbrev pub layer_values : Circuit → List Layer → List K → List K
  layer_values c ls vs = all_values ls (2 ^ c.inputs) (2 ^ c.copies) vs

  abbrev pub outputs : Circuit → List K → List K
  outputs c vs = layer_values c c.layers vs
