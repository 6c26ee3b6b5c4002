-- What one pass over copies and gates computes in a round of the copies' variables.
-- The values below stand in rows, one for each copy; the round's variable goes from a row of the lower half to its partner.
use Rattle.std.specs.Prelude.{ℕ, zero, suc, ◌+◌, ◌*◌, ◌^◌, List, [], ◌∷◌, take, drop, slice_index_or}
use Rattle.arithmetic.specs.Numbers.{Numbers}
use Rattle.tables.specs.InPlace.{on_line}
use Rattle.circuits.specs.Circuit.{Gate, combine}

-- the values of copy i, of which each has 2^below
abbrev pub row : {K : Type 0} → ℕ → ℕ → List K → List K
row below i v = take (2 ^ below) (drop (i * 2 ^ below) v)

module _ {K : Type 0} (N : Numbers K) where
  open N use {add, mul, nat}

  -- a gate over the values at t on the lines between two rows
  abbrev pub gate_on_line : Gate → List K → List K → K → K
  gate_on_line g lo hi t =
      combine N g.kind (on_line N t (slice_index_or lo g.left (nat 0)) (slice_index_or hi g.left (nat 0)))
      (on_line N t (slice_index_or lo g.right (nat 0)) (slice_index_or hi g.right (nat 0)))

  -- the sum, over gates, of weight times that
  unfoldable pub row_sum : List Gate → List K → List K → List K → K → K
  row_sum [] ws lo hi t = nat 0
  row_sum (g ∷ gs) [] lo hi t = nat 0
  row_sum (g ∷ gs) (w ∷ ws) lo hi t = add (mul w (gate_on_line g lo hi t)) (row_sum gs ws lo hi t)

  -- E times that sum, for the row i of the lower half and its partner
  abbrev pub row_term : ℕ → List Gate → List K → ℕ → List K → List K → ℕ → K → K
  row_term below gs ws half e v i t =
      mul (on_line N t (slice_index_or e i (nat 0)) (slice_index_or e (half + i) (nat 0)))
      (row_sum gs ws (row below i v) (row below (half + i) v) t)

  -- the sum over n rows from row i on
  unfoldable pub rows_sum : ℕ → List Gate → List K → ℕ → List K → List K → ℕ → ℕ → K → K
  rows_sum below gs ws half e v i zero t = nat 0
  rows_sum below gs ws half e v i (suc n) t =
      add (row_term below gs ws half e v i t) (rows_sum below gs ws half e v (i + 1) n t)
