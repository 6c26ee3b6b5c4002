-- Whether coins are left for the layers below: none where there is no layer, some where there is one.
-- So the answer before the last coin is known by the layers and the part that is due.
use Rattle.std.proofs.Common.{◌≡◌, ℕ, ◌<◌, List, [], ◌∷◌, length, refl, arith}
use Rattle.circuits.specs.Circuit.{Layer}
use Rattle.argument.specs.Argument.{layer_coins}

pub none_below : (copies inputs : ℕ) (ls : List Layer) → length ls ≡ 0 → layer_coins copies ls inputs ≡ 0
unfolding layer_coins
none_below copies inputs [] e = refl
none_below copies inputs (l ∷ ls) e = absurd (omega arith)

pub some_below : (copies inputs : ℕ) (ls : List Layer) → (length ls ≡ 0 → ⊥) → 0 < layer_coins copies ls inputs
unfolding layer_coins
some_below copies inputs [] h = absurd (h refl)
some_below copies inputs (l ∷ ls) h = omega arith
