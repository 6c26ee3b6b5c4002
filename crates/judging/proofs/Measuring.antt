-- Counting the words and coins of a circuit's layers, one layer after the other.
-- No layer has more than 32 variables, so that the counts stay small.
use Rattle.std.proofs.Common.{◌≡◌, ℕ, ◌+◌, ◌*◌, ◌<◌, ◌≤◌, length, drop, ap, arith, length-drop}
use Rattle.circuits.specs.Circuit.{size_below}
use Rattle.circuits.specs.Views.{layers_seen, copies_above, inputs_below}
use Rattle.circuits.specs.declared.view.LayersView.{LayersView}
use Rattle.argument.specs.Argument.{layer_coins}
use Rattle.argument.specs.Transcript.{layer_words}
use Rattle.verdicts.specs.Machine.{variables}
use Rattle.verifier.proofs.PointParts.{variables_some}
use Rattle.judging.proofs.Walking.{words_some, coins_some}

abbrev pub words_seen : LayersView → ℕ
words_seen v = layer_words (copies_above v) (layers_seen v) (inputs_below v)

abbrev pub coins_seen : LayersView → ℕ
coins_seen v = layer_coins (copies_above v) (layers_seen v) (inputs_below v)

pub record Measuring (all rest : LayersView) (words coins : ℕ) : Type 0 where
  pub words_are : words + words_seen rest ≡ words_seen all
  pub coins_are : coins + coins_seen rest ≡ coins_seen all
  pub words_limit : words + 130 * length (layers_seen rest) ≤ 130 * length (layers_seen all)
  pub coins_limit : coins + 33 * length (layers_seen rest) ≤ 33 * length (layers_seen all)

pub measuring_none : (all : LayersView) → Measuring all all 0 0
measuring_none all = record { words_are = omega arith; coins_are = omega arith; words_limit = omega arith; coins_limit = omega arith }

pub measuring_more :
    {all rest : LayersView} {words coins : ℕ} → Measuring all rest words coins → (below : LayersView) (n : ℕ) →
    0 < length (layers_seen rest) → layers_seen below ≡ drop 1 (layers_seen rest) → copies_above below ≡ copies_above rest →
    inputs_below below ≡ inputs_below rest → n ≡ copies_above below + 2 * size_below (layers_seen below) (inputs_below below) → n ≤ 32 →
    Measuring all below (words + (4 * n + 2)) (coins + (n + 1))
measuring_more {all} {rest} {words} {coins} h below n some el ec ei en limit =
    let c = copies_above rest in
    let i = inputs_below rest in
    let ls = layers_seen rest in
    let size : size_below (layers_seen below) (inputs_below below) ≡ size_below (drop 1 ls) i = λ j. size_below (el j) (ei j) in
    let vars : n ≡ variables c i ls = omega (arith, en, ec, size, variables_some c i ls some) in
    let left-words : words_seen below ≡ layer_words c (drop 1 ls) i = λ j. layer_words (ec j) (el j) (ei j) in
    let left-coins : coins_seen below ≡ layer_coins c (drop 1 ls) i = λ j. layer_coins (ec j) (el j) (ei j) in
    let fewer : length (layers_seen below) + 1 ≡ length ls = omega (arith, ap length el, length-drop 1 ls) in
    record {
      words_are = omega (arith, h.words_are, left-words, words_some c i ls some, vars);
      coins_are = omega (arith, h.coins_are, left-coins, coins_some c i ls some, vars);
      words_limit = omega (arith, h.words_limit, fewer);
      coins_limit = omega (arith, h.coins_limit, fewer);
    }
