-- Each turn counts one layer more; nothing is left to count where no layer is.
use Rattle.std.proofs.Common.{◌≡◌, ℕ, ◌+◌, ◌*◌, ◌<◌, length, drop, arith, ap, sym}
use Rattle.circuits.specs.Circuit.{size_below}
use Rattle.circuits.specs.Views.{layers_seen, copies_above, inputs_below}
use Rattle.judging.proofs.Measuring.{measuring_more}
use Rattle.judging.proofs.Walking.{words_none, coins_none}
use Rattle.judging.proofs.checks.measure.Goals as goal

pub loop-below-preserved : goal.loop-below-preserved
loop-below-preserved c =
    let n : ℕ = c.copies.result + 2 * c.top_size.result in
    let below = c.in-Some.below in
    let split = c.in-Some.ensures in
    let rest = c.loop-below.rest in
    let some : 0 < length (layers_seen rest) = omega (arith, ap length split.layers) in
    let en : n ≡ copies_above below + 2 * size_below (layers_seen below) (inputs_below below) =
    omega (arith, c.copies.ensures.value, c.top_size.ensures.value)
    in
    let others : layers_seen below ≡ drop 1 (layers_seen rest) = sym (ap (drop 1) split.layers) in
    measuring_more c.loop-below.invariant below n some others split.copies split.inputs en
    (omega (arith, c.copies.ensures.value, c.top_size.ensures.limit))

pub returns-clause-words : goal.returns-clause-words
returns-clause-words c =
    let rest = c.loop-below.rest in
    let none : length (layers_seen rest) ≡ 0 = ap length c.in_default.ensures in
    omega (arith, c.loop-below.invariant.words_are, words_none (copies_above rest) (inputs_below rest) (layers_seen rest) none)

pub returns-clause-coins : goal.returns-clause-coins
returns-clause-coins c =
    let rest = c.loop-below.rest in
    let none : length (layers_seen rest) ≡ 0 = ap length c.in_default.ensures in
    omega (arith, c.loop-below.invariant.coins_are, coins_none (copies_above rest) (inputs_below rest) (layers_seen rest) none)
