-- Within the layer the prover takes the coin and moves on; at its end the layer below begins.
use Rattle.std.proofs.Common.{arith, ◌∙◌}
use Rattle.circuits.specs.Views.{layers_seen, inputs_below}
use Rattle.prover.specs.Provers.{copies_of}
use Rattle.prover.proofs.LayerBelow.{layers_some}
use Rattle.prover.proofs.ProverHears.{some_left, heard_pushed, heard_alike, layer_after}
use Rattle.prover.proofs.prover.HonestProver.hear_in.Goals as goal

pub below-requires-clause-some : goal.below-requires-clause-some
below-requires-clause-some c =
    let t = c.args.self.now in
    layers_some (copies_of t) (inputs_below t.rest) (layers_seen t.rest) (omega (arith, c.in-Values.ensures, c.requires.more))

pub take_coin-requires-clause-more : goal.take_coin-requires-clause-more
take_coin-requires-clause-more c = some_left c.args.self.now c.due.result c.due.ensures c.in_default.not-Values

pub returns-in_default-clause-heard : goal.returns-in_default-clause-heard
returns-in_default-clause-heard c =
    let t = c.args.self.now in
    let more = some_left t c.due.result c.due.ensures c.in_default.not-Values in
    heard_alike c.args.coin t _ _ (heard_pushed c.args.coin t _ more c.take_coin.ensures.pushed) c.settle.ensures.alike

pub returns-in_default-clause-drawn : goal.returns-in_default-clause-drawn
returns-in_default-clause-drawn c more =
    let pushed = c.take_coin.ensures.pushed in
    (c.settle.ensures.coins ∙ pushed.coins, layer_after _ _ _ pushed.same c.settle.ensures.layer)
