-- The first of the layers is split off, and the limits of all of them are its own.
use Rattle.std.proofs.Common.{◌≡◌, List, sym, ap, ap₂, ◌∙◌, arith}
use Rattle.circuits.specs.Circuit.{size_below, Layer}
use Rattle.circuits.specs.Views.{layer_seen, layers_seen, inputs_below, places_below, size_seen}
use Rattle.prover.proofs.LayerBelow.{layers_split, top_limit, begins}
use Rattle.prover.proofs.prover.HonestProver.at.Goals as goal

pub invariant_of-result-clause-limit_size : goal.invariant_of-result-clause-limit_size
invariant_of-result-clause-limit_size c =
    let ls = c.args.layers in
    let el = layers_split (layers_seen ls) (layers_seen c.rest.result) (layer_seen c.first.result) c.requires.some c.first.ensures.layer c.rest.ensures.layers in
    let top : size_below (layers_seen ls) (inputs_below ls) ≡ size_seen c.first.result = ap (λ (qs : List Layer). size_below qs (inputs_below ls)) el in
    omega (arith, top, top_limit ls.copies ls.inputs ls.count ls.words.now ls.lawful, c.rest.ensures.copies)

pub invariant_of-result-clause-limit_below : goal.invariant_of-result-clause-limit_below
invariant_of-result-clause-limit_below c =
    let rest = c.rest.result in
    let below : places_below c.first.result ≡ size_below (layers_seen rest) (inputs_below rest) =
    c.first.ensures.below ∙ sym (ap₂ size_below c.rest.ensures.layers c.rest.ensures.inputs) in
    omega (arith, below, top_limit rest.copies rest.inputs rest.count rest.words.now rest.lawful)

pub returns : goal.returns
returns c =
    let ls = c.args.layers in
    let el = layers_split (layers_seen ls) (layers_seen c.rest.result) (layer_seen c.first.result) c.requires.some c.first.ensures.layer c.rest.ensures.layers in
    begins ls _ el c.rest.ensures.copies c.rest.ensures.inputs c.new.ensures
