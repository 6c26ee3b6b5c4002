-- The parts of the circuit and of the first coins are the prover's.
use Rattle.std.proofs.Common.{◌≡◌, refl, ap₂, ◌∙◌}
use Rattle.circuits.specs.Circuit.{size_below, output_size}
use Rattle.circuits.specs.Views.{circuit_seen}
use Rattle.prover.proofs.LayerBelow.{cut_is}
use Rattle.prover.proofs.OpeningSteps.{opened}
use Rattle.prover.proofs.opening.open.Goals as goal

pub returns : goal.returns
returns c =
    let seen = circuit_seen c.args.circuit in
    let all = c.layers-layers.ensures in
    let coins = c.args.coins.now in
    let copies : c.copies-copies.result ≡ seen.copies = c.copies-copies.ensures.value ∙ all.copies in
    let size : c.top_size-size.result ≡ output_size seen = c.top_size-size.ensures.value ∙ ap₂ size_below all.layers all.inputs in
    opened seen c.args.inputs.now coins _ c.layers-layers.result _ _ all.copies all.inputs all.layers c.at.ensures refl
    (cut_is 0 _ 0 _ coins coins _ refl copies refl c.cut-2.ensures.part)
    (cut_is _ _ _ _ coins coins _ copies size refl c.cut.ensures.part)
    c.requires.coins.0
