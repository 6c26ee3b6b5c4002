-- A circuit has at most 32 layers.
use Rattle.std.proofs.Common.{length, ap, arith}
use Rattle.circuits.specs.Views.{words_seen}
use Rattle.verifier.proofs.Limits.{layers_limit}
use Rattle.verifier.proofs.verifier.Verifier.new.Goals as goal

pub invariant_of-result-2-clause-numbered : goal.invariant_of-result-2-clause-numbered
invariant_of-result-2-clause-numbered c =
    omega (arith, ap length c.layers-layers.ensures.layers, layers_limit (words_seen c.args.circuit) c.args.circuit.lawful)
