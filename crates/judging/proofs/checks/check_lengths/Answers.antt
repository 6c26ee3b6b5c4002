-- A circuit has at most 32 layers.
use Rattle.std.proofs.Common.{length, ap, arith}
use Rattle.circuits.specs.Views.{words_seen}
use Rattle.verifier.proofs.Limits.{layers_limit}
use Rattle.judging.proofs.checks.check_lengths.Goals as goal

pub measure-layers-requires : goal.measure-layers-requires
measure-layers-requires c =
    omega (arith, ap length c.layers.ensures.layers, layers_limit (words_seen c.args.circuit) c.args.circuit.lawful)
