-- What is counted and what is left are the whole; a layer goes with each turn.
use Rattle.std.proofs.Common.{length}
use Rattle.circuits.specs.Views.{layers_seen}
use Rattle.judging.proofs.Measuring.{Measuring}
use Rattle.judging.proofs.checks.measure.Given as goal

abbrev pub invariant-loop-below : goal.invariant-loop-below
invariant-loop-below l = Measuring l.layers l.rest l.words l.coins

abbrev pub decreases-loop-below : goal.decreases-loop-below
decreases-loop-below l = length (layers_seen l.rest)
