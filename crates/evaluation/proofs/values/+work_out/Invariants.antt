-- There are fewer layers at each call.
use Rattle.std.proofs.Common.{length}
use Rattle.circuits.specs.Views.{layers_seen}
use Rattle.evaluation.proofs.values.+work_out.Given as goal

abbrev pub decreases-work_out : goal.decreases-work_out
decreases-work_out g l = length (layers_seen l.layers)
