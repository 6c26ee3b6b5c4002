-- What is left of the transcript leads from here to the verdict that the whole led to; a layer goes with each turn.
use Rattle.std.proofs.Common.{◌≡◌, length}
use Rattle.verifier.specs.Meaning.{stand_of, inputs_of}
use Rattle.judging.proofs.Walking.{Walking}
use Rattle.judging.proofs.transcript.hear_layers.Given as goal

abbrev pub invariant-loop-said : goal.invariant-loop-said
invariant-loop-said l =
    Walking (inputs_of l.initial.verifier) (stand_of l.initial.verifier) l.messages l.coins l.said l.drawn (stand_of l.verifier) ×
    (inputs_of l.verifier ≡ inputs_of l.initial.verifier)

abbrev pub decreases-loop-said : goal.decreases-loop-said
decreases-loop-said l = length (stand_of l.verifier).layers
