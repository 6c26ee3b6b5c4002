-- The layers that are left answer as all of them do; there are fewer at each turn.
use Rattle.std.proofs.Common.{◌≡◌}
use Rattle.circuits.specs.Circuit.{layers_fit}
use Rattle.circuits.specs.Words.{layers_of}
use Rattle.circuits.proofs.shape.Layers.fit.Given as goal

abbrev pub invariant-loop-first : goal.invariant-loop-first
invariant-loop-first l =
    record {
      same : layers_fit (layers_of l.self.count l.self.words.now) l.inputs ≡ layers_fit (layers_of l.rest.count l.rest.words.now) l.inputs;
      copies : l.rest.copies ≡ l.self.copies;
    }

abbrev pub decreases-loop-first : goal.decreases-loop-first
decreases-loop-first l = l.rest.count
