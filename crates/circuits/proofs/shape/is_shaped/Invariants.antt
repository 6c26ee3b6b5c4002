-- The words that are left answer as all of them do.
use Rattle.std.proofs.Common.{◌≡◌, ◌-◌}
use Rattle.circuits.specs.Words.{shaped}
use Rattle.circuits.proofs.shape.is_shaped.Given as goal

abbrev pub invariant-loop-done : goal.invariant-loop-done
invariant-loop-done l = shaped l.copies l.count l.words ≡ shaped l.copies (l.count - l._done) l.rest
