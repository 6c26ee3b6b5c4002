-- The last three words are those of the last gate.
use Rattle.std.proofs.Common.{◌/◌, ◌<◌, length, arith, rules}
use Rattle.circuits.specs.Words.{gates_of}
use Rattle.circuits.proofs.GatesLeft.{left_none, left_last}
use Rattle.circuits.proofs.Steps.{length-gates_of}
use Rattle.circuits.proofs.view.layer.GatesDoubleEndedIterator.next_back.Goals as goal

pub returns-in_err-others-clause-steps : goal.returns-in_err-others-clause-steps
returns-in_err-others-clause-steps c =
    let none = left_none c.args.self.now.words.now c.in_err-others.ensures.cases in
    rw c.from_residual.ensures (none, none)

pub returns-clause-steps : goal.returns-clause-steps
returns-clause-steps c =
    let h = c.in_ok-others.ensures in
    left_last c.args.self.now.words.now c.in_ok-others.others.now c.in_ok-others.last.now _ c.args.self.now.whole
    (omega (arith, h.cases.2)) h.cases.0 h.cases.1 h.cases.2 c.read_gate.ensures

pub returns-clause-goes : goal.returns-clause-goes
returns-clause-goes c =
    let ws = c.args.self.now.words.now in
    let rest = c.in_ok-others.others.now in
    let less : length (gates_of (length rest / 3) rest) < length (gates_of (length ws / 3) ws) =
    omega (arith, length-gates_of (length rest / 3) rest, length-gates_of (length ws / 3) ws, c.in_ok-others.ensures.cases.2) in
    search rules
