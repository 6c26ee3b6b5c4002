-- The first three words are those of the first gate.
use Rattle.std.proofs.Common.{◌/◌, ◌<◌, length, arith, rules}
use Rattle.circuits.specs.Words.{gates_of}
use Rattle.circuits.proofs.GatesLeft.{left_none, left_first}
use Rattle.circuits.proofs.Steps.{length-gates_of}
use Rattle.circuits.proofs.view.layer.GatesIterator.next.Goals as goal

pub returns-in_err-first-clause-steps : goal.returns-in_err-first-clause-steps
returns-in_err-first-clause-steps c =
    let none = left_none c.args.self.now.words.now c.in_err-first.ensures.cases in
    rw c.from_residual.ensures (none, none)

pub returns-clause-steps : goal.returns-clause-steps
returns-clause-steps c =
    let h = c.in_ok-first.ensures in
    left_first c.args.self.now.words.now c.in_ok-first.first.now c.in_ok-first.rest.now _
    (omega (arith, h.cases.2)) h.cases.0 h.cases.1 h.cases.2 c.read_gate.ensures

pub returns-clause-goes : goal.returns-clause-goes
returns-clause-goes c =
    let ws = c.args.self.now.words.now in
    let rest = c.in_ok-first.rest.now in
    let less : length (gates_of (length rest / 3) rest) < length (gates_of (length ws / 3) ws) =
    omega (arith, length-gates_of (length rest / 3) rest, length-gates_of (length ws / 3) ws, c.in_ok-first.ensures.cases.2) in
    search rules
