-- The place follows from what is due.
use Rattle.std.proofs.Common.{rules}
use Rattle.verdicts.proofs.Stepping.{due_is, done_is, doubt_due, doubt_done}
use Rattle.verifier.specs.Meaning.{stand_of}
use Rattle.verifier.proofs.verifier.Verifier.doubt.Goals as goal

pub returns-then-variable_due : goal.returns-then-variable_due
returns-then-variable_due c =
    let s = stand_of c.args.self.now in
    doubt_due s _ (due_is s c.variable_due.result c.variable_due.ensures c.if-variable_due.true) (search rules)

pub returns-else-variable_due : goal.returns-else-variable_due
returns-else-variable_due c =
    let s = stand_of c.args.self.now in
    doubt_done s (done_is s c.variable_due.result c.variable_due.ensures c.if-variable_due.false)
