-- What fits is what fits a variable, or the two values, by what is due.
use Rattle.std.proofs.Common.{◌≡◌, Bool, true, false, sym, subst}
use Rattle.std.specs.Option.{MatchOption}
use Rattle.verdicts.proofs.Stepping.{Due, Done, due_is, done_is, fits_due, fits_done}
use Rattle.claims.specs.Meaning.{numbers}
use Rattle.claims.specs.Messages.{numbers_of}
use Rattle.verifier.specs.Meaning.{stand_of}
use Rattle.verifier.proofs.verifier.Verifier.fitting.Goals as goal

pub returns-then-variable_due : goal.returns-then-variable_due
returns-then-variable_due c =
    let s = stand_of c.args.self.now in
    let said = c.args.said.now in
    let due : Due s = due_is s c.variable_due.result c.variable_due.ensures c.if-variable_due.true in
    subst (λ (b : Bool). MatchOption c.read_variable.result (b ≡ false) (λ m. (numbers_of m ≡ said) × (b ≡ true))) (sym (fits_due numbers s said due))
    c.read_variable.ensures

pub returns-else-variable_due : goal.returns-else-variable_due
returns-else-variable_due c =
    let s = stand_of c.args.self.now in
    let said = c.args.said.now in
    let done : Done s = done_is s c.variable_due.result c.variable_due.ensures c.if-variable_due.false in
    subst (λ (b : Bool). MatchOption c.read_values.result (b ≡ false) (λ m. (numbers_of m ≡ said) × (b ≡ true))) (sym (fits_done numbers s said done))
    c.read_values.ensures

pub read_values-requires-clause-done : goal.read_values-requires-clause-done
read_values-requires-clause-done c = done_is (stand_of c.args.self.now) c.variable_due.result c.variable_due.ensures c.if-variable_due.false
