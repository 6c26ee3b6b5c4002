-- The two numbers are reduced.
use Rattle.std.proofs.Common.{arith}
use Rattle.verifier.proofs.Reading.{formed_at}
use Rattle.verifier.proofs.verifier.Verifier.read_values.Goals as goal

pub expected-requires-clause-values : goal.expected-requires-clause-values
expected-requires-clause-values c =
    let at = formed_at 2 c.in_ok-values.values c.args.said.now c.in_ok-values.ensures.0 c.in_ok-values.ensures.1 in
    (at 0 (omega arith), at 1 (omega arith))
