-- Believed is answered 0, and any other verdict 4.
use Rattle.std.proofs.Common.{sym, ap, ◌∙◌}
use Rattle.verdicts.specs.Machine.{number_of}
use Rattle.judging.proofs.Judged.{judged-verdict}
use Rattle.judging.proofs.call.Transcript.try_judge.Goals as goal

pub returns-in-Believed : goal.returns-in-Believed
returns-in-Believed c =
    let t = c.args.self in
    let history = c.in_ok-examine.ensures in
    sym (ap number_of c.in-Believed.is) ∙
    judged-verdict t.circuit.now t.inputs.now t.claimed.now t.messages.now t.coins.now history.0 c.in_ok-examine.field-0 history.1

pub returns-in-Stopped : goal.returns-in-Stopped
returns-in-Stopped c =
    let t = c.args.self in
    let history = c.in_ok-examine.ensures in
    sym (ap number_of c.in-Stopped.is) ∙
    judged-verdict t.circuit.now t.inputs.now t.claimed.now t.messages.now t.coins.now history.0 c.in_ok-examine.field-0 history.1
