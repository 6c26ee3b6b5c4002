-- A layer has at most 32 variables, so that there is room for the coin of one that is due.
use Rattle.std.proofs.Common.{arith}
use Rattle.verifier.proofs.Limits.{variables_limit}
use Rattle.verifier.proofs.verifier.Verifier.advanced.Goals as goal

pub push-requires-clause-room : goal.push-requires-clause-room
push-requires-clause-room c =
    let layers = c.args.self.now.layers in
    omega (arith, variables_limit layers.copies layers.inputs layers.count layers.words.now layers.lawful, c.requires.due)
