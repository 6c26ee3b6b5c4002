-- The line goes on by equal steps.
use Rattle.std.proofs.Common.{◌<◌, arith}
use Rattle.rounds.proofs.FourSteps.{four_reduced}
use Rattle.rounds.proofs.RoundSteps.{line_four}
use Rattle.rounds.proofs.rounds.line_values.Goals as goal

pub returns : goal.returns
returns g c =
    let p = g.M.Modular.modulus in
    let several : 1 < p = omega (arith, g.met.M.Modular.above) in
    let line = line_four p several c.args.a c.args.b c.requires.0 c.requires.1 in
    record { values = cc; below = four_reduced p c.requires.0 c.requires.1 c.add-at2.ensures.below c.add.ensures.below }
