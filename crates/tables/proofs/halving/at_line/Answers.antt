-- The line in its form with one multiplication.
use Rattle.std.proofs.Common.{◌<◌, arith}
use Rattle.tables.proofs.HalvingSteps.{on_line_lem}
use Rattle.tables.proofs.halving.at_line.Goals as goal

pub returns-clause-value : goal.returns-clause-value
returns-clause-value g c =
    let p = g.M.Modular.modulus in
    let several : 1 < p = omega (arith, g.met.M.Modular.above) in
    let line = on_line_lem p several c.args.r c.args.a c.args.b in
    cc
