-- Each turn scales one number.
use Rattle.std.proofs.Common.{◌<◌, arith}
use Rattle.arithmetic.proofs.Newton.{reduced_at}
use Rattle.fronts.proofs.Gathering.{scaled_more}
use Rattle.fronts.proofs.gather.scale.Goals as goal

pub mul-requires : goal.mul-requires
mul-requires g c =
    (reduced_at g.M.Modular.modulus c.loop-x.table c.loop-x.invariant.reduced c.loop-x.x-index (omega arith), c.requires.factor)

pub loop-x-preserved : goal.loop-x-preserved
loop-x-preserved g c =
    let p = g.M.Modular.modulus in
    let positive : 0 < p = omega (arith, g.met.M.Modular.above) in
    scaled_more p c.args.factor positive c.args.table.now c.loop-x.x-index c.loop-x.table c.loop-x.invariant (omega arith) (omega arith)
    c.mul.result c.mul.ensures.value
