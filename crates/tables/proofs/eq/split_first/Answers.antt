-- Each turn reads a number of the first half as it was at the start, and writes its two parts.
use Rattle.std.proofs.Common.{◌<◌, arith}
use Rattle.tables.proofs.DoublingSteps.{splitting_below, splitting_more}
use Rattle.tables.proofs.eq.split_first.Goals as goal

pub mul-part-requires : goal.mul-part-requires
mul-part-requires g c =
    let positive : 0 < g.M.Modular.modulus = omega (arith, g.met.M.Modular.above) in
    (splitting_below c.loop-i.invariant positive (rw c.split_at_mut-low.ensures.front c.requires.reduced) (omega arith), c.requires.r_below)

pub sub-requires : goal.sub-requires
sub-requires g c =
    let positive : 0 < g.M.Modular.modulus = omega (arith, g.met.M.Modular.above) in
    (splitting_below c.loop-i.invariant positive (rw c.split_at_mut-low.ensures.front c.requires.reduced) (omega arith), c.mul-part.ensures.below)

pub loop-i-preserved : goal.loop-i-preserved
loop-i-preserved g c = splitting_more c.loop-i.invariant 0 c.sub.result c.mul-part.result (omega arith) (omega arith) (cc) c.mul-part.ensures.value
