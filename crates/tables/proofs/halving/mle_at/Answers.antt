-- Each turn is one step of halving, on the live part.
use Rattle.std.proofs.Common.{◌<◌, refl, arith}
use Rattle.tables.proofs.HalvingSteps.{halving_more, halving_all}
use Rattle.tables.proofs.ReducedLists.{reduced_anywhere, reduced_take}
use Rattle.tables.proofs.halving.mle_at.Goals as goal

pub fix_first-requires : goal.fix_first-requires
fix_first-requires g c =
    let p = g.M.Modular.modulus in
    let positive : 0 < p = omega (arith, g.met.M.Modular.above) in
    record {
      reduced = reduced_take p c.loop-r.len c.loop-r.table c.loop-r.invariant.reduced;
      r_below = reduced_anywhere p positive c.args.point.now c.requires.point_reduced _;
    }

pub loop-r-preserved : goal.loop-r-preserved
loop-r-preserved g c =
    halving_more c.loop-r.invariant c.fix_first.new.table c.loop-r.len refl c.loop-r-test.true
    c.fix_first.ensures.words c.fix_first.ensures.reduced

pub returns : goal.returns
returns g c =
    let positive : 0 < g.M.Modular.modulus = omega (arith, g.met.M.Modular.above) in
    let (value, below, words) = halving_all c.loop-r.invariant positive (omega arith) in
    record { value = value; below = below; words = words; reduced = c.loop-r.invariant.reduced }
