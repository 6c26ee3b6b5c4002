-- The parts of the coins that were cut out are the new claim's.
use Rattle.std.proofs.Common.{◌≡◌, ◌-◌, refl, arith}
use Rattle.prover.specs.Provers.{below_of, history}
use Rattle.prover.proofs.LayerBelow.{heard_below, cut_is}
use Rattle.prover.proofs.prover.HonestProver.below.Goals as goal

pub returns-clause-heard : goal.returns-clause-heard
returns-clause-heard c =
    let t = c.args.self.now in
    let xs = c.as_slice-point.result.now in
    let is = c.as_slice-point.ensures.coins in
    let x = c.start_of_x-x.ensures in
    let y = c.start_of_y-y.ensures in
    let size : c.start_of_y-y.result - c.start_of_x-x.result ≡ below_of t = omega (arith, x, y) in
    heard_below t _ c.args.coin c.requires.all _ _ _ refl refl c.at.ensures
    (cut_is 0 _ 0 _ xs (history t) _ refl x is c.cut-3.ensures.part)
    (cut_is _ _ _ _ xs (history t) _ x size is c.cut.ensures.part)
    (cut_is _ _ _ _ xs (history t) _ y size is c.cut-2.ensures.part)
