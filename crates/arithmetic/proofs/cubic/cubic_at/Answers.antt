-- The four values are below the modulus, and the steps are those of Newton's form written out.
use Rattle.std.proofs.Common.{◌≡◌, ℕ, ◌<◌, List, length, get_or, ap, mod-lt, arith, rules}
use Rattle.arithmetic.specs.Numbers.{modulo}
use Rattle.arithmetic.specs.Cubic.{interpolate}
use Rattle.arithmetic.proofs.Newton.{four_below, four_places, newton_steps}
use Rattle.arithmetic.proofs.cubic.cubic_at.Goals as goal

pub sub-first-requires : goal.sub-first-requires
sub-first-requires g c =
    let four : length c.args.values ≡ 4 = search rules in
    omega (arith, four_below _ c.args.values c.requires.reduced four)

pub sub-after_first-requires : goal.sub-after_first-requires
sub-after_first-requires g c =
    let four : length c.args.values ≡ 4 = search rules in
    omega (arith, four_below _ c.args.values c.requires.reduced four)

pub sub-last-requires : goal.sub-last-requires
sub-last-requires g c =
    let four : length c.args.values ≡ 4 = search rules in
    omega (arith, four_below _ c.args.values c.requires.reduced four)

pub newton_step-requires : goal.newton_step-requires
newton_step-requires g c =
    let four : length c.args.values ≡ 4 = search rules in
    omega (arith, four_below _ c.args.values c.requires.reduced four)

pub returns : goal.returns
returns g c =
    let p = g.M.Modular.modulus in
    let ys = c.args.values in
    let four : length ys ≡ 4 = search rules in
    let positive : 0 < p = omega (arith, g.met.M.Modular.above) in
    let spelled = ap (λ (l : List ℕ). interpolate (modulo p) l c.args.x) (four_places ys four) in
    let steps =
    newton_steps p (get_or ys 0 0) (get_or ys 1 0) (get_or ys 2 0) (get_or ys 3 0) c.args.x (mod-lt _ positive)
    in
    record { value = cc (spelled, steps); below = c.newton_step.ensures.below }
