-- Each turn takes one weight at x, the others staying as they are.
use Rattle.std.proofs.Common.{◌≡◌, ◌^◌, ◌<◌, length, ap, arith}
use Rattle.arithmetic.proofs.Newton.{reduced_at}
use Rattle.circuits.proofs.Steps.{length-gates_of}
use Rattle.circuits.specs.Circuit.{Gate}
use Rattle.circuits.specs.Views.{gates_seen, size_seen}
use Rattle.fronts.proofs.Gathering.{weighed_more, weighed_all}
use Rattle.fronts.proofs.gather.weigh_left.Goals as goal

pub mul-requires : goal.mul-requires
mul-requires g c =
    let p = g.M.Modular.modulus in
    let left : c.gate-gate.result.left < length c.args.eq_at_x.now = omega arith in
    (reduced_at p c.loop-i.weights c.loop-i.invariant.reduced c.loop-i.i (omega arith), reduced_at p c.args.eq_at_x.now c.requires.given.1 c.gate-gate.result.left left)

pub loop-i-preserved : goal.loop-i-preserved
loop-i-preserved g c =
    let p = g.M.Modular.modulus in
    let positive : 0 < p = omega (arith, g.met.M.Modular.above) in
    let gates = gates_seen c.args.layer in
    let whole : length gates ≡ 2 ^ size_seen c.args.layer = length-gates_of _ _ in
    weighed_more p positive gates c.args.weights.now c.args.eq_at_x.now c.loop-i.i c.loop-i.weights c.loop-i.invariant (omega arith) (omega arith) (omega arith)
    c.gate-gate.result.left c.mul.result (ap (λ (x : Gate). x.left) c.gate-gate.ensures.value) c.mul.ensures.value

pub returns-clause-weights : goal.returns-clause-weights
returns-clause-weights g c =
    let gates = gates_seen c.args.layer in
    let whole : length gates ≡ 2 ^ size_seen c.args.layer = length-gates_of _ _ in
    weighed_all g.M.Modular.modulus gates c.args.weights.now c.args.eq_at_x.now c.loop-i.i c.loop-i.weights c.loop-i.invariant (omega arith) (omega arith) (omega arith)
