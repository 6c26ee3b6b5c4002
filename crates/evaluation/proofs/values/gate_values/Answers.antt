-- Each turn fills one more place with the value of its gate.
use Rattle.std.proofs.Common.{◌≡◌, ◌^◌, ◌<◌, length, get_or, arith}
use Rattle.arithmetic.specs.Numbers.{modulo}
use Rattle.circuits.specs.Circuit.{gate_values}
use Rattle.circuits.specs.Views.{gates_seen, gate_meant, no_gate}
use Rattle.circuits.proofs.Steps.{length-gates_of}
use Rattle.evaluation.proofs.WorkingOut.{fill_more, fill_all, length-gate_values, value_at}
use Rattle.evaluation.proofs.values.gate_values.Goals as goal

pub loop-i-preserved : goal.loop-i-preserved
loop-i-preserved g c =
    let N = modulo g.M.Modular.modulus in
    let v = c.args.layer in
    let below = c.args.below.now in
    let gs = gates_seen v in
    let i = c.loop-i.i in
    let e = length-gates_of (2 ^ v.size) v.words.now in
    let h : i < length gs = omega arith in
    let k : i < length (gate_values N below gs) = omega (arith, length-gate_values N below gs) in
    let w : c.combine.result ≡ get_or (gate_values N below gs) i 0 =
    value_at N below gs i (gate_meant c.gate-gate.result) no_gate c.combine.result 0 h c.combine.ensures c.gate-gate.ensures.value in
    fill_more c.loop-i.values (gate_values N below gs) i c.combine.result (omega arith) k c.loop-i.invariant w

pub returns : goal.returns
returns g c =
    let N = modulo g.M.Modular.modulus in
    let v = c.args.layer in
    let below = c.args.below.now in
    let gs = gates_seen v in
    let i = c.loop-i.i in
    let e = length-gates_of (2 ^ v.size) v.words.now in
    fill_all c.loop-i.values (gate_values N below gs) i (omega arith) (omega (arith, length-gate_values N below gs)) c.loop-i.invariant
