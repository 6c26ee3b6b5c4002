-- The words are those of whole gates.
use Rattle.std.proofs.Common.{◌≡◌, ◌/◌, ◌^◌, length, ap, arith}
use Rattle.circuits.specs.Words.{gates_of}
use Rattle.circuits.proofs.Parts.{layer_parts}
use Rattle.circuits.proofs.view.LayerView.gates.Goals as goal

pub invariant_of-result : goal.invariant_of-result
invariant_of-result c =
    let p = layer_parts c.args.self.size c.args.self.below c.args.self.words.now c.args.self.lawful in
    record { whole = omega (arith, p.whole) }

pub returns : goal.returns
returns c =
    let p = layer_parts c.args.self.size c.args.self.below c.args.self.words.now c.args.self.lawful in
    let n : length c.args.self.words.now / 3 ≡ 2 ^ c.args.self.size = omega (arith, p.whole) in
    ap (λ k. gates_of k c.args.self.words.now) n
