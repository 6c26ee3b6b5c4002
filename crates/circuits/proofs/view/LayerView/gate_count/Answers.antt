-- A layer of a lawful circuit keeps the limit on sizes.
use Rattle.std.proofs.Common.{arith}
use Rattle.circuits.proofs.Parts.{layer_parts}
use Rattle.circuits.proofs.view.LayerView.gate_count.Goals as goal

pub power-requires : goal.power-requires
power-requires c =
    let p = layer_parts c.args.self.size c.args.self.below c.args.self.words.now c.args.self.lawful in
    omega (arith, p.limit, p.limit_below)
