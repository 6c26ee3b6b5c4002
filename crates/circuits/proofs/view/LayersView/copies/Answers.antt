-- Copies and inputs together keep the limit.
use Rattle.std.proofs.Common.{arith}
use Rattle.circuits.proofs.Parts.{layers_parts}
use Rattle.circuits.proofs.view.LayersView.copies.Goals as goal

pub returns-clause-limit : goal.returns-clause-limit
returns-clause-limit c =
    let v = c.args.self in
    let p = layers_parts v.copies v.inputs v.count v.words.now v.lawful in
    omega (arith, p.limit)
