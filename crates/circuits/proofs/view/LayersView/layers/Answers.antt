-- Layers within the limits have that shape.
use Rattle.circuits.proofs.Parts.{layers_parts}
use Rattle.circuits.proofs.view.LayersView.layers.Goals as goal

pub invariant_of-result : goal.invariant_of-result
invariant_of-result c =
    let v = c.args.self in
    record { shaped = (layers_parts v.copies v.inputs v.count v.words.now v.lawful).form }

pub returns-clause-limit : goal.returns-clause-limit
returns-clause-limit c =
    let v = c.args.self in
    (layers_parts v.copies v.inputs v.count v.words.now v.lawful).limit
