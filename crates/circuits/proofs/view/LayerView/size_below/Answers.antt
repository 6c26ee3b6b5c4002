-- What lies below a layer of a lawful circuit keeps the limit on sizes.
use Rattle.circuits.proofs.Parts.{layer_parts}
use Rattle.circuits.proofs.view.LayerView.size_below.Goals as goal

pub returns-clause-limit : goal.returns-clause-limit
returns-clause-limit c = (layer_parts c.args.self.size c.args.self.below c.args.self.words.now c.args.self.lawful).limit_below
