-- As many layers as the words are read for.
use Rattle.std.proofs.Common.{sym}
use Rattle.circuits.proofs.Steps.{length-layers_of}
use Rattle.circuits.proofs.view.LayersView.count.Goals as goal

pub returns : goal.returns
returns c = sym (length-layers_of c.args.self.count c.args.self.words.now)
