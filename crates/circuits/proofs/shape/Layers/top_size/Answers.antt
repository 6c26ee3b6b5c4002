-- With no layer it is the size of the inputs, else the first word.
use Rattle.std.proofs.Common.{sym, ◌∙◌, arith}
use Rattle.circuits.proofs.Steps.{top_none, top_some}
use Rattle.circuits.proofs.shape.Layers.top_size.Goals as goal

pub returns-in-None-clause-size : goal.returns-in-None-clause-size
returns-in-None-clause-size c = sym (top_none c.args.self.count c.args.inputs c.args.self.words.now (omega arith))

pub returns-in-Some-clause-size : goal.returns-in-Some-clause-size
returns-in-Some-clause-size c =
    c.in-Some.ensures.size ∙ sym (top_some c.args.self.count c.args.inputs c.args.self.words.now (omega (arith, c.in-Some.ensures.one_less)))
