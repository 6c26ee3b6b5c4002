-- One number of the array is set, to one that is reduced.
use Rattle.circuits.specs.Words.{modulus}
use Rattle.claims.proofs.Cutting.{reduced_set}
use Rattle.claims.proofs.drawn.Drawn.push.Goals as goal

pub invariant_of-self-clause-reduced : goal.invariant_of-self-clause-reduced
invariant_of-self-clause-reduced c =
    let d = c.args.self.now in
    reduced_set modulus d.words d.len c.args.coin c.requires.reduced d.reduced
