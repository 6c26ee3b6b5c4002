-- The number at the place is below the modulus, and so is the one that takes its stead.
use Rattle.arithmetic.proofs.Newton.{reduced_at}
use Rattle.fronts.proofs.Gathering.{reduced_set}
use Rattle.fronts.proofs.gather.add_at.Goals as goal

pub add-requires : goal.add-requires
add-requires g c = (reduced_at g.M.Modular.modulus c.args.table.now c.requires.reduced c.args.place c.requires.place, c.requires.number)

pub returns-clause-reduced : goal.returns-clause-reduced
returns-clause-reduced g c = reduced_set g.M.Modular.modulus c.args.table.now c.args.place c.add.result c.requires.reduced c.add.ensures.below
