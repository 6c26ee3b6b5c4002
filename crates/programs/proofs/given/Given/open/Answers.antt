-- Numbers that are reduced are below the modulus.
use Rattle.std.proofs.Common.{sym, le_of_eq, lit<}
use Rattle.circuits.specs.Words.{modulus}
use Rattle.circuits.proofs.Reduced.{reduced_each}
use Rattle.programs.proofs.given.Given.open.Goals as goal

pub open-requires : goal.open-requires
open-requires c =
    let given = c.args.self in
    record {
      inputs = (given.inputs_whole, reduced_each modulus given.inputs.now (lit< tt) given.inputs_reduced);
      coins = (le_of_eq (sym c.requires.coins.0), c.requires.coins.1);
    }
