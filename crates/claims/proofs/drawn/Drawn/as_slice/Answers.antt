-- A part of the array is reduced as all of it is.
use Rattle.std.proofs.Common.{◌-◌}
use Rattle.circuits.specs.Words.{modulus}
use Rattle.claims.proofs.Cutting.{reduced_part}
use Rattle.claims.proofs.drawn.Drawn.as_slice.Goals as goal

pub returns-clause-reduced : goal.returns-clause-reduced
returns-clause-reduced c =
    let d = c.args.self.now in
    reduced_part modulus 0 (d.len - 0) d.words d.reduced
