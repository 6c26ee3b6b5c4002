-- A multiple is a product with a function that does not change.
use Rattle.std.proofs.Common.{refl}
use Rattle.rounds.proofs.FourSteps.{four_reduced}
use Rattle.rounds.proofs.fours.scale_each.Goals as goal

pub mul_each-requires-clause-a : goal.mul_each-requires-clause-a
mul_each-requires-clause-a g c = let h = c.requires.factor in four_reduced g.M.Modular.modulus h h h h

pub returns-clause-values : goal.returns-clause-values
returns-clause-values g c =
    let h = c.requires.factor in
    λ f a. c.mul_each.ensures.values (λ t. c.args.factor) f (record { values = refl; below = four_reduced g.M.Modular.modulus h h h h }) a
