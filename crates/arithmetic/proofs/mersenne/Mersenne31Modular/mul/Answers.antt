-- The parts of the product below and above bit 31 fit, and their sum is the product modulo 2^31 - 1.
use Rattle.std.proofs.Common.{◌∙◌, mod-lt, arith, lit<}
use Rattle.arithmetic.proofs.ShiftAndSum.{high_below, parts_below, parts_product}
use Rattle.arithmetic.proofs.mersenne.Mersenne31Modular.mul.Goals as goal

pub overflow_cast-high : goal.overflow_cast-high
overflow_cast-high c = omega (arith, high_below c.args.a c.args.b c.requires.0 c.requires.1)

pub overflow_add-low : goal.overflow_add-low
overflow_add-low c = omega (arith, parts_below c.args.a c.args.b c.requires.0 c.requires.1)

pub subtract_once-requires : goal.subtract_once-requires
subtract_once-requires c = parts_below c.args.a c.args.b c.requires.0 c.requires.1

pub returns : goal.returns
returns c =
    let value = c.subtract_once.ensures ∙ parts_product c.args.a c.args.b in
    record { value = value; below = rw value (mod-lt _ (lit< tt)) }
