-- Each of the four sums grows by the gate's value at the same place of its two lines.
use Rattle.arithmetic.proofs.Newton.{reduced_at}
use Rattle.rounds.proofs.copies.add_gate.Goals as goal

pub line_values-left-requires : goal.line_values-left-requires
line_values-left-requires g c =
    let p = g.M.Modular.modulus in
    (reduced_at p c.args.low.now c.requires.low c.args.gate.left c.requires.left.0, reduced_at p c.args.high.now c.requires.high c.args.gate.left c.requires.left.1)

pub line_values-right-requires : goal.line_values-right-requires
line_values-right-requires g c =
    let p = g.M.Modular.modulus in
    (reduced_at p c.args.low.now c.requires.low c.args.gate.right c.requires.right.0, reduced_at p c.args.high.now c.requires.high c.args.gate.right c.requires.right.1)

pub returns : goal.returns
returns g c =
    let left = c.line_values-left.ensures in
    let right = c.line_values-right.ensures in
    let value = c.combine_each-value.ensures.values _ _ (record { values = left.values; below = left.below }) (record { values = right.values; below = right.below }) in
    record {
      values = λ f sums. c.add_each.ensures.values _ f (c.scale_each.ensures.values _ value) sums;
      below = c.add_each.ensures.below;
    }
