-- Before a turn its place is as it was, and what was added is reduced.
use Rattle.std.proofs.Common.{ℕ, ◌<◌, length, sym, subst, arith}
use Rattle.arithmetic.proofs.Newton.{reduced_at}
use Rattle.claims.proofs.Adding.{added_reduced}
use Rattle.claims.proofs.wiring.weights.add_tables.Goals as goal

pub add-requires : goal.add-requires
add-requires g c =
    let p = g.M.Modular.modulus in
    let place : c.loop-i.i < length c.args.table.now = omega arith in (
      subst (λ (x : ℕ). x < p) (sym (c.loop-i.invariant.left c.loop-i.i (omega arith)))
          (reduced_at p c.args.table.now c.requires.reduced.0 c.loop-i.i place),
      reduced_at p c.args.other.now c.requires.reduced.1 c.loop-i.i (omega arith),
    )

pub returns-clause-reduced : goal.returns-clause-reduced
returns-clause-reduced g c =
    let p = g.M.Modular.modulus in
    let positive : 0 < p = omega (arith, g.met.M.Modular.above) in
    added_reduced p c.args.table.now c.args.other.now c.loop-i.table c.loop-i.i positive (omega arith) c.loop-i.invariant
