-- The choice takes the right place.
use Rattle.std.proofs.Common.{◌∙◌, rules}
use Rattle.circuits.specs.Views.{gates_seen}
use Rattle.fronts.proofs.Gathering.{right_h, right_j}
use Rattle.fronts.proofs.gather.gather_right.Goals as goal

pub returns-clause-h : goal.returns-clause-h
returns-clause-h g c =
    c.gather.ensures.h (λ x. x.right) (λ x. c.args.value_at_x) (λ gate r within call. search rules)
    ∙ right_h g.M.Modular.modulus c.args.value_at_x (gates_seen c.args.layer) c.args.weights.now c.args.h.now

pub returns-clause-j : goal.returns-clause-j
returns-clause-j g c =
    c.gather.ensures.j (λ x. x.right) (λ x. c.args.value_at_x) (λ gate r within call. search rules)
    ∙ right_j g.M.Modular.modulus c.args.value_at_x (gates_seen c.args.layer) c.args.weights.now c.args.j.now
