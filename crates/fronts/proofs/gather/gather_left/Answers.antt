-- The choice takes the left place.
use Rattle.std.proofs.Common.{◌≡◌, ℕ, ◌<◌, get_or, sym, ◌∙◌, subst, rules, arith}
use Rattle.arithmetic.proofs.Newton.{reduced_at}
use Rattle.circuits.specs.Views.{gates_seen}
use Rattle.fronts.proofs.Gathering.{left_h, left_j}
use Rattle.fronts.proofs.gather.gather_left.Goals as goal

pub gather-requires-clause-picked : goal.gather-requires-clause-picked
gather-requires-clause-picked g c gate r within call =
    let p = g.M.Modular.modulus in
    let place : r.0 ≡ gate.left = search rules in
    let value : r.1 ≡ get_or c.args.values.now gate.right 0 = search rules in
    (omega arith, subst (λ (x : ℕ). x < p) (sym value) (reduced_at p c.args.values.now c.requires.given.1 gate.right (omega arith)))

pub returns-clause-h : goal.returns-clause-h
returns-clause-h g c =
    c.gather.ensures.h (λ x. x.left) (λ x. get_or c.args.values.now x.right 0) (λ gate r within call. search rules)
    ∙ left_h g.M.Modular.modulus c.args.values.now (gates_seen c.args.layer) c.args.weights.now c.args.h.now

pub returns-clause-j : goal.returns-clause-j
returns-clause-j g c =
    c.gather.ensures.j (λ x. x.left) (λ x. get_or c.args.values.now x.right 0) (λ gate r within call. search rules)
    ∙ left_j g.M.Modular.modulus c.args.values.now (gates_seen c.args.layer) c.args.weights.now c.args.j.now
