-- One share's value alone, or the sum of two.
use Rattle.std.proofs.Common.{ℕ, ◌*◌, ◌%◌, ◌<◌, ap, ◌∙◌, arith}
use Rattle.claims.specs.Shares.{share_seen, second_seen}
use Rattle.claims.proofs.Summing.{sum_of_one, sum_of_two}
use Rattle.claims.proofs.sums.add_shares.Goals as goal

pub returns-in-None : goal.returns-in-None
returns-in-None g c =
    let p = g.M.Modular.modulus in
    let positive : 0 < p = omega (arith, g.met.M.Modular.above) in
    let first = c.args.shares.first in
    sum_of_one p positive c.args.values.now (share_seen first) (second_seen c.args.shares.second) c.mul-value.result
    (ap second_seen c.in-None.is)
    (c.mul-value.ensures.value ∙ ap (λ (x : ℕ). (first.factor * x) % p) c.extension_at.ensures.value)

pub returns-in-Some : goal.returns-in-Some
returns-in-Some g c =
    let p = g.M.Modular.modulus in
    let positive : 0 < p = omega (arith, g.met.M.Modular.above) in
    let first = c.args.shares.first in
    let share = c.in-Some.share in
    sum_of_two p positive c.args.values.now (share_seen first) (share_seen share) (second_seen c.args.shares.second) c.mul-value.result
    c.mul.result c.add.result (ap second_seen c.in-Some.is)
    (c.mul-value.ensures.value ∙ ap (λ (x : ℕ). (first.factor * x) % p) c.extension_at.ensures.value)
    (c.mul.ensures.value ∙ ap (λ (x : ℕ). (share.factor * x) % p) c.extension_at-in-Some.ensures.value) c.add.ensures.value
