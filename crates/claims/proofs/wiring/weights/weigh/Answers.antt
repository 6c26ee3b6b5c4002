-- The first share's table fills the weights, and a second one's is added.
use Rattle.std.proofs.Common.{◌≡◌, ℕ, ◌+◌, ◌*◌, ◌%◌, ◌^◌, ◌<◌, List, length, get_or, ap, ◌∙◌, subst, arith}
use Rattle.arithmetic.specs.Numbers.{modulo}
use Rattle.tables.specs.InPlace.{scaled_eq_table}
use Rattle.tables.specs.Multilinear.{eq_poly, bits_of}
use Rattle.tables.proofs.EqSteps.{scaled_at}
use Rattle.claims.specs.Shares.{share_seen, second_seen, ShareFits, SecondFits}
use Rattle.claims.proofs.Adding.{filled, weight_of_one, weight_of_two}
use Rattle.claims.proofs.wiring.weights.weigh.Goals as goal

pub returns-in-Some-clause-weights : goal.returns-in-Some-clause-weights
returns-in-Some-clause-weights g c =
    let p = g.M.Modular.modulus in
    let positive : 0 < p = omega (arith, g.met.M.Modular.above) in
    let first = c.args.shares.first in
    let point = first.point.now in
    let table = scaled_eq_table (modulo p) first.factor point in
    let is = filled c.args.weights.now table c.eq_table_scaled.new.out (2 ^ length point) c.requires.length.0 c.eq_table_scaled.ensures.words in
    let share = c.in-Some.share in
    let fit : ShareFits p (length point) share = subst (SecondFits p (length point)) c.in-Some.is c.requires.shares.second in
    let size : 2 ^ length share.point.now ≡ 2 ^ length point = ap (λ (n : ℕ). 2 ^ n) fit.coordinates in
    λ i h.
    let other : ℕ → ℕ = λ n. (share.factor * eq_poly (modulo p) (bits_of (modulo p) n i) share.point.now) % p in
    let added : get_or c.add_share.new.weights i 0 ≡ (get_or c.eq_table_scaled.new.out i 0 + other (length share.point.now)) % p =
    c.add_share.ensures.sums i (omega arith)
    in
    weight_of_two p (length point) positive (share_seen first) (share_seen share) (second_seen c.args.shares.second) i
    (get_or c.eq_table_scaled.new.out i 0) (get_or c.add_share.new.weights i 0) (ap second_seen c.in-Some.is)
    (ap (λ (xs : List ℕ). get_or xs i 0) is ∙ scaled_at (modulo p) first.factor point i 0 h)
    (added ∙ ap (λ (n : ℕ). (get_or c.eq_table_scaled.new.out i 0 + other n) % p) fit.coordinates)

pub returns-in_default-clause-weights : goal.returns-in_default-clause-weights
returns-in_default-clause-weights g c =
    let p = g.M.Modular.modulus in
    let positive : 0 < p = omega (arith, g.met.M.Modular.above) in
    let first = c.args.shares.first in
    let point = first.point.now in
    let table = scaled_eq_table (modulo p) first.factor point in
    let is = filled c.args.weights.now table c.eq_table_scaled.new.out (2 ^ length point) c.requires.length.0 c.eq_table_scaled.ensures.words in
    λ i h.
    weight_of_one p (length point) positive (share_seen first) (second_seen c.args.shares.second) i
    (get_or c.eq_table_scaled.new.out i 0) (ap second_seen c.in_default.is)
    (ap (λ (xs : List ℕ). get_or xs i 0) is ∙ scaled_at (modulo p) first.factor point i 0 h)
