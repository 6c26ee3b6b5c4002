-- Products of reduced numbers, value by value.
use Rattle.std.proofs.Common.{rules, ◌≡◌, ◌<◌, get_or, arith}
use Rattle.arithmetic.specs.Numbers.{modulo}
use Rattle.arithmetic.proofs.Newton.{four_below}
use Rattle.rounds.specs.Fours.{AtEach}
use Rattle.rounds.proofs.FourSteps.{four_zipped, four_reduced_at}
use Rattle.rounds.proofs.fours.mul_each.Goals as goal

pub zip_with-requires : goal.zip_with-requires
zip_with-requires g c =
    let p = g.M.Modular.modulus in
    let a = four_below p c.args.a c.requires.a (omega arith) in
    let b = four_below p c.args.b c.requires.b (omega arith) in
    search rules

pub returns : goal.returns
returns g c =
    let p = g.M.Modular.modulus in
    let r = c.zip_with.result in
    let value : AtEach (λ i. get_or r i 0 ≡ (modulo p).mul (get_or c.args.a i 0) (get_or c.args.b i 0)) = search rules in
    let below : AtEach (λ i. get_or r i 0 < p) = search rules in
    record { values = four_zipped p (modulo p).mul c.args.a c.args.b r (omega arith) value below; below = four_reduced_at p r (omega arith) below }
