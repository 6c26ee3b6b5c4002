-- After 0 the room holds what the honest prover says, which is believed.
use Rattle.std.proofs.Common.{◌≡◌, ℕ, length, sym, ◌∙◌, subst, arith}
use Rattle.proving.specs.Proves.{Ready}
use Rattle.proving.proofs.Believed.{judged-zero, done_at_zero}
use Rattle.proving.proofs.house.HonestHouseHouse.prove.Goals as goal

pub returns-clause-believed : goal.returns-clause-believed
returns-clause-believed c zero =
    let cs = c.args.circuit.now in
    let vs = c.args.inputs.now in
    let coins = c.args.coins.now in
    let all = done_at_zero _ c.try_prove.result c.try_prove.ensures (sym c.answer.ensures ∙ zero) in
    let work : ℕ = length c.args.work.now in
    let same : length c.args.room.now ≡ length c.try_prove.new.room = omega arith in
    let ready : Ready cs vs coins (length c.try_prove.new.room) work = subst (λ (n : ℕ). Ready cs vs coins n work) same all.0 in
    judged-zero cs vs coins c.try_prove.new.room work ready all.1.0
