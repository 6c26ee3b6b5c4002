-- Both tables are halved.
use Rattle.std.proofs.Common.{◌≡◌, ℕ, ◌+◌, ◌-◌, ◌*◌, ◌^◌, ◌<◌, ◌≤◌, length, sym, ap, ◌∙◌, arith, pow-add}
use native.Mathlib.Nat.{sub-zero}
use Rattle.circuits.specs.Views.{layer_seen, places_below}
use Rattle.phases.proofs.StartsRead.{reduced_end}
use Rattle.phases.proofs.TurnSteps.{copies_turn, halved, halved_reduced}
use Rattle.phases.proofs.turns.copy_coin.Goals as goal

pub fix_first-requires-clause-reduced : goal.fix_first-requires-clause-reduced
fix_first-requires-clause-reduced g c =
    let layer = c.args.layer in
    let all = c.power.result in
    let ea : all - 0 ≡ 2 ^ c.args.left * 2 ^ places_below layer =
    sub-zero all ∙ c.power.ensures.value ∙ ap (λ (n : ℕ). 2 ^ (c.args.left + n)) c.size_below.ensures.value ∙ pow-add 2 c.args.left (places_below layer) in
    reduced_end g.M.Modular.modulus _ (all - 0) c.args.v.now (sym ea) c.requires.values

pub returns : goal.returns
returns g c k X point w tables =
    let p = g.M.Modular.modulus in
    let several : 1 < p = omega (arith, g.met.M.Modular.above) in
    let layer = c.args.layer in
    let left = c.args.left in
    let r = c.args.coin in
    let v = c.args.v.now in
    let h = c.args.h.now in
    let all : ℕ = c.power.result - 0 in
    let count : ℕ = c.power-2.result - 0 in
    let ea : all ≡ 2 ^ (left + places_below layer) = sub-zero c.power.result ∙ c.power.ensures.value ∙ ap (λ (n : ℕ). 2 ^ (left + n)) c.size_below.ensures.value in
    let new_v = c.fix_first.new.table in
    let new_h = c.fix_first-2.new.table in
    let in_v : all ≤ length v = omega arith in
    let in_h : count ≤ length h = omega arith in
    copies_turn p (layer_seen layer) (places_below layer) k X point left all count r v w h _ _ c.requires.left.0 ea (sub-zero c.power-2.result ∙ c.power-2.ensures.value) tables
    (halved p several all r v new_v _ in_v c.fix_first.ensures.words) (halved_reduced p several all r v new_v _ in_v c.fix_first.ensures.words c.fix_first.ensures.reduced)
    (halved p several count r h new_h _ in_h c.fix_first-2.ensures.words) (halved_reduced p several count r h new_h _ in_h c.fix_first-2.ensures.words c.fix_first-2.ensures.reduced)
