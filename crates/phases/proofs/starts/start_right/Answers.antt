-- The calls leave what the sum over y is about.
use Rattle.std.proofs.Common.{◌≡◌, ℕ, ◌-◌, ◌^◌, ◌<◌, List, length, replicate, sym, refl, ap, ◌∙◌, arith}
use native.Mathlib.Nat.{sub-zero}
use Rattle.arithmetic.specs.Numbers.{modulo}
use Rattle.argument.specs.Claims.{Share}
use Rattle.circuits.proofs.Parts.{layer_parts}
use Rattle.circuits.proofs.Steps.{length-gates_of}
use Rattle.circuits.specs.Views.{layer_seen, gates_seen, size_seen, places_below}
use Rattle.fronts.specs.Gathers.{layer_weights}
use Rattle.rounds.proofs.RowSteps.{gates_read}
use Rattle.phases.proofs.StartsRead.{filled_reduced, layer_weighed, eq_filled, right_read}
use Rattle.phases.proofs.starts.start_right.Goals as goal

pub gather_right-requires-clause-reduced : goal.gather_right-requires-clause-reduced
gather_right-requires-clause-reduced g c =
    let p = g.M.Modular.modulus in
    (filled_reduced p _ _ _ (c.fill.ensures.after (λ y e. e)) (omega (arith, g.met.M.Modular.above)), filled_reduced p _ _ _ (c.fill-2.ensures.after (λ y e. e)) (omega (arith, g.met.M.Modular.above)))

pub returns : goal.returns
returns g c k X point shares tables =
    let p = g.M.Modular.modulus in
    let several : 1 < p = omega (arith, g.met.M.Modular.above) in
    let layer = c.args.layer in
    let m : ℕ = places_below layer in
    let parts = layer_parts (size_seen layer) m layer.words.now layer.lawful in
    let gates = c.power-gates.result in
    let below = c.power-below.result in
    let x = c.args.x.now in
    let size : ℕ = length c.args.shares.first.point.now in
    let eg : gates - 0 ≡ 2 ^ size_seen layer = sub-zero gates ∙ c.power-gates.ensures.value ∙ ap (λ (n : ℕ). 2 ^ n) c.size.ensures.value in
    let eb : below - 0 ≡ 2 ^ m = sub-zero below ∙ c.power-below.ensures.value ∙ ap (λ (n : ℕ). 2 ^ n) c.size_below.ensures.value in
    let ex : below - 0 ≡ 2 ^ length x = eb ∙ ap (λ (n : ℕ). 2 ^ n) (sym c.requires.x.0) in
    let lw : length c.weigh.new.weights ≡ 2 ^ size_seen layer = omega (arith, eg) in
    let le : length c.eq_table.new.out ≡ 2 ^ length x = omega (arith, ex) in
    right_read p several (layer_seen layer) m k X point (gates_read (2 ^ m) (gates_seen layer) parts.fits) (gates - 0) (below - 0) eg eb
    x c.args.v.now c.args.w.now c.args.h.now c.args.j.now
    c.copy_from_slice.new.self c.weigh.new.weights c.scale.new.table c.weigh_left.new.weights c.eq_table.new.out c.fill.new.self c.fill-2.new.self
    c.gather_right.new.h c.gather_right.new.j _ _ _ c.args.factor _ tables refl c.requires.x.0 (omega arith) c.copy_from_slice.ensures.after
    (layer_weighed p (layer_seen layer) _ size c.weigh.new.weights c.requires.shares.first.coordinates (length-gates_of (2 ^ size_seen layer) layer.words.now) lw c.weigh.ensures.weights
    ∙ ap (λ (ss : List (Share ℕ)). layer_weights (modulo p) (layer_seen layer) ss) (sym shares))
    c.scale.ensures.table (eq_filled p x c.eq_table.new.out _ c.eq_table.ensures.words le) c.weigh_left.ensures.weights
    (c.fill.ensures.after (λ y e. e) ∙ ap (λ (n : ℕ). replicate n 0) (omega arith))
    (c.fill-2.ensures.after (λ y e. e) ∙ ap (λ (n : ℕ). replicate n 0) (omega arith))
    c.gather_right.ensures.h c.gather_right.ensures.j (omega arith) (omega arith) c.gather_right.ensures.h_reduced c.gather_right.ensures.j_reduced
