-- The calls leave what the sum over x is about.
use Rattle.std.proofs.Common.{◌≡◌, ℕ, ◌-◌, ◌^◌, ◌<◌, replicate, refl, ap, ◌∙◌, arith}
use native.Mathlib.Nat.{sub-zero}
use Rattle.std.proofs.lemmas.List.{length-take-le}
use Rattle.circuits.proofs.Parts.{layer_parts}
use Rattle.circuits.specs.Views.{layer_seen, gates_seen, size_seen, places_below}
use Rattle.rounds.proofs.RowSteps.{gates_read}
use Rattle.phases.proofs.StartsRead.{filled_reduced, left_read}
use Rattle.phases.proofs.starts.start_left.Goals as goal

pub gather_left-requires-clause-reduced : goal.gather_left-requires-clause-reduced
gather_left-requires-clause-reduced g c =
    let p = g.M.Modular.modulus in
    (filled_reduced p _ _ _ (c.fill.ensures.after (λ y e. e)) (omega (arith, g.met.M.Modular.above)), filled_reduced p _ _ _ (c.fill-2.ensures.after (λ y e. e)) (omega (arith, g.met.M.Modular.above)))

pub returns : goal.returns
returns g c k X point tables =
    let p = g.M.Modular.modulus in
    let several : 1 < p = omega (arith, g.met.M.Modular.above) in
    let layer = c.args.layer in
    let m : ℕ = places_below layer in
    let parts = layer_parts (size_seen layer) m layer.words.now layer.lawful in
    let gates = c.power-gates.result in
    let below = c.power-below.result in
    let eg : gates - 0 ≡ 2 ^ size_seen layer = sub-zero gates ∙ c.power-gates.ensures.value ∙ ap (λ (n : ℕ). 2 ^ n) c.size.ensures.value in
    let eb : below - 0 ≡ 2 ^ m = sub-zero below ∙ c.power-below.ensures.value ∙ ap (λ (n : ℕ). 2 ^ n) c.size_below.ensures.value in
    left_read p several (layer_seen layer) m k X point (gates_read (2 ^ m) (gates_seen layer) parts.fits) (gates - 0) (below - 0) eg eb
    c.args.v.now c.args.w.now c.args.h.now c.scale.new.table c.fill.new.self c.fill-2.new.self c.copy_from_slice.new.self
    c.gather_left.new.h c.gather_left.new.j _ _ _ _ tables refl (omega arith)
    c.scale.ensures.table c.copy_from_slice.ensures.after (c.fill.ensures.after (λ y e. e) ∙ ap (λ (n : ℕ). replicate n 0) (length-take-le (below - 0) c.args.h.now (omega arith)))
    (c.fill-2.ensures.after (λ y e. e) ∙ ap (λ (n : ℕ). replicate n 0) (length-take-le (below - 0) c.args.j.now (omega arith)))
    c.gather_left.ensures.h c.gather_left.ensures.j (omega arith) (omega arith) c.gather_left.ensures.h_reduced c.gather_left.ensures.j_reduced
