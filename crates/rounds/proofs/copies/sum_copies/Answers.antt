-- Each turn adds one copy of the lower half with its partner.
use Rattle.std.proofs.Common.{◌≡◌, ◌/◌, ◌<◌, ◌≤◌, length, inl, inr, ⊎_elim, refl, arith}
use Rattle.circuits.proofs.Parts.{layer_parts}
use Rattle.circuits.specs.Views.{gates_seen, places_below, size_seen}
use Rattle.rounds.proofs.Halves.{halves_end, rows_left_end}
use Rattle.rounds.proofs.RowSteps.{copies_none, copy_read, copies_more, copies_all}
use Rattle.rounds.proofs.copies.sum_copies.Goals as goal

pub loop-low_eq-init : goal.loop-low_eq-init
loop-low_eq-init g c =
    let positive : 0 < g.M.Modular.modulus = omega (arith, g.met.M.Modular.above) in
    copies_none positive (cc) (cc) (cc) (cc) (cc) (cc)

pub sum_row-row-requires-clause-low : goal.sum_row-row-requires-clause-low
sum_row-row-requires-clause-low g c =
    let positive : 0 < g.M.Modular.modulus = omega (arith, g.met.M.Modular.above) in
    let ((a, b), (lo, hi)) = c.in-Some.ensures.steps in
    (copy_read c.loop-low_eq.invariant _ _ _ _ a b lo.1.0 lo.1.1 hi.1.0 hi.1.1 positive c.requires.eq c.requires.values.1).low

pub sum_row-row-requires-clause-high : goal.sum_row-row-requires-clause-high
sum_row-row-requires-clause-high g c =
    let positive : 0 < g.M.Modular.modulus = omega (arith, g.met.M.Modular.above) in
    let ((a, b), (lo, hi)) = c.in-Some.ensures.steps in
    (copy_read c.loop-low_eq.invariant _ _ _ _ a b lo.1.0 lo.1.1 hi.1.0 hi.1.1 positive c.requires.eq c.requires.values.1).high

pub line_values-factors-requires : goal.line_values-factors-requires
line_values-factors-requires g c =
    let positive : 0 < g.M.Modular.modulus = omega (arith, g.met.M.Modular.above) in
    let ((a, b), (lo, hi)) = c.in-Some.ensures.steps in
    (copy_read c.loop-low_eq.invariant _ _ _ _ a b lo.1.0 lo.1.1 hi.1.0 hi.1.1 positive c.requires.eq c.requires.values.1).factors

pub loop-low_eq-preserved : goal.loop-low_eq-preserved
loop-low_eq-preserved g c =
    let several : 1 < g.M.Modular.modulus = omega (arith, g.met.M.Modular.above) in
    let ((a, b), (lo, hi)) = c.in-Some.ensures.steps in
    let factors = c.line_values-factors.ensures in
    copies_more c.loop-low_eq.invariant _ _ _ _ a b lo.1.0 lo.1.1 hi.1.0 hi.1.1 several lo.0 hi.0 c.add_each-more.result
    (c.add_each-more.ensures.values _ _ c.loop-low_eq.invariant.sums
    (c.mul_each.ensures.values _ _ (record { values = factors.values; below = factors.below }) c.sum_row-row.ensures.values))

pub returns : goal.returns
returns g c =
    let p = g.M.Modular.modulus in
    let several : 1 < p = omega (arith, g.met.M.Modular.above) in
    let layer = layer_parts (size_seen c.args.layer) (places_below c.args.layer) c.args.layer.words.now c.args.layer.lawful in
    let passed = c.loop-low_eq.invariant in
    let end : length c.args.eq.now / 2 ≤ passed.done =
    ⊎_elim
    (λ u. halves_end passed.eqs (⊎_elim (λ x. inl x.1.0) (λ x. inr x.1.0) u.1))
    (λ u. rows_left_end (length c.args.eq.now) passed.rows c.requires.values.0 refl (⊎_elim (λ x. inl (rw (← passed.sizes.0) x.1.1.0)) (λ x. inr (rw (← passed.sizes.1) x.1.1.0)) u.1))
    c.in-None.ensures.steps
    in
    let within = passed.within in
    let all : passed.done ≡ length c.args.eq.now / 2 = omega arith in
    record {
      values =
          copies_all p several (places_below c.args.layer) (gates_seen c.args.layer) c.args.weights.now c.args.eq.now c.args.values.now
          passed.done c.loop-low_eq.sums layer.fits c.requires.values.0 all passed.sums;
      reduced = passed.sums.below;
    }
