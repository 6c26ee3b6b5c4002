-- Each turn adds one place to the sums.
use Rattle.std.proofs.Common.{◌/◌, ◌<◌, ◌≤◌, length, inl, inr, ⊎_elim, arith}
use Rattle.rounds.proofs.Halves.{halves_end}
use Rattle.rounds.proofs.RoundSteps.{places_none, places_more, places_all, halves_below}
use Rattle.rounds.proofs.rounds.sum_round.Goals as goal

pub loop-v0-init : goal.loop-v0-init
loop-v0-init g c =
    let positive : 0 < g.M.Modular.modulus = omega (arith, g.met.M.Modular.above) in
    places_none positive (record { low_is = cc; high_is = cc }) (record { low_is = cc; high_is = cc }) (record { low_is = cc; high_is = cc })

pub line_values-v_values-requires : goal.line_values-v_values-requires
line_values-v_values-requires g c =
    let positive : 0 < g.M.Modular.modulus = omega (arith, g.met.M.Modular.above) in
    let (((a, b), hs), js) = c.in-Some.ensures.steps in
    halves_below c.loop-v0.invariant.v_left a b positive c.requires.v_reduced

pub line_values-h_values-requires : goal.line_values-h_values-requires
line_values-h_values-requires g c =
    let positive : 0 < g.M.Modular.modulus = omega (arith, g.met.M.Modular.above) in
    let ((vs, (a, b)), js) = c.in-Some.ensures.steps in
    halves_below c.loop-v0.invariant.h_left a b positive c.requires.h_reduced

pub line_values-j_values-requires : goal.line_values-j_values-requires
line_values-j_values-requires g c =
    let positive : 0 < g.M.Modular.modulus = omega (arith, g.met.M.Modular.above) in
    let (vhs, (a, b)) = c.in-Some.ensures.steps in
    halves_below c.loop-v0.invariant.j_left a b positive c.requires.j_reduced

pub loop-v0-preserved : goal.loop-v0-preserved
loop-v0-preserved g c =
    let (((a, b), (d, e)), (f, i)) = c.in-Some.ensures.steps in
    let v = c.line_values-v_values.ensures in
    let h = c.line_values-h_values.ensures in
    let j = c.line_values-j_values.ensures in
    places_more c.loop-v0.invariant c.requires.h_length c.requires.j_length a b d e f i c.add_each-more.result
    (c.add_each-more.ensures.values _ _ c.loop-v0.invariant.sums
    (c.add_each.ensures.values _ _
    (c.mul_each-products.ensures.values _ _ (record { values = v.values; below = v.below }) (record { values = h.values; below = h.below }))
    (record { values = j.values; below = j.below })))

pub returns : goal.returns
returns g c =
    let p = g.M.Modular.modulus in
    let several : 1 < p = omega (arith, g.met.M.Modular.above) in
    let passed = c.loop-v0.invariant in
    let over-h : length c.args.h.now / 2 ≤ passed.done → length c.args.v.now / 2 ≤ passed.done = λ e. omega arith in
    let over-j : length c.args.j.now / 2 ≤ passed.done → length c.args.v.now / 2 ≤ passed.done = λ e. omega arith in
    let end : length c.args.v.now / 2 ≤ passed.done =
    ⊎_elim
    (λ u. ⊎_elim (λ w. halves_end passed.v_left (⊎_elim (λ x. inl x.1.0) (λ x. inr x.1.0) w.1))
    (λ w. over-h (halves_end passed.h_left (⊎_elim (λ x. inl x.1.0) (λ x. inr x.1.0) w.1))) u.1)
    (λ u. over-j (halves_end passed.j_left (⊎_elim (λ x. inl x.1.0) (λ x. inr x.1.0) u.1)))
    c.in-None.ensures.steps
    in
    record { values = places_all p several passed c.requires.h_length c.requires.j_length end; reduced = passed.sums.below }
