-- Each turn splits the table so far, which lies in the first half of the next one's place.
use Rattle.std.proofs.Common.{◌≡◌, ℕ, ◌*◌, ◌/◌, ◌<◌, length, get_or, take, arith, length-set, sym}
use Rattle.std.proofs.lemmas.List.{nil_from_length}
use Rattle.tables.proofs.DoublingSteps.{doubling_none, doubling_room, doubling_next, place_length, first_half_reduced, doubling_more, doubling_all}
use Rattle.arithmetic.specs.Numbers.{modulo}
use Rattle.tables.specs.InPlace.{split_first}
use Rattle.tables.proofs.EqSteps.{scaled_reduced}
use Rattle.tables.proofs.ReducedLists.{reduced_anywhere}
use Rattle.tables.proofs.eq.eq_table_scaled.Goals as goal

pub loop-r-init : goal.loop-r-init
loop-r-init g c =
    doubling_none g.M.Modular.modulus c.args.factor c.args.point.now _ c.args.out.now (cc) c.requires.factor_below c.requires.room

pub overflow_mul-len : goal.overflow_mul-len
overflow_mul-len g c = omega (arith, doubling_room c.loop-r.invariant _ _ c.in-Some.ensures.steps, length-set c.args.out.now 0 c.args.factor)

pub slice_bounds-split_first-end : goal.slice_bounds-split_first-end
slice_bounds-split_first-end g c = doubling_room c.loop-r.invariant _ _ c.in-Some.ensures.steps

pub slice_bounds-split_first-end-in-loop-r : goal.slice_bounds-split_first-end-in-loop-r
slice_bounds-split_first-end-in-loop-r g c = sym (place_length c.loop-r.invariant _ _ c.in-Some.ensures.steps)

-- any coordinate is below the modulus: only the next goal is about which one it is
pub split_first-requires : goal.split_first-requires
split_first-requires g c =
    let positive : 0 < g.M.Modular.modulus = omega (arith, g.met.M.Modular.above) in
    let next = c.in-Some.ensures.steps in
    let coordinate : c.in-Some.r.now < g.M.Modular.modulus = doubling_next c.loop-r.invariant _ _ next positive c.requires.point_reduced in
    let anywhere : (i : ℕ) → get_or c.args.point.now i 0 < g.M.Modular.modulus =
    reduced_anywhere g.M.Modular.modulus positive c.args.point.now c.requires.point_reduced
    in
    record {
      even = omega (arith, place_length c.loop-r.invariant _ _ next);
      reduced = first_half_reduced c.loop-r.invariant _ _ next positive;
      r_below = grind (arith, coordinate, anywhere);
    }

pub loop-r-preserved : goal.loop-r-preserved
loop-r-preserved g c =
    let several : 1 < g.M.Modular.modulus = omega (arith, g.met.M.Modular.above) in
    let live = take (c.loop-r.len * 2) c.loop-r.out in
    let halves : c.split_first.new.table ≡ split_first (modulo g.M.Modular.modulus) c.in-Some.r.now (take (length live / 2) live) = cc in
    doubling_more c.loop-r.invariant _ _ c.in-Some.ensures.steps several c.split_first.new.table halves

pub returns : goal.returns
returns g c =
    let positive : 0 < g.M.Modular.modulus = omega (arith, g.met.M.Modular.above) in
    record {
      words = doubling_all c.args.out.now c.loop-r.invariant (nil_from_length _ c.in-None.ensures.steps.0);
      reduced = scaled_reduced g.M.Modular.modulus positive c.args.factor c.args.point.now;
    }
