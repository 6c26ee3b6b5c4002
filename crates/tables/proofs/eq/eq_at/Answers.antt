-- Each turn multiplies by the factor of one variable more.
use Rattle.std.proofs.Common.{◌≡◌, ℕ, ◌<◌, get_or, arith}
use Rattle.std.proofs.lemmas.Slice.Zip.{Zip-more, either_empty_from_Zip}
use Rattle.arithmetic.specs.Numbers.{modulo}
use Rattle.tables.specs.InPlace.{eq_factor}
use Rattle.tables.proofs.EqSteps.{multiplied_none, multiplied_first, multiplied_more, multiplied_all}
use Rattle.tables.proofs.ReducedLists.{reduced_anywhere}
use Rattle.tables.proofs.eq.eq_at.Goals as goal

pub loop-r-init : goal.loop-r-init
loop-r-init g c =
    let several : 1 < g.M.Modular.modulus = omega (arith, g.met.M.Modular.above) in
    multiplied_none several c.args.a.now c.args.b.now _ _ (cc) (cc) c.requires.a_reduced c.requires.b_reduced

-- any coordinate of b is below the modulus: only the next goal is about which one it is
pub eq_factor-requires : goal.eq_factor-requires
eq_factor-requires g c =
    let (left, right) = Zip-more c.loop-r.r-iterator c.next.new.self c.next.result (c.in-Some.r, c.in-Some.c) c.in-Some.is c.next.ensures.steps in
    let (first, second) = multiplied_first c.loop-r.invariant left right in
    let positive : 0 < g.M.Modular.modulus = omega (arith, g.met.M.Modular.above) in
    let anywhere : (i : ℕ) → get_or c.args.b.now i 0 < g.M.Modular.modulus =
    reduced_anywhere g.M.Modular.modulus positive c.args.b.now c.requires.b_reduced
    in
    (first, grind (arith, second, anywhere))

pub loop-r-preserved : goal.loop-r-preserved
loop-r-preserved g c =
    let several : 1 < g.M.Modular.modulus = omega (arith, g.met.M.Modular.above) in
    let (left, right) = Zip-more c.loop-r.r-iterator c.next.new.self c.next.result (c.in-Some.r, c.in-Some.c) c.in-Some.is c.next.ensures.steps in
    let factor : c.eq_factor.result ≡ eq_factor (modulo g.M.Modular.modulus) c.in-Some.r.now c.in-Some.c.now = cc in
    multiplied_more c.loop-r.invariant left right several factor c.mul-product.ensures.value

pub returns-clause-value : goal.returns-clause-value
returns-clause-value g c =
    multiplied_all c.loop-r.invariant (either_empty_from_Zip c.loop-r.r-iterator c.next.new.self c.next.result c.in-None.is c.next.ensures.steps)
