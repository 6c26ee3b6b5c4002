-- A factor of 1 changes nothing.
use Rattle.std.proofs.Common.{◌≡◌, ℕ, ◌^◌, ◌<◌, T, List, ◌++◌, length, drop, subst, arith}
use Rattle.arithmetic.specs.Numbers.{modulo, all_reduced}
use Rattle.tables.proofs.EqSteps.{scaled_one}
use Rattle.tables.proofs.eq.eq_table.Goals as goal

pub returns : goal.returns
returns g c =
    let p = g.M.Modular.modulus in
    let point = c.args.point.now in
    let several : 1 < p = omega (arith, g.met.M.Modular.above) in
    let one = scaled_one p several point in
    record {
      words =
          subst (λ (es : List ℕ). c.eq_table_scaled.new.out ≡ es ++ drop (2 ^ length point) c.args.out.now) one
          c.eq_table_scaled.ensures.words;
      reduced = subst (λ (es : List ℕ). T (all_reduced (modulo p) es)) one c.eq_table_scaled.ensures.reduced;
    }
