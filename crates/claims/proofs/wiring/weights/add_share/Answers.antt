-- The room holds just the share's table.
use Rattle.std.proofs.Common.{ℕ, ◌+◌, ◌%◌, ◌^◌, List, length, get_or, ap, ◌∙◌, arith}
use Rattle.arithmetic.specs.Numbers.{modulo}
use Rattle.tables.specs.InPlace.{scaled_eq_table}
use Rattle.tables.proofs.EqSteps.{scaled_at}
use Rattle.claims.proofs.Adding.{filled}
use Rattle.claims.proofs.wiring.weights.add_share.Goals as goal

pub returns-clause-sums : goal.returns-clause-sums
returns-clause-sums g c =
    let p = g.M.Modular.modulus in
    let point = c.args.point.now in
    let table = scaled_eq_table (modulo p) c.args.factor point in
    let is = filled c.args.room.now table c.eq_table_scaled.new.out (2 ^ length point) c.requires.lengths.0 c.eq_table_scaled.ensures.words in
    λ i h.
    c.add_tables.ensures.sums i (omega arith) ∙
    ap (λ (x : ℕ). (get_or c.args.weights.now i 0 + x) % p)
    (ap (λ (xs : List ℕ). get_or xs i 0) is ∙ scaled_at (modulo p) c.args.factor point i 0 h)
