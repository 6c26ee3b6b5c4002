-- Each turn is one step of halving, whatever the other coordinates are.
use Rattle.std.proofs.Common.{◌≡◌, ◌-◌, ◌++◌, length, take, drop, refl, arith}
use Rattle.std.proofs.lemmas.List.{length-append, length-drop, length-take-le}
use Rattle.arithmetic.proofs.Newton.{reduced_at}
use Rattle.claims.proofs.Summing.{fixing_more}
use Rattle.tables.proofs.ReducedLists.{reduced_take, reduced_append, reduced_drop}
use Rattle.claims.proofs.sums.fix_variables.Goals as goal

pub fix_first-requires-clause-reduced : goal.fix_first-requires-clause-reduced
fix_first-requires-clause-reduced g c = reduced_take g.M.Modular.modulus (c.loop-r.len - 0) c.loop-r.table c.loop-r.invariant.reduced

pub fix_first-requires-clause-r_below : goal.fix_first-requires-clause-r_below
fix_first-requires-clause-r_below g c = reduced_at g.M.Modular.modulus c.args.point.now c.requires.reduced.1 c.loop-r.r-index (omega arith)

pub loop-r-preserved : goal.loop-r-preserved
loop-r-preserved g c =
    let p = g.M.Modular.modulus in
    let cut : length (take (c.loop-r.len - 0) c.loop-r.table) ≡ c.loop-r.len - 0 =
    length-take-le (c.loop-r.len - 0) c.loop-r.table (omega arith)
    in
    let long : length (c.fix_first.new.table ++ drop (c.loop-r.len - 0) c.loop-r.table) ≡ length c.loop-r.table =
    simp (length-append, length-drop) (omega (arith, c.fix_first.auto.table, cut))
    in
    fixing_more c.loop-r.invariant c.fix_first.new.table _ (c.loop-r.len - 0) (omega arith) c.loop-r-test.true
    c.fix_first.ensures.words c.fix_first.ensures.reduced refl long
    (reduced_append p c.fix_first.new.table _ c.fix_first.ensures.reduced (reduced_drop p (c.loop-r.len - 0) c.loop-r.table c.loop-r.invariant.reduced))
