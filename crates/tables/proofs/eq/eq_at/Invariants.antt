-- The product so far, times eq of the variables that are left, is eq of all.
use Rattle.std.specs.Iterator.Adapters.{zip_first, zip_second}
use Rattle.std.specs.Slice.Iter.{iter_rest}
use Rattle.tables.proofs.EqSteps.{Multiplied}
use Rattle.tables.proofs.eq.eq_at.Given as goal

abbrev pub invariant-loop-r : goal.invariant-loop-r
invariant-loop-r g l =
    Multiplied g.M.Modular.modulus l.a l.b l.product (iter_rest (zip_first l.r-iterator)) (iter_rest (zip_second l.r-iterator))
