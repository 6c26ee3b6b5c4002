-- The table of eq for the coordinates that are done stands in the first `len` places.
use Rattle.std.specs.Iterator.Adapters.{rev_source}
use Rattle.std.specs.Slice.Iter.{iter_rest}
use Rattle.tables.proofs.DoublingSteps.{Doubling}
use Rattle.tables.proofs.eq.eq_table_scaled.Given as goal

abbrev pub invariant-loop-r : goal.invariant-loop-r
invariant-loop-r g l =
    Doubling g.M.Modular.modulus l.factor l.point l.initial.out l.out (iter_rest (rev_source l.r-iterator)) l.len
