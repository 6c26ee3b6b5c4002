-- The sums are those over the rows that are done.
use Rattle.std.specs.Iterator.Adapters.{zip_first, zip_second}
use Rattle.std.specs.Slice.Iter.{iter_rest, chunks_exact_rest, chunks_exact_size}
use Rattle.circuits.specs.Views.{gates_seen, places_below}
use Rattle.rounds.proofs.RowSteps.{CopiesPassed}
use Rattle.rounds.proofs.copies.sum_copies.Given as goal

abbrev pub invariant-loop-low_eq : goal.invariant-loop-low_eq
invariant-loop-low_eq g l =
    let eqs = zip_first l.low_eq-iterator in
    let low = zip_first (zip_second l.low_eq-iterator) in
    let high = zip_second (zip_second l.low_eq-iterator) in
    CopiesPassed g.M.Modular.modulus (places_below l.layer) (gates_seen l.layer) l.weights l.eq l.values (iter_rest (zip_first eqs)) (iter_rest (zip_second eqs))
    (chunks_exact_rest low) (chunks_exact_rest high) (chunks_exact_size low) (chunks_exact_size high) l.sums
