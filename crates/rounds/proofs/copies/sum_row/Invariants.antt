-- The sums are those over the gates whose weights are done, and the others are still to come.
use Rattle.std.specs.Iterator.Adapters.{rev_source, zip_first, zip_second}
use Rattle.std.specs.Slice.Iter.{iter_rest}
use Rattle.std.proofs.Common.{◌≡◌, length, take}
use Rattle.circuits.specs.Views.{gates_left, gates_seen}
use Rattle.rounds.proofs.RowSteps.{RowPassed}
use Rattle.rounds.proofs.copies.sum_row.Given as goal

abbrev pub invariant-loop-gate : goal.invariant-loop-gate
invariant-loop-gate g l =
    let left = iter_rest (rev_source (zip_second l.gate-iterator)) in
    record {
      gates : gates_left (rev_source (zip_first l.gate-iterator)) ≡ take (length left) (gates_seen l.layer);
      passed : RowPassed g.M.Modular.modulus (gates_seen l.layer) l.weights l.low l.high left l.sums;
    }
