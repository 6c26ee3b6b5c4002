-- What was heard so far leads where the verifier stands, what is left comes behind it, and the inputs are the same.
use Rattle.std.proofs.Common.{◌≡◌}
use Rattle.std.specs.Iterator.Adapters.{zip_first, zip_second}
use Rattle.std.specs.Slice.Iter.{iter_rest, chunks_exact_rest, chunks_exact_size}
use Rattle.verifier.specs.Meaning.{stand_of, inputs_of}
use Rattle.judging.proofs.Driven.{Passing}
use Rattle.judging.proofs.transcript.hear_variables.Given as goal

abbrev pub invariant-loop-four : goal.invariant-loop-four
invariant-loop-four l =
    let words = zip_first l.four-iterator in
    Passing (inputs_of l.initial.verifier) (stand_of l.initial.verifier) l.said l.coins (chunks_exact_size words) (chunks_exact_rest words)
    (iter_rest (zip_second l.four-iterator)) (stand_of l.verifier) ×
    (inputs_of l.verifier ≡ inputs_of l.initial.verifier)
