-- The sums are those over the places that are done.
use Rattle.std.specs.Iterator.Adapters.{zip_first, zip_second}
use Rattle.std.specs.Slice.Iter.{iter_rest}
use Rattle.rounds.proofs.RoundSteps.{PlacesPassed}
use Rattle.rounds.proofs.rounds.sum_round.Given as goal

abbrev pub invariant-loop-v0 : goal.invariant-loop-v0
invariant-loop-v0 g l =
    let vs = zip_first (zip_first l.v0-iterator) in
    let hs = zip_second (zip_first l.v0-iterator) in
    let js = zip_second l.v0-iterator in
    PlacesPassed g.M.Modular.modulus l.v l.h l.j (iter_rest (zip_first vs)) (iter_rest (zip_second vs))
    (iter_rest (zip_first hs)) (iter_rest (zip_second hs)) (iter_rest (zip_first js)) (iter_rest (zip_second js)) l.sums
