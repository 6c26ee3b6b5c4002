-- What it says of each number of a list that all of them are below a modulus.
-- Past its end a list is read as 0, which is below too.
use Rattle.std.proofs.Common.{◌≡◌, ℕ, zero, suc, ◌<◌, true, ltb, List, [], ◌∷◌}
use Rattle.std.proofs.lemmas.Bool.{ltb-true, and_parts}
use Rattle.arithmetic.specs.Numbers.{modulo, all_reduced}
use Rattle.circuits.specs.Values.{EachBelow}

pub reduced_each : (p : ℕ) (xs : List ℕ) → 0 < p → all_reduced (modulo p) xs ≡ true → EachBelow p xs
unfolding all_reduced
reduced_each p [] some e k = some
reduced_each p (x ∷ xs) some e zero = ltb-true x p (and_parts (ltb x p) (all_reduced (modulo p) xs) e).0
reduced_each p (x ∷ xs) some e (suc k) = reduced_each p xs some (and_parts (ltb x p) (all_reduced (modulo p) xs) e).1 k
