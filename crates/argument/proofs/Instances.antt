-- The instances of the main promise, by computing.
-- With five rows or thirty-one all of them are tried.
use Rattle.std.proofs.Common.{◌≡◌, ℕ, List, get_or, refl, arith}
use Rattle.arithmetic.specs.Numbers.{all_reduced}
use Rattle.arithmetic.specs.Counting.{sum_below, sum_rows}
use Rattle.arithmetic.proofs.WholeMersenne.{whole_examples}
use Rattle.tables.specs.Multilinear.{blend, mle, eq_poly, bits_of}
use Rattle.circuits.specs.Circuit.{gates_fit, layers_fit, gate_values, copy_values, all_values}
use Rattle.circuits.specs.Words.{gates_of, layers_of, kinds_known, shaped}
use Rattle.argument.specs.Claims.{share_sum, wiring, shared_wiring}
use Rattle.argument.specs.Sumcheck.{rounds}
use Rattle.argument.specs.Argument.{values, believes, layer_coins, layer_chances}
use Rattle.argument.specs.Instances.{Attained, Instances}

-- the first number of a list decides
head_of : (xs ys : List ℕ) → xs ≡ ys → get_or xs 0 0 ≡ get_or ys 0 0
head_of xs ys e = cc

-- what counting, the circuit and the verifier are computed with
computing : Unit {0}
unfolding sum_below sum_rows blend mle eq_poly bits_of gates_fit layers_fit gate_values copy_values all_values gates_of layers_of kinds_known shaped share_sum wiring shared_wiring rounds values believes layer_coins layer_chances all_reduced
computing = tt

at_5 : Attained 5
unfolding computing
at_5 =
    record {
      whole = whole_examples.0;
      above = omega arith;
      circuit_lawful = tt;
      inputs_sized = (refl, tt);
      claimed_sized = (refl, tt);
      claimed_wrong = λ e. let z : ◌≡◌ {A = ℕ} 3 4 = head_of _ _ e in omega arith;
      believed = refl;
    }

at_31 : Attained 31
unfolding computing
at_31 =
    record {
      whole = whole_examples.1;
      above = omega arith;
      circuit_lawful = tt;
      inputs_sized = (refl, tt);
      claimed_sized = (refl, tt);
      claimed_wrong = λ e. let z : ◌≡◌ {A = ℕ} 3 4 = head_of _ _ e in omega arith;
      believed = refl;
    }

pub instances : Instances
unfolding computing
instances = record { in_words = refl; modulo_5 = at_5; modulo_31 = at_31 }
