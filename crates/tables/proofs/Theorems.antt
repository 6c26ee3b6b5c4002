-- The promises about tables, each shown from the lemma that says it of every system of numbers.
-- Modulo p these lemmas need 1 < p, and for counting points also that p is whole.
use Rattle.std.proofs.Common.{◌≡◌, List, [], ◌∷◌, ◌++◌, sym, refl}
use Rattle.arithmetic.specs.Numbers.{Numbers}
use Rattle.arithmetic.proofs.Ring.{Ring}
use Rattle.arithmetic.proofs.Modulo.{ring_modulo}
use Rattle.arithmetic.proofs.FieldModulo.{field_modulo}
use Rattle.tables.specs.Multilinear.{blend, fix_first, mle}
use Rattle.tables.specs.Theorems.{ValueAtCorner, SumOverPlaces, LinearInEachVariable, LinearInTable, FewRoots, ExampleModulo31}
use Rattle.tables.proofs.Extension.{mle_first, mle-combine}
use Rattle.tables.proofs.Places.{placed, sum_places-mle}
use Rattle.tables.proofs.Points.{tables_agree}

module _ {K : Type 0} {N : Numbers K} (R : Ring N) where
  open N use {add, sub, mul, nat}

  -- to fix the variables before one only changes the table
  pub mle_line : (before xs : List K) (r : K) (after : List K) →
      mle N xs (before ++ (r ∷ after)) ≡ add (mul (sub (nat 1) r) (mle N xs (before ++ (nat 0 ∷ after)))) (mul r (mle N xs (before ++ (nat 1 ∷ after))))
  unfolding mle
  mle_line [] xs r after = mle_first R r after xs
  mle_line (c ∷ before) xs r after = mle_line before (fix_first N c xs) r after

pub value_at_corner : ValueAtCorner
value_at_corner p h k place xs e l = placed (ring_modulo p h) k xs place e l

pub sum_over_places : SumOverPlaces
sum_over_places p h k xs point e f = sym (sum_places-mle (ring_modulo p h) k xs point e f)

pub linear_in_each_variable : LinearInEachVariable
linear_in_each_variable p h xs before after r = mle_line (ring_modulo p h) before xs r after

pub linear_in_table : LinearInTable
linear_in_table p h s t xs ys point e = mle-combine (ring_modulo p h) point s t xs ys e

pub few_roots : FewRoots
few_roots p whole large k xs ys e f a b differ = tables_agree (field_modulo p whole large) k xs ys e f a b differ

pub example_modulo31 : ExampleModulo31
unfolding mle blend
example_modulo31 = refl
