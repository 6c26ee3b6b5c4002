-- Wrong outputs are believed on few rows of coins, over any field.
-- Their polynomial and the right one agree at few points; at any other point the first claim is wrong.
use Rattle.std.proofs.Common.{◌≡◌, ℕ, zero, suc, ◌+◌, ◌*◌, ◌^◌, ◌≤◌, Bool, true, false, ◌&&◌, eqb, leb, List, [], ◌∷◌, ◌++◌, length, take, drop, sym, refl, ap, ◌∙◌, zero-le, le_trans, le_of_eq, le_refl, mul-le-mul_right, arith, length-drop, pow-add}
use mathlib.Core.Bool.{false≢true}
use Rattle.std.proofs.lemmas.Bool.{and_parts, and_from}
use Rattle.std.proofs.lemmas.List.{length-take-le, take_at, drop_at, take-append-drop}
use Rattle.arithmetic.specs.Numbers.{Numbers, all_reduced}
use Rattle.arithmetic.specs.Counting.{indicator, count_rows}
use Rattle.arithmetic.proofs.Ring.{reduce-add, reduce-mul}
use Rattle.arithmetic.proofs.Solver.{var, con, ◌:+◌, ◌:*◌, red, solve}
use Rattle.arithmetic.proofs.Field.{Field, equal_false}
use Rattle.arithmetic.proofs.Counting.{row_length, sum_rows-le, union}
use Rattle.tables.specs.Multilinear.{mle}
use Rattle.tables.proofs.Extension.{reduce-mle}
use Rattle.tables.proofs.Points.{tables_agree}
use Rattle.circuits.specs.Circuit.{Kind, sum, product, Gate, Layer, Circuit, layers_fit, lawful, output_size, combine, gate_value, gate_values, copy_values, all_values, outputs}
use Rattle.argument.specs.Claims.{share_sum}
use Rattle.argument.specs.Sumcheck.{Prover}
use Rattle.argument.specs.Argument.{believes, first_claim, first_coins, layer_coins, layer_chances, coins_of, chances_of, accepts}
use Rattle.argument.proofs.Copies.{all_values_full}
use Rattle.argument.proofs.Layers.{layers_few}

indicator_second : (a b : Bool) → indicator (a && b) ≤ indicator b
indicator_second true b = le_refl (indicator b)
indicator_second false b = zero-le

module _ {K : Type 0} {N : Numbers K} (F : Field N) where
  open N use {reduce, add, mul, nat, equal, order, reduced}

  -- ---- what gates give is reduced
  combine_reduced : (kind : Kind) (a b : K) → reduced (combine N kind a b) ≡ true
  combine_reduced sum a b = F.reduced_refl (add a b) (reduce-add F.ring a b)
  combine_reduced product a b = F.reduced_refl (mul a b) (reduce-mul F.ring a b)

  append_reduced : (xs ys : List K) → all_reduced N xs ≡ true → all_reduced N ys ≡ true → all_reduced N (xs ++ ys) ≡ true
  unfolding all_reduced
  append_reduced [] ys p q = q
  append_reduced (x ∷ xs) ys p q =
      let both = and_parts (reduced x) (all_reduced N xs) p in
      and_from (reduced x) (all_reduced N (xs ++ ys)) both.0 (append_reduced xs ys both.1 q)

  gate_values_reduced : (X : List K) (gs : List Gate) → all_reduced N (gate_values N X gs) ≡ true
  unfolding all_reduced gate_values
  gate_values_reduced X [] = refl
  gate_values_reduced X (g ∷ gs) =
      and_from (reduced (gate_value N X g)) (all_reduced N (gate_values N X gs)) (combine_reduced g.kind _ _) (gate_values_reduced X gs)

  all_values_reduced : (l : Layer) (ls : List Layer) (n count : ℕ) (vs : List K) → all_reduced N (all_values N (l ∷ ls) n count vs) ≡ true
  unfolding all_reduced all_values copy_values
  all_values_reduced l ls n zero vs = refl
  all_values_reduced l ls n (suc count) vs =
      append_reduced (gate_values N (copy_values N ls (take n vs)) l.gates) (all_values N (l ∷ ls) n count (drop n vs))
      (gate_values_reduced (copy_values N ls (take n vs)) l.gates) (all_values_reduced l ls n count (drop n vs))

  outputs_reduced : (ls : List Layer) (n count : ℕ) (vs : List K) → leb 1 (length ls) ≡ true →
      all_reduced N (all_values N ls n count vs) ≡ true
  outputs_reduced [] n count vs h = absurd (false≢true h)
  outputs_reduced (l ∷ ls) n count vs h = all_values_reduced l ls n count vs

  -- ---- what the first claim has to say
  pub first_claim-sum : (c : Circuit) (table claimed z : List K) →
      share_sum N table (first_claim N c claimed z).copy (first_claim N c claimed z).shares ≡ mle N table z
  unfolding share_sum
  first_claim-sum c table claimed z =
      ap (λ (point : List K). add (mul (nat 1) (mle N table point)) (nat 0)) (take-append-drop c.copies z)
      ∙ solve F.ring (mle N table z ∷ []) (con 1 :* var 0 :+ con 0) (red (var 0)) refl
      ∙ reduce-mle F.ring z table

  pub sound : (c : Circuit) → lawful c ≡ true → (vs : List K) → length vs ≡ 2 ^ (c.copies + c.inputs) →
      (claimed : List K) → length claimed ≡ 2 ^ first_coins c → all_reduced N claimed ≡ true → (claimed ≡ outputs N c vs → ⊥) →
      (f : Prover K) → count_rows N (coins_of c) (accepts N c vs claimed f) * order ≤ chances_of c * order ^ coins_of c
  sound c law vs long claimed many fine wrong f =
      let first : ℕ = first_coins c in
      let later : ℕ = layer_coins c.copies c.layers c.inputs in
      let parts = and_parts (leb 1 (length c.layers)) (layers_fit c.layers c.inputs) law in
      let full : length vs ≡ 2 ^ c.copies * 2 ^ c.inputs = long ∙ pow-add 2 c.copies c.inputs in
      let outs : length (outputs N c vs) ≡ 2 ^ first =
      all_values_full N c.layers c.inputs parts.1 c.copies vs (le_of_eq (sym full)) ∙ sym (pow-add 2 c.copies (output_size c)) in
      union N first later first (layer_chances c.copies c.layers c.inputs)
      (λ z. equal (mle N claimed z) (mle N (outputs N c vs) z)) (accepts N c vs claimed f)
      (tables_agree F first claimed (outputs N c vs) many outs fine
      (outputs_reduced c.layers (2 ^ c.inputs) (2 ^ c.copies) vs parts.0) wrong)
      (λ z row differ.
      let there : length z ≡ first = row_length N first z row in
      let believed : List K → Bool = believes N c.copies c.layers c.inputs vs (first_claim N c claimed z) (λ later. f (z ++ later)) in
      le_trans
      (mul-le-mul_right order
      (sum_rows-le N later (λ y. indicator (accepts N c vs claimed f (z ++ y))) (λ y. indicator (believed y))
      (λ y r. rw (take_at z y first there, drop_at z y first there) (indicator_second (eqb (length (z ++ y)) (coins_of c)) (believed y)))))
      (layers_few F c.copies c.inputs vs full c.layers (first_claim N c claimed z) (λ later. f (z ++ later)) parts.1
      (length-take-le c.copies z (omega arith)) (omega (arith, length-drop c.copies z), tt)
      (λ e. equal_false F (mle N claimed z) (mle N (outputs N c vs) z) differ (e ∙ first_claim-sum c (outputs N c vs) claimed z))))
