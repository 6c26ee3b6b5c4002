-- Right outputs are believed with the honest prover, whatever coins fall, over any field.
-- A claim with the right total leads, with the honest answers, to a claim with the right total.
use Rattle.std.proofs.Common.{◌≡◌, ℕ, suc, ◌+◌, ◌*◌, ◌^◌, Bool, true, ◌&&◌, eqb, leb, List, [], ◌∷◌, ◌++◌, length, take, drop, sym, refl, ap, ◌∙◌, le_of_eq, suc-ne-zero, arith, length-drop, pow-add}
use mathlib.Core.Path.{fun_ext}
use native.Mathlib.Nat.{suc_inj}
use Rattle.std.proofs.lemmas.Bool.{and_parts, and_from, eq-eqb}
use Rattle.std.proofs.lemmas.List.{length-take-le, take_at, drop_at}
use Rattle.arithmetic.specs.Numbers.{Numbers, all_reduced}
use Rattle.arithmetic.proofs.Ring.{Ring}
use Rattle.arithmetic.proofs.Field.{Field, equal_yes}
use Rattle.tables.specs.Multilinear.{mle, sum_corners}
use Rattle.tables.proofs.Extension.{reduce-mle}
use Rattle.circuits.specs.Circuit.{Layer, Circuit, size_below, layers_fit, lawful, all_values, outputs}
use Rattle.argument.specs.Claims.{Claim, share_sum}
use Rattle.argument.specs.Sumcheck.{Prover, well_formed, rounds, respond}
use Rattle.argument.specs.Argument.{claim_below, values, believes, first_claim, first_coins, layer_coins, coins_of, accepts}
use Rattle.argument.specs.Honest.{two_values, honest_from, honest}
use Rattle.argument.proofs.Copies.{fits, all_values_inputs}
use Rattle.argument.proofs.Gates.{Long}
use Rattle.argument.proofs.Layer.{summand, layer_identity}
use Rattle.argument.proofs.Smooth.{smooth}
use Rattle.argument.proofs.Degree.{degs_c, degs_x, degs_y}
use Rattle.argument.proofs.Sumcheck.{answered}
use Rattle.argument.proofs.Layers.{claim_below-sum}
use Rattle.argument.proofs.Sound.{first_claim-sum}

module _ {K : Type 0} {N : Numbers K} (F : Field N) where
  open N use {add, mul, nat, equal, reduced}

  -- the two values below, as they are
  values_answered : (l : Layer) (m : ℕ) (k : Claim K) (X c x y : List K) (next : Claim K → Prover K → List K → Bool)
      (later : K → Prover K) (n : ℕ) →
      ((s : K) (rest : List K) → length rest ≡ n → next (claim_below N c x y (mle N X (c ++ x)) (mle N X (c ++ y)) s) (later s) rest ≡ true) →
      (coins : List K) → length coins ≡ suc n →
      values N l m k c x y next (two_values N (mle N X (c ++ x)) (mle N X (c ++ y)) later) (summand F.ring l m k X c x y) coins ≡ true
  unfolding values two_values all_reduced
  values_answered l m k X c x y next later n h [] e = absurd (suc-ne-zero n (sym e))
  values_answered l m k X c x y next later n h (s ∷ coins) e =
      let a : K = mle N X (c ++ x) in
      let b : K = mle N X (c ++ y) in
      let S : K = summand F.ring l m k X c x y in
      let go : Bool = next (claim_below N c x y a b s) (later s) coins in
      and_from (well_formed N 2 (a ∷ b ∷ [])) (equal S S && go)
      (and_from (reduced a) (reduced b && true) (F.reduced_refl a (reduce-mle F.ring (c ++ x) X))
      (and_from (reduced b) true (F.reduced_refl b (reduce-mle F.ring (c ++ y) X)) refl))
      (and_from (equal S S) go (F.equal_refl S) (h s coins (suc_inj e)))

  module _ (copies inputs : ℕ) (vs : List K) (full : length vs ≡ 2 ^ copies * 2 ^ inputs) where
    layers_answered : (ls : List Layer) (k : Claim K) → layers_fit ls inputs ≡ true →
        length k.copy ≡ copies → Long (size_below ls inputs) k.shares →
        k.total ≡ share_sum N (all_values N ls (2 ^ inputs) (2 ^ copies) vs) k.copy k.shares →
        (coins : List K) → length coins ≡ layer_coins copies ls inputs →
        believes N copies ls inputs vs k (honest_from N copies ls inputs vs k) coins ≡ true
    unfolding believes honest_from layer_coins
    layers_answered [] k fit long points right coins e =
        and_from (equal (share_sum N vs k.copy k.shares) k.total) (eqb (length coins) 0)
        (equal_yes F (share_sum N vs k.copy k.shares) k.total
        (ap (λ (X : List K). share_sum N X k.copy k.shares) (sym (all_values_inputs N (2 ^ inputs) (2 ^ copies) vs full)) ∙ sym right))
        (eq-eqb (length coins) 0 e)
    layers_answered (l ∷ ls) k fit long points right coins e =
        let m : ℕ = size_below ls inputs in
        let X : List K = all_values N ls (2 ^ inputs) (2 ^ copies) vs in
        let rest : ℕ = layer_coins copies ls inputs in
        let R : Ring N = F.ring in
        let S : List K → List K → List K → K = summand R l m k X in
        let next : Claim K → Prover K → List K → Bool = believes N copies ls inputs vs in
        let later : List K → List K → List K → K → Prover K =
        λ c x y s. honest_from N copies ls inputs vs (claim_below N c x y (mle N X (c ++ x)) (mle N X (c ++ y)) s) in
        let last : List K → List K → List K → Prover K = λ c x y. two_values N (mle N X (c ++ x)) (mle N X (c ++ y)) (later c x y) in
        answered F copies (m + (m + suc rest)) (λ c. sum_corners N m (λ x. sum_corners N m (λ y. S c x y)))
        (λ c. rounds N m (λ x. rounds N m (λ y. values N l m k c x y next)))
        (λ c. respond N m (λ x. sum_corners N m (λ y. S c x y)) (λ x. respond N m (λ y. S c x y) (λ y. last c x y))) k.total
        (smooth R copies (λ c. sum_corners N m (λ x. sum_corners N m (λ y. S c x y))) (degs_c R l m k X copies long))
        (right ∙ sym (layer_identity R l ls inputs copies vs fit (le_of_eq (sym full)) k long points))
        (λ c lc.
        answered F m (m + suc rest) (λ x. sum_corners N m (λ y. S c x y)) (λ x. rounds N m (λ y. values N l m k c x y next))
        (λ x. respond N m (λ y. S c x y) (λ y. last c x y)) (sum_corners N m (λ x. sum_corners N m (λ y. S c x y)))
        (smooth R m (λ x. sum_corners N m (λ y. S c x y)) (degs_x R l m k X c)) refl
        (λ x lx.
        answered F m (suc rest) (λ y. S c x y) (λ y. values N l m k c x y next) (λ y. last c x y) (sum_corners N m (λ y. S c x y))
        (smooth R m (λ y. S c x y) (degs_y R l m k X c x)) refl
        (λ y ly.
        values_answered l m k X c x y next (later c x y) rest
        (λ s. layers_answered ls (claim_below N c x y (mle N X (c ++ x)) (mle N X (c ++ y)) s) (fits l ls inputs fit).below lc (lx, (ly, tt))
        (sym (claim_below-sum F X c x y (mle N X (c ++ x)) (mle N X (c ++ y)) s))))))
        coins (omega arith)

  pub complete : (c : Circuit) → lawful c ≡ true → (vs : List K) → length vs ≡ 2 ^ (c.copies + c.inputs) →
      (coins : List K) → length coins ≡ coins_of c → accepts N c vs (outputs N c vs) (honest N c vs) coins ≡ true
  complete c law vs long coins e =
      let first : ℕ = first_coins c in
      let z : List K = take first coins in
      let claim : List K → Claim K = first_claim N c (outputs N c vs) in
      let parts = and_parts (leb 1 (length c.layers)) (layers_fit c.layers c.inputs) law in
      let full : length vs ≡ 2 ^ c.copies * 2 ^ c.inputs = long ∙ pow-add 2 c.copies c.inputs in
      let there : length z ≡ first = length-take-le first coins (omega arith) in
      let shifted : (λ later. honest N c vs (z ++ later)) ≡ honest_from N c.copies c.layers c.inputs vs (claim z) =
      fun_ext (λ later. rw (take_at z later first there, drop_at z later first there)) in
      and_from (eqb (length coins) (coins_of c))
      (believes N c.copies c.layers c.inputs vs (claim z) (λ later. honest N c vs (z ++ later)) (drop first coins))
      (eq-eqb (length coins) (coins_of c) e)
      (rw shifted
      (layers_answered c.copies c.inputs vs full c.layers (claim z) parts.1 (length-take-le c.copies z (omega arith))
      (omega (arith, length-drop c.copies z), tt) (sym (first_claim-sum F c (outputs N c vs) (outputs N c vs) z)) (drop first coins)
      (omega (arith, length-drop first coins))))
