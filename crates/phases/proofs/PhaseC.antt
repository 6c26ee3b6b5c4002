-- The copies' variables: the sum over x and y of the layer's expression is E(c) times a sum over the gates.
-- Each gate's eq polynomials pick out its two values, so that no pair of places is ever looked at.
use Rattle.std.proofs.Common.{◌≡◌, ℕ, List, [], ◌∷◌, ◌++◌, length, sym, refl, ap, ◌∙◌, ap₂}
use Rattle.arithmetic.specs.Numbers.{Numbers}
use Rattle.arithmetic.proofs.Ring.{Ring, zero-mul, reduce-add, reduce-mul}
use Rattle.tables.specs.Multilinear.{mle, eq_poly, bits_of}
use Rattle.tables.proofs.Linear.{Lin, lin_add_l, lin_add_r, lin_mul_l, lin_mul_r, lin_back}
use Rattle.tables.proofs.Places.{bits_length}
use Rattle.circuits.specs.Circuit.{Kind, sum, product, Gate, Layer, combine}
use Rattle.argument.specs.Claims.{Claim, expected}
use Rattle.argument.proofs.Gates.{sum_pairs, sum_pairs_same, sum_pairs-add, sum_pairs_scale, picked_pair}
use Rattle.fronts.specs.Gathers.{layer_weights}
use Rattle.rounds.specs.Phases.{gate_sum, copy_sum}
use Rattle.phases.proofs.GateTerms.{gate_terms, expected_terms}

module _ {K : Type 0} {N : Numbers K} (R : Ring N) where
  open N use {reduce, add, mul, nat}

  -- one gate: its two places are picked out
  pub gate_picked : (m : ℕ) (f : List K → K) → Lin R m f → (kind : Kind) (p q : List K) → length p ≡ m → length q ≡ m →
      sum_pairs R m (λ x y. mul (mul (eq_poly N p x) (eq_poly N q y)) (combine N kind (f x) (f y))) ≡ combine N kind (f p) (f q)
  gate_picked m f lin sum p q long long' =
      picked_pair R m (λ x y. add (f x) (f y)) (λ x. lin_add_l R m (f x) f lin) (λ y. lin_add_r R m (f y) f lin) p q long long'
      ∙ reduce-add R (f p) (f q)
  gate_picked m f lin product p q long long' =
      picked_pair R m (λ x y. mul (f x) (f y)) (λ x. lin_mul_l R m (f x) f lin) (λ y. lin_mul_r R m (f y) f lin) p q long long'
      ∙ reduce-mul R (f p) (f q)

  gates_none : (m : ℕ) → sum_pairs R m (λ x y. nat 0) ≡ nat 0
  gates_none m =
      sum_pairs_same R m (λ x y. nat 0) (λ x y. mul (nat 0) (nat 0)) (λ x y. sym (zero-mul R (nat 0)))
      ∙ sum_pairs_scale R m (nat 0) (λ x y. nat 0) ∙ zero-mul R (sum_pairs R m (λ x y. nat 0))

  gates_picked : (m : ℕ) (gs : List Gate) (ws v c : List K) →
      sum_pairs R m (λ x y. gate_terms N m gs ws x y (mle N v (c ++ x)) (mle N v (c ++ y))) ≡ gate_sum N m gs ws v c
  unfolding gate_terms gate_sum
  gates_picked m [] ws v c = gates_none m
  gates_picked m (g ∷ gs) [] v c = gates_none m
  gates_picked m (g ∷ gs) (w ∷ ws) v c =
      let f : List K → K = λ x. mle N v (c ++ x) in
      let p : List K = bits_of N m g.left in
      let q : List K = bits_of N m g.right in
      let one : List K → List K → K = λ x y. mul (mul (eq_poly N p x) (eq_poly N q y)) (combine N g.kind (f x) (f y)) in
      let others : List K → List K → K = λ x y. gate_terms N m gs ws x y (f x) (f y) in
      sum_pairs-add R m (λ x y. mul w (one x y)) others
      ∙ ap₂ add
      (sum_pairs_scale R m w one
      ∙ ap (mul w) (gate_picked m f (lin_back R m v c) g.kind p q (bits_length R m g.left) (bits_length R m g.right)))
      (gates_picked m gs ws v c)

  gate_sum_same : (m : ℕ) (gs : List Gate) (ws v X c d : List K) → ((u : List K) → mle N v (c ++ u) ≡ mle N X (d ++ u)) →
      gate_sum N m gs ws v c ≡ gate_sum N m gs ws X d
  unfolding gate_sum
  gate_sum_same m [] ws v X c d e = refl
  gate_sum_same m (g ∷ gs) [] v X c d e = refl
  gate_sum_same m (g ∷ gs) (w ∷ ws) v X c d e =
      ap₂ add
      (ap₂ (λ a b. mul w (combine N g.kind a b)) (e (bits_of N m g.left)) (e (bits_of N m g.right)))
      (gate_sum_same m gs ws v X c d e)

  -- Tables e and v for the variables that are left, the first ones being fixed at the beginning of d: at z they are what
  -- E and the values below are at d.
  pub phase_c : (l : Layer) (m : ℕ) (k : Claim K) (e v X z d : List K) → mle N e z ≡ eq_poly N k.copy d →
      ((u : List K) → mle N v (z ++ u) ≡ mle N X (d ++ u)) →
      sum_pairs R m (λ x y. expected N l m k d x y (mle N X (d ++ x)) (mle N X (d ++ y))) ≡
      copy_sum N m l.gates (layer_weights N l k.shares) e v z
  phase_c l m k e v X z d same tables =
      let E : K = eq_poly N k.copy d in
      let ws : List K = layer_weights N l k.shares in
      let terms : List K → List K → K = λ x y. gate_terms N m l.gates ws x y (mle N X (d ++ x)) (mle N X (d ++ y)) in
      sum_pairs_same R m (λ x y. expected N l m k d x y (mle N X (d ++ x)) (mle N X (d ++ y))) (λ x y. mul E (terms x y))
      (λ x y. expected_terms R l m k d x y (mle N X (d ++ x)) (mle N X (d ++ y)))
      ∙ sum_pairs_scale R m E terms
      ∙ ap₂ mul (sym same)
      (gates_picked m l.gates ws X d ∙ sym (gate_sum_same m l.gates ws v X z d tables))
