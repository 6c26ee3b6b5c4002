-- The variables of y, x being fixed: the layer's expression is V(y) H(y) + J(y), by two tables gathered over the gates.
-- Each gate adds at its right place, with its weight times eq of its left place at x.
use Rattle.std.proofs.Common.{◌≡◌, ℕ, ◌^◌, ◌<◌, List, [], ◌∷◌, length, get_or, replicate, sym, refl, ap, ◌∙◌, ap₂, length-set}
use lib.ListN.{length-replicate}
use Rattle.arithmetic.specs.Numbers.{Numbers}
use Rattle.arithmetic.proofs.Ring.{Ring, reduce-add}
use Rattle.arithmetic.proofs.Solver.{var, ◌:*◌, solve}
use Rattle.tables.specs.Multilinear.{mle, eq_poly, bits_of}
use Rattle.circuits.specs.Circuit.{Kind, sum, product, Gate, Layer, combine}
use Rattle.argument.specs.Claims.{Claim, expected}
use Rattle.argument.proofs.Copies.{Reads}
use Rattle.fronts.specs.Gathers.{layer_weights, scaled, add_at, to_product, to_rest, weights_at, gather_hy, gather_jy}
use Rattle.rounds.specs.Phases.{product_sum}
use Rattle.phases.proofs.GateTerms.{gate_terms, expected_terms, terms_scaled}
use Rattle.phases.proofs.Places.{mle_added}
use Rattle.phases.proofs.PhaseX.{split_gate, reduce-product_sum, zeros_none}

module _ {K : Type 0} (N : Numbers K) where
  open N use {add, mul, nat}

  -- the sum, over gates, of weight times eq of the right place times the gate of a and b
  unfoldable pub right_terms : ℕ → List Gate → List K → List K → K → K → K
  right_terms m [] ws y a b = nat 0
  right_terms m (g ∷ gs) [] y a b = nat 0
  right_terms m (g ∷ gs) (w ∷ ws) y a b =
      add (mul w (mul (eq_poly N (bits_of N m g.right) y) (combine N g.kind b a))) (right_terms m gs ws y a b)

  -- ex has eq at x for all places of m bits
  abbrev pub EqAt : ℕ → List K → List K → Type 0
  EqAt m x ex = (i : ℕ) → i < 2 ^ m → get_or ex i (nat 0) ≡ eq_poly N (bits_of N m i) x

module _ {K : Type 0} {N : Numbers K} (R : Ring N) where
  open N use {reduce, add, mul, nat}

  swapped : (kind : Kind) (a b : K) → combine N kind a b ≡ combine N kind b a
  swapped sum a b = R.add_comm a b
  swapped product a b = R.mul_comm a b

  terms_right : (m : ℕ) (gs : List Gate) (ws ex x y : List K) (a b : K) → EqAt N m x ex → Reads (2 ^ m) gs →
      gate_terms N m gs ws x y a b ≡ right_terms N m gs (weights_at N gs ws ex) y a b
  unfolding gate_terms right_terms weights_at
  terms_right m [] ws ex x y a b eq reads = refl
  terms_right m (g ∷ gs) [] ex x y a b eq reads = refl
  terms_right m (g ∷ gs) (w ∷ ws) ex x y a b eq reads =
      let p : K = eq_poly N (bits_of N m g.left) x in
      let q : K = eq_poly N (bits_of N m g.right) y in
      ap₂ add
      (ap (λ t. mul w (mul (mul p q) t)) (swapped g.kind a b)
      ∙ solve R (w ∷ p ∷ q ∷ combine N g.kind b a ∷ []) (var 0 :* (var 1 :* var 2 :* var 3)) (var 0 :* var 1 :* (var 2 :* var 3)) refl
      ∙ ap (λ e. mul (mul w e) (mul q (combine N g.kind b a))) (sym (eq g.left reads.0)))
      (terms_right m gs ws ex x y a b eq reads.2)

  gathered : (m : ℕ) (gs : List Gate) (ws v : List K) (a : K) (h j y : List K) → length h ≡ 2 ^ m → length j ≡ 2 ^ m → Reads (2 ^ m) gs → length y ≡ m →
      product_sum N v (gather_hy N gs ws a h) (gather_jy N gs ws a j) y ≡
      add (product_sum N v h j y) (right_terms N m gs ws y a (mle N v y))
  unfolding gather_hy gather_jy right_terms
  gathered m [] ws v a h j y lh lj reads ly = sym (R.add_zero (product_sum N v h j y) ∙ reduce-product_sum R v h j y)
  gathered m (g ∷ gs) [] v a h j y lh lj reads ly = sym (R.add_zero (product_sum N v h j y) ∙ reduce-product_sum R v h j y)
  gathered m (g ∷ gs) (w ∷ ws) v a h j y lh lj reads ly =
      let i : ℕ = g.right in
      let s : K = to_product N g.kind w a in
      let t : K = to_rest N g.kind w a in
      let b : K = mle N v y in
      let rest : K = right_terms N m gs ws y a b in
      gathered m gs ws v a (add_at N h i s) (add_at N j i t) y (length-set h i (add (get_or h i (nat 0)) s) ∙ lh)
      (length-set j i (add (get_or j i (nat 0)) t) ∙ lj) reads.2 ly
      ∙ ap₂ (λ p q. add (add (mul b p) q) rest) (mle_added R m h i s y lh reads.1 ly) (mle_added R m j i t y lj reads.1 ly)
      ∙ split_gate R g.kind b (mle N h y) (mle N j y) (eq_poly N (bits_of N m i) y) w a rest

  reduce-right_terms : (m : ℕ) (gs : List Gate) (ws y : List K) (a b : K) → reduce (right_terms N m gs ws y a b) ≡ right_terms N m gs ws y a b
  unfolding right_terms
  reduce-right_terms m [] ws y a b = R.reduce_zero
  reduce-right_terms m (g ∷ gs) [] y a b = R.reduce_zero
  reduce-right_terms m (g ∷ gs) (w ∷ ws) y a b = reduce-add R _ _

  pub phase_y : (l : Layer) (m : ℕ) (k : Claim K) (c x ex v : List K) (a : K) (y : List K) → EqAt N m x ex → Reads (2 ^ m) l.gates → length y ≡ m →
      let ws : List K = weights_at N l.gates (scaled N (eq_poly N k.copy c) (layer_weights N l k.shares)) ex in
      let zeros : List K = replicate (2 ^ m) (nat 0) in
      expected N l m k c x y a (mle N v y) ≡
      product_sum N v (gather_hy N l.gates ws a zeros) (gather_jy N l.gates ws a zeros) y
  phase_y l m k c x ex v a y eq reads ly =
      let E : K = eq_poly N k.copy c in
      let gs : List Gate = l.gates in
      let ws : List K = layer_weights N l k.shares in
      let us : List K = weights_at N gs (scaled N E ws) ex in
      let zeros : List K = replicate (2 ^ m) (nat 0) in
      let b : K = mle N v y in
      expected_terms R l m k c x y a b ∙ sym (terms_scaled R E m gs ws x y a b)
      ∙ terms_right m gs (scaled N E ws) ex x y a b eq reads
      ∙ sym (reduce-right_terms m gs us y a b)
      ∙ sym
      (gathered m gs us v a zeros zeros y (length-replicate (2 ^ m) (nat 0)) (length-replicate (2 ^ m) (nat 0)) reads ly
      ∙ ap (λ s. add s (right_terms N m gs us y a b)) (zeros_none R m v y ly)
      ∙ R.add_comm (nat 0) (right_terms N m gs us y a b) ∙ R.add_zero (right_terms N m gs us y a b))
