-- The variables of x: the sum over y of the layer's expression is V(x) H(x) + J(x), by two tables gathered over the gates.
-- Each gate adds at its left place; its eq polynomial of y picks the value at its right place.
use Rattle.std.proofs.Common.{◌≡◌, ℕ, ◌^◌, ◌<◌, List, [], ◌∷◌, length, get_or, replicate, sym, refl, ap, ◌∙◌, ap₂, length-set}
use lib.ListN.{length-replicate}
use Rattle.arithmetic.specs.Numbers.{Numbers}
use Rattle.arithmetic.proofs.Ring.{Ring, zero-mul, reduce-add}
use Rattle.arithmetic.proofs.Solver.{var, con, ◌:+◌, ◌:*◌, red, solve}
use Rattle.tables.specs.Multilinear.{mle, eq_poly, bits_of, sum_corners}
use Rattle.tables.proofs.Corners.{sum_corners_same, sum_corners-add, sum_corners_scale}
use Rattle.tables.proofs.Linear.{lin_add_l, lin_mul_l, lin_mle, picked}
use Rattle.tables.proofs.Places.{bits_length, placed}
use Rattle.circuits.specs.Circuit.{Kind, sum, product, Gate, Layer, combine}
use Rattle.argument.specs.Claims.{Claim, expected}
use Rattle.argument.proofs.Copies.{Reads}
use Rattle.fronts.specs.Gathers.{layer_weights, scaled, add_at, to_product, to_rest, gather_h, gather_j}
use Rattle.rounds.specs.Phases.{product_sum}
use Rattle.phases.proofs.GateTerms.{gate_terms, expected_terms, terms_scaled, add_zeros}
use Rattle.phases.proofs.Places.{mle_added, mle_zeros}

module _ {K : Type 0} (N : Numbers K) where
  open N use {add, mul, nat}

  -- the sum, over gates, of weight times eq of the left place times the gate of a and the right place's value
  unfoldable pub left_terms : ℕ → List Gate → List K → List K → List K → K → K
  left_terms m [] ws v x a = nat 0
  left_terms m (g ∷ gs) [] v x a = nat 0
  left_terms m (g ∷ gs) (w ∷ ws) v x a =
      add (mul w (mul (eq_poly N (bits_of N m g.left) x) (combine N g.kind a (get_or v g.right (nat 0)))))
      (left_terms m gs ws v x a)

module _ {K : Type 0} {N : Numbers K} (R : Ring N) where
  open N use {reduce, add, mul, nat}

  -- ---- y summed away
  right_picked : (m : ℕ) (v : List K) (kind : Kind) (a : K) (j : ℕ) → length v ≡ 2 ^ m → j < 2 ^ m →
      sum_corners N m (λ y. mul (eq_poly N (bits_of N m j) y) (combine N kind a (mle N v y))) ≡ combine N kind a (get_or v j (nat 0))
  right_picked m v sum a j full h =
      picked R m (λ y. add a (mle N v y)) (lin_add_l R m a (mle N v) (lin_mle R m v)) (bits_of N m j) (bits_length R m j)
      ∙ ap (λ b. reduce (add a b)) (placed R m v j full h)
      ∙ solve R (a ∷ get_or v j (nat 0) ∷ []) (red (var 0 :+ red (var 1))) (var 0 :+ var 1) refl
  right_picked m v product a j full h =
      picked R m (λ y. mul a (mle N v y)) (lin_mul_l R m a (mle N v) (lin_mle R m v)) (bits_of N m j) (bits_length R m j)
      ∙ ap (λ b. reduce (mul a b)) (placed R m v j full h)
      ∙ solve R (a ∷ get_or v j (nat 0) ∷ []) (red (var 0 :* red (var 1))) (var 0 :* var 1) refl

  corners_none : (m : ℕ) → sum_corners N m (λ y. nat 0) ≡ nat 0
  corners_none m =
      sum_corners_same R m (λ y. nat 0) (λ y. mul (nat 0) (nat 0)) (λ y. sym (zero-mul R (nat 0)))
      ∙ sum_corners_scale R m (nat 0) (λ y. nat 0) ∙ zero-mul R (sum_corners N m (λ y. nat 0))

  terms_summed : (m : ℕ) (gs : List Gate) (ws v x : List K) (a : K) → length v ≡ 2 ^ m → Reads (2 ^ m) gs →
      sum_corners N m (λ y. gate_terms N m gs ws x y a (mle N v y)) ≡ left_terms N m gs ws v x a
  unfolding gate_terms left_terms
  terms_summed m [] ws v x a full reads = corners_none m
  terms_summed m (g ∷ gs) [] v x a full reads = corners_none m
  terms_summed m (g ∷ gs) (w ∷ ws) v x a full reads =
      let p : K = eq_poly N (bits_of N m g.left) x in
      let q : List K → K = eq_poly N (bits_of N m g.right) in
      let f : List K → K = λ y. combine N g.kind a (mle N v y) in
      let others : List K → K = λ y. gate_terms N m gs ws x y a (mle N v y) in
      sum_corners-add R m (λ y. mul w (mul (mul p (q y)) (f y))) others
      ∙ ap₂ add
      (sum_corners_scale R m w (λ y. mul (mul p (q y)) (f y))
      ∙ ap (mul w)
      (sum_corners_same R m (λ y. mul (mul p (q y)) (f y)) (λ y. mul p (mul (q y) (f y))) (λ y. R.mul_assoc p (q y) (f y))
      ∙ sum_corners_scale R m p (λ y. mul (q y) (f y))
      ∙ ap (mul p) (right_picked m v g.kind a g.right full reads.1)))
      (terms_summed m gs ws v x a full reads.2)

  -- ---- what a gate adds to the two tables
  pub split_gate : (kind : Kind) (a h j e w b rest : K) →
      add (add (mul a (add h (mul e (to_product N kind w b)))) (add j (mul e (to_rest N kind w b)))) rest ≡
      add (add (mul a h) j) (add (mul w (mul e (combine N kind a b))) rest)
  split_gate sum a h j e w b rest =
      solve R (a ∷ h ∷ j ∷ e ∷ w ∷ b ∷ rest ∷ [])
      (var 0 :* (var 1 :+ var 3 :* var 4) :+ (var 2 :+ var 3 :* (var 4 :* var 5)) :+ var 6)
      (var 0 :* var 1 :+ var 2 :+ (var 4 :* (var 3 :* (var 0 :+ var 5)) :+ var 6)) refl
  split_gate product a h j e w b rest =
      solve R (a ∷ h ∷ j ∷ e ∷ w ∷ b ∷ rest ∷ [])
      (var 0 :* (var 1 :+ var 3 :* (var 4 :* var 5)) :+ (var 2 :+ var 3 :* con 0) :+ var 6)
      (var 0 :* var 1 :+ var 2 :+ (var 4 :* (var 3 :* (var 0 :* var 5)) :+ var 6)) refl

  pub reduce-product_sum : (v h j z : List K) → reduce (product_sum N v h j z) ≡ product_sum N v h j z
  reduce-product_sum v h j z = reduce-add R (mul (mle N v z) (mle N h z)) (mle N j z)

  gathered : (m : ℕ) (gs : List Gate) (ws v h j x : List K) → length h ≡ 2 ^ m → length j ≡ 2 ^ m → Reads (2 ^ m) gs → length x ≡ m →
      product_sum N v (gather_h N gs ws v h) (gather_j N gs ws v j) x ≡
      add (product_sum N v h j x) (left_terms N m gs ws v x (mle N v x))
  unfolding gather_h gather_j left_terms
  gathered m [] ws v h j x lh lj reads lx = sym (R.add_zero (product_sum N v h j x) ∙ reduce-product_sum v h j x)
  gathered m (g ∷ gs) [] v h j x lh lj reads lx = sym (R.add_zero (product_sum N v h j x) ∙ reduce-product_sum v h j x)
  gathered m (g ∷ gs) (w ∷ ws) v h j x lh lj reads lx =
      let b : K = get_or v g.right (nat 0) in
      let i : ℕ = g.left in
      let s : K = to_product N g.kind w b in
      let t : K = to_rest N g.kind w b in
      let e : K = eq_poly N (bits_of N m i) x in
      let a : K = mle N v x in
      let rest : K = left_terms N m gs ws v x a in
      gathered m gs ws v (add_at N h i s) (add_at N j i t) x (length-set h i (add (get_or h i (nat 0)) s) ∙ lh)
      (length-set j i (add (get_or j i (nat 0)) t) ∙ lj) reads.2 lx
      ∙ ap₂ (λ p q. add (add (mul a p) q) rest) (mle_added R m h i s x lh reads.0 lx) (mle_added R m j i t x lj reads.0 lx)
      ∙ split_gate g.kind a (mle N h x) (mle N j x) e w b rest

  pub zeros_none : (m : ℕ) (v z : List K) → length z ≡ m → product_sum N v (replicate (2 ^ m) (nat 0)) (replicate (2 ^ m) (nat 0)) z ≡ nat 0
  zeros_none m v z lz =
      ap₂ (λ p q. add (mul (mle N v z) p) q) (mle_zeros R m z lz) (mle_zeros R m z lz)
      ∙ ap (λ p. add p (nat 0)) (R.mul_zero (mle N v z)) ∙ add_zeros R

  reduce-left_terms : (m : ℕ) (gs : List Gate) (ws v x : List K) (a : K) → reduce (left_terms N m gs ws v x a) ≡ left_terms N m gs ws v x a
  unfolding left_terms
  reduce-left_terms m [] ws v x a = R.reduce_zero
  reduce-left_terms m (g ∷ gs) [] v x a = R.reduce_zero
  reduce-left_terms m (g ∷ gs) (w ∷ ws) v x a = reduce-add R _ _

  pub phase_x : (l : Layer) (m : ℕ) (k : Claim K) (c v x : List K) → length v ≡ 2 ^ m → Reads (2 ^ m) l.gates → length x ≡ m →
      let ws : List K = scaled N (eq_poly N k.copy c) (layer_weights N l k.shares) in
      let zeros : List K = replicate (2 ^ m) (nat 0) in
      sum_corners N m (λ y. expected N l m k c x y (mle N v x) (mle N v y)) ≡
      product_sum N v (gather_h N l.gates ws v zeros) (gather_j N l.gates ws v zeros) x
  phase_x l m k c v x full reads lx =
      let E : K = eq_poly N k.copy c in
      let gs : List Gate = l.gates in
      let ws : List K = layer_weights N l k.shares in
      let zeros : List K = replicate (2 ^ m) (nat 0) in
      let a : K = mle N v x in
      sum_corners_same R m (λ y. expected N l m k c x y a (mle N v y)) (λ y. gate_terms N m gs (scaled N E ws) x y a (mle N v y))
      (λ y. expected_terms R l m k c x y a (mle N v y) ∙ sym (terms_scaled R E m gs ws x y a (mle N v y)))
      ∙ terms_summed m gs (scaled N E ws) v x a full reads
      ∙ sym (reduce-left_terms m gs (scaled N E ws) v x a)
      ∙ sym
      (gathered m gs (scaled N E ws) v zeros zeros x (length-replicate (2 ^ m) (nat 0)) (length-replicate (2 ^ m) (nat 0)) reads lx
      ∙ ap (λ s. add s (left_terms N m gs (scaled N E ws) v x a)) (zeros_none m v x lx)
      ∙ R.add_comm (nat 0) (left_terms N m gs (scaled N E ws) v x a) ∙ R.add_zero (left_terms N m gs (scaled N E ws) v x a))
