-- One copy of a layer: the wiring, summed against the values below over all corners, gives back the gates' values.
-- Each gate's eq polynomials pick out the two values that it takes, one after the other.
use Rattle.std.proofs.Common.{◌≡◌, ℕ, ◌+◌, ◌^◌, ◌<◌, cond, List, [], ◌∷◌, length, get_or, refl, ap, ◌∙◌, ap₂}
use Rattle.arithmetic.specs.Numbers.{Numbers}
use Rattle.arithmetic.proofs.Ring.{Ring, zero-mul}
use Rattle.arithmetic.proofs.Solver.{var, con, ◌:+◌, ◌:*◌, red, solve}
use Rattle.tables.specs.Multilinear.{mle, eq_poly, bits_of, sum_corners}
use Rattle.tables.specs.Theorems.{sum_places}
use Rattle.tables.proofs.Corners.{sum_corners_same, sum_corners-add, sum_corners_scale}
use Rattle.tables.proofs.Linear.{Lin, lin_add_l, lin_add_r, lin_mul_l, lin_mul_r, lin_mle, picked}
use Rattle.tables.proofs.Places.{bits_length, placed, sum_places-mle}
use Rattle.circuits.specs.Circuit.{Kind, sum, product, Gate, Layer, combine, gate_values}
use Rattle.argument.specs.Claims.{Share, same_kind, share_sum, wiring, shared_wiring}
use Rattle.argument.proofs.Copies.{Reads, gate_values-length}

-- the points of all shares have n coordinates
abbrev pub Long : {K : Type 0} → ℕ → List (Share K) → Type 0
Long n [] = Unit {0}
Long n (s ∷ ss) = (length s.point ≡ n) × Long n ss

module _ {K : Type 0} {N : Numbers K} (R : Ring N) where
  open N use {reduce, add, sub, mul, nat}

  -- ---- sums over two points
  abbrev pub sum_pairs : ℕ → (List K → List K → K) → K
  sum_pairs m H = sum_corners N m (λ x. sum_corners N m (λ y. H x y))

  pub sum_pairs_same : (m : ℕ) (G H : List K → List K → K) → ((x y : List K) → G x y ≡ H x y) → sum_pairs m G ≡ sum_pairs m H
  sum_pairs_same m G H e =
      sum_corners_same R m (λ x. sum_corners N m (G x)) (λ x. sum_corners N m (H x)) (λ x. sum_corners_same R m (G x) (H x) (e x))

  pub sum_pairs-add : (m : ℕ) (G H : List K → List K → K) → sum_pairs m (λ x y. add (G x y) (H x y)) ≡ add (sum_pairs m G) (sum_pairs m H)
  sum_pairs-add m G H =
      sum_corners_same R m (λ x. sum_corners N m (λ y. add (G x y) (H x y))) (λ x. add (sum_corners N m (G x)) (sum_corners N m (H x)))
      (λ x. sum_corners-add R m (G x) (H x))
      ∙ sum_corners-add R m (λ x. sum_corners N m (G x)) (λ x. sum_corners N m (H x))

  pub sum_pairs_scale : (m : ℕ) (k : K) (G : List K → List K → K) → sum_pairs m (λ x y. mul k (G x y)) ≡ mul k (sum_pairs m G)
  sum_pairs_scale m k G =
      sum_corners_same R m (λ x. sum_corners N m (λ y. mul k (G x y))) (λ x. mul k (sum_corners N m (G x))) (λ x. sum_corners_scale R m k (G x))
      ∙ sum_corners_scale R m k (λ x. sum_corners N m (G x))

  pub picked_pair : (m : ℕ) (W : List K → List K → K) → ((x : List K) → Lin R m (W x)) → ((y : List K) → Lin R m (λ x. W x y)) →
      (p q : List K) → length p ≡ m → length q ≡ m →
      sum_pairs m (λ x y. mul (mul (eq_poly N p x) (eq_poly N q y)) (W x y)) ≡ reduce (W p q)
  picked_pair m W right left p q long long' =
      sum_corners_same R m (λ x. sum_corners N m (λ y. mul (mul (eq_poly N p x) (eq_poly N q y)) (W x y))) (λ x. mul (eq_poly N p x) (W x q))
      (λ x.
      sum_corners_same R m (λ y. mul (mul (eq_poly N p x) (eq_poly N q y)) (W x y)) (λ y. mul (eq_poly N p x) (mul (eq_poly N q y) (W x y)))
      (λ y. R.mul_assoc (eq_poly N p x) (eq_poly N q y) (W x y))
      ∙ sum_corners_scale R m (eq_poly N p x) (λ y. mul (eq_poly N q y) (W x y))
      ∙ ap (mul (eq_poly N p x)) (picked R m (W x) (right x) q long')
      ∙ solve R (eq_poly N p x ∷ W x q ∷ []) (var 0 :* red (var 1)) (var 0 :* var 1) refl)
      ∙ picked R m (λ x. W x q) (left q) p long

  -- ---- the wiring of one copy
  abbrev pub body : K → K → K → K → K
  body A M a b = add (mul A (add a b)) (mul M (mul a b))

  -- the first gate's part, apart from that of the others
  first_apart : (kind : Kind) (e p q A M a b : K) →
      body (add (cond (same_kind sum kind) (mul e (mul p q)) (nat 0)) A) (add (cond (same_kind product kind) (mul e (mul p q)) (nat 0)) M) a b ≡
      add (mul e (mul (mul p q) (combine N kind a b))) (body A M a b)
  first_apart sum e p q A M a b =
      solve R (e ∷ p ∷ q ∷ A ∷ M ∷ a ∷ b ∷ [])
      ((var 0 :* (var 1 :* var 2) :+ var 3) :* (var 5 :+ var 6) :+ (con 0 :+ var 4) :* (var 5 :* var 6))
      (var 0 :* (var 1 :* var 2 :* (var 5 :+ var 6)) :+ (var 3 :* (var 5 :+ var 6) :+ var 4 :* (var 5 :* var 6))) refl
  first_apart product e p q A M a b =
      solve R (e ∷ p ∷ q ∷ A ∷ M ∷ a ∷ b ∷ [])
      ((con 0 :+ var 3) :* (var 5 :+ var 6) :+ (var 0 :* (var 1 :* var 2) :+ var 4) :* (var 5 :* var 6))
      (var 0 :* (var 1 :* var 2 :* (var 5 :* var 6)) :+ (var 3 :* (var 5 :+ var 6) :+ var 4 :* (var 5 :* var 6))) refl

  module _ (m : ℕ) (X : List K) (full : length X ≡ 2 ^ m) where
    -- one gate: its two places are picked out
    one_gate : (kind : Kind) (i j : ℕ) → i < 2 ^ m → j < 2 ^ m →
        sum_pairs m (λ x y. mul (mul (eq_poly N (bits_of N m i) x) (eq_poly N (bits_of N m j) y)) (combine N kind (mle N X x) (mle N X y))) ≡
        reduce (combine N kind (get_or X i (nat 0)) (get_or X j (nat 0)))
    one_gate sum i j h k =
        picked_pair m (λ x y. add (mle N X x) (mle N X y)) (λ x. lin_add_l R m (mle N X x) (mle N X) (lin_mle R m X))
        (λ y. lin_add_r R m (mle N X y) (mle N X) (lin_mle R m X)) (bits_of N m i) (bits_of N m j) (bits_length R m i) (bits_length R m j)
        ∙ ap reduce (ap₂ add (placed R m X i full h) (placed R m X j full k))
        ∙ solve R (get_or X i (nat 0) ∷ get_or X j (nat 0) ∷ []) (red (red (var 0) :+ red (var 1))) (red (var 0 :+ var 1)) refl
    one_gate product i j h k =
        picked_pair m (λ x y. mul (mle N X x) (mle N X y)) (λ x. lin_mul_l R m (mle N X x) (mle N X) (lin_mle R m X))
        (λ y. lin_mul_r R m (mle N X y) (mle N X) (lin_mle R m X)) (bits_of N m i) (bits_of N m j) (bits_length R m i) (bits_length R m j)
        ∙ ap reduce (ap₂ mul (placed R m X i full h) (placed R m X j full k))
        ∙ solve R (get_or X i (nat 0) ∷ get_or X j (nat 0) ∷ []) (red (red (var 0) :* red (var 1))) (red (var 0 :* var 1)) refl

    no_gates : sum_pairs m (λ x y. body (nat 0) (nat 0) (mle N X x) (mle N X y)) ≡ nat 0
    no_gates =
        sum_pairs_same m (λ x y. body (nat 0) (nat 0) (mle N X x) (mle N X y)) (λ x y. mul (nat 0) (nat 0))
        (λ x y. solve R (mle N X x ∷ mle N X y ∷ []) (con 0 :* (var 0 :+ var 1) :+ con 0 :* (var 0 :* var 1)) (con 0 :* con 0) refl)
        ∙ sum_pairs_scale m (nat 0) (λ x y. nat 0) ∙ zero-mul R (sum_pairs m (λ x y. nat 0))

    gates_sum : (s i : ℕ) (gs : List Gate) (z : List K) → Reads (2 ^ m) gs →
        sum_pairs m (λ x y. body (wiring N sum s m i gs z x y) (wiring N product s m i gs z x y) (mle N X x) (mle N X y)) ≡
        sum_places N s i (gate_values N X gs) z
    unfolding wiring sum_places gate_values
    gates_sum s i [] z h = no_gates
    gates_sum s i (g ∷ gs) z h =
        let e : K = eq_poly N (bits_of N s i) z in
        let p : List K → K = eq_poly N (bits_of N m g.left) in
        let q : List K → K = eq_poly N (bits_of N m g.right) in
        let v : K = combine N g.kind (get_or X g.left (nat 0)) (get_or X g.right (nat 0)) in
        let one : List K → List K → K = λ x y. mul (mul (p x) (q y)) (combine N g.kind (mle N X x) (mle N X y)) in
        let others : List K → List K → K =
        λ x y. body (wiring N sum s m (i + 1) gs z x y) (wiring N product s m (i + 1) gs z x y) (mle N X x) (mle N X y) in
        sum_pairs_same m (λ x y. body (wiring N sum s m i (g ∷ gs) z x y) (wiring N product s m i (g ∷ gs) z x y) (mle N X x) (mle N X y))
        (λ x y. add (mul e (one x y)) (others x y))
        (λ x y.
        first_apart g.kind e (p x) (q y) (wiring N sum s m (i + 1) gs z x y) (wiring N product s m (i + 1) gs z x y) (mle N X x) (mle N X y))
        ∙ sum_pairs-add m (λ x y. mul e (one x y)) others
        ∙ ap₂ add
        (sum_pairs_scale m e one ∙ ap (mul e) (one_gate g.kind g.left g.right h.0 h.1)
        ∙ solve R (e ∷ v ∷ []) (var 0 :* red (var 1)) (var 0 :* var 1) refl)
        (gates_sum s (i + 1) gs z h.2)

    -- the same over all shares of a claim
    pub shares_sum : (l : Layer) → length l.gates ≡ 2 ^ l.size → Reads (2 ^ m) l.gates →
        (ss : List (Share K)) → Long l.size ss →
        sum_pairs m (λ x y. body (shared_wiring N sum l m ss x y) (shared_wiring N product l m ss x y) (mle N X x) (mle N X y)) ≡
        share_sum N (gate_values N X l.gates) [] ss
    unfolding shared_wiring share_sum
    shares_sum l many reads [] long = no_gates
    shares_sum l many reads (s ∷ ss) long =
        let A : List K → List K → K = wiring N sum l.size m 0 l.gates s.point in
        let M : List K → List K → K = wiring N product l.size m 0 l.gates s.point in
        let A' : List K → List K → K = shared_wiring N sum l m ss in
        let M' : List K → List K → K = shared_wiring N product l m ss in
        let one : List K → List K → K = λ x y. body (A x y) (M x y) (mle N X x) (mle N X y) in
        let others : List K → List K → K = λ x y. body (A' x y) (M' x y) (mle N X x) (mle N X y) in
        sum_pairs_same m (λ x y. body (shared_wiring N sum l m (s ∷ ss) x y) (shared_wiring N product l m (s ∷ ss) x y) (mle N X x) (mle N X y))
        (λ x y. add (mul s.factor (one x y)) (others x y))
        (λ x y. solve R (s.factor ∷ A x y ∷ M x y ∷ A' x y ∷ M' x y ∷ mle N X x ∷ mle N X y ∷ [])
        ((var 0 :* var 1 :+ var 3) :* (var 5 :+ var 6) :+ (var 0 :* var 2 :+ var 4) :* (var 5 :* var 6))
        (var 0 :* (var 1 :* (var 5 :+ var 6) :+ var 2 :* (var 5 :* var 6)) :+ (var 3 :* (var 5 :+ var 6) :+ var 4 :* (var 5 :* var 6))) refl)
        ∙ sum_pairs-add m (λ x y. mul s.factor (one x y)) others
        ∙ ap₂ add
        (sum_pairs_scale m s.factor one
        ∙ ap (mul s.factor)
        (gates_sum l.size 0 l.gates s.point reads
        ∙ sum_places-mle R l.size (gate_values N X l.gates) s.point (gate_values-length N X l.gates ∙ many) long.0))
        (shares_sum l many reads ss long.1)
