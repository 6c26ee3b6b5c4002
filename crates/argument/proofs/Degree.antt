-- What a layer's sumchecks are about has degree below 4 in each variable: of the copies, of x and of y.
-- Each factor has degree at most 1; eq and the wiring together count as one factor, or there would be one too many.
use Rattle.std.proofs.Common.{◌≡◌, ℕ, zero, suc, ◌+◌, Bool, true, false, cond, List, [], ◌∷◌, ◌++◌, length, refl}
use Rattle.arithmetic.specs.Numbers.{Numbers}
use Rattle.arithmetic.proofs.Ring.{Ring}
use Rattle.arithmetic.proofs.Solver.{var, ◌:+◌, ◌:*◌, solve}
use Rattle.arithmetic.proofs.Degree.{Deg, deg_add, deg_mul, deg_line, deg_raise}
use Rattle.tables.specs.Multilinear.{mle, eq_poly, bits_of, sum_corners}
use Rattle.tables.proofs.Extension.{reduce-mle}
use Rattle.tables.proofs.Linear.{Lin, lin_const, lin_add, lin_mul_l, lin_mul_r, lin_front, lin_back, lin_mle, lin_eq_poly}
use Rattle.tables.proofs.Places.{bits_length}
use Rattle.circuits.specs.Circuit.{Kind, sum, product, Gate, Layer}
use Rattle.argument.specs.Claims.{Share, Claim, same_kind, wiring, shared_wiring}
use Rattle.argument.proofs.Smooth.{Degs, degs_same, degs_sum_corners}
use Rattle.argument.proofs.Layer.{summand}

module _ {K : Type 0} {N : Numbers K} (R : Ring N) where
  open N use {reduce, add, sub, mul, nat}

  -- ---- four functions of degree at most 1
  deg_four : (u w a b : K → K) → Deg N 2 u → Deg N 2 w → Deg N 2 a → Deg N 2 b →
      Deg N 4 (λ t. add (mul (u t) (add (a t) (b t))) (mul (w t) (mul (a t) (b t))))
  deg_four u w a b du dw da db =
      deg_add R 4 (λ t. mul (u t) (add (a t) (b t))) (λ t. mul (w t) (mul (a t) (b t)))
      (deg_raise R 1 3 (λ t. mul (u t) (add (a t) (b t))) (deg_mul R 2 1 u (λ t. add (a t) (b t)) du (deg_add R 2 a b da db)))
      (deg_mul R 2 2 w (λ t. mul (a t) (b t)) dw (deg_mul R 2 1 a b da db))

  lin_deg : (n : ℕ) (V : List K → K) → Lin R (suc n) V → (z : List K) → Deg N 2 (λ t. V (t ∷ z))
  lin_deg n V h z = deg_line R (λ t. V (t ∷ z)) (V (nat 0 ∷ z)) (V (nat 1 ∷ z)) (λ t. h.0 t z)

  degs_four : (n : ℕ) (U W A B : List K → K) → Lin R n U → Lin R n W → Lin R n A → Lin R n B →
      Degs R 4 n (λ z. add (mul (U z) (add (A z) (B z))) (mul (W z) (mul (A z) (B z))))
  degs_four zero U W A B hU hW hA hB = tt
  degs_four (suc n) U W A B hU hW hA hB = (
    λ z. deg_four (λ t. U (t ∷ z)) (λ t. W (t ∷ z)) (λ t. A (t ∷ z)) (λ t. B (t ∷ z))
        (lin_deg n U hU z) (lin_deg n W hW z) (lin_deg n A hA z) (lin_deg n B hB z),
    λ t. degs_four n (λ z. U (t ∷ z)) (λ z. W (t ∷ z)) (λ z. A (t ∷ z)) (λ z. B (t ∷ z)) (hU.1 t) (hW.1 t) (hA.1 t) (hB.1 t),
  )

  -- ---- the wiring has degree at most 1 in each variable of x, and of y
  lin_either : (n : ℕ) (same : Bool) (V : List K → K) → Lin R n V → Lin R n (λ z. cond same (V z) (nat 0))
  lin_either n true V h = h
  lin_either n false V h = lin_const R n (nat 0) R.reduce_zero

  wiring_x : (kind : Kind) (s m i : ℕ) (gs : List Gate) (z y : List K) → Lin R m (λ x. wiring N kind s m i gs z x y)
  unfolding wiring
  wiring_x kind s m i [] z y = lin_const R m (nat 0) R.reduce_zero
  wiring_x kind s m i (g ∷ gs) z y =
      let e : K = eq_poly N (bits_of N s i) z in
      let p : List K → K = eq_poly N (bits_of N m g.left) in
      let q : K = eq_poly N (bits_of N m g.right) y in
      lin_add R m (λ x. cond (same_kind kind g.kind) (mul e (mul (p x) q)) (nat 0)) (λ x. wiring N kind s m (i + 1) gs z x y)
      (lin_either m (same_kind kind g.kind) (λ x. mul e (mul (p x) q))
      (lin_mul_l R m e (λ x. mul (p x) q) (lin_mul_r R m q p (lin_eq_poly R m (bits_of N m g.left) (bits_length R m g.left)))))
      (wiring_x kind s m (i + 1) gs z y)

  wiring_y : (kind : Kind) (s m i : ℕ) (gs : List Gate) (z x : List K) → Lin R m (λ y. wiring N kind s m i gs z x y)
  unfolding wiring
  wiring_y kind s m i [] z x = lin_const R m (nat 0) R.reduce_zero
  wiring_y kind s m i (g ∷ gs) z x =
      let e : K = eq_poly N (bits_of N s i) z in
      let p : K = eq_poly N (bits_of N m g.left) x in
      let q : List K → K = eq_poly N (bits_of N m g.right) in
      lin_add R m (λ y. cond (same_kind kind g.kind) (mul e (mul p (q y))) (nat 0)) (λ y. wiring N kind s m (i + 1) gs z x y)
      (lin_either m (same_kind kind g.kind) (λ y. mul e (mul p (q y)))
      (lin_mul_l R m e (λ y. mul p (q y)) (lin_mul_l R m p q (lin_eq_poly R m (bits_of N m g.right) (bits_length R m g.right)))))
      (wiring_y kind s m (i + 1) gs z x)

  shared_x : (kind : Kind) (l : Layer) (m : ℕ) (ss : List (Share K)) (y : List K) → Lin R m (λ x. shared_wiring N kind l m ss x y)
  unfolding shared_wiring
  shared_x kind l m [] y = lin_const R m (nat 0) R.reduce_zero
  shared_x kind l m (s ∷ ss) y =
      let first : List K → K = λ x. wiring N kind l.size m 0 l.gates s.point x y in
      lin_add R m (λ x. mul s.factor (first x)) (λ x. shared_wiring N kind l m ss x y)
      (lin_mul_l R m s.factor first (wiring_x kind l.size m 0 l.gates s.point y)) (shared_x kind l m ss y)

  shared_y : (kind : Kind) (l : Layer) (m : ℕ) (ss : List (Share K)) (x : List K) → Lin R m (λ y. shared_wiring N kind l m ss x y)
  unfolding shared_wiring
  shared_y kind l m [] x = lin_const R m (nat 0) R.reduce_zero
  shared_y kind l m (s ∷ ss) x =
      let first : List K → K = λ y. wiring N kind l.size m 0 l.gates s.point x y in
      lin_add R m (λ y. mul s.factor (first y)) (λ y. shared_wiring N kind l m ss x y)
      (lin_mul_l R m s.factor first (wiring_y kind l.size m 0 l.gates s.point x)) (shared_y kind l m ss x)

  -- ---- what is summed, with eq multiplied into the wiring
  degs_summand : (n : ℕ) (E A M a b : List K → K) → Lin R n (λ z. mul (E z) (A z)) → Lin R n (λ z. mul (E z) (M z)) → Lin R n a → Lin R n b →
      Degs R 4 n (λ z. mul (E z) (add (mul (A z) (add (a z) (b z))) (mul (M z) (mul (a z) (b z)))))
  degs_summand n E A M a b hA hM ha hb =
      degs_same R 4 n (λ z. add (mul (mul (E z) (A z)) (add (a z) (b z))) (mul (mul (E z) (M z)) (mul (a z) (b z))))
      (λ z. mul (E z) (add (mul (A z) (add (a z) (b z))) (mul (M z) (mul (a z) (b z)))))
      (λ z.
      solve R (E z ∷ A z ∷ M z ∷ a z ∷ b z ∷ []) (var 0 :* var 1 :* (var 3 :+ var 4) :+ var 0 :* var 2 :* (var 3 :* var 4))
      (var 0 :* (var 1 :* (var 3 :+ var 4) :+ var 2 :* (var 3 :* var 4))) refl)
      (degs_four n (λ z. mul (E z) (A z)) (λ z. mul (E z) (M z)) a b hA hM ha hb)

  module _ (l : Layer) (m : ℕ) (k : Claim K) (X : List K) where
    abbrev E : List K → K
    E = eq_poly N k.copy

    abbrev A : List K → List K → K
    A = shared_wiring N sum l m k.shares

    abbrev M : List K → List K → K
    M = shared_wiring N product l m k.shares

    pub degs_y : (c x : List K) → Degs R 4 m (λ y. summand R l m k X c x y)
    degs_y c x =
        degs_summand m (λ y. E c) (A x) (M x) (λ y. mle N X (c ++ x)) (λ y. mle N X (c ++ y))
        (lin_mul_l R m (E c) (A x) (shared_y sum l m k.shares x)) (lin_mul_l R m (E c) (M x) (shared_y product l m k.shares x))
        (lin_const R m (mle N X (c ++ x)) (reduce-mle R (c ++ x) X)) (lin_back R m X c)

    pub degs_x : (c : List K) → Degs R 4 m (λ x. sum_corners N m (λ y. summand R l m k X c x y))
    degs_x c =
        degs_sum_corners R 4 m m (λ x y. summand R l m k X c x y)
        (λ y.
        degs_summand m (λ x. E c) (λ x. A x y) (λ x. M x y) (λ x. mle N X (c ++ x)) (λ x. mle N X (c ++ y))
        (lin_mul_l R m (E c) (λ x. A x y) (shared_x sum l m k.shares y)) (lin_mul_l R m (E c) (λ x. M x y) (shared_x product l m k.shares y))
        (lin_back R m X c) (lin_const R m (mle N X (c ++ y)) (reduce-mle R (c ++ y) X)))

    pub degs_c : (b : ℕ) → length k.copy ≡ b → Degs R 4 b (λ c. sum_corners N m (λ x. sum_corners N m (λ y. summand R l m k X c x y)))
    degs_c b long =
        degs_sum_corners R 4 b m (λ c x. sum_corners N m (λ y. summand R l m k X c x y))
        (λ x. degs_sum_corners R 4 b m (λ c y. summand R l m k X c x y)
        (λ y.
        degs_summand b E (λ c. A x y) (λ c. M x y) (λ c. mle N X (c ++ x)) (λ c. mle N X (c ++ y))
        (lin_mul_r R b (A x y) E (lin_eq_poly R b k.copy long)) (lin_mul_r R b (M x y) E (lin_eq_poly R b k.copy long))
        (lin_front R b (mle N X) x (lin_mle R b X)) (lin_front R b (mle N X) y (lin_mle R b X))))
