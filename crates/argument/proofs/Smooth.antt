-- Functions of degree below d in each of n variables, and sums of them over the corners of other variables.
-- What a round of a sumcheck asks for is such a sum, so its answer is a cubic: `Smooth` says so round by round.
use Rattle.std.proofs.Common.{◌≡◌, ℕ, zero, suc, List, [], ◌∷◌}
use Rattle.arithmetic.specs.Numbers.{Numbers}
use Rattle.arithmetic.proofs.Ring.{Ring}
use Rattle.arithmetic.proofs.Degree.{Deg, deg_add, deg_same}
use Rattle.tables.specs.Multilinear.{sum_corners}

module _ {K : Type 0} {N : Numbers K} (R : Ring N) where
  open N use {add, nat}

  abbrev pub Degs : ℕ → ℕ → (List K → K) → Type 0
  Degs d zero G = Unit {0}
  Degs d (suc n) G = ((z : List K) → Deg N d (λ t. G (t ∷ z))) × ((t : K) → Degs d n (λ z. G (t ∷ z)))

  pub degs_same : (d n : ℕ) (G H : List K → K) → ((z : List K) → G z ≡ H z) → Degs d n G → Degs d n H
  degs_same d zero G H e p = tt
  degs_same d (suc n) G H e p = (
    λ z. deg_same R d (λ t. G (t ∷ z)) (λ t. H (t ∷ z)) (λ t. e (t ∷ z)) (p.0 z),
    λ t. degs_same d n (λ z. G (t ∷ z)) (λ z. H (t ∷ z)) (λ z. e (t ∷ z)) (p.1 t),
  )

  pub degs_add : (d n : ℕ) (G H : List K → K) → Degs d n G → Degs d n H → Degs d n (λ z. add (G z) (H z))
  degs_add d zero G H p q = tt
  degs_add d (suc n) G H p q = (
    λ z. deg_add R d (λ t. G (t ∷ z)) (λ t. H (t ∷ z)) (p.0 z) (q.0 z),
    λ t. degs_add d n (λ z. G (t ∷ z)) (λ z. H (t ∷ z)) (p.1 t) (q.1 t),
  )

  -- ---- summed over other variables
  pub deg_sum_corners : (d m : ℕ) (H : K → List K → K) → ((z : List K) → Deg N d (λ t. H t z)) → Deg N d (λ t. sum_corners N m (H t))
  unfolding sum_corners
  deg_sum_corners d zero H p = p []
  deg_sum_corners d (suc m) H p =
      deg_add R d (λ t. sum_corners N m (λ z. H t (nat 0 ∷ z))) (λ t. sum_corners N m (λ z. H t (nat 1 ∷ z)))
      (deg_sum_corners d m (λ t z. H t (nat 0 ∷ z)) (λ z. p (nat 0 ∷ z))) (deg_sum_corners d m (λ t z. H t (nat 1 ∷ z)) (λ z. p (nat 1 ∷ z)))

  pub degs_sum_corners : (d n m : ℕ) (H : List K → List K → K) → ((y : List K) → Degs d n (λ x. H x y)) → Degs d n (λ x. sum_corners N m (H x))
  unfolding sum_corners
  degs_sum_corners d n zero H p = p []
  degs_sum_corners d n (suc m) H p =
      degs_add d n (λ x. sum_corners N m (λ y. H x (nat 0 ∷ y))) (λ x. sum_corners N m (λ y. H x (nat 1 ∷ y)))
      (degs_sum_corners d n m (λ x y. H x (nat 0 ∷ y)) (λ y. p (nat 0 ∷ y))) (degs_sum_corners d n m (λ x y. H x (nat 1 ∷ y)) (λ y. p (nat 1 ∷ y)))

  -- ---- round by round
  abbrev pub Smooth : ℕ → (List K → K) → Type 0
  Smooth zero G = Unit {0}
  Smooth (suc n) G = Deg N 4 (λ t. sum_corners N n (λ z. G (t ∷ z))) × ((t : K) → Smooth n (λ z. G (t ∷ z)))

  pub smooth : (n : ℕ) (G : List K → K) → Degs 4 n G → Smooth n G
  smooth zero G p = tt
  smooth (suc n) G p = (deg_sum_corners 4 n (λ t z. G (t ∷ z)) p.0, λ t. smooth n (λ z. G (t ∷ z)) (p.1 t))
