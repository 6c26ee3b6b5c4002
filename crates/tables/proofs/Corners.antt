-- Sums over corners: of equal functions, of sums and of multiples, and over some variables after others.
-- Two functions need to be equal only on points of the right length, because the sum looks at no others.
use Rattle.std.proofs.Common.{◌≡◌, ℕ, zero, suc, ◌+◌, List, [], ◌∷◌, ◌++◌, length, sym, refl, ap, ◌∙◌, ap₂, suc-add, zero-add}
use Rattle.arithmetic.specs.Numbers.{Numbers}
use Rattle.arithmetic.proofs.Ring.{Ring, add_left_comm}
use Rattle.tables.specs.Multilinear.{sum_corners}

module _ {K : Type 0} {N : Numbers K} (R : Ring N) where
  open N use {add, mul, nat}
  open R use {add_assoc, distrib}

  pub sum_corners_eq : (n : ℕ) (G H : List K → K) → ((z : List K) → length z ≡ n → G z ≡ H z) → sum_corners N n G ≡ sum_corners N n H
  unfolding sum_corners
  sum_corners_eq zero G H e = e [] refl
  sum_corners_eq (suc n) G H e =
      ap₂ add
      (sum_corners_eq n (λ z. G (nat 0 ∷ z)) (λ z. H (nat 0 ∷ z)) (λ z l. e (nat 0 ∷ z) (ap suc l)))
      (sum_corners_eq n (λ z. G (nat 1 ∷ z)) (λ z. H (nat 1 ∷ z)) (λ z l. e (nat 1 ∷ z) (ap suc l)))

  pub sum_corners_same : (n : ℕ) (G H : List K → K) → ((z : List K) → G z ≡ H z) → sum_corners N n G ≡ sum_corners N n H
  sum_corners_same n G H e = sum_corners_eq n G H (λ z l. e z)

  pub sum_corners-add : (n : ℕ) (G H : List K → K) → sum_corners N n (λ z. add (G z) (H z)) ≡ add (sum_corners N n G) (sum_corners N n H)
  unfolding sum_corners
  sum_corners-add zero G H = refl
  sum_corners-add (suc n) G H =
      ap₂ add (sum_corners-add n (λ z. G (nat 0 ∷ z)) (λ z. H (nat 0 ∷ z))) (sum_corners-add n (λ z. G (nat 1 ∷ z)) (λ z. H (nat 1 ∷ z)))
      ∙ exchange _ _ _ _
    where
      exchange : (a b c d : K) → add (add a b) (add c d) ≡ add (add a c) (add b d)
      exchange a b c d = simp (add_assoc, add_left_comm R)

  pub sum_corners_scale : (n : ℕ) (k : K) (G : List K → K) → sum_corners N n (λ z. mul k (G z)) ≡ mul k (sum_corners N n G)
  unfolding sum_corners
  sum_corners_scale zero k G = refl
  sum_corners_scale (suc n) k G =
      ap₂ add (sum_corners_scale n k (λ z. G (nat 0 ∷ z))) (sum_corners_scale n k (λ z. G (nat 1 ∷ z))) ∙ sym (distrib k _ _)

  pub sum_corners_split : (m n : ℕ) (G : List K → K) → sum_corners N (m + n) G ≡ sum_corners N m (λ x. sum_corners N n (λ y. G (x ++ y)))
  unfolding sum_corners
  sum_corners_split zero n G = ap (λ k. sum_corners N k G) (zero-add n)
  sum_corners_split (suc m) n G =
      ap (λ k. sum_corners N k G) (suc-add m n)
      ∙ ap₂ add (sum_corners_split m n (λ z. G (nat 0 ∷ z))) (sum_corners_split m n (λ z. G (nat 1 ∷ z)))
