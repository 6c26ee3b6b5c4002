-- Functions of degree at most 1 in each of n variables: what is one of them, and the sum over corners that gives its value anywhere.
-- Along each variable such a function is a line between its values at 0 and at 1, whatever the other coordinates are.
use Rattle.std.proofs.Common.{◌≡◌, ℕ, zero, suc, ◌+◌, List, [], ◌∷◌, ◌++◌, length, sym, refl, ap, ◌∙◌, subst, ap₂, suc-add, zero-add, suc-ne-zero}
use native.Mathlib.Nat.{suc_inj}
use Rattle.arithmetic.specs.Numbers.{Numbers}
use Rattle.arithmetic.proofs.Ring.{Ring, one-mul}
use Rattle.arithmetic.proofs.Solver.{var, con, ◌:+◌, ◌:*◌, ◌:-◌, red, solve}
use Rattle.tables.specs.Multilinear.{eq_poly, mle, fix_first, sum_corners}
use Rattle.tables.proofs.Corners.{sum_corners_same, sum_corners_scale}
use Rattle.tables.proofs.Extension.{mle_first}

module _ {K : Type 0} {N : Numbers K} (R : Ring N) where
  open N use {reduce, add, sub, mul, nat}

  abbrev pub Lin : ℕ → (List K → K) → Type 0
  Lin zero V = Unit {0}
  Lin (suc n) V = ((r : K) (z : List K) → V (r ∷ z) ≡ add (mul (sub (nat 1) r) (V (nat 0 ∷ z))) (mul r (V (nat 1 ∷ z)))) × ((r : K) → Lin n (λ z. V (r ∷ z)))

  pub lin_same : (n : ℕ) (V W : List K → K) → ((z : List K) → V z ≡ W z) → Lin n V → Lin n W
  lin_same zero V W e h = tt
  lin_same (suc n) V W e h = (
    λ r z. sym (e (r ∷ z)) ∙ h.0 r z ∙ ap₂ (λ a b. add (mul (sub (nat 1) r) a) (mul r b)) (e (nat 0 ∷ z)) (e (nat 1 ∷ z)),
    λ r. lin_same n (λ z. V (r ∷ z)) (λ z. W (r ∷ z)) (λ z. e (r ∷ z)) (h.1 r),
  )

  pub lin_const : (n : ℕ) (a : K) → reduce a ≡ a → Lin n (λ z. a)
  lin_const zero a e = tt
  lin_const (suc n) a e =
      (λ r z. sym e ∙ solve R (r ∷ a ∷ []) (var 1) ((con 1 :- var 0) :* var 1 :+ var 0 :* var 1) refl, λ r. lin_const n a e)

  pub lin_add : (n : ℕ) (V W : List K → K) → Lin n V → Lin n W → Lin n (λ z. add (V z) (W z))
  lin_add zero V W h k = tt
  lin_add (suc n) V W h k = (
    λ r z. ap₂ add (h.0 r z) (k.0 r z)
        ∙ solve R (r ∷ V (nat 0 ∷ z) ∷ V (nat 1 ∷ z) ∷ W (nat 0 ∷ z) ∷ W (nat 1 ∷ z) ∷ [])
        (((con 1 :- var 0) :* var 1 :+ var 0 :* var 2) :+ ((con 1 :- var 0) :* var 3 :+ var 0 :* var 4))
        ((con 1 :- var 0) :* (var 1 :+ var 3) :+ var 0 :* (var 2 :+ var 4)) refl,
    λ r. lin_add n (λ z. V (r ∷ z)) (λ z. W (r ∷ z)) (h.1 r) (k.1 r),
  )

  pub lin_add_l : (n : ℕ) (a : K) (V : List K → K) → Lin n V → Lin n (λ z. add a (V z))
  lin_add_l zero a V h = tt
  lin_add_l (suc n) a V h = (
    λ r z. ap (add a) (h.0 r z)
        ∙ solve R (r ∷ a ∷ V (nat 0 ∷ z) ∷ V (nat 1 ∷ z) ∷ [])
        (var 1 :+ ((con 1 :- var 0) :* var 2 :+ var 0 :* var 3))
        ((con 1 :- var 0) :* (var 1 :+ var 2) :+ var 0 :* (var 1 :+ var 3)) refl,
    λ r. lin_add_l n a (λ z. V (r ∷ z)) (h.1 r),
  )

  pub lin_add_r : (n : ℕ) (a : K) (V : List K → K) → Lin n V → Lin n (λ z. add (V z) a)
  lin_add_r n a V h = lin_same n (λ z. add a (V z)) (λ z. add (V z) a) (λ z. R.add_comm a (V z)) (lin_add_l n a V h)

  pub lin_mul_l : (n : ℕ) (a : K) (V : List K → K) → Lin n V → Lin n (λ z. mul a (V z))
  lin_mul_l zero a V h = tt
  lin_mul_l (suc n) a V h = (
    λ r z. ap (mul a) (h.0 r z)
        ∙ solve R (r ∷ a ∷ V (nat 0 ∷ z) ∷ V (nat 1 ∷ z) ∷ [])
        (var 1 :* ((con 1 :- var 0) :* var 2 :+ var 0 :* var 3))
        ((con 1 :- var 0) :* (var 1 :* var 2) :+ var 0 :* (var 1 :* var 3)) refl,
    λ r. lin_mul_l n a (λ z. V (r ∷ z)) (h.1 r),
  )

  pub lin_mul_r : (n : ℕ) (a : K) (V : List K → K) → Lin n V → Lin n (λ z. mul (V z) a)
  lin_mul_r n a V h = lin_same n (λ z. mul a (V z)) (λ z. mul (V z) a) (λ z. R.mul_comm a (V z)) (lin_mul_l n a V h)

  -- in the last variables, with the first ones given
  pub lin_after : (m n : ℕ) (V : List K → K) (d : List K) → length d ≡ m → Lin (m + n) V → Lin n (λ x. V (d ++ x))
  lin_after zero n V [] e h = subst (λ k. Lin k V) (zero-add n) h
  lin_after zero n V (r ∷ d) e h = absurd (suc-ne-zero _ e)
  lin_after (suc m) n V [] e h = absurd (suc-ne-zero _ (sym e))
  lin_after (suc m) n V (r ∷ d) e h = lin_after m n (λ z. V (r ∷ z)) d (suc_inj e) ((subst (λ k. Lin k V) (suc-add m n) h).1 r)

  -- in the first variables, with the last ones given
  pub lin_front : (n : ℕ) (V : List K → K) (x : List K) → Lin n V → Lin n (λ d. V (d ++ x))
  lin_front zero V x h = tt
  lin_front (suc n) V x h = (λ r z. h.0 r (z ++ x), λ r. lin_front n (λ z. V (r ∷ z)) x (h.1 r))

  -- past the length of q it is the constant 1, of which no law says that it is reduced
  pub lin_eq_poly : (n : ℕ) (q : List K) → length q ≡ n → Lin n (eq_poly N q)
  unfolding eq_poly
  lin_eq_poly zero q e = tt
  lin_eq_poly (suc n) [] e = absurd (suc-ne-zero _ (sym e))
  lin_eq_poly (suc n) (c ∷ q) e = (
    λ r z. solve R (c ∷ r ∷ eq_poly N q z ∷ [])
        ((var 0 :* var 1 :+ (con 1 :- var 0) :* (con 1 :- var 1)) :* var 2)
        ((con 1 :- var 1) :* ((var 0 :* con 0 :+ (con 1 :- var 0) :* (con 1 :- con 0)) :* var 2)
        :+ var 1 :* ((var 0 :* con 1 :+ (con 1 :- var 0) :* (con 1 :- con 1)) :* var 2)) refl,
    λ r. lin_mul_l n _ (eq_poly N q) (lin_eq_poly n q (suc_inj e)),
  )

  pub lin_mle : (n : ℕ) (xs : List K) → Lin n (mle N xs)
  unfolding mle
  lin_mle zero xs = tt
  lin_mle (suc n) xs = (λ r z. mle_first R r z xs, λ r. lin_mle n (fix_first N r xs))

  -- the extension in its last variables, with the first ones given
  pub lin_back : (n : ℕ) (xs d : List K) → Lin n (λ x. mle N xs (d ++ x))
  unfolding mle
  lin_back n xs [] = lin_mle n xs
  lin_back n xs (r ∷ d) = lin_back n (fix_first N r xs) d

  -- eq at q, summed against a function over the corners, gives the function's value at q, be q a corner or not
  pub picked : (n : ℕ) (V : List K → K) → Lin n V → (q : List K) → length q ≡ n → sum_corners N n (λ x. mul (eq_poly N q x) (V x)) ≡ reduce (V q)
  unfolding eq_poly sum_corners
  picked zero V h [] e = one-mul R (V [])
  picked zero V h (r ∷ q) e = absurd (suc-ne-zero _ e)
  picked (suc n) V h [] e = absurd (suc-ne-zero _ (sym e))
  picked (suc n) V h (r ∷ q) e =
      ap₂ add (side (nat 0) (picked n (λ z. V (nat 0 ∷ z)) (h.1 (nat 0)) q (suc_inj e))) (side (nat 1) (picked n (λ z. V (nat 1 ∷ z)) (h.1 (nat 1)) q (suc_inj e)))
      ∙ solve R (r ∷ V (nat 0 ∷ q) ∷ V (nat 1 ∷ q) ∷ [])
      ((var 0 :* con 0 :+ (con 1 :- var 0) :* (con 1 :- con 0)) :* red (var 1) :+ (var 0 :* con 1 :+ (con 1 :- var 0) :* (con 1 :- con 1)) :* red (var 2))
      (red ((con 1 :- var 0) :* var 1 :+ var 0 :* var 2)) refl
      ∙ ap reduce (sym (h.0 r q))
    where
      weight : K → K
      weight c = add (mul r c) (mul (sub (nat 1) r) (sub (nat 1) c))

      side : (c : K) → sum_corners N n (λ x. mul (eq_poly N q x) (V (c ∷ x))) ≡ reduce (V (c ∷ q)) →
          sum_corners N n (λ x. mul (mul (weight c) (eq_poly N q x)) (V (c ∷ x))) ≡ mul (weight c) (reduce (V (c ∷ q)))
      side c s =
          sum_corners_same R n _ (λ x. mul (weight c) (mul (eq_poly N q x) (V (c ∷ x)))) (λ x. R.mul_assoc _ _ _)
          ∙ sum_corners_scale R n (weight c) (λ x. mul (eq_poly N q x) (V (c ∷ x)))
          ∙ ap (mul (weight c)) s
