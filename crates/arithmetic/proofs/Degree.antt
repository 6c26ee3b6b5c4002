-- Functions of degree below n, said without coefficients: a function of degree below n + 1 differs from its
-- value at r by x - r times a function of degree below n. Sums and products keep this, and division is at hand.
use Rattle.std.proofs.Common.{◌≡◌, ℕ, zero, suc, ◌+◌, [], ◌∷◌, sym, refl, ap, ◌∙◌, subst, ap₂, suc-add, zero-add as nat_zero_add, add-one}
use mathlib.Core.Path.{fun_ext}
use Rattle.arithmetic.specs.Numbers.{Numbers}
use Rattle.arithmetic.proofs.Ring.{Ring, zero-mul, reduce-reduce, reduce-add, reduce-mul, reduce-sub, sub-minus, minus}
use Rattle.arithmetic.proofs.Solver.{var, con, ◌:+◌, ◌:*◌, ◌:-◌, red, solve, solve_by, given}

module _ {K : Type 0} (N : Numbers K) where
  open N use {reduce, add, mul, nat}

  abbrev pub Deg : ℕ → (K → K) → Type 0
  Deg zero g = (x : K) → g x ≡ nat 0
  Deg (suc n) g = ((x : K) → reduce (g x) ≡ g x) × ((r : K) → (q : K → K) × Deg n q × ((x : K) → add (g x) (mul r (q x)) ≡ add (g r) (mul x (q x))))

module _ {K : Type 0} {N : Numbers K} (R : Ring N) where
  open N use {reduce, add, sub, mul, nat}
  open R use {mul_zero, reduce_zero, add_zero}

  pub deg_reduced : (n : ℕ) (g : K → K) → Deg N n g → (x : K) → reduce (g x) ≡ g x
  deg_reduced zero g d x = ap reduce (d x) ∙ reduce_zero ∙ sym (d x)
  deg_reduced (suc n) g d x = d.0 x

  pub deg_same : (n : ℕ) (g h : K → K) → ((x : K) → g x ≡ h x) → Deg N n g → Deg N n h
  deg_same n g h e d = subst (Deg N n) (fun_ext e) d

  pub deg_zero : (n : ℕ) (g : K → K) → ((x : K) → g x ≡ nat 0) → Deg N n g
  deg_zero zero g h = h
  deg_zero (suc n) g h = (
    λ x. ap reduce (h x) ∙ reduce_zero ∙ sym (h x),
    λ r. (λ x. nat 0, deg_zero n (λ x. nat 0) (λ x. refl), λ x. ap₂ add (h x ∙ sym (h r)) (mul_zero r ∙ sym (mul_zero x))),
  )

  pub deg_more : (n : ℕ) (g : K → K) → Deg N n g → Deg N (suc n) g
  deg_more zero g d = deg_zero 1 g d
  deg_more (suc n) g d = (d.0, λ r. ((d.1 r).0, deg_more n (d.1 r).0 (d.1 r).1, (d.1 r).2))

  pub deg_raise : (m n : ℕ) (g : K → K) → Deg N n g → Deg N (m + n) g
  deg_raise zero n g d = subst (λ k. Deg N k g) (sym (nat_zero_add n)) d
  deg_raise (suc m) n g d = subst (λ k. Deg N k g) (sym (suc-add m n)) (deg_more (m + n) g (deg_raise m n g d))

  pub deg_const : (k : K) → reduce k ≡ k → Deg N 1 (λ x. k)
  deg_const k h = (λ x. h, λ r. (λ x. nat 0, λ x. refl, λ x. ap (add k) (mul_zero r ∙ sym (mul_zero x))))

  pub deg_add : (n : ℕ) (g h : K → K) → Deg N n g → Deg N n h → Deg N n (λ x. add (g x) (h x))
  deg_add zero g h d e = λ x. ap₂ add (d x) (e x) ∙ add_zero (nat 0) ∙ reduce_zero
  deg_add (suc n) g h d e = (
    λ x. reduce-add R (g x) (h x),
    λ r. let q = (d.1 r).0 in
        let s = (e.1 r).0 in (
          λ x. add (q x) (s x),
          deg_add n q s (d.1 r).1 (e.1 r).1,
          λ x.
              solve_by R (g x ∷ h x ∷ g r ∷ h r ∷ q x ∷ s x ∷ r ∷ x ∷ [])
              (given (con 1) (var 0 :+ var 6 :* var 4) (var 2 :+ var 7 :* var 4) ∷ given (con 1) (var 1 :+ var 6 :* var 5) (var 3 :+ var 7 :* var 5) ∷ [])
              ((d.1 r).2 x, ((e.1 r).2 x, tt))
              ((var 0 :+ var 1) :+ var 6 :* (var 4 :+ var 5)) ((var 2 :+ var 3) :+ var 7 :* (var 4 :+ var 5)) refl,
        ),
  )

  pub deg_scale : (n : ℕ) (k : K) (g : K → K) → Deg N n g → Deg N n (λ x. mul k (g x))
  deg_scale zero k g d = λ x. ap (mul k) (d x) ∙ mul_zero k
  deg_scale (suc n) k g d = (
    λ x. reduce-mul R k (g x),
    λ r. let q = (d.1 r).0 in (
      λ x. mul k (q x),
      deg_scale n k q (d.1 r).1,
      λ x.
          solve_by R (g x ∷ g r ∷ q x ∷ r ∷ x ∷ k ∷ [])
          (given (var 5) (var 0 :+ var 3 :* var 2) (var 1 :+ var 4 :* var 2) ∷ []) ((d.1 r).2 x, tt)
          (var 5 :* var 0 :+ var 3 :* (var 5 :* var 2)) (var 5 :* var 1 :+ var 4 :* (var 5 :* var 2)) refl,
    ),
  )

  pub deg_sub : (n : ℕ) (g h : K → K) → Deg N n g → Deg N n h → Deg N n (λ x. sub (g x) (h x))
  deg_sub n g h d e =
      deg_same n (λ x. add (g x) (mul (minus R) (h x))) (λ x. sub (g x) (h x)) (λ x. sym (sub-minus R (g x) (h x)))
      (deg_add n g (λ x. mul (minus R) (h x)) d (deg_scale n (minus R) h e))

  pub deg_mul : (m n : ℕ) (g h : K → K) → Deg N m g → Deg N (suc n) h → Deg N (m + n) (λ x. mul (g x) (h x))
  deg_mul zero n g h d e = deg_zero (zero + n) (λ x. mul (g x) (h x)) (λ x. ap (λ z. mul z (h x)) (d x) ∙ zero-mul R (h x))
  deg_mul (suc m) n g h d e =
      subst (λ k. Deg N k (λ x. mul (g x) (h x))) (sym (suc-add m n)) (
        λ x. reduce-mul R (g x) (h x),
        λ r. let q = (d.1 r).0 in
            let s = (e.1 r).0 in (
              λ x. add (mul (q x) (h x)) (mul (g r) (s x)),
              deg_add (m + n) (λ x. mul (q x) (h x)) (λ x. mul (g r) (s x)) (deg_mul m n q h (d.1 r).1 e) (deg_raise m n (λ x. mul (g r) (s x)) (deg_scale n (g r) s (e.1 r).1)),
              λ x.
                  solve_by R (g x ∷ h x ∷ g r ∷ h r ∷ q x ∷ s x ∷ r ∷ x ∷ [])
                  (given (var 1) (var 0 :+ var 6 :* var 4) (var 2 :+ var 7 :* var 4) ∷ given (var 2) (var 1 :+ var 6 :* var 5) (var 3 :+ var 7 :* var 5) ∷ [])
                  ((d.1 r).2 x, ((e.1 r).2 x, tt))
                  (var 0 :* var 1 :+ var 6 :* (var 4 :* var 1 :+ var 2 :* var 5)) (var 2 :* var 3 :+ var 7 :* (var 4 :* var 1 :+ var 2 :* var 5)) refl,
            ),
      )

  -- a + k x, in the forms that it comes in
  pub deg_affine : (g : K → K) (k : K) → ((x : K) → reduce (g x) ≡ g x) → ((x r : K) → add (g x) (mul r k) ≡ add (g r) (mul x k)) → reduce k ≡ k → Deg N 2 g
  deg_affine g k h e f = (h, λ r. (λ x. k, deg_const k f, λ x. e x r))

  pub deg_line : (g : K → K) (a b : K) → ((x : K) → g x ≡ add (mul (sub (nat 1) x) a) (mul x b)) → Deg N 2 g
  deg_line g a b h =
      deg_same 2 (λ x. add (mul (sub (nat 1) x) a) (mul x b)) g (λ x. sym (h x))
      (deg_affine (λ x. add (mul (sub (nat 1) x) a) (mul x b)) (sub b a) (λ x. reduce-add R _ _)
      (λ x r. solve R (x ∷ r ∷ a ∷ b ∷ [])
      (((con 1 :- var 0) :* var 2 :+ var 0 :* var 3) :+ var 1 :* (var 3 :- var 2))
      (((con 1 :- var 1) :* var 2 :+ var 1 :* var 3) :+ var 0 :* (var 3 :- var 2)) refl)
      (reduce-sub R b a))

  pub deg_shift : (i k : K) → Deg N 2 (λ x. mul (sub x i) k)
  deg_shift i k =
      deg_affine (λ x. mul (sub x i) k) (reduce k) (λ x. reduce-mul R _ _)
      (λ x r. solve R (x ∷ r ∷ i ∷ k ∷ []) ((var 0 :- var 2) :* var 3 :+ var 1 :* red (var 3)) ((var 1 :- var 2) :* var 3 :+ var 0 :* red (var 3)) refl)
      (reduce-reduce R k)

  pub deg_variable : Deg N 2 (λ x. reduce x)
  deg_variable =
      deg_affine (λ x. reduce x) (reduce (nat 1)) (λ x. reduce-reduce R x)
      (λ x r. solve R (x ∷ r ∷ []) (red (var 0) :+ var 1 :* red (con 1)) (red (var 1) :+ var 0 :* red (con 1)) refl) (reduce-reduce R (nat 1))

  -- one factor more, one degree more
  pub deg_next : (n : ℕ) (i k a : K) (h : K → K) → reduce a ≡ a → Deg N n h → Deg N (suc n) (λ x. add a (mul (mul (sub x i) k) (h x)))
  deg_next n i k a h e d =
      subst (λ m. Deg N m (λ x. add a (mul (mul (sub x i) k) (h x)))) (add-one n)
      (deg_add (n + 1) (λ x. a) (λ x. mul (mul (sub x i) k) (h x)) (deg_raise n 1 (λ x. a) (deg_const a e))
      (deg_same (n + 1) (λ x. mul (h x) (mul (sub x i) k)) (λ x. mul (mul (sub x i) k) (h x)) (λ x. R.mul_comm (h x) (mul (sub x i) k))
      (deg_mul n 1 h (λ x. mul (sub x i) k) d (deg_shift i k))))

  pub deg_horner : (n : ℕ) (a : K) (h : K → K) → Deg N n h → Deg N (suc n) (λ x. add a (mul x (h x)))
  deg_horner n a h d =
      deg_same (suc n) (λ x. add (reduce a) (mul (mul (sub x (nat 0)) (nat 1)) (h x))) (λ x. add a (mul x (h x)))
      (λ x. solve R (a ∷ x ∷ h x ∷ []) (red (var 0) :+ (var 1 :- con 0) :* con 1 :* var 2) (var 0 :+ var 1 :* var 2) refl)
      (deg_next n (nat 0) (nat 1) (reduce a) h (reduce-reduce R a) d)
