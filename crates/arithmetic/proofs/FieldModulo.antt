-- The numbers modulo a whole p above 3 are a field in the sense of `Field`.
-- That p is whole gives both that nothing but 0 divides 0 and that neither 2 nor 3 divides p.
use Rattle.std.proofs.Common.{◌≡◌, ℕ, ◌+◌, ◌-◌, ◌*◌, ◌/◌, ◌%◌, ◌<◌, Bool, true, false, cond, T, eqb, ltb, ◌⊎◌, [], ◌∷◌, sym, refl, ap, ◌∙◌, subst, inl, inr, true≢false, mod-lt, mod-eq_of_lt, mul-zero, mul-div_cancel, arith, eqb→eq, ltb→lt, lt→ltb}
use native.Mathlib.Nat.{mod_self, add-mod_left}
use lib.Dec.{eqb_refl}
use Rattle.arithmetic.specs.Numbers.{modulo, Whole, inverse_modulo}
use Rattle.arithmetic.proofs.Ring.{Ring, sub_self, sub-zero_equal}
use Rattle.arithmetic.proofs.Solver.{var, ◌:*◌, ◌:-◌, solve}
use Rattle.arithmetic.proofs.Modulo.{ring_modulo, mul_mod_right}
use Rattle.arithmetic.proofs.Truth.{path_of_T, T_of_path}
use Rattle.arithmetic.proofs.Field.{Field}

module _ (p : ℕ) (w : Whole p) where
  abbrev R : Ring (modulo p)
  R = ring_modulo p w.0

  pub no_zero_divisors : (a b c : ℕ) → (a * c) % p ≡ (b * c) % p → (c % p ≡ 0) ⊎ (a % p ≡ b % p)
  no_zero_divisors a b c e = go (w.1 d (c % p) (mod-lt (a + (p - b % p)) (omega (arith, w.0))) (mod-lt c (omega (arith, w.0))) product)
    where
      d : ℕ
      d = (a + (p - b % p)) % p

      product : (d * (c % p)) % p ≡ 0
      product = mul_mod_right p d c ∙ solve R (a ∷ b ∷ c ∷ []) ((var 0 :- var 1) :* var 2) (var 0 :* var 2 :- var 1 :* var 2) refl ∙ sub_self R ((a * c) % p) ((b * c) % p) (ap (λ x. x % p) e)

      go : (d ≡ 0) ⊎ (c % p ≡ 0) → (c % p ≡ 0) ⊎ (a % p ≡ b % p)
      go (inl h) = inr (sub-zero_equal R a b h)
      go (inr h) = inl h

  module _ (large : 3 < p) where
    undivided : (m : ℕ) → 1 < m → m < p → (k : ℕ) → m * k ≡ p → k < p → ⊥
    undivided m h l k e b = go (w.1 m k l b (ap (λ x. x % p) e ∙ mod_self p))
      where
        go : (m ≡ 0) ⊎ (k ≡ 0) → ⊥
        go (inl x) = omega arith
        go (inr x) =
            let none : p ≡ 0 = sym e ∙ ap (◌*◌ m) x ∙ mul-zero m in
            omega arith

    odd : (p % 2 ≡ 0) → ⊥
    odd h = undivided 2 (omega arith) (omega arith) (p / 2) (omega arith) (omega arith)

    not_threefold : (p % 3 ≡ 0) → ⊥
    not_threefold h = undivided 3 (omega arith) (omega arith) (p / 3) (omega arith) (omega arith)

    pub half : (2 * inverse_modulo p 2) % p ≡ 1 % p
    half = ap (λ x. x % p) double ∙ add-mod_left p 1
      where
        double : 2 * ((p + 1) / 2) ≡ p + 1
        double = omega (arith, odd)

    pub third : (3 * inverse_modulo p 3) % p ≡ 1 % p
    third = go (eqb (p % 3) 1) refl
      where
        go : (b : Bool) → eqb (p % 3) 1 ≡ b → (3 * cond b ((2 * p + 1) / 3) ((p + 1) / 3)) % p ≡ 1 % p
        go true e =
            let one : p % 3 ≡ 1 = eqb→eq (p % 3) 1 (T_of_path (eqb (p % 3) 1) e) in
            let even : 2 * p + 1 ≡ (2 * (p / 3) + 1) * 3 = omega arith in
            let part : (2 * p + 1) / 3 ≡ 2 * (p / 3) + 1 = ap (λ x. x / 3) even ∙ mul-div_cancel (2 * (p / 3) + 1) (omega arith) in
            let triple : 3 * (2 * (p / 3) + 1) ≡ p + (p + 1) = omega arith in
            ap (λ x. (3 * x) % p) part ∙ ap (λ x. x % p) triple ∙ add-mod_left p (p + 1) ∙ add-mod_left p 1
        go false e =
            let other : p % 3 ≡ 1 → ⊥ = λ h. true≢false (sym (path_of_T (eqb (p % 3) 1) (subst (λ x. T (eqb x 1)) (sym h) tt)) ∙ e) in
            let triple : 3 * ((p + 1) / 3) ≡ p + 1 = omega (arith, not_threefold) in
            ap (λ x. x % p) triple ∙ add-mod_left p 1

abbrev pub field_modulo : (p : ℕ) → Whole p → 3 < p → Field (modulo p)
field_modulo p w large =
    record {
      ring = ring_modulo p w.0;
      whole = no_zero_divisors p w;
      equal_true = λ a b e. eqb→eq a b (T_of_path (eqb a b) e);
      equal_refl = λ a. path_of_T (eqb a a) (eqb_refl a);
      reduced_true = λ a e. mod-eq_of_lt (ltb→lt a p (T_of_path (ltb a p) e));
      reduced_refl = λ a e. path_of_T (ltb a p) (lt→ltb a p (subst (λ x. x < p) e (mod-lt a (omega (arith, w.0)))));
      inverse_one = refl;
      inverse_two = half p w large;
      inverse_three = third p w large;
      element_apart = λ i j h k e. e;
      element_reduced = λ i h. mod-eq_of_lt h;
      element_small = λ i h. refl;
      order_large = large;
    }
