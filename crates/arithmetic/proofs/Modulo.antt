-- The numbers modulo p are a ring, for every p above 1.
-- A product or a sum may be reduced at any point on the way, which is all that the laws need.
use Rattle.std.proofs.Common.{◌≡◌, ℕ, ◌+◌, ◌-◌, ◌*◌, ◌/◌, ◌%◌, ◌<◌, ◌≤◌, sym, refl, ap, ◌∙◌, add-zero, le_of_lt, add_assoc, mod-lt, mul_assoc, mul_comm, add-mul, add-sub_of_le, add_comm, mul-zero, mul-one, mul-add, arith}
use native.Mathlib.Nat.{zero-mod, mod_self, mod-add-mod, add-mod-mod, mod-add-div, add-mul-mod_self_left}
use Rattle.arithmetic.specs.Numbers.{modulo}
use Rattle.arithmetic.proofs.Ring.{Ring}

module _ (p : ℕ) where
  pub mul_mod_left : (a b : ℕ) → (a % p * b) % p ≡ (a * b) % p
  mul_mod_left a b = sym (ap (λ x. (x * b) % p) (sym (mod-add-div a p)) ∙ ap (λ x. x % p) (add-mul (a % p) (p * (a / p)) b ∙ ap (◌+◌ (a % p * b)) (mul_assoc p (a / p) b)) ∙ add-mul-mod_self_left (a % p * b) p (a / p * b))

  pub mul_mod_right : (a b : ℕ) → (a * (b % p)) % p ≡ (a * b) % p
  mul_mod_right a b = ap (λ x. x % p) (mul_comm a (b % p)) ∙ mul_mod_left b a ∙ ap (λ x. x % p) (mul_comm b a)

  pub assoc_add : (a b c : ℕ) → ((a + b) % p + c) % p ≡ (a + (b + c) % p) % p
  assoc_add a b c = mod-add-mod (a + b) p c ∙ ap (λ x. x % p) (add_assoc a b c) ∙ sym (add-mod-mod a (b + c) p)

  pub assoc_mul : (a b c : ℕ) → ((a * b) % p * c) % p ≡ (a * ((b * c) % p)) % p
  assoc_mul a b c = mul_mod_left (a * b) c ∙ ap (λ x. x % p) (mul_assoc a b c) ∙ sym (mul_mod_right a (b * c))

  pub distribute : (a b c : ℕ) → (a * ((b + c) % p)) % p ≡ ((a * b) % p + (a * c) % p) % p
  distribute a b c =
      mul_mod_right a (b + c) ∙ ap (λ x. x % p) (mul-add a b c) ∙ sym (mod-add-mod (a * b) p (a * c)) ∙ sym (add-mod-mod ((a * b) % p) (a * c) p)

  pub opposite : 1 < p → (a : ℕ) → (a + (p - a % p)) % p ≡ 0
  opposite h a =
      let below : a % p ≤ p = le_of_lt (mod-lt a (omega arith)) in
      sym (mod-add-mod a p (p - a % p)) ∙ ap (λ x. x % p) (add-sub_of_le below) ∙ mod_self p

abbrev pub ring_modulo : (p : ℕ) → 1 < p → Ring (modulo p)
ring_modulo p h =
    record {
      add_comm = λ a b. ap (λ x. x % p) (add_comm a b);
      add_assoc = assoc_add p;
      add_reduce = λ a b. mod-add-mod a p b;
      add_zero = λ a. ap (λ x. x % p) (add-zero a);
      mul_comm = λ a b. ap (λ x. x % p) (mul_comm a b);
      mul_assoc = assoc_mul p;
      mul_reduce = mul_mod_left p;
      mul_one = λ a. ap (λ x. x % p) (mul-one a);
      mul_zero = λ a. ap (λ x. x % p) (mul-zero a) ∙ zero-mod p;
      distrib = distribute p;
      neg = λ a. p - a % p;
      sub_neg = λ a b. refl;
      add_neg = opposite p h;
      reduce_zero = zero-mod p;
      nat_add = λ m n. refl;
      nat_mul = λ m n. refl;
    }
