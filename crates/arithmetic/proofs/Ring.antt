-- The laws of a commutative ring for a system of numbers in which several terms stand for one number.
-- Each law holds with no condition on its terms, because what an operation returns is reduced already.
use Rattle.std.proofs.Common.{◌≡◌, ℕ, ◌+◌, ◌*◌, sym, ap, ◌∙◌}
use Rattle.arithmetic.specs.Numbers.{Numbers}

pub record Ring {K : Type 0} (N : Numbers K) : Type 0 where
  pub add_comm : (a b : K) → N.add a b ≡ N.add b a
  pub add_assoc : (a b c : K) → N.add (N.add a b) c ≡ N.add a (N.add b c)
  pub add_reduce : (a b : K) → N.add (N.reduce a) b ≡ N.add a b
  pub add_zero : (a : K) → N.add a (N.nat 0) ≡ N.reduce a
  pub mul_comm : (a b : K) → N.mul a b ≡ N.mul b a
  pub mul_assoc : (a b c : K) → N.mul (N.mul a b) c ≡ N.mul a (N.mul b c)
  pub mul_reduce : (a b : K) → N.mul (N.reduce a) b ≡ N.mul a b
  pub mul_one : (a : K) → N.mul a (N.nat 1) ≡ N.reduce a
  pub mul_zero : (a : K) → N.mul a (N.nat 0) ≡ N.nat 0
  pub distrib : (a b c : K) → N.mul a (N.add b c) ≡ N.add (N.mul a b) (N.mul a c)
  pub neg : K → K
  pub sub_neg : (a b : K) → N.sub a b ≡ N.add a (neg b)
  pub add_neg : (a : K) → N.add a (neg a) ≡ N.nat 0
  pub reduce_zero : N.reduce (N.nat 0) ≡ N.nat 0
  pub nat_add : (m n : ℕ) → N.reduce (N.nat (m + n)) ≡ N.add (N.nat m) (N.nat n)
  pub nat_mul : (m n : ℕ) → N.reduce (N.nat (m * n)) ≡ N.mul (N.nat m) (N.nat n)

module _ {K : Type 0} {N : Numbers K} (R : Ring N) where
  open N use {reduce, add, sub, mul, nat}
  open R use {add_comm, add_assoc, add_reduce, add_zero, mul_comm, mul_assoc, mul_reduce, mul_one, mul_zero, distrib, neg, sub_neg, add_neg, reduce_zero, nat_add, nat_mul}

  pub add_left_comm : (a b c : K) → add a (add b c) ≡ add b (add a c)
  add_left_comm a b c = sym (add_assoc a b c) ∙ ap (λ x. add x c) (add_comm a b) ∙ add_assoc b a c

  pub mul_left_comm : (a b c : K) → mul a (mul b c) ≡ mul b (mul a c)
  mul_left_comm a b c = sym (mul_assoc a b c) ∙ ap (λ x. mul x c) (mul_comm a b) ∙ mul_assoc b a c

  pub add-reduce_right : (a b : K) → add a (reduce b) ≡ add a b
  add-reduce_right a b = add_comm a (reduce b) ∙ add_reduce b a ∙ add_comm b a

  pub mul-reduce_right : (a b : K) → mul a (reduce b) ≡ mul a b
  mul-reduce_right a b = mul_comm a (reduce b) ∙ mul_reduce b a ∙ mul_comm b a

  pub zero-add : (a : K) → add (nat 0) a ≡ reduce a
  zero-add a = add_comm (nat 0) a ∙ add_zero a

  pub zero-mul : (a : K) → mul (nat 0) a ≡ nat 0
  zero-mul a = mul_comm (nat 0) a ∙ mul_zero a

  pub one-mul : (a : K) → mul (nat 1) a ≡ reduce a
  one-mul a = mul_comm (nat 1) a ∙ mul_one a

  pub distrib_right : (a b c : K) → mul (add a b) c ≡ add (mul a c) (mul b c)
  distrib_right a b c = mul_comm (add a b) c ∙ distrib c a b ∙ λ i. add (mul_comm c a i) (mul_comm c b i)

  -- what an operation returns is reduced
  pub reduce-reduce : (a : K) → reduce (reduce a) ≡ reduce a
  reduce-reduce a = sym (add_zero (reduce a)) ∙ add_reduce a (nat 0) ∙ add_zero a

  pub reduce-add : (a b : K) → reduce (add a b) ≡ add a b
  reduce-add a b = sym (add_zero (add a b)) ∙ add_assoc a b (nat 0) ∙ ap (add a) (add_zero b) ∙ add-reduce_right a b

  pub reduce-mul : (a b : K) → reduce (mul a b) ≡ mul a b
  reduce-mul a b = sym (mul_one (mul a b)) ∙ mul_assoc a b (nat 1) ∙ ap (mul a) (mul_one b) ∙ mul-reduce_right a b

  pub reduce-sub : (a b : K) → reduce (sub a b) ≡ sub a b
  reduce-sub a b = ap reduce (sub_neg a b) ∙ reduce-add a (neg b) ∙ sym (sub_neg a b)

  pub cancel : (a b c : K) → add a c ≡ add b c → reduce a ≡ reduce b
  cancel a b c e = sym (back a) ∙ ap (λ x. add x (neg c)) e ∙ back b
    where
      back : (x : K) → add (add x c) (neg c) ≡ reduce x
      back x = add_assoc x c (neg c) ∙ ap (add x) (add_neg c) ∙ add_zero x

  -- a difference is a sum with a multiple of this
  abbrev pub minus : K
  minus = neg (nat 1)

  pub add-minus : (b : K) → add b (mul minus b) ≡ nat 0
  add-minus b =
      sym (add_reduce b (mul minus b)) ∙ ap (λ x. add x (mul minus b)) (sym (one-mul b)) ∙ sym (distrib_right (nat 1) minus b)
      ∙ ap (λ x. mul x b) (add_neg (nat 1)) ∙ zero-mul b

  pub sub-minus : (a b : K) → sub a b ≡ add a (mul minus b)
  sub-minus a b =
      sub_neg a b ∙ sym (add-reduce_right a (neg b)) ∙ ap (add a) opposite ∙ add-reduce_right a (mul minus b)
    where
      opposite : reduce (neg b) ≡ reduce (mul minus b)
      opposite = cancel (neg b) (mul minus b) b (add_comm (neg b) b ∙ add_neg b ∙ sym (add-minus b) ∙ add_comm b (mul minus b))

  pub minus_minus : (a : K) → mul minus (mul minus a) ≡ reduce a
  minus_minus a =
      sym (reduce-mul minus (mul minus a))
      ∙ cancel (mul minus (mul minus a)) a (mul minus a) (add_comm _ _ ∙ add-minus (mul minus a) ∙ sym (add-minus a))

  pub sub_self : (a b : K) → reduce a ≡ reduce b → sub a b ≡ nat 0
  sub_self a b e = sub-minus a b ∙ sym (add_reduce a _) ∙ ap (λ x. add x (mul minus b)) e ∙ add_reduce b _ ∙ add-minus b

  pub sub-zero_equal : (a b : K) → sub a b ≡ nat 0 → reduce a ≡ reduce b
  sub-zero_equal a b e = cancel a b (mul minus b) (sym (sub-minus a b) ∙ e ∙ sym (add-minus b))
