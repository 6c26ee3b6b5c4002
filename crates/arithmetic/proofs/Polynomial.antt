-- Polynomials as sorted lists of terms, and what they stand for in a ring: the normal form of the solver.
-- All that computes is an abbreviation, so that two normal forms compare by computing; that they are sorted is never needed.
use Rattle.std.proofs.Common.{◌≡◌, ℕ, zero, suc, ◌+◌, ◌-◌, ◌*◌, min, T, List, [], ◌∷◌, get_or, sym, refl, ap, ◌∙◌, subst, ap₂, arith, eqb→eq}
use Prim.Native.Nat.{compare, Ordering}
use lib.Dec.{compare_is_eq}
use Rattle.arithmetic.specs.Numbers.{Numbers}
use Rattle.arithmetic.proofs.Ring.{Ring, add_left_comm, mul_left_comm, add-reduce_right, mul-reduce_right, zero-add, zero-mul, one-mul, distrib_right, reduce-add, reduce-mul, minus, add-minus, minus_minus}

-- x - y times a product of variables, given by their numbers in order
pub data Term : Type 0 where
  term : ℕ → ℕ → List ℕ → Term

abbrev pub and_then : Ordering → Ordering → Ordering
and_then Ordering.lt o = Ordering.lt
and_then Ordering.eq o = o
and_then Ordering.gt o = Ordering.gt

-- more of an earlier variable comes first: an order that multiplying keeps
abbrev pub order : List ℕ → List ℕ → Ordering
order [] [] = Ordering.eq
order [] (j ∷ n) = Ordering.gt
order (i ∷ m) [] = Ordering.lt
order (i ∷ m) (j ∷ n) = let o = order m n in and_then (compare i j) o

abbrev pub pick {ℓ} : {A : Type ℓ} → Ordering → A → A → A → A
pick Ordering.lt a b c = a
pick Ordering.eq a b c = b
pick Ordering.gt a b c = c

-- x - y times m, before the terms ts; nothing where x is y
abbrev pub build : ℕ → ℕ → List ℕ → List Term → List Term
build zero zero m ts = ts
build zero (suc y) m ts = term zero (suc y) m ∷ ts
build (suc x) y m ts = term (suc x) y m ∷ ts

abbrev pub combine : ℕ → ℕ → List ℕ → List Term → List Term
combine x y m ts = build (x - y) (y - x) m ts

abbrev pub merge_into : ℕ → ℕ → List ℕ → List Term → (List Term → List Term) → List Term → List Term
merge_into x y m p rest [] = term x y m ∷ p
merge_into x y m p rest (term u v n ∷ q) =
    let first = term x y m ∷ rest (term u v n ∷ q) in
    let both = combine (x + u) (y + v) m (rest q) in
    let later = term u v n ∷ merge_into x y m p rest q in
    pick (order m n) first both later

abbrev pub merge : List Term → List Term → List Term
merge [] q = q
merge (term x y m ∷ p) q = merge_into x y m p (merge p) q

abbrev pub insert : ℕ → List ℕ → List ℕ
insert i [] = i ∷ []
insert i (j ∷ n) =
    let later = j ∷ insert i n in
    pick (compare i j) (i ∷ j ∷ n) (i ∷ j ∷ n) later

abbrev pub join : List ℕ → List ℕ → List ℕ
join [] n = n
join (i ∷ m) n = insert i (join m n)

abbrev pub scale : ℕ → ℕ → List ℕ → List Term → List Term
scale x y m [] = []
scale x y m (term u v n ∷ q) = combine (x * u + y * v) (x * v + y * u) (join m n) (scale x y m q)

abbrev pub times : List Term → List Term → List Term
times [] q = []
times (term x y m ∷ p) q = merge (scale x y m q) (times p q)

same_order : (m n : List ℕ) → T (compare_is_eq (order m n)) → m ≡ n
same_order [] [] t = refl
same_order [] (j ∷ n) t = absurd t
same_order (i ∷ m) [] t = absurd t
same_order (i ∷ m) (j ∷ n) t = go (compare i j) refl (same_order m n) t
  where
    go : (o : Ordering) → compare i j ≡ o → (T (compare_is_eq (order m n)) → m ≡ n) → T (compare_is_eq (and_then o (order m n))) → i ∷ m ≡ j ∷ n
    go Ordering.lt e h u = absurd u
    go Ordering.eq e h u = ap₂ {C = List ℕ} ◌∷◌ (eqb→eq i j (subst (λ o. T (compare_is_eq o)) (sym e) tt)) (h u)
    go Ordering.gt e h u = absurd u

module _ {K : Type 0} {N : Numbers K} (R : Ring N) (env : List K) where
  open N use {reduce, add, sub, mul, nat}
  open R use {add_comm, add_assoc, add_reduce, add_zero, mul_comm, mul_assoc, mul_reduce, mul_one, mul_zero, distrib, reduce_zero, nat_add, nat_mul}

  abbrev pub coefficient : ℕ → ℕ → K
  coefficient x y = add (nat x) (mul (minus R) (nat y))

  abbrev pub monomial : List ℕ → K
  monomial [] = nat 1
  monomial (i ∷ m) = mul (get_or env i (nat 0)) (monomial m)

  abbrev pub polynomial : List Term → K
  polynomial [] = nat 0
  polynomial (term x y m ∷ p) = add (mul (coefficient x y) (monomial m)) (polynomial p)

  pub reduce-polynomial : (p : List Term) → reduce (polynomial p) ≡ polynomial p
  reduce-polynomial [] = reduce_zero
  reduce-polynomial (term x y m ∷ p) = reduce-add R _ _

  -- coefficients
  coefficient-zero : coefficient 0 0 ≡ nat 0
  coefficient-zero = ap (add (nat 0)) (mul_zero (minus R)) ∙ add_zero (nat 0) ∙ reduce_zero

  coefficient-add : (x y u v : ℕ) → coefficient (x + u) (y + v) ≡ add (coefficient x y) (coefficient u v)
  coefficient-add x y u v =
      sym (add_reduce (nat (x + u)) _) ∙ ap (λ z. add z (mul (minus R) (nat (y + v)))) (nat_add x u)
      ∙ ap (add (add (nat x) (nat u))) (sym (mul-reduce_right R (minus R) (nat (y + v))) ∙ ap (mul (minus R)) (nat_add y v) ∙ distrib (minus R) (nat y) (nat v))
      ∙ simp (add_comm, add_assoc)

  nat_products : (x u y v : ℕ) → reduce (nat (x * u + y * v)) ≡ add (mul (nat x) (nat u)) (mul (nat y) (nat v))
  nat_products x u y v =
      nat_add (x * u) (y * v) ∙ sym (add_reduce _ _) ∙ sym (add-reduce_right R _ _) ∙ ap₂ add (nat_mul x u) (nat_mul y v)

  coefficient-mul : (x y u v : ℕ) → coefficient (x * u + y * v) (x * v + y * u) ≡ mul (coefficient x y) (coefficient u v)
  coefficient-mul x y u v =
      sym (add_reduce _ _) ∙ ap₂ add (nat_products x u y v) minuses ∙ regroup
      ∙ sym (distrib_right R (nat x) (mul m (nat y)) (coefficient u v) ∙ ap₂ add (distrib (nat x) _ _ ∙ ap (add _) (mul_left_comm R (nat x) m (nat v))) (distrib (mul m (nat y)) _ _ ∙ ap₂ add (mul_assoc m (nat y) (nat u)) squared))
    where
      m : K
      m = minus R

      minuses : mul m (nat (x * v + y * u)) ≡ add (mul m (mul (nat x) (nat v))) (mul m (mul (nat y) (nat u)))
      minuses = sym (mul-reduce_right R m _) ∙ ap (mul m) (nat_products x v y u) ∙ distrib m _ _

      squared : mul (mul m (nat y)) (mul m (nat v)) ≡ mul (nat y) (nat v)
      squared = mul_assoc m (nat y) (mul m (nat v)) ∙ ap (mul m) (mul_left_comm R (nat y) m (nat v)) ∙ minus_minus R (mul (nat y) (nat v)) ∙ reduce-mul R (nat y) (nat v)

      regroup : add (add (mul (nat x) (nat u)) (mul (nat y) (nat v))) (add (mul m (mul (nat x) (nat v))) (mul m (mul (nat y) (nat u)))) ≡ add (add (mul (nat x) (nat u)) (mul m (mul (nat x) (nat v)))) (add (mul m (mul (nat y) (nat u))) (mul (nat y) (nat v)))
      regroup = simp (add_comm, add_assoc, add_left_comm R)

  coefficient_plain : (n : ℕ) → coefficient n 0 ≡ reduce (nat n)
  coefficient_plain n = ap (add (nat n)) (mul_zero (minus R)) ∙ add_zero (nat n)

  coefficient_same : (z : ℕ) → coefficient z z ≡ nat 0
  coefficient_same z = add-minus R (nat z)

  coefficient_cut : (x y : ℕ) → coefficient (x - y) (y - x) ≡ coefficient x y
  coefficient_cut x y =
      let e : x ≡ (x - y) + min x y = omega arith in
      let f : y ≡ (y - x) + min x y = omega arith in
      sym (ap₂ coefficient e f ∙ coefficient-add (x - y) (y - x) (min x y) (min x y) ∙ ap (add _) (coefficient_same (min x y)) ∙ add_zero _ ∙ reduce-add R _ _)

  -- monomials
  monomial-insert : (i : ℕ) (n : List ℕ) → monomial (insert i n) ≡ mul (get_or env i (nat 0)) (monomial n)
  monomial-insert i [] = refl
  monomial-insert i (j ∷ n) = go (compare i j) (monomial-insert i n)
    where
      go : (o : Ordering) → monomial (insert i n) ≡ mul (get_or env i (nat 0)) (monomial n) → monomial (pick o (i ∷ j ∷ n) (i ∷ j ∷ n) (j ∷ insert i n)) ≡ mul (get_or env i (nat 0)) (monomial (j ∷ n))
      go Ordering.lt h = refl
      go Ordering.eq h = refl
      go Ordering.gt h = ap (mul (get_or env j (nat 0))) h ∙ mul_left_comm R _ _ _

  monomial-join : (m n : List ℕ) → mul (monomial (join m n)) (nat 1) ≡ mul (monomial m) (monomial n)
  monomial-join [] n = mul_comm _ _
  monomial-join (i ∷ m) n =
      ap (λ z. mul z (nat 1)) (monomial-insert i (join m n)) ∙ mul_assoc _ _ _ ∙ ap (mul (get_or env i (nat 0))) (monomial-join m n) ∙ sym (mul_assoc _ _ _)

  -- polynomials
  polynomial-build : (x y : ℕ) (m : List ℕ) (p : List Term) → polynomial (build x y m p) ≡ add (mul (coefficient x y) (monomial m)) (polynomial p)
  polynomial-build zero zero m p =
      sym (ap (λ z. add (mul z (monomial m)) (polynomial p)) coefficient-zero ∙ ap (λ z. add z (polynomial p)) (zero-mul R (monomial m)) ∙ zero-add R (polynomial p) ∙ reduce-polynomial p)
  polynomial-build zero (suc y) m p = refl
  polynomial-build (suc x) y m p = refl

  polynomial-combine : (x y : ℕ) (m : List ℕ) (p : List Term) → polynomial (combine x y m p) ≡ add (mul (coefficient x y) (monomial m)) (polynomial p)
  polynomial-combine x y m p = polynomial-build (x - y) (y - x) m p ∙ ap (λ z. add (mul z (monomial m)) (polynomial p)) (coefficient_cut x y)

  one_of : (o : Ordering) (a b c : List Term) (v : K) → polynomial a ≡ v → (T (compare_is_eq o) → polynomial b ≡ v) → polynomial c ≡ v → polynomial (pick o a b c) ≡ v
  one_of Ordering.lt a b c v f g h = f
  one_of Ordering.eq a b c v f g h = g tt
  one_of Ordering.gt a b c v f g h = h

  polynomial-merge_into : (x y : ℕ) (m : List ℕ) (p : List Term) (rest : List Term → List Term) → ((q : List Term) → polynomial (rest q) ≡ add (polynomial p) (polynomial q)) →
      (q : List Term) → polynomial (merge_into x y m p rest q) ≡ add (polynomial (term x y m ∷ p)) (polynomial q)
  polynomial-merge_into x y m p rest h [] = sym (add_zero _ ∙ reduce-add R _ _)
  polynomial-merge_into x y m p rest h (term u v n ∷ q) =
      one_of (order m n) _ _ _ _
      (ap (add _) (h (term u v n ∷ q)) ∙ sym (add_assoc _ _ _))
      (λ t. polynomial-combine (x + u) (y + v) m (rest q) ∙ ap₂ add (ap (λ z. mul z (monomial m)) (coefficient-add x y u v) ∙ distrib_right R _ _ _) (h q)
      ∙ ap (λ k. add (add (mul (coefficient x y) (monomial m)) (mul (coefficient u v) (monomial k))) (add (polynomial p) (polynomial q))) (same_order m n t)
      ∙ regroup (mul (coefficient x y) (monomial m)) (mul (coefficient u v) (monomial n)) (polynomial p) (polynomial q))
      (ap (add _) (polynomial-merge_into x y m p rest h q) ∙ add_left_comm R _ _ _)
    where
      regroup : (a b c d : K) → add (add a b) (add c d) ≡ add (add a c) (add b d)
      regroup a b c d = add_assoc a b _ ∙ ap (add a) (add_left_comm R b c d) ∙ sym (add_assoc a c _)

  pub polynomial-merge : (p q : List Term) → polynomial (merge p q) ≡ add (polynomial p) (polynomial q)
  polynomial-merge [] q = sym (zero-add R _ ∙ reduce-polynomial q)
  polynomial-merge (term x y m ∷ p) q = polynomial-merge_into x y m p (merge p) (polynomial-merge p) q

  pub polynomial-scale : (x y : ℕ) (m : List ℕ) (q : List Term) → polynomial (scale x y m q) ≡ mul (mul (coefficient x y) (monomial m)) (polynomial q)
  polynomial-scale x y m [] = sym (mul_zero _)
  polynomial-scale x y m (term u v n ∷ q) =
      polynomial-combine _ _ (join m n) (scale x y m q) ∙ ap₂ add product (polynomial-scale x y m q) ∙ sym (distrib _ _ _)
    where
      product : mul (coefficient (x * u + y * v) (x * v + y * u)) (monomial (join m n)) ≡ mul (mul (coefficient x y) (monomial m)) (mul (coefficient u v) (monomial n))
      product =
          ap (λ z. mul z (monomial (join m n))) (coefficient-mul x y u v) ∙ sym (mul-reduce_right R _ _) ∙ ap (mul _) (sym (mul_one _) ∙ monomial-join m n)
          ∙ mul_assoc _ _ _ ∙ ap (mul _) (mul_left_comm R _ _ _) ∙ sym (mul_assoc _ _ _)

  pub polynomial-times : (p q : List Term) → polynomial (times p q) ≡ mul (polynomial p) (polynomial q)
  polynomial-times [] q = sym (zero-mul R _)
  polynomial-times (term x y m ∷ p) q =
      polynomial-merge (scale x y m q) (times p q) ∙ ap₂ add (polynomial-scale x y m q) (polynomial-times p q) ∙ sym (distrib_right R _ _ _)

  pub polynomial_number : (n : ℕ) → polynomial (build n 0 [] []) ≡ reduce (nat n)
  polynomial_number n =
      polynomial-build n 0 [] [] ∙ add_zero _ ∙ reduce-mul R _ _ ∙ mul_one _ ∙ reduce-add R _ _ ∙ coefficient_plain n

  pub polynomial_variable : (i : ℕ) → polynomial (term 1 0 (i ∷ []) ∷ []) ≡ reduce (get_or env i (nat 0))
  polynomial_variable i =
      add_zero _ ∙ reduce-mul R _ _ ∙ ap (λ z. mul z (monomial (i ∷ []))) (coefficient_plain 1) ∙ mul_reduce _ _ ∙ one-mul R _ ∙ reduce-mul R _ _ ∙ mul_one _

  pub polynomial_opposite : (p : List Term) → polynomial (scale 0 1 [] p) ≡ mul (minus R) (polynomial p)
  polynomial_opposite p =
      polynomial-scale 0 1 [] p
      ∙ ap (λ z. mul z (polynomial p)) (mul_one _ ∙ reduce-add R _ _ ∙ zero-add R _ ∙ reduce-mul R _ _ ∙ mul_one (minus R))
      ∙ mul_reduce (minus R) _
