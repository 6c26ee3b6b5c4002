-- Proves equations of a ring by computing: two expressions with one normal form have one value.
-- `solve` wants no more than `refl`; `solve_by` also uses given equations, each with a factor.
use Rattle.std.proofs.Common.{◌≡◌, ℕ, List, [], ◌∷◌, get_or, sym, refl, ap, ◌∙◌, ap₂}
use Rattle.arithmetic.specs.Numbers.{Numbers}
use Rattle.arithmetic.proofs.Ring.{Ring, add-reduce_right, mul-reduce_right, reduce-reduce, reduce-add, reduce-mul, reduce-sub, cancel, sub-minus, minus}
use Rattle.arithmetic.proofs.Polynomial.{Term, term, build, merge, scale, times, polynomial, polynomial_number, polynomial_variable, polynomial-merge, polynomial-times, polynomial_opposite}

infixl 60 ◌:+◌ ◌:-◌
infixl 65 ◌:*◌
-- An expression: the i-th term of a list, a literal, a sum, a product, a difference, a reduction.
pub data Exp : Type 0 where
  var : ℕ → Exp
  con : ℕ → Exp
  ◌:+◌ : Exp → Exp → Exp
  ◌:*◌ : Exp → Exp → Exp
  ◌:-◌ : Exp → Exp → Exp
  red : Exp → Exp

abbrev pub norm : Exp → List Term
norm (var i) = term 1 0 (i ∷ []) ∷ []
norm (con n) = build n 0 [] []
norm (e :+ f) = merge (norm e) (norm f)
norm (e :* f) = times (norm e) (norm f)
norm (e :- f) = merge (norm e) (scale 0 1 [] (norm f))
norm (red e) = norm e

-- A given equation between two expressions, and the factor it is used with.
pub data Given : Type 0 where
  given : Exp → Exp → Exp → Given

abbrev pub lefts : List Given → Exp
lefts [] = con 0
lefts (given g l r ∷ hs) = g :* l :+ lefts hs

abbrev pub rights : List Given → Exp
rights [] = con 0
rights (given g l r ∷ hs) = g :* r :+ rights hs

module _ {K : Type 0} {N : Numbers K} (R : Ring N) (env : List K) where
  open N use {reduce, add, sub, mul, nat}
  open R use {add_reduce, mul_reduce}

  -- the term that an expression stands for
  abbrev pub eval : Exp → K
  eval (var i) = get_or env i (nat 0)
  eval (con n) = nat n
  eval (e :+ f) = add (eval e) (eval f)
  eval (e :* f) = mul (eval e) (eval f)
  eval (e :- f) = sub (eval e) (eval f)
  eval (red e) = reduce (eval e)

  -- the same, reduced where it is a bare variable or literal
  abbrev pub top : Exp → K
  top (var i) = reduce (get_or env i (nat 0))
  top (con n) = reduce (nat n)
  top (e :+ f) = add (eval e) (eval f)
  top (e :* f) = mul (eval e) (eval f)
  top (e :- f) = sub (eval e) (eval f)
  top (red e) = reduce (eval e)

  reduce-eval : (e : Exp) → reduce (eval e) ≡ top e
  reduce-eval (var i) = refl
  reduce-eval (con n) = refl
  reduce-eval (e :+ f) = reduce-add R _ _
  reduce-eval (e :* f) = reduce-mul R _ _
  reduce-eval (e :- f) = reduce-sub R _ _
  reduce-eval (red e) = reduce-reduce R _

  eval-norm : (e : Exp) → reduce (eval e) ≡ polynomial R env (norm e)
  eval-norm (var i) = sym (polynomial_variable R env i)
  eval-norm (con n) = sym (polynomial_number R env n)
  eval-norm (e :+ f) =
      reduce-add R _ _ ∙ sym (add_reduce _ _) ∙ sym (add-reduce_right R _ _) ∙ ap₂ add (eval-norm e) (eval-norm f)
      ∙ sym (polynomial-merge R env (norm e) (norm f))
  eval-norm (e :* f) =
      reduce-mul R _ _ ∙ sym (mul_reduce _ _) ∙ sym (mul-reduce_right R _ _) ∙ ap₂ mul (eval-norm e) (eval-norm f)
      ∙ sym (polynomial-times R env (norm e) (norm f))
  eval-norm (e :- f) =
      reduce-sub R _ _ ∙ sub-minus R _ _ ∙ sym (add_reduce _ _) ∙ ap (add _) (sym (mul-reduce_right R (minus R) _))
      ∙ ap₂ (λ x y. add x (mul (minus R) y)) (eval-norm e) (eval-norm f)
      ∙ ap (add _) (sym (polynomial_opposite R env (norm f))) ∙ sym (polynomial-merge R env (norm e) (scale 0 1 [] (norm f)))
  eval-norm (red e) = reduce-reduce R _ ∙ eval-norm e

  top-norm : (e : Exp) → top e ≡ polynomial R env (norm e)
  top-norm e = sym (reduce-eval e) ∙ eval-norm e

  pub solve : (e f : Exp) → norm e ≡ norm f → top e ≡ top f
  solve e f h = top-norm e ∙ ap (polynomial R env) h ∙ sym (top-norm f)

  -- all given equations hold
  abbrev pub Hold : List Given → Type 0
  Hold [] = Unit {0}
  Hold (given g l r ∷ hs) = (top l ≡ top r) × Hold hs

  equal_sides : (hs : List Given) → Hold hs → eval (lefts hs) ≡ eval (rights hs)
  equal_sides [] h = refl
  equal_sides (given g l r ∷ hs) h =
      ap₂ add (sym (mul-reduce_right R _ _) ∙ ap (mul (eval g)) (reduce-eval l ∙ h.0 ∙ sym (reduce-eval r)) ∙ mul-reduce_right R _ _) (equal_sides hs h.1)

  pub solve_by : (hs : List Given) → Hold hs → (e f : Exp) → norm (e :+ rights hs) ≡ norm (f :+ lefts hs) → top e ≡ top f
  solve_by hs h e f n =
      sym (reduce-eval e)
      ∙ cancel R (eval e) (eval f) (eval (rights hs)) (solve (e :+ rights hs) (f :+ lefts hs) n ∙ ap (add (eval f)) (equal_sides hs h))
      ∙ reduce-eval f
