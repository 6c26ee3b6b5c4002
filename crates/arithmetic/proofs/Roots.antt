-- A function of degree below n is zero everywhere or has fewer than n roots among the elements.
-- So two such functions are equal everywhere or agree at fewer than n of them.
use Rattle.std.proofs.Common.{◌≡◌, ℕ, zero, suc, ◌+◌, ◌<◌, ◌≤◌, Bool, true, false, T, eqb, ◌⊎◌, [], ◌∷◌, sym, refl, ap, ◌∙◌, subst, inl, inr, zero-le, le_of_eq, le_refl, lt_of_le_of_lt, lt-suc_self, arith, eqb→eq}
use native.Mathlib.Nat.{le_step}
use lib.Dec.{eqb_refl}
use Rattle.arithmetic.specs.Numbers.{Numbers}
use Rattle.arithmetic.specs.Counting.{sum_below, indicator, count_numbers}
use Rattle.arithmetic.proofs.Truth.{path_of_T, T_of_path}
use Rattle.arithmetic.proofs.Ring.{sub-zero_equal, sub_self}
use Rattle.arithmetic.proofs.Counting.{sum_below-le, sum_below-add, sum_below-zero}
use Rattle.arithmetic.proofs.Solver.{var, con, ◌:+◌, ◌:*◌, ◌:-◌, solve_by, given}
use Rattle.arithmetic.proofs.Field.{Field, equal_yes}
use Rattle.arithmetic.proofs.Degree.{Deg, deg_reduced, deg_sub}

-- the first n places have one that passes, or none
pub find : (n : ℕ) (test : ℕ → Bool) → ((i : ℕ) × (i < n) × (test i ≡ true)) ⊎ (sum_below n (λ i. indicator (test i)) ≡ 0)
unfolding sum_below
find zero test = inr refl
find (suc n) test = go (test n) refl (find n test)
  where
    go : (b : Bool) → test n ≡ b → ((i : ℕ) × (i < n) × (test i ≡ true)) ⊎ (sum_below n (λ i. indicator (test i)) ≡ 0) →
        ((i : ℕ) × (i < suc n) × (test i ≡ true)) ⊎ (indicator (test n) + sum_below n (λ i. indicator (test i)) ≡ 0)
    go true e s = inl (n, lt-suc_self n, e)
    go false e (inl (i, l, f)) = inl (i, le_step l, f)
    go false e (inr z) = inr (ap (λ b. indicator b + sum_below n (λ i. indicator (test i))) e ∙ ap (◌+◌ 0) z)

pub indicator-false : (b : Bool) → (b ≡ true → ⊥) → indicator b ≡ 0
indicator-false true h = absurd (h refl)
indicator-false false h = refl

-- one number is counted at most once
pub once : (n j : ℕ) → sum_below n (λ i. indicator (eqb i j)) ≤ 1
unfolding sum_below
once zero j = zero-le
once (suc n) j = go (eqb n j) refl (once n j)
  where
    go : (b : Bool) → eqb n j ≡ b → sum_below n (λ i. indicator (eqb i j)) ≤ 1 → indicator (eqb n j) + sum_below n (λ i. indicator (eqb i j)) ≤ 1
    go true e h =
        let here : n ≡ j = eqb→eq n j (T_of_path (eqb n j) e) in
        let none : sum_below n (λ i. indicator (eqb i j)) ≡ 0 = sum_below-zero n (λ i. indicator (eqb i j)) (λ i l. indicator-false (eqb i j) (λ f. let there : i ≡ j = eqb→eq i j (T_of_path (eqb i j) f) in omega arith)) in
        rw (e, none) (le_refl 1)
    go false e h = rw e (omega arith)

pub indicator_bound : (a : Bool) (m : ℕ) → (a ≡ true → 1 ≤ m) → indicator a ≤ m
indicator_bound true m h = h refl
indicator_bound false m h = zero-le

module _ {K : Type 0} {N : Numbers K} (F : Field N) where
  open N use {reduce, add, sub, mul, nat, equal, order, element}
  open F use {ring as R}

  -- what one root r of g says of the other points, by the quotient q of g at r
  module _ (n : ℕ) (g : K → K) (d : Deg N (suc n) g) (j : ℕ) (l : j < order) (e : g (element j) ≡ nat 0) where
    abbrev r : K
    r = element j

    abbrev q : K → K
    q = (d.1 r).0

    zero_where : (x : K) → q x ≡ nat 0 → g x ≡ nat 0
    zero_where x z =
        sym (d.0 x)
        ∙ solve_by R (g x ∷ g r ∷ q x ∷ r ∷ x ∷ [])
        (given (con 1) (var 0 :+ var 3 :* var 2) (var 1 :+ var 4 :* var 2) ∷ given (con 1) (var 1) (con 0) ∷ given (var 4 :- var 3) (var 2) (con 0) ∷ [])
        ((d.1 r).2 x, (ap reduce e, (ap reduce z, tt))) (var 0) (con 0) refl
        ∙ R.reduce_zero

    balanced : (x : K) → g x ≡ nat 0 → mul r (q x) ≡ mul x (q x)
    balanced x f =
        solve_by R (g x ∷ g r ∷ q x ∷ r ∷ x ∷ [])
        (given (con 1) (var 0 :+ var 3 :* var 2) (var 1 :+ var 4 :* var 2) ∷ given (con 1) (var 1) (con 0) ∷ given (con 0 :- con 1) (var 0) (con 0) ∷ [])
        ((d.1 r).2 x, (ap reduce e, (ap reduce f, tt))) (var 3 :* var 2) (var 4 :* var 2) refl

    -- another root of g is a root of q
    each : (i : ℕ) → i < order → equal (g (element i)) (nat 0) ≡ true → 1 ≤ indicator (equal (q (element i)) (nat 0)) + indicator (eqb i j)
    each i k f = go (F.whole r (element i) (q (element i)) (balanced (element i) (F.equal_true _ _ f)))
      where
        go : (reduce (q (element i)) ≡ nat 0) ⊎ (reduce r ≡ reduce (element i)) → 1 ≤ indicator (equal (q (element i)) (nat 0)) + indicator (eqb i j)
        go (inl z) =
            let root : equal (q (element i)) (nat 0) ≡ true = equal_yes F _ _ (sym (deg_reduced R n q (d.1 r).1 (element i)) ∙ z) in
            rw root (omega arith)
        go (inr z) =
            let here : j ≡ i = F.element_apart j i l k (sym (F.element_reduced j l) ∙ z ∙ F.element_reduced i k) in
            let same : eqb i j ≡ true = path_of_T (eqb i j) (subst (λ m. T (eqb i m)) (sym here) (eqb_refl i)) in
            rw same (omega arith)

    one_more : count_numbers N (λ x. equal (g x) (nat 0)) ≤ count_numbers N (λ x. equal (q x) (nat 0)) + 1
    one_more =
        let bound : count_numbers N (λ x. equal (g x) (nat 0)) ≤ sum_below order (λ i. indicator (equal (q (element i)) (nat 0)) + indicator (eqb i j)) =
        sum_below-le order _ _ (λ i k. indicator_bound (equal (g (element i)) (nat 0)) _ (each i k)) in
        let split : sum_below order (λ i. indicator (equal (q (element i)) (nat 0)) + indicator (eqb i j)) ≡ count_numbers N (λ x. equal (q x) (nat 0)) + sum_below order (λ i. indicator (eqb i j)) =
        sum_below-add order _ _ in
        omega (arith, once order j)

    divided : ((x : K) → q x ≡ nat 0) ⊎ (count_numbers N (λ x. equal (q x) (nat 0)) < n) → ((x : K) → g x ≡ nat 0) ⊎ (count_numbers N (λ x. equal (g x) (nat 0)) < suc n)
    divided (inl z) = inl (λ x. zero_where x (z x))
    divided (inr few) = inr (omega (arith, one_more))

  pub few_roots : (n : ℕ) (g : K → K) → Deg N n g → ((x : K) → g x ≡ nat 0) ⊎ (count_numbers N (λ x. equal (g x) (nat 0)) < n)
  few_roots zero g d = inl d
  few_roots (suc n) g d = go (few_roots n) (find order (λ i. equal (g (element i)) (nat 0)))
    where
      go : ((q : K → K) → Deg N n q → ((x : K) → q x ≡ nat 0) ⊎ (count_numbers N (λ x. equal (q x) (nat 0)) < n)) →
          ((i : ℕ) × (i < order) × (equal (g (element i)) (nat 0) ≡ true)) ⊎ (count_numbers N (λ x. equal (g x) (nat 0)) ≡ 0) →
          ((x : K) → g x ≡ nat 0) ⊎ (count_numbers N (λ x. equal (g x) (nat 0)) < suc n)
      go fewer (inl (j, l, e)) = divided n g d j l (F.equal_true _ _ e) (fewer (d.1 (element j)).0 (d.1 (element j)).1)
      go fewer (inr z) = inr (omega arith)

  pub agree_n : (n : ℕ) (g h : K → K) → Deg N n g → Deg N n h → ((x : K) → g x ≡ h x) ⊎ (count_numbers N (λ x. equal (g x) (h x)) < n)
  agree_n n g h d e = go (few_roots n (λ x. sub (g x) (h x)) (deg_sub R n g h d e))
    where
      go : ((x : K) → sub (g x) (h x) ≡ nat 0) ⊎ (count_numbers N (λ x. equal (sub (g x) (h x)) (nat 0)) < n) → ((x : K) → g x ≡ h x) ⊎ (count_numbers N (λ x. equal (g x) (h x)) < n)
      go (inl z) = inl (λ x. sym (deg_reduced R n g d x) ∙ sub-zero_equal R (g x) (h x) (z x) ∙ deg_reduced R n h e x)
      go (inr few) = inr (lt_of_le_of_lt (sum_below-le order _ _ (λ i l. indicator_bound (equal (g (element i)) (h (element i))) _ (λ f. le_of_eq (sym (ap indicator (equal_yes F _ _ (sub_self R _ _ (ap reduce (F.equal_true _ _ f))))))))) few)
