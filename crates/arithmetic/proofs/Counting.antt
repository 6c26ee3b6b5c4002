-- Laws of sums below a bound and over rows, and the union bound that soundness is counted with.
-- A chance is a count times the order against a multiple of all rows, so that no fraction is needed.
use Rattle.std.proofs.Common.{◌≡◌, ℕ, zero, suc, ◌+◌, ◌*◌, ◌^◌, ◌<◌, ◌≤◌, Bool, true, false, List, [], ◌∷◌, ◌++◌, length, sym, refl, ap, ◌∙◌, ap₂, zero-le, le_trans, le_of_eq, le_refl, add-le-add, mul-le-mul_right, mul_assoc, lt-suc_self, suc-mul, mul_comm, add-mul, add_comm, suc-add, one-mul, zero-add, zero-mul, mul-one, arith, pow-add}
use native.Mathlib.Nat.{pow-zero, pow-succ', le_step}
use Rattle.arithmetic.specs.Numbers.{Numbers}
use Rattle.arithmetic.specs.Counting.{sum_below, indicator, sum_rows, count_rows}

-- sums below n
pub sum_below-le : (n : ℕ) (f g : ℕ → ℕ) → ((c : ℕ) → c < n → f c ≤ g c) → sum_below n f ≤ sum_below n g
unfolding sum_below
sum_below-le zero f g h = zero-le
sum_below-le (suc n) f g h = add-le-add (h n (lt-suc_self n)) (sum_below-le n f g (λ c l. h c (le_step l)))

pub sum_below_equal : (n : ℕ) (f g : ℕ → ℕ) → ((c : ℕ) → c < n → f c ≡ g c) → sum_below n f ≡ sum_below n g
unfolding sum_below
sum_below_equal zero f g h = refl
sum_below_equal (suc n) f g h = ap₂ ◌+◌ (h n (lt-suc_self n)) (sum_below_equal n f g (λ c l. h c (le_step l)))

pub sum_below-add : (n : ℕ) (f g : ℕ → ℕ) → sum_below n (λ c. f c + g c) ≡ sum_below n f + sum_below n g
unfolding sum_below
sum_below-add zero f g = refl
sum_below-add (suc n) f g =
    let h : sum_below n (λ c. f c + g c) ≡ sum_below n f + sum_below n g = sum_below-add n f g in
    ap (◌+◌ (f n + g n)) h ∙ omega arith

pub sum_below_scale : (n k : ℕ) (f : ℕ → ℕ) → sum_below n (λ c. f c * k) ≡ sum_below n f * k
unfolding sum_below
sum_below_scale zero k f = sym (zero-mul k)
sum_below_scale (suc n) k f = ap (◌+◌ (f n * k)) (sum_below_scale n k f) ∙ sym (add-mul (f n) (sum_below n f) k)

pub sum_below_constant : (n k : ℕ) → sum_below n (λ c. k) ≡ n * k
unfolding sum_below
sum_below_constant zero k = sym (zero-mul k)
sum_below_constant (suc n) k = ap (◌+◌ k) (sum_below_constant n k) ∙ add_comm k (n * k) ∙ sym (suc-mul n k)

pub sum_below-zero : (n : ℕ) (f : ℕ → ℕ) → ((c : ℕ) → c < n → f c ≡ 0) → sum_below n f ≡ 0
sum_below-zero n f h = sum_below_equal n f (λ c. 0) h ∙ sum_below_constant n 0 ∙ mul_comm n 0 ∙ zero-mul n

-- more summands, no smaller sum
pub sum_below_more : (k n : ℕ) (f : ℕ → ℕ) → sum_below n f ≤ sum_below (k + n) f
unfolding sum_below
sum_below_more zero n f = le_of_eq (ap (λ m. sum_below m f) (sym (zero-add n)))
sum_below_more (suc k) n f =
    let h : sum_below n f ≤ sum_below (k + n) f = sum_below_more k n f in
    let g : sum_below n f ≤ f (k + n) + sum_below (k + n) f = omega arith in
    le_trans g (le_of_eq (ap (λ m. sum_below m f) (sym (suc-add k n))))

pub indicator-le : (b : Bool) → indicator b ≤ 1
indicator-le true = le_refl 1
indicator-le false = zero-le

module _ {K : Type 0} (N : Numbers K) where
  open N use {order, element}

  -- c is one of the numbers that are counted
  abbrev pub Coin : K → Type 0
  Coin c = (i : ℕ) × (i < order) × (element i ≡ c)

  -- n coins in a row
  abbrev pub Row : ℕ → List K → Type 0
  Row zero [] = Unit {0}
  Row zero (x ∷ xs) = ⊥
  Row (suc n) [] = ⊥
  Row (suc n) (x ∷ xs) = Coin x × Row n xs

  pub row_length : (n : ℕ) (x : List K) → Row n x → length x ≡ n
  row_length zero [] r = refl
  row_length zero (x ∷ xs) r = absurd r
  row_length (suc n) [] r = absurd r
  row_length (suc n) (x ∷ xs) r = ap suc (row_length n xs r.1)

  -- sums over rows
  pub sum_rows-le : (n : ℕ) (f g : List K → ℕ) → ((x : List K) → Row n x → f x ≤ g x) → sum_rows N n f ≤ sum_rows N n g
  unfolding sum_rows
  sum_rows-le zero f g h = h [] tt
  sum_rows-le (suc n) f g h =
      sum_below-le order _ _ (λ i l. sum_rows-le n (λ x. f (element i ∷ x)) (λ x. g (element i ∷ x)) (λ x r. h (element i ∷ x) ((i, l, refl), r)))

  pub sum_rows_equal : (n : ℕ) (f g : List K → ℕ) → ((x : List K) → Row n x → f x ≡ g x) → sum_rows N n f ≡ sum_rows N n g
  unfolding sum_rows
  sum_rows_equal zero f g h = h [] tt
  sum_rows_equal (suc n) f g h =
      sum_below_equal order _ _ (λ i l. sum_rows_equal n (λ x. f (element i ∷ x)) (λ x. g (element i ∷ x)) (λ x r. h (element i ∷ x) ((i, l, refl), r)))

  pub sum_rows-add : (n : ℕ) (f g : List K → ℕ) → sum_rows N n (λ x. f x + g x) ≡ sum_rows N n f + sum_rows N n g
  unfolding sum_rows
  sum_rows-add zero f g = refl
  sum_rows-add (suc n) f g =
      sum_below_equal order _ _ (λ i l. sum_rows-add n (λ x. f (element i ∷ x)) (λ x. g (element i ∷ x))) ∙ sum_below-add order _ _

  pub sum_rows_scale : (n k : ℕ) (f : List K → ℕ) → sum_rows N n (λ x. f x * k) ≡ sum_rows N n f * k
  unfolding sum_rows
  sum_rows_scale zero k f = refl
  sum_rows_scale (suc n) k f = sum_below_equal order _ _ (λ i l. sum_rows_scale n k (λ x. f (element i ∷ x))) ∙ sum_below_scale order k _

  pub sum_rows_constant : (n k : ℕ) → sum_rows N n (λ x. k) ≡ order ^ n * k
  unfolding sum_rows
  sum_rows_constant zero k = sym (ap (λ z. z * k) (pow-zero order) ∙ one-mul k)
  sum_rows_constant (suc n) k =
      sum_below_equal order _ _ (λ i l. sum_rows_constant n k) ∙ sum_below_constant order _ ∙ sym (mul_assoc order (order ^ n) k)
      ∙ ap (λ z. z * k) (sym (pow-succ' order n))

  pub sum_rows-zero : (n : ℕ) (f : List K → ℕ) → ((x : List K) → Row n x → f x ≡ 0) → sum_rows N n f ≡ 0
  sum_rows-zero n f h = sum_rows_equal n f (λ x. 0) h ∙ sum_rows_constant n 0 ∙ mul_comm (order ^ n) 0 ∙ zero-mul (order ^ n)

  pub sum_rows_split : (m n : ℕ) (f : List K → ℕ) → sum_rows N (m + n) f ≡ sum_rows N m (λ x. sum_rows N n (λ y. f (x ++ y)))
  unfolding sum_rows
  sum_rows_split zero n f = ap (λ k. sum_rows N k f) (zero-add n)
  sum_rows_split (suc m) n f =
      ap (λ k. sum_rows N k f) (suc-add m n) ∙ sum_below_equal order _ _ (λ i l. sum_rows_split m n (λ x. f (element i ∷ x)))

  pub count_rows_most : (n : ℕ) (test : List K → Bool) → count_rows N n test ≤ order ^ n
  count_rows_most n test =
      le_trans (sum_rows-le n (λ x. indicator (test x)) (λ x. 1) (λ x r. indicator-le (test x))) (le_of_eq (sum_rows_constant n 1 ∙ mul-one (order ^ n)))

  -- what the rest counts, where a first part is bad or the rest is bounded
  rest : (n B : ℕ) (bad : Bool) (test : List K → Bool) → (bad ≡ false → count_rows N n test * order ≤ B * order ^ n) →
      count_rows N n test * order ≤ indicator bad * (order ^ n * order) + B * order ^ n
  rest n B true test h =
      let most : count_rows N n test * order ≤ order ^ n * order = mul-le-mul_right order (count_rows_most n test) in
      omega arith
  rest n B false test h =
      let few : count_rows N n test * order ≤ B * order ^ n = h refl in
      omega arith

  pub union : (m n k B : ℕ) (bad test : List K → Bool) → count_rows N m bad * order ≤ k * order ^ m →
      ((x : List K) → Row m x → bad x ≡ false → count_rows N n (λ y. test (x ++ y)) * order ≤ B * order ^ n) →
      count_rows N (m + n) test * order ≤ (k + B) * order ^ (m + n)
  union m n k B bad test few h =
      let split : count_rows N (m + n) test * order ≡ sum_rows N m (λ x. after x * order) =
      ap (λ z. z * order) (sum_rows_split m n (λ x. indicator (test x))) ∙ sym (sum_rows_scale m order after) in
      let bound : sum_rows N m (λ x. after x * order) ≤ sum_rows N m (λ x. indicator (bad x) * (order ^ n * order) + B * order ^ n) =
      sum_rows-le m (λ x. after x * order) (λ x. indicator (bad x) * (order ^ n * order) + B * order ^ n) (λ x r. rest n B (bad x) (λ y. test (x ++ y)) (h x r)) in
      let total : sum_rows N m (λ x. indicator (bad x) * (order ^ n * order) + B * order ^ n) ≡ count_rows N m bad * (order ^ n * order) + order ^ m * (B * order ^ n) =
      sum_rows-add m (λ x. indicator (bad x) * (order ^ n * order)) (λ x. B * order ^ n)
      ∙ ap₂ ◌+◌ (sum_rows_scale m (order ^ n * order) (λ x. indicator (bad x))) (sum_rows_constant m (B * order ^ n)) in
      let multiplied : count_rows N m bad * order * order ^ n ≤ k * order ^ m * order ^ n = mul-le-mul_right (order ^ n) few in
      rw (split, pow-add order m n) (le_trans bound (rw total (omega (arith, multiplied))))
    where
      after : List K → ℕ
      after x = count_rows N n (λ y. test (x ++ y))

  pub step : (n k B : ℕ) (bad : K → Bool) (test : List K → Bool) → sum_below order (λ i. indicator (bad (element i))) ≤ k →
      ((c : K) → Coin c → bad c ≡ false → count_rows N n (λ y. test (c ∷ y)) * order ≤ B * order ^ n) →
      count_rows N (suc n) test * order ≤ (k + B) * order ^ suc n
  unfolding sum_rows
  step n k B bad test few h =
      let split : count_rows N (suc n) test * order ≡ sum_below order (λ i. after i * order) = sym (sum_below_scale order order after) in
      let bound : sum_below order (λ i. after i * order) ≤ sum_below order (λ i. indicator (bad (element i)) * (order ^ n * order) + B * order ^ n) =
      sum_below-le order (λ i. after i * order) (λ i. indicator (bad (element i)) * (order ^ n * order) + B * order ^ n) (λ i l. rest n B (bad (element i)) (λ y. test (element i ∷ y)) (h (element i) (i, l, refl))) in
      let total : sum_below order (λ i. indicator (bad (element i)) * (order ^ n * order) + B * order ^ n) ≡ sum_below order (λ i. indicator (bad (element i))) * (order ^ n * order) + order * (B * order ^ n) =
      sum_below-add order (λ i. indicator (bad (element i)) * (order ^ n * order)) (λ i. B * order ^ n)
      ∙ ap₂ ◌+◌ (sum_below_scale order (order ^ n * order) (λ i. indicator (bad (element i)))) (sum_below_constant order (B * order ^ n)) in
      let multiplied : sum_below order (λ i. indicator (bad (element i))) * (order ^ n * order) ≤ k * (order ^ n * order) = mul-le-mul_right (order ^ n * order) few in
      rw (split, pow-succ' order n) (le_trans bound (rw total (omega (arith, multiplied))))
    where
      after : ℕ → ℕ
      after i = count_rows N n (λ y. test (element i ∷ y))
