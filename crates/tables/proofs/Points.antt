-- Two functions of degree 1 in each variable that differ at one point agree at few points; so do two tables that differ at one place.
-- Along one variable two different lines meet once at most, and from each other value of it on the functions differ still.
use Rattle.std.proofs.Common.{◌≡◌, ℕ, zero, suc, ◌+◌, ◌*◌, ◌^◌, ◌<◌, ◌≤◌, Bool, true, false, T, List, [], ◌∷◌, length, get_or, sym, refl, ◌∙◌, subst, ap₂, ⊎_elim, le_of_suc-le-suc, suc-ne-zero, arith}
use native.Mathlib.Nat.{suc_inj}
use Rattle.arithmetic.specs.Numbers.{Numbers, all_reduced}
use Rattle.arithmetic.specs.Counting.{sum_rows, count_rows, count_numbers}
use Rattle.arithmetic.proofs.Ring.{Ring}
use Rattle.arithmetic.proofs.Field.{Field, equal_false, equal_no}
use Rattle.arithmetic.proofs.Counting.{step}
use Rattle.arithmetic.proofs.Degree.{deg_line}
use Rattle.arithmetic.proofs.Roots.{agree_n}
use Rattle.arithmetic.proofs.Truth.{path_of_T, T_of_path, and_left, and_right}
use Rattle.tables.specs.Multilinear.{mle, bits_of}
use Rattle.tables.proofs.Linear.{Lin, lin_mle}
use Rattle.tables.proofs.Places.{bits_length, placed}

-- two lists of one length that are not the same differ at a place, and the test of equality finds it
pub first_difference : {K : Type 0} {N : Numbers K} (F : Field N) (d : K) (xs ys : List K) → length xs ≡ length ys → (xs ≡ ys → ⊥) →
    (l : ℕ) × (l < length xs) × (get_or xs l d ≡ get_or ys l d → ⊥)
first_difference F d [] [] e h = absurd (h refl)
first_difference F d [] (y ∷ ys) e h = absurd (suc-ne-zero _ (sym e))
first_difference F d (x ∷ xs) [] e h = absurd (suc-ne-zero _ e)
first_difference {K = K} {N = N} F d (x ∷ xs) (y ∷ ys) e h = go (N.equal x y) refl (first_difference F d xs ys (suc_inj e))
  where
    go : (b : Bool) → N.equal x y ≡ b → ((xs ≡ ys → ⊥) → (l : ℕ) × (l < length xs) × (get_or xs l d ≡ get_or ys l d → ⊥)) →
        (l : ℕ) × (l < suc (length xs)) × (get_or (x ∷ xs) l d ≡ get_or (y ∷ ys) l d → ⊥)
    go true t tail =
        let (l, below, differ) = tail (λ q. h (ap₂ {C = List K} ◌∷◌ (F.equal_true x y t) q)) in
        (suc l, omega arith, differ)
    go false t tail = (0, omega arith, equal_false F x y t)

module _ {K : Type 0} {N : Numbers K} (F : Field N) where
  open N use {reduce, add, sub, mul, nat, equal, reduced, order, element}

  abbrev R : Ring N
  R = F.ring

  meet_once : (n : ℕ) (g h : List K → K) → Lin R (suc n) g → Lin R (suc n) h → (r : K) (z : List K) → (g (r ∷ z) ≡ h (r ∷ z) → ⊥) →
      count_numbers N (λ c. equal (g (c ∷ z)) (h (c ∷ z))) ≤ 1
  meet_once n g h lg lh r z differ =
      ⊎_elim (λ same. absurd (differ (same r))) (λ few. le_of_suc-le-suc few)
      (agree_n F 2 (λ c. g (c ∷ z)) (λ c. h (c ∷ z)) (deg_line R _ _ _ (λ c. lg.0 c z)) (deg_line R _ _ _ (λ c. lh.0 c z)))

  pub points : (n : ℕ) (g h : List K → K) → Lin R n g → Lin R n h → (z : List K) → length z ≡ n → (g z ≡ h z → ⊥) →
      count_rows N n (λ x. equal (g x) (h x)) * order ≤ n * order ^ n
  unfolding sum_rows
  points zero g h lg lh [] e differ = rw (equal_no F _ _ differ) (omega arith)
  points zero g h lg lh (r ∷ z) e differ = absurd (suc-ne-zero _ e)
  points (suc n) g h lg lh [] e differ = absurd (suc-ne-zero _ (sym e))
  points (suc n) g h lg lh (r ∷ z) e differ =
      subst (λ m. count_rows N (suc n) (λ x. equal (g x) (h x)) * order ≤ m * order ^ suc n) one_more
      (step N n 1 n (λ c. equal (g (c ∷ z)) (h (c ∷ z))) (λ x. equal (g x) (h x)) (meet_once n g h lg lh r z differ)
      (λ c coin apart. points n (λ x. g (c ∷ x)) (λ x. h (c ∷ x)) (lg.1 c) (lh.1 c) z (suc_inj e) (equal_false F _ _ apart)))
    where
      one_more : 1 + n ≡ suc n
      one_more = omega arith

  pub get_or_reduced : (xs : List K) (l : ℕ) (d : K) → T (all_reduced N xs) → l < length xs → reduce (get_or xs l d) ≡ get_or xs l d
  unfolding all_reduced
  get_or_reduced [] l d t h = absurd (omega arith)
  get_or_reduced (x ∷ xs) zero d t h = F.reduced_true x (path_of_T _ (and_left (reduced x) (all_reduced N xs) t))
  get_or_reduced (x ∷ xs) (suc l) d t h = get_or_reduced xs l d (and_right (reduced x) (all_reduced N xs) t) (omega arith)

  pub tables_agree : (k : ℕ) (xs ys : List K) → length xs ≡ 2 ^ k → length ys ≡ 2 ^ k → all_reduced N xs ≡ true → all_reduced N ys ≡ true → (xs ≡ ys → ⊥) →
      count_rows N k (λ z. equal (mle N xs z) (mle N ys z)) * order ≤ k * order ^ k
  tables_agree k xs ys e f a b h =
      let (l, below, differ) = first_difference F (nat 0) xs ys (e ∙ sym f) h in
      points k (mle N xs) (mle N ys) (lin_mle R k xs) (lin_mle R k ys) (bits_of N k l) (bits_length R k l)
      (λ q. differ (sym (number xs l e a below) ∙ q ∙ number ys l f b (omega arith)))
    where
      number : (ts : List K) (l : ℕ) → length ts ≡ 2 ^ k → all_reduced N ts ≡ true → l < length ts → mle N ts (bits_of N k l) ≡ get_or ts l (nat 0)
      number ts l full r below = placed R k ts l full (omega arith) ∙ get_or_reduced ts l (nat 0) (T_of_path _ r) below
