-- A place of a table is a corner: the extension there is the number that stands at the place.
-- At any point it is the sum, over the places, of eq at the place's bits times the number that stands there.
use Rattle.std.proofs.Common.{◌≡◌, ℕ, zero, suc, ◌+◌, ◌-◌, ◌*◌, ◌/◌, ◌%◌, ◌^◌, ◌<◌, ◌≤◌, List, [], ◌∷◌, ◌++◌, length, get_or, take, drop, sym, refl, ap, ◌∙◌, ap₂, add-zero, add_assoc, arith, length-drop, take-append-drop, length-take, get_or-append-add, pow_pos}
use native.Mathlib.Nat.{two-pow-succ, suc_inj, div-eq_of_lt, mul-add-div_right, mul-add-mod_self_right}
use native.Mathlib.Decide.{dec_lt}
use lib.ListN.{get_or-append}
use Rattle.arithmetic.specs.Numbers.{Numbers}
use Rattle.arithmetic.proofs.Ring.{Ring, reduce-add, zero-add as ring_zero_add}
use Rattle.arithmetic.proofs.Solver.{var, con, ◌:+◌, ◌:*◌, ◌:-◌, red, solve}
use Rattle.tables.specs.Multilinear.{mle, eq_poly, bits_of}
use Rattle.tables.specs.Theorems.{sum_places}
use Rattle.tables.proofs.Extension.{mle_halves, mle-zero, mle-one}

-- a table of 2^(k + 1) is two of 2^k
pub halves : {K : Type 0} (k : ℕ) (xs : List K) → length xs ≡ 2 ^ suc k →
    (lo : List K) × (hi : List K) × (xs ≡ lo ++ hi) × (length lo ≡ 2 ^ k) × (length hi ≡ 2 ^ k)
halves k xs e =
    (take (2 ^ k) xs, drop (2 ^ k) xs, sym (take-append-drop (2 ^ k) xs), rw length-take (omega arith), rw length-drop (omega arith))

module _ {K : Type 0} {N : Numbers K} (R : Ring N) where
  open N use {reduce, add, sub, mul, nat}

  -- the bits of a place
  pub bits_length : (k l : ℕ) → length (bits_of N k l) ≡ k
  unfolding bits_of
  bits_length zero l = refl
  bits_length (suc k) l = ap suc (bits_length k l)

  pub bits_low : (k l : ℕ) → l < 2 ^ k → bits_of N (suc k) l ≡ nat 0 ∷ bits_of N k l
  unfolding bits_of
  bits_low k l h = ap {B = List K} (λ b. nat (b % 2) ∷ bits_of N k l) (div-eq_of_lt h)

  -- what stands above the lowest k bits is not seen by them
  pub bits_above : (k m l : ℕ) → bits_of N k (m * 2 ^ k + l) ≡ bits_of N k l
  unfolding bits_of
  bits_above zero m l = refl
  bits_above (suc k) m l = ap {B = List K} (λ p. nat (p / 2 ^ k % 2) ∷ bits_of N k p) regroup ∙ ap₂ {C = List K} (λ b rest. nat b ∷ rest) bit (bits_above k (m * 2) l)
    where
      regroup : m * 2 ^ suc k + l ≡ m * 2 * 2 ^ k + l
      regroup = rw (two-pow-succ k) (omega arith)

      bit : (m * 2 * 2 ^ k + l) / 2 ^ k % 2 ≡ l / 2 ^ k % 2
      bit = ap (λ b. b % 2) (mul-add-div_right (pow_pos k) (m * 2) l) ∙ mul-add-mod_self_right m 2 (l / 2 ^ k)

  pub bits_high : (k l : ℕ) → l < 2 ^ k → bits_of N (suc k) (2 ^ k + l) ≡ nat 1 ∷ bits_of N k l
  unfolding bits_of
  bits_high k l h = ap₂ {C = List K} (λ b rest. nat (b % 2) ∷ rest) first rest
    where
      once : 2 ^ k + l ≡ 1 * 2 ^ k + l
      once = omega arith

      first : (2 ^ k + l) / 2 ^ k ≡ 1
      first = ap (λ p. p / 2 ^ k) once ∙ mul-add-div_right (pow_pos k) 1 l ∙ ap (λ b. 1 + b) (div-eq_of_lt h)

      rest : bits_of N k (2 ^ k + l) ≡ bits_of N k l
      rest = ap (bits_of N k) once ∙ bits_above k 1 l

  -- a table's lower half holds the places below 2^k, its upper half the others
  lower : (k l : ℕ) (lo hi : List K) → length lo ≡ 2 ^ k → length hi ≡ 2 ^ k → l < 2 ^ k → mle N (lo ++ hi) (bits_of N (suc k) l) ≡ mle N lo (bits_of N k l)
  lower k l lo hi e f h = ap (mle N (lo ++ hi)) (bits_low k l h) ∙ mle-zero R lo hi (bits_of N k l) (e ∙ sym f)

  upper : (k l : ℕ) (lo hi : List K) → length lo ≡ 2 ^ k → length hi ≡ 2 ^ k → l < 2 ^ k → mle N (lo ++ hi) (bits_of N (suc k) (2 ^ k + l)) ≡ mle N hi (bits_of N k l)
  upper k l lo hi e f h = ap (mle N (lo ++ hi)) (bits_high k l h) ∙ mle-one R lo hi (bits_of N k l) (e ∙ sym f)

  abbrev Placed : ℕ → Type 0
  Placed k = (xs : List K) (l : ℕ) → length xs ≡ 2 ^ k → l < 2 ^ k → mle N xs (bits_of N k l) ≡ reduce (get_or xs l (nat 0))

  placed_step : (k : ℕ) → Placed k → Placed (suc k)
  placed_step k ih xs l e h = go (halves k xs e) (dec_lt l (2 ^ k))
    where
      go : (lo : List K) × (hi : List K) × (xs ≡ lo ++ hi) × (length lo ≡ 2 ^ k) × (length hi ≡ 2 ^ k) → Dec (l < 2 ^ k) → mle N xs (bits_of N (suc k) l) ≡ reduce (get_or xs l (nat 0))
      go (lo, hi, s, a, b) (yes c) =
          ap (λ t. mle N t (bits_of N (suc k) l)) s ∙ lower k l lo hi a b c ∙ ih lo l a c
          ∙ ap reduce (sym (ap (λ t. get_or t l (nat 0)) s ∙ get_or-append lo hi (nat 0) l (omega arith)))
      go (lo, hi, s, a, b) (no c) =
          let rest : l - 2 ^ k < 2 ^ k = omega (arith, two-pow-succ k) in
          let place : l ≡ 2 ^ k + (l - 2 ^ k) = omega arith in
          let past : l ≡ length lo + (l - 2 ^ k) = omega arith in
          ap₂ (λ t p. mle N t (bits_of N (suc k) p)) s place ∙ upper k (l - 2 ^ k) lo hi a b rest ∙ ih hi (l - 2 ^ k) b rest
          ∙ ap reduce (sym (ap₂ (λ t p. get_or t p (nat 0)) s past ∙ get_or-append-add lo hi (l - 2 ^ k) (nat 0)))

  pub placed : (k : ℕ) (xs : List K) (l : ℕ) → length xs ≡ 2 ^ k → l < 2 ^ k → mle N xs (bits_of N k l) ≡ reduce (get_or xs l (nat 0))
  unfolding mle bits_of
  placed zero xs l e h = ap (λ i. reduce (get_or xs i (nat 0))) (omega arith)
  placed (suc k) xs l e h = placed_step k (placed k) xs l e h

  -- the sum over places
  pub reduce-sum_places : (k i : ℕ) (xs z : List K) → reduce (sum_places N k i xs z) ≡ sum_places N k i xs z
  unfolding sum_places
  reduce-sum_places k i [] z = R.reduce_zero
  reduce-sum_places k i (x ∷ xs) z = reduce-add R _ _

  pub sum_places-append : (k i : ℕ) (xs ys z : List K) → sum_places N k i (xs ++ ys) z ≡ add (sum_places N k i xs z) (sum_places N k (i + length xs) ys z)
  unfolding sum_places
  sum_places-append k i [] ys z = sym (reduce-sum_places k i ys z) ∙ sym (ap (λ j. add (nat 0) (sum_places N k j ys z)) (add-zero i) ∙ ring_zero_add R _)
  sum_places-append k i (x ∷ xs) ys z =
      ap (add _) (sum_places-append k (i + 1) xs ys z ∙ ap (λ j. add (sum_places N k (i + 1) xs z) (sum_places N k j ys z)) shift)
      ∙ sym (R.add_assoc _ _ _)
    where
      shift : i + 1 + length xs ≡ i + suc (length xs)
      shift = omega arith

  sum_places_lower : (k i : ℕ) (xs : List K) (c : K) (z : List K) → i + length xs ≤ 2 ^ k → sum_places N (suc k) i xs (c ∷ z) ≡ mul (sub (nat 1) c) (sum_places N k i xs z)
  unfolding sum_places eq_poly
  sum_places_lower k i [] c z h = sym (R.mul_zero _)
  sum_places_lower k i (x ∷ xs) c z h =
      ap₂ (λ bits rest. add (mul (eq_poly N bits (c ∷ z)) x) rest) (bits_low k i (omega arith)) (sum_places_lower k (i + 1) xs c z (omega arith))
      ∙ solve R (c ∷ x ∷ eq_poly N (bits_of N k i) z ∷ sum_places N k (i + 1) xs z ∷ [])
      ((con 0 :* var 0 :+ (con 1 :- con 0) :* (con 1 :- var 0)) :* var 2 :* var 1 :+ (con 1 :- var 0) :* var 3)
      ((con 1 :- var 0) :* (var 2 :* var 1 :+ var 3)) refl

  sum_places_upper : (k i : ℕ) (xs : List K) (c : K) (z : List K) → i + length xs ≤ 2 ^ k → sum_places N (suc k) (2 ^ k + i) xs (c ∷ z) ≡ mul c (sum_places N k i xs z)
  unfolding sum_places eq_poly
  sum_places_upper k i [] c z h = sym (R.mul_zero _)
  sum_places_upper k i (x ∷ xs) c z h =
      ap₂ (λ bits rest. add (mul (eq_poly N bits (c ∷ z)) x) rest) (bits_high k i (omega arith))
      (ap (λ j. sum_places N (suc k) j xs (c ∷ z)) (add_assoc (2 ^ k) i 1) ∙ sum_places_upper k (i + 1) xs c z (omega arith))
      ∙ solve R (c ∷ x ∷ eq_poly N (bits_of N k i) z ∷ sum_places N k (i + 1) xs z ∷ [])
      ((con 1 :* var 0 :+ (con 1 :- con 1) :* (con 1 :- var 0)) :* var 2 :* var 1 :+ var 0 :* var 3)
      (var 0 :* (var 2 :* var 1 :+ var 3)) refl

  sum_places_step : (k : ℕ) (lo hi : List K) (c : K) (z : List K) → length lo ≡ 2 ^ k → length hi ≡ 2 ^ k →
      sum_places N k 0 lo z ≡ mle N lo z → sum_places N k 0 hi z ≡ mle N hi z → sum_places N (suc k) 0 (lo ++ hi) (c ∷ z) ≡ mle N (lo ++ hi) (c ∷ z)
  sum_places_step k lo hi c z a b f g =
      sum_places-append (suc k) 0 lo hi (c ∷ z)
      ∙ ap₂ add
      (sum_places_lower k 0 lo c z (omega arith) ∙ ap (mul (sub (nat 1) c)) f)
      (ap (λ j. sum_places N (suc k) j hi (c ∷ z)) second ∙ sum_places_upper k 0 hi c z (omega arith) ∙ ap (mul c) g)
      ∙ sym (mle_halves R lo hi c z (a ∙ sym b))
    where
      second : 0 + length lo ≡ 2 ^ k + 0
      second = omega arith

  pub sum_places-mle : (k : ℕ) (xs z : List K) → length xs ≡ 2 ^ k → length z ≡ k → sum_places N k 0 xs z ≡ mle N xs z
  unfolding sum_places mle eq_poly bits_of
  sum_places-mle zero [] z e f = absurd (omega arith)
  sum_places-mle zero (x ∷ []) [] e f = solve R (x ∷ []) (con 1 :* var 0 :+ con 0) (red (var 0)) refl
  sum_places-mle zero (x ∷ []) (c ∷ z) e f = absurd (omega arith)
  sum_places-mle zero (x ∷ y ∷ xs) z e f = absurd (omega arith)
  sum_places-mle (suc k) xs [] e f = absurd (omega arith)
  sum_places-mle (suc k) xs (c ∷ z) e f =
      let (lo, hi, s, a, b) = halves k xs e in
      ap (λ t. sum_places N (suc k) 0 t (c ∷ z)) s
      ∙ sum_places_step k lo hi c z a b (sum_places-mle k lo z a (suc_inj f)) (sum_places-mle k hi z b (suc_inj f))
      ∙ sym (ap (λ t. mle N t (c ∷ z)) s)
