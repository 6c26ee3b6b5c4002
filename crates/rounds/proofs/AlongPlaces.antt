-- A sum over corners as a sum along places, in the order in which a loop goes over them.
-- And the bits of a place among copies and of one below, together those of a place of the whole table.
use Rattle.std.proofs.Common.{◌≡◌, ℕ, zero, suc, ◌+◌, ◌*◌, ◌/◌, ◌%◌, ◌^◌, ◌<◌, ◌≤◌, List, [], ◌∷◌, ◌++◌, sym, refl, ap, ◌∙◌, ap₂, add-zero, add_assoc, mul_comm, suc-add, zero-add, arith, pow_pos, pow-add}
use native.Mathlib.Nat.{two-pow-succ, div-div-eq-div-mul, mul-add-div_right, div-eq_of_lt}
use Rattle.arithmetic.specs.Numbers.{Numbers}
use Rattle.arithmetic.proofs.Ring.{Ring, reduce-add, zero-add as ring_zero_add}
use Rattle.tables.specs.Multilinear.{bits_of, sum_corners}
use Rattle.tables.proofs.Places.{bits_low, bits_high, bits_above}

module _ {K : Type 0} (N : Numbers K) where
  open N use {add, nat}

  -- the sum of G at the bits of n places from place i on
  unfoldable pub sum_along : ℕ → ℕ → ℕ → (List K → K) → K
  sum_along k i zero G = nat 0
  sum_along k i (suc n) G = add (G (bits_of N k i)) (sum_along k (i + 1) n G)

module _ {K : Type 0} {N : Numbers K} (R : Ring N) where
  open N use {reduce, add, nat}

  reduce_along : (k i n : ℕ) (G : List K → K) → reduce (sum_along N k i n G) ≡ sum_along N k i n G
  unfolding sum_along
  reduce_along k i zero G = R.reduce_zero
  reduce_along k i (suc n) G = reduce-add R _ _

  along_append : (k i m n : ℕ) (G : List K → K) → sum_along N k i (m + n) G ≡ add (sum_along N k i m G) (sum_along N k (i + m) n G)
  unfolding sum_along
  along_append k i zero n G =
      ap (λ (c : ℕ). sum_along N k i c G) (zero-add n) ∙ sym (reduce_along k i n G)
      ∙ sym (ap (λ (j : ℕ). add (nat 0) (sum_along N k j n G)) (add-zero i) ∙ ring_zero_add R (sum_along N k i n G))
  along_append k i (suc m) n G =
      let shift : i + 1 + m ≡ i + suc m = omega arith in
      ap (λ (c : ℕ). sum_along N k i c G) (suc-add m n)
      ∙ ap (add (G (bits_of N k i))) (along_append k (i + 1) m n G ∙ ap (λ (j : ℕ). add (sum_along N k (i + 1) m G) (sum_along N k j n G)) shift)
      ∙ sym (R.add_assoc (G (bits_of N k i)) (sum_along N k (i + 1) m G) (sum_along N k (i + suc m) n G))

  along_low : (k i n : ℕ) (G : List K → K) → i + n ≤ 2 ^ k → sum_along N (suc k) i n G ≡ sum_along N k i n (λ z. G (nat 0 ∷ z))
  unfolding sum_along
  along_low k i zero G h = refl
  along_low k i (suc n) G h = ap₂ add (ap G (bits_low R k i (omega arith))) (along_low k (i + 1) n G (omega arith))

  along_high : (k i n : ℕ) (G : List K → K) → i + n ≤ 2 ^ k → sum_along N (suc k) (2 ^ k + i) n G ≡ sum_along N k i n (λ z. G (nat 1 ∷ z))
  unfolding sum_along
  along_high k i zero G h = refl
  along_high k i (suc n) G h =
      ap₂ add (ap G (bits_high R k i (omega arith)))
      (ap (λ (j : ℕ). sum_along N (suc k) j n G) (add_assoc (2 ^ k) i 1) ∙ along_high k (i + 1) n G (omega arith))

  pub along_corners : (k : ℕ) (G : List K → K) → ((z : List K) → reduce (G z) ≡ G z) → sum_along N k 0 (2 ^ k) G ≡ sum_corners N k G
  unfolding sum_along sum_corners bits_of
  along_corners zero G e = R.add_zero (G []) ∙ e []
  along_corners (suc k) G e =
      ap (λ (n : ℕ). sum_along N (suc k) 0 n G) (two-pow-succ k)
      ∙ along_append (suc k) 0 (2 ^ k) (2 ^ k) G
      ∙ ap₂ add
      (along_low k 0 (2 ^ k) G (omega arith) ∙ along_corners k (λ z. G (nat 0 ∷ z)) (λ z. e (nat 0 ∷ z)))
      (ap (λ (j : ℕ). sum_along N (suc k) j (2 ^ k) G) second ∙ along_high k 0 (2 ^ k) G (omega arith)
      ∙ along_corners k (λ z. G (nat 1 ∷ z)) (λ z. e (nat 1 ∷ z)))
    where
      second : 0 + 2 ^ k ≡ 2 ^ k + 0
      second = omega arith

  -- ---- bits
  pub bits_join : (n m i l : ℕ) → l < 2 ^ m → bits_of N n i ++ bits_of N m l ≡ bits_of N (n + m) (i * 2 ^ m + l)
  unfolding bits_of
  bits_join zero m i l h = sym (bits_above R m i l) ∙ ap (λ (k : ℕ). bits_of N k (i * 2 ^ m + l)) (sym (zero-add m))
  bits_join (suc n) m i l h =
      ap₂ {C = List K} (λ (b : ℕ) rest. nat (b % 2) ∷ rest) same (bits_join n m i l h)
      ∙ ap (λ (k : ℕ). bits_of N k (i * 2 ^ m + l)) (sym (suc-add n m))
    where
      same : i / 2 ^ n ≡ (i * 2 ^ m + l) / 2 ^ (n + m)
      same =
          sym
          (ap (λ (d : ℕ). (i * 2 ^ m + l) / d) (pow-add 2 n m ∙ mul_comm (2 ^ n) (2 ^ m))
          ∙ sym (div-div-eq-div-mul (i * 2 ^ m + l) (2 ^ m) (2 ^ n))
          ∙ ap (λ (q : ℕ). q / 2 ^ n) (mul-add-div_right (pow_pos m) i l ∙ ap (λ (q : ℕ). i + q) (div-eq_of_lt h) ∙ add-zero i))
