-- A round's sum over corners as a sum over the places of the tables, in the order in which the pass goes.
-- With the first variable fixed at t, each place holds the number at t of the line through its two halves' numbers.
use Rattle.std.proofs.Common.{◌≡◌, ℕ, zero, suc, ◌+◌, ◌/◌, ◌^◌, ◌<◌, List, [], ◌∷◌, ◌++◌, length, get_or, take, drop, sym, refl, ap, ◌∙◌, ap₂, le_of_suc-le-suc, not-suc-le-zero, add-zero as nat_add_zero, add-suc, add-one, arith, length-drop, length-take, get_or-drop, get_or-take, get_or-append-add}
use native.Mathlib.Nat.{two-pow-succ}
use lib.ListN.{get_or-append}
use Rattle.arithmetic.specs.Numbers.{Numbers}
use Rattle.arithmetic.proofs.Ring.{Ring, reduce-add}
use Rattle.arithmetic.proofs.Solver.{var, con, ◌:+◌, ◌:*◌, red, solve}
use Rattle.tables.specs.InPlace.{on_line}
use Rattle.tables.specs.Multilinear.{blend, fix_first, mle, sum_corners}
use Rattle.tables.proofs.Corners.{sum_corners_same}
use Rattle.tables.proofs.Extension.{mle-zero, mle-one, fix_first-length}
use Rattle.tables.proofs.Places.{halves}
use Rattle.rounds.specs.Phases.{product_sum}

module _ {K : Type 0} (N : Numbers K) where
  open N use {add, mul, nat}

  -- f 0 + f 1 + .. + f (n - 1)
  unfoldable pub sum_first : ℕ → (ℕ → K) → K
  sum_first zero f = nat 0
  sum_first (suc n) f = add (sum_first n f) (f n)

  -- V H + J at a place
  abbrev pub product_at : List K → List K → List K → ℕ → K
  product_at v h j i = add (mul (get_or v i (nat 0)) (get_or h i (nat 0))) (get_or j i (nat 0))

  -- the number at t of the line through a place's numbers in the two halves
  abbrev pub line_of : ℕ → List K → ℕ → K → K
  line_of half xs i t = on_line N t (get_or xs i (nat 0)) (get_or xs (half + i) (nat 0))

  -- V H + J at a place, the first variable being t
  abbrev pub product_of : ℕ → List K → List K → List K → K → ℕ → K
  product_of half v h j t i = add (mul (line_of half v i t) (line_of half h i t)) (line_of half j i t)

  pub sum_first_same : (n : ℕ) (f g : ℕ → K) → ((i : ℕ) → i < n → f i ≡ g i) → sum_first n f ≡ sum_first n g
  unfolding sum_first
  sum_first_same zero f g e = refl
  sum_first_same (suc n) f g e = ap₂ add (sum_first_same n f g (λ i h. e i (omega arith))) (e n (omega arith))

  pub sum_first_more : (n : ℕ) (f : ℕ → K) → sum_first (n + 1) f ≡ add (sum_first n f) (f n)
  unfolding sum_first
  sum_first_more n f = ap (λ k. sum_first k f) (add-one n)

  blend_at : (t d : K) (i : ℕ) (xs ys : List K) → i < length xs → i < length ys →
      get_or (blend N t xs ys) i d ≡ on_line N t (get_or xs i d) (get_or ys i d)
  unfolding blend
  blend_at t d i [] ys h k = absurd (not-suc-le-zero h)
  blend_at t d i (x ∷ xs) [] h k = absurd (not-suc-le-zero k)
  blend_at t d zero (x ∷ xs) (y ∷ ys) h k = refl
  blend_at t d (suc i) (x ∷ xs) (y ∷ ys) h k = blend_at t d i xs ys (le_of_suc-le-suc h) (le_of_suc-le-suc k)

  pub fix_first_at : (t : K) (i : ℕ) (xs : List K) → i < length xs / 2 → get_or (fix_first N t xs) i (nat 0) ≡ line_of (length xs / 2) xs i t
  fix_first_at t i xs h =
      let half : ℕ = length xs / 2 in
      let low : i < length (take half xs) = rw length-take (omega arith) in
      let high : i < length (drop half xs) = rw length-drop (omega arith) in
      blend_at t (nat 0) i (take half xs) (drop half xs) low high
      ∙ ap₂ (λ a b. on_line N t a b) (get_or-take half xs i (nat 0) h) (get_or-drop half xs i (nat 0))

module _ {K : Type 0} {N : Numbers K} (R : Ring N) where
  open N use {reduce, add, mul, nat}

  reduce-sum_first : (n : ℕ) (f : ℕ → K) → reduce (sum_first N n f) ≡ sum_first N n f
  unfolding sum_first
  reduce-sum_first zero f = R.reduce_zero
  reduce-sum_first (suc n) f = reduce-add R _ _

  sum_first_split : (m n : ℕ) (f : ℕ → K) → sum_first N (m + n) f ≡ add (sum_first N m f) (sum_first N n (λ i. f (m + i)))
  unfolding sum_first
  sum_first_split m zero f = ap (λ k. sum_first N k f) (nat_add_zero m) ∙ sym (R.add_zero _ ∙ reduce-sum_first m f)
  sum_first_split m (suc n) f =
      ap (λ k. sum_first N k f) (add-suc m n)
      ∙ ap (λ x. add x (f (m + n))) (sum_first_split m n f)
      ∙ R.add_assoc _ _ _

  -- tables in two halves: the places of the lower halves, and then those of the upper ones
  places_halves : (k : ℕ) (v w h i j l : List K) → length v ≡ 2 ^ k → length h ≡ 2 ^ k → length j ≡ 2 ^ k →
      sum_first N (2 ^ suc k) (product_at N (v ++ w) (h ++ i) (j ++ l)) ≡ add (sum_first N (2 ^ k) (product_at N v h j)) (sum_first N (2 ^ k) (product_at N w i l))
  places_halves k v w h i j l a b c =
      ap (λ n. sum_first N n (product_at N (v ++ w) (h ++ i) (j ++ l))) (two-pow-succ k)
      ∙ sum_first_split (2 ^ k) (2 ^ k) (product_at N (v ++ w) (h ++ i) (j ++ l))
      ∙ ap₂ add
      (sum_first_same N (2 ^ k) _ _ (λ n s. ap₂ add (ap₂ mul (below v w n a s) (below h i n b s)) (below j l n c s)))
      (sum_first_same N (2 ^ k) _ _ (λ n s. ap₂ add (ap₂ mul (above v w n a) (above h i n b)) (above j l n c)))
    where
      below : (xs ys : List K) (n : ℕ) → length xs ≡ 2 ^ k → n < 2 ^ k → get_or (xs ++ ys) n (nat 0) ≡ get_or xs n (nat 0)
      below xs ys n e s = get_or-append xs ys (nat 0) n (omega arith)

      above : (xs ys : List K) (n : ℕ) → length xs ≡ 2 ^ k → get_or (xs ++ ys) (2 ^ k + n) (nat 0) ≡ get_or ys n (nat 0)
      above xs ys n e = ap (λ m. get_or (xs ++ ys) (m + n) (nat 0)) (sym e) ∙ get_or-append-add xs ys n (nat 0)

  -- the sum of V H + J over all corners is the sum over all places
  pub corners_places : (n : ℕ) (v h j : List K) → length v ≡ 2 ^ n → length h ≡ 2 ^ n → length j ≡ 2 ^ n →
      sum_corners N n (product_sum N v h j) ≡ sum_first N (2 ^ n) (product_at N v h j)
  unfolding sum_corners mle sum_first
  corners_places zero v h j a b c =
      solve R (get_or v 0 (nat 0) ∷ get_or h 0 (nat 0) ∷ get_or j 0 (nat 0) ∷ [])
      (red (var 0) :* red (var 1) :+ red (var 2)) (con 0 :+ (var 0 :* var 1 :+ var 2)) refl
  corners_places (suc k) v h j a b c =
      let (vl, vh, vs, vle, vhe) = halves k v a in
      let (hl, hh, hs, hle, hhe) = halves k h b in
      let (jl, jh, js, jle, jhe) = halves k j c in
      ap₂ (λ x y. sum_corners N (suc k) (product_sum N x y j)) vs hs
      ∙ ap (λ x. sum_corners N (suc k) (product_sum N (vl ++ vh) (hl ++ hh) x)) js
      ∙ ap₂ add
      (sum_corners_same R k _ _ (λ z. ap₂ add (ap₂ mul (mle-zero R vl vh z (vle ∙ sym vhe)) (mle-zero R hl hh z (hle ∙ sym hhe))) (mle-zero R jl jh z (jle ∙ sym jhe))) ∙ corners_places k vl hl jl vle hle jle)
      (sum_corners_same R k _ _ (λ z. ap₂ add (ap₂ mul (mle-one R vl vh z (vle ∙ sym vhe)) (mle-one R hl hh z (hle ∙ sym hhe))) (mle-one R jl jh z (jle ∙ sym jhe))) ∙ corners_places k vh hh jh vhe hhe jhe)
      ∙ sym (places_halves k vl vh hl hh jl jh vle hle jle)
      ∙ sym (ap₂ (λ x y. sum_first N (2 ^ suc k) (product_at N x y j)) vs hs ∙ ap (λ x. sum_first N (2 ^ suc k) (product_at N (vl ++ vh) (hl ++ hh) x)) js)

  -- a round's sum, as a function of its variable, by the places of the lower half
  pub round_places : (n : ℕ) (v h j : List K) (t : K) → length v ≡ 2 ^ suc n → length h ≡ length v → length j ≡ length v →
      sum_corners N n (λ z. product_sum N v h j (t ∷ z)) ≡ sum_first N (length v / 2) (product_of N (length v / 2) v h j t)
  unfolding mle
  round_places n v h j t a b c =
      let half : ℕ = length v / 2 in
      let size : 2 ^ n ≡ half = omega (arith, two-pow-succ n) in
      let half-h : length h / 2 ≡ half = ap (λ m. m / 2) b in
      let half-j : length j / 2 ≡ half = ap (λ m. m / 2) c in
      corners_places n (fix_first N t v) (fix_first N t h) (fix_first N t j) (fix_first-length R t v ∙ sym size) (fix_first-length R t h ∙ half-h ∙ sym size) (fix_first-length R t j ∙ half-j ∙ sym size)
      ∙ ap (λ m. sum_first N m (product_at N (fix_first N t v) (fix_first N t h) (fix_first N t j))) size
      ∙ sum_first_same N half _ _ (λ i s. ap₂ add (ap₂ mul (at v i refl s) (at h i half-h s)) (at j i half-j s))
    where
      at : (xs : List K) (i : ℕ) → length xs / 2 ≡ length v / 2 → i < length v / 2 → get_or (fix_first N t xs) i (nat 0) ≡ line_of N (length v / 2) xs i t
      at xs i e s = fix_first_at N t i xs (omega arith) ∙ ap (λ m. line_of N m xs i t) e
