-- What a pass over a table's two halves has left of them, place by place and row by row.
-- After k turns, the next place is the k-th of each half.
use Rattle.std.proofs.Common.{◌≡◌, ℕ, ◌+◌, ◌-◌, ◌*◌, ◌/◌, ◌^◌, ◌<◌, ◌≤◌, ◌⊎◌, ⊎_elim, List, ◌∷◌, ◌++◌, length, get_or, take, drop, sym, ap, ◌∙◌, mul-le-mul_right, add-mul, arith, length-drop, length-take, get_or-drop, get_or-take}
use native.Mathlib.Decide.{dec_lt}
use Rattle.std.proofs.lemmas.List.{drop_more, take_at, drop_at, take-take, drop-drop, drop-take}
use Rattle.rounds.specs.Rows.{row}

-- the front of what is left of a list
front_of : (k : ℕ) (xs : List ℕ) (a : ℕ) (ys : List ℕ) → drop k xs ≡ a ∷ ys → (k < length xs) × (a ≡ get_or xs k 0) × (ys ≡ drop (k + 1) xs)
front_of k xs a ys e =
    let inside : k < length xs = omega (arith, length-drop k xs, ap length e) in
    let more = drop_more xs k 0 inside in
    (inside, cc, cc)

pub record HalvesLeft (k : ℕ) (xs low high : List ℕ) : Type 0 where
  pub low_is : low ≡ drop k (take (length xs / 2) xs)
  pub high_is : high ≡ drop k (drop (length xs / 2) xs)

pub halves_more : {k : ℕ} {xs low high : List ℕ} → HalvesLeft k xs low high → {a b : ℕ} {low-after high-after : List ℕ} → low ≡ a ∷ low-after → high ≡ b ∷ high-after →
    (k < length xs / 2) × (a ≡ get_or xs k 0) × (b ≡ get_or xs (length xs / 2 + k) 0) × HalvesLeft (k + 1) xs low-after high-after
halves_more {k} {xs} {low} {high} h {a} {b} {low-after} {high-after} l m =
    let half : ℕ = length xs / 2 in
    let (inside, at, after) = front_of k (take half xs) a low-after (sym h.low_is ∙ l) in
    let (inside-high, at-high, after-high) = front_of k (drop half xs) b high-after (sym h.high_is ∙ m) in
    let before : k < half = omega (arith, length-take half xs) in
    (before, at ∙ get_or-take half xs k 0 before, at-high ∙ get_or-drop half xs k 0, record { low_is = after; high_is = after-high })

pub halves_end : {k : ℕ} {xs low high : List ℕ} → HalvesLeft k xs low high → (length low ≡ 0) ⊎ (length high ≡ 0) → length xs / 2 ≤ k
halves_end {k} {xs} {low} {high} h end =
    let half : ℕ = length xs / 2 in
    ⊎_elim
    (λ e. omega (arith, ap length h.low_is, length-drop k (take half xs), length-take half xs))
    (λ e. omega (arith, ap length h.high_is, length-drop k (drop half xs), length-drop half xs)) end

-- rows of 2^m numbers
pub record RowsLeft (m half k : ℕ) (v low high : List ℕ) : Type 0 where
  pub low_is : low ≡ drop (k * 2 ^ m) (take (half * 2 ^ m) v)
  pub high_is : high ≡ drop (k * 2 ^ m) (drop (half * 2 ^ m) v)

chunk_of : (n k : ℕ) (xs x ys : List ℕ) → drop (k * n) xs ≡ x ++ ys → length x ≡ n → (x ≡ take n (drop (k * n) xs)) × (ys ≡ drop ((k + 1) * n) xs)
chunk_of n k xs x ys e long =
    let next : k * n + n ≡ (k + 1) * n = omega (arith, add-mul k 1 n) in
    (sym (ap (take n) e ∙ take_at x ys n long), sym (ap (λ (i : ℕ). drop i xs) (sym next) ∙ sym (drop-drop n (k * n) xs) ∙ ap (drop n) e ∙ drop_at x ys n long))

pub rows_left_more : {m half k : ℕ} {v low high : List ℕ} → RowsLeft m half k v low high → k < half → {lo hi low-after high-after : List ℕ} →
    low ≡ lo ++ low-after → length lo ≡ 2 ^ m → high ≡ hi ++ high-after → length hi ≡ 2 ^ m →
    (lo ≡ row m k v) × (hi ≡ row m (half + k) v) × RowsLeft m half (k + 1) v low-after high-after
rows_left_more {m} {half} {k} {v} {low} {high} h before {lo} {hi} {low-after} {high-after} l long-lo r long-hi =
    let n : ℕ = 2 ^ m in
    let (at, after) = chunk_of n k (take (half * n) v) lo low-after (sym h.low_is ∙ l) long-lo in
    let (at-high, after-high) = chunk_of n k (drop (half * n) v) hi high-after (sym h.high_is ∙ r) long-hi in
    let one_more : k + 1 ≤ half = omega arith in
    let whole : (k + 1) * n ≤ half * n = mul-le-mul_right n one_more in
    let parts : half * n ≡ k * n + (half * n - k * n) = omega (arith, add-mul k 1 n) in
    let enough : n ≤ half * n - k * n = omega (arith, add-mul k 1 n) in
    let cut : take n (drop (k * n) (take (half * n) v)) ≡ take n (drop (k * n) v) =
    ap (λ (i : ℕ). take n (drop (k * n) (take i v))) parts ∙ ap (take n) (drop-take (k * n) (half * n - k * n) v) ∙ take-take n (half * n - k * n) (drop (k * n) v) enough
    in
    let place : half * n + k * n ≡ (half + k) * n = sym (add-mul half k n) in
    (at ∙ cut, at-high ∙ ap (take n) (drop-drop (k * n) (half * n) v ∙ ap (λ (i : ℕ). drop i v) place), record { low_is = after; high_is = after-high })

pub rows_left_end : {m half k : ℕ} {v low high : List ℕ} (e : ℕ) → RowsLeft m half k v low high → length v ≡ e * 2 ^ m → half ≡ e / 2 →
    (length low < 2 ^ m) ⊎ (length high < 2 ^ m) → half ≤ k
rows_left_end {m} {half} {k} {v} {low} {high} e h long middle end = go (dec_lt k half)
  where
    n : ℕ
    n = 2 ^ m

    go : Dec (k < half) → half ≤ k
    go (no c) = omega arith
    go (yes c) =
        let one_more : k + 1 ≤ half = omega arith in
        let low_rows : (k + 1) * n ≤ half * n = mul-le-mul_right n one_more in
        let twice : half + half ≤ e = omega arith in
        let all_rows : (half + half) * n ≤ e * n = mul-le-mul_right n twice in
        absurd
        (⊎_elim
        (λ s. omega (arith, ap length h.low_is, length-drop (k * n) (take (half * n) v), length-take (half * n) v, add-mul k 1 n, add-mul half half n))
        (λ s. omega (arith, ap length h.high_is, length-drop (k * n) (drop (half * n) v), length-drop (half * n) v, add-mul k 1 n, add-mul half half n)) end)
