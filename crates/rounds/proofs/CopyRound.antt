-- One round of the copies' variables: the pass over rows and gates gives the sum over the corners that are left.
-- At the bits of a row, tables are lines in the round's variable, between the row and its partner in the upper half.
use Rattle.std.proofs.Common.{◌≡◌, ℕ, zero, suc, ◌+◌, ◌*◌, ◌^◌, ◌<◌, ◌≤◌, List, [], ◌∷◌, ◌++◌, length, get_or, drop, sym, refl, ap, ◌∙◌, ap₂, mul-le-mul_right, add-mul, arith, get_or-drop, get_or-take, get_or-append-add, pow-add}
use lib.ListN.{get_or-append}
use Rattle.arithmetic.specs.Numbers.{Numbers}
use Rattle.arithmetic.proofs.Ring.{Ring, reduce-mul}
use Rattle.arithmetic.proofs.Solver.{var, con, ◌:+◌, ◌:*◌, ◌:-◌, red, solve}
use Rattle.tables.specs.InPlace.{on_line}
use Rattle.tables.specs.Multilinear.{mle, bits_of, sum_corners}
use Rattle.tables.proofs.Extension.{mle_halves}
use Rattle.tables.proofs.Places.{halves, placed}
use Rattle.circuits.specs.Circuit.{Gate, combine}
use Rattle.argument.proofs.Copies.{Reads}
use Rattle.rounds.specs.Phases.{gate_sum, copy_sum}
use Rattle.rounds.specs.Rows.{row, row_sum, rows_sum}
use Rattle.rounds.proofs.AlongPlaces.{sum_along, along_corners, bits_join}

module _ {K : Type 0} {N : Numbers K} (R : Ring N) where
  open N use {reduce, add, sub, mul, nat}

  -- a table at the bits of a place is a line in its first variable
  pub on_line_at : (k : ℕ) (xs : List K) (j : ℕ) (t : K) → length xs ≡ 2 ^ suc k → j < 2 ^ k →
      mle N xs (t ∷ bits_of N k j) ≡ on_line N t (get_or xs j (nat 0)) (get_or xs (2 ^ k + j) (nat 0))
  on_line_at k xs j t e h = go (halves k xs e)
    where
      go : (lo : List K) × (hi : List K) × (xs ≡ lo ++ hi) × (length lo ≡ 2 ^ k) × (length hi ≡ 2 ^ k) →
          mle N xs (t ∷ bits_of N k j) ≡ on_line N t (get_or xs j (nat 0)) (get_or xs (2 ^ k + j) (nat 0))
      go (lo, hi, s, a, b) =
          let first : get_or xs j (nat 0) ≡ get_or lo j (nat 0) =
          ap (λ (l : List K). get_or l j (nat 0)) s ∙ get_or-append lo hi (nat 0) j (omega arith) in
          let second : get_or xs (2 ^ k + j) (nat 0) ≡ get_or hi j (nat 0) =
          ap₂ (λ (l : List K) (p : ℕ). get_or l (p + j) (nat 0)) s (sym a) ∙ get_or-append-add lo hi j (nat 0) in
          ap (λ (l : List K). mle N l (t ∷ bits_of N k j)) s
          ∙ mle_halves R lo hi t (bits_of N k j) (a ∙ sym b)
          ∙ ap₂ (on_line N t) (placed R k lo j a h) (placed R k hi j b h)
          ∙ solve R (t ∷ get_or lo j (nat 0) ∷ get_or hi j (nat 0) ∷ [])
          ((con 1 :- var 0) :* red (var 1) :+ var 0 :* red (var 2)) ((con 1 :- var 0) :* var 1 :+ var 0 :* var 2) refl
          ∙ sym (ap₂ (on_line N t) first second)

  -- a place of a row, in the whole table
  row_at : (m i l : ℕ) (v : List K) → l < 2 ^ m → get_or (row m i v) l (nat 0) ≡ get_or v (i * 2 ^ m + l) (nat 0)
  row_at m i l v h = get_or-take (2 ^ m) (drop (i * 2 ^ m) v) l (nat 0) h ∙ get_or-drop (i * 2 ^ m) v l (nat 0)

  within : (n m i l : ℕ) → i < 2 ^ n → l < 2 ^ m → i * 2 ^ m + l < 2 ^ (n + m)
  within n m i l h k =
      let whole : 2 ^ (n + m) ≡ 2 ^ n * 2 ^ m = pow-add 2 n m in
      let rows : (i + 1) * 2 ^ m ≤ 2 ^ n * 2 ^ m = mul-le-mul_right (2 ^ m) (omega arith) in
      omega (arith, add-mul i 1 (2 ^ m))

  below_at : (n m : ℕ) (v : List K) (i l : ℕ) (t : K) → length v ≡ 2 ^ (suc n + m) → i < 2 ^ n → l < 2 ^ m →
      mle N v ((t ∷ bits_of N n i) ++ bits_of N m l) ≡
      on_line N t (get_or (row m i v) l (nat 0)) (get_or (row m (2 ^ n + i) v) l (nat 0))
  below_at n m v i l t e h k =
      let place : 2 ^ (n + m) + (i * 2 ^ m + l) ≡ (2 ^ n + i) * 2 ^ m + l =
      omega (arith, pow-add 2 n m, add-mul (2 ^ n) i (2 ^ m)) in
      let long : length v ≡ 2 ^ suc (n + m) = e ∙ ap (λ (s : ℕ). 2 ^ s) (omega arith) in
      ap (λ (z : List K). mle N v (t ∷ z)) (bits_join R n m i l k)
      ∙ on_line_at (n + m) v (i * 2 ^ m + l) t long (within n m i l h k)
      ∙ ap₂ (on_line N t) (sym (row_at m i l v k)) (ap (λ (p : ℕ). get_or v p (nat 0)) place ∙ sym (row_at m (2 ^ n + i) l v k))

  gate_sum-row : (n m : ℕ) (gs : List Gate) (ws v : List K) (i : ℕ) (t : K) → length v ≡ 2 ^ (suc n + m) → i < 2 ^ n → Reads (2 ^ m) gs →
      gate_sum N m gs ws v (t ∷ bits_of N n i) ≡ row_sum N gs ws (row m i v) (row m (2 ^ n + i) v) t
  unfolding gate_sum row_sum
  gate_sum-row n m [] ws v i t e h reads = refl
  gate_sum-row n m (g ∷ gs) [] v i t e h reads = refl
  gate_sum-row n m (g ∷ gs) (w ∷ ws) v i t e h reads =
      ap₂ add
      (ap₂ (λ a b. mul w (combine N g.kind a b)) (below_at n m v i g.left t e h reads.0) (below_at n m v i g.right t e h reads.1))
      (gate_sum-row n m gs ws v i t e h reads.2)

  module _ (n m : ℕ) (gs : List Gate) (ws e v : List K) (le : length e ≡ 2 ^ suc n) (lv : length v ≡ 2 ^ (suc n + m)) (reads : Reads (2 ^ m) gs) where
    rows_along : (t : K) (i c : ℕ) → i + c ≤ 2 ^ n →
        rows_sum N m gs ws (2 ^ n) e v i c t ≡ sum_along N n i c (λ z. copy_sum N m gs ws e v (t ∷ z))
    unfolding rows_sum sum_along
    rows_along t i zero h = refl
    rows_along t i (suc c) h =
        let inside : i < 2 ^ n = omega arith in
        ap₂ add (sym (ap₂ mul (on_line_at n e i t le inside) (gate_sum-row n m gs ws v i t lv inside reads)))
        (rows_along t (i + 1) c (omega arith))

    pub copy_round : (t : K) → rows_sum N m gs ws (2 ^ n) e v 0 (2 ^ n) t ≡ sum_corners N n (λ z. copy_sum N m gs ws e v (t ∷ z))
    copy_round t =
        rows_along t 0 (2 ^ n) (omega arith)
        ∙ along_corners R n (λ z. copy_sum N m gs ws e v (t ∷ z)) (λ z. reduce-mul R (mle N e (t ∷ z)) (gate_sum N m gs ws v (t ∷ z)))
