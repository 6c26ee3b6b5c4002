-- The steps of one round's pass, for the numbers modulo p: four values of a line, and four sums after so many places.
-- At the end the sums are the round's values.
use Rattle.std.proofs.Common.{◌≡◌, ℕ, suc, ap₂, ◌+◌, ◌/◌, ◌^◌, ◌<◌, ◌≤◌, T, List, [], ◌∷◌, length, get_or, sym, refl, ap, ◌∙◌, mod-eq_of_lt, arith}
use Rattle.arithmetic.specs.Numbers.{modulo, all_reduced}
use Rattle.arithmetic.proofs.Modulo.{ring_modulo}
use Rattle.arithmetic.proofs.Solver.{var, con, ◌:+◌, ◌:*◌, ◌:-◌, solve}
use Rattle.argument.specs.Sumcheck.{four_values}
use Rattle.tables.specs.InPlace.{on_line}
use Rattle.tables.specs.Multilinear.{sum_corners}
use Rattle.tables.proofs.ReducedLists.{reduced_anywhere}
use Rattle.rounds.specs.Phases.{product_sum}
use Rattle.rounds.specs.Fours.{FourOf}
use Rattle.rounds.proofs.FourSteps.{four_same, four_zeros}
use Rattle.rounds.proofs.Halves.{HalvesLeft, halves_more}
use Rattle.rounds.proofs.RoundSums.{sum_first, sum_first_more, product_of, round_places}

-- a line by steps
pub line_four : (p : ℕ) → 1 < p → (a b : ℕ) → a < p → b < p →
    let N = modulo p in
    let step : ℕ = N.sub b a in
    let next : ℕ = N.add b step in
    ◌≡◌ {A = List ℕ} (a ∷ b ∷ next ∷ N.add next step ∷ []) (four_values N (λ t. on_line N t a b))
line_four p h a b below-a below-b =
    let R = ring_modulo p h in
    let env : List ℕ = a ∷ b ∷ [] in
    let at0 = solve R env (var 0) ((con 1 :- con 0) :* var 0 :+ con 0 :* var 1) refl in
    let at1 = solve R env (var 1) ((con 1 :- con 1) :* var 0 :+ con 1 :* var 1) refl in
    let at2 = solve R env (var 1 :+ (var 1 :- var 0)) ((con 1 :- con 2) :* var 0 :+ con 2 :* var 1) refl in
    let at3 = solve R env (var 1 :+ (var 1 :- var 0) :+ (var 1 :- var 0)) ((con 1 :- con 3) :* var 0 :+ con 3 :* var 1) refl in
    let same-a = mod-eq_of_lt below-a in
    let same-b = mod-eq_of_lt below-b in
    cc (at0, at1, at2, at3, same-a, same-b)

-- the four values that a place gives
abbrev pub PlaceLine : ℕ → ℕ → List ℕ → ℕ → List ℕ → Type 0
PlaceLine p half xs i s = s ≡ four_values (modulo p) (λ t. on_line (modulo p) t (get_or xs i 0) (get_or xs (half + i) 0))

-- The places of the lower half that are done, with their partners: what is left of three tables, and the sums over what is done.
pub record PlacesPassed (p : ℕ) (v h j low-v high-v low-h high-h low-j high-j s : List ℕ) : Type 0 where
  pub done : ℕ
  pub within : done ≤ length v / 2
  pub v_left : HalvesLeft done v low-v high-v
  pub h_left : HalvesLeft done h low-h high-h
  pub j_left : HalvesLeft done j low-j high-j
  pub sums : FourOf p (λ t. sum_first (modulo p) done (product_of (modulo p) (length v / 2) v h j t)) s

pub places_none : {p : ℕ} → 0 < p → {v h j low-v high-v low-h high-h low-j high-j : List ℕ} →
    HalvesLeft 0 v low-v high-v → HalvesLeft 0 h low-h high-h → HalvesLeft 0 j low-j high-j →
    PlacesPassed p v h j low-v high-v low-h high-h low-j high-j (0 ∷ 0 ∷ 0 ∷ 0 ∷ [])
unfolding sum_first
places_none {p} positive a b c =
    record { done = 0; within = omega arith; v_left = a; h_left = b; j_left = c; sums = four_zeros p positive _ (λ t. refl) }

-- the two numbers of a place are below p
pub halves_below : {p k : ℕ} {xs low high : List ℕ} → HalvesLeft k xs low high → {a b : ℕ} {low-after high-after : List ℕ} → low ≡ a ∷ low-after → high ≡ b ∷ high-after →
    0 < p → T (all_reduced (modulo p) xs) → (a < p) × (b < p)
halves_below {p} {k} {xs} left l m positive t =
    let (before, at, at-high, after) = halves_more left l m in
    (rw at (reduced_anywhere p positive xs t k), rw at-high (reduced_anywhere p positive xs t (length xs / 2 + k)))

pub places_more : {p : ℕ} {v h j low-v high-v low-h high-h low-j high-j s : List ℕ} → (passed : PlacesPassed p v h j low-v high-v low-h high-h low-j high-j s) →
    length h ≡ length v → length j ≡ length v → {v0 v1 h0 h1 j0 j1 : ℕ} {low-v' high-v' low-h' high-h' low-j' high-j' : List ℕ} →
    low-v ≡ v0 ∷ low-v' → high-v ≡ v1 ∷ high-v' → low-h ≡ h0 ∷ low-h' → high-h ≡ h1 ∷ high-h' → low-j ≡ j0 ∷ low-j' → high-j ≡ j1 ∷ high-j' → (r : List ℕ) →
    FourOf p
    (λ t. (modulo p).add (sum_first (modulo p) passed.done (product_of (modulo p) (length v / 2) v h j t))
    ((modulo p).add ((modulo p).mul (on_line (modulo p) t v0 v1) (on_line (modulo p) t h0 h1)) (on_line (modulo p) t j0 j1))) r →
    PlacesPassed p v h j low-v' high-v' low-h' high-h' low-j' high-j' r
places_more {p} {v} {h} {j} passed eh ej a b c d e f r sums =
    let half : ℕ = length v / 2 in
    let k = passed.done in
    let half-h : length h / 2 ≡ half = ap (λ (m : ℕ). m / 2) eh in
    let half-j : length j / 2 ≡ half = ap (λ (m : ℕ). m / 2) ej in
    let (before, v-low, v-high, v-left) = halves_more passed.v_left a b in
    let (before-h, h-low, h-high, h-left) = halves_more passed.h_left c d in
    let (before-j, j-low, j-high, j-left) = halves_more passed.j_left e f in
    record {
      done = k + 1;
      within = omega arith;
      v_left = v-left;
      h_left = h-left;
      j_left = j-left;
      sums =
          four_same p _ _ r
          (λ t.
          ap₂ (λ (x y : ℕ). (modulo p).add (sum_first (modulo p) k (product_of (modulo p) half v h j t)) ((modulo p).add x y))
          (ap₂ (modulo p).mul (ap₂ (on_line (modulo p) t) v-low v-high) (ap₂ (on_line (modulo p) t) h-low (h-high ∙ ap (λ (m : ℕ). get_or h (m + k) 0) half-h)))
          (ap₂ (on_line (modulo p) t) j-low (j-high ∙ ap (λ (m : ℕ). get_or j (m + k) 0) half-j))
          ∙ sym (sum_first_more (modulo p) k (product_of (modulo p) half v h j t)))
          sums;
    }

-- a pass has taken all places when any half of its tables has no more
pub places_all : (p : ℕ) → 1 < p → {v h j low-v high-v low-h high-h low-j high-j s : List ℕ} (passed : PlacesPassed p v h j low-v high-v low-h high-h low-j high-j s) →
    length h ≡ length v → length j ≡ length v → length v / 2 ≤ passed.done → (n : ℕ) → length v ≡ 2 ^ suc n →
    s ≡ four_values (modulo p) (λ t. sum_corners (modulo p) n (λ z. product_sum (modulo p) v h j (t ∷ z)))
places_all p several {v} {h} {j} {s = s} passed eh ej end n e =
    let N = modulo p in
    let half : ℕ = length v / 2 in
    let within = passed.within in
    let all : passed.done ≡ half = omega arith in
    (four_same p _ (λ t. sum_corners N n (λ z. product_sum N v h j (t ∷ z))) s
    (λ t. ap (λ (m : ℕ). sum_first N m (product_of N half v h j t)) all ∙ sym (round_places (ring_modulo p several) n v h j t e eh ej))
    passed.sums).values
