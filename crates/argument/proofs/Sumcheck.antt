-- The sumcheck, over any function of degree below 4 in each variable and whatever comes after it.
-- A right total is believed with the honest answers; a wrong one gets by on at most 3 numbers in each round.
use Rattle.std.proofs.Common.{◌≡◌, ℕ, zero, suc, ◌+◌, ◌*◌, ◌^◌, ◌≤◌, Bool, true, false, ◌&&◌, eqb, List, [], ◌∷◌, length, sym, refl, ap, ◌∙◌, zero-le, suc-add, zero-add, zero-mul, suc-ne-zero, arith}
use native.Mathlib.Nat.{suc_inj}
use Rattle.std.proofs.lemmas.Bool.{and_parts, and_from, eqb-true}
use Rattle.arithmetic.specs.Numbers.{Numbers, all_reduced}
use Rattle.arithmetic.specs.Counting.{indicator, count_numbers, count_rows}
use Rattle.arithmetic.specs.Cubic.{interpolate}
use Rattle.arithmetic.proofs.Field.{Field, equal_false, equal_yes}
use Rattle.arithmetic.proofs.Counting.{Row, Coin, sum_rows_equal, sum_rows-zero, step}
use Rattle.arithmetic.proofs.Truth.{path_of_T, T_of_path}
use Rattle.arithmetic.proofs.Agreement.{agree, cubic, values_reduced}
use Rattle.tables.specs.Multilinear.{sum_corners}
use Rattle.argument.specs.Sumcheck.{Prover, after, well_formed, nth, four_values, rounds, respond}
use Rattle.argument.proofs.Smooth.{Smooth}

module _ {K : Type 0} {N : Numbers K} (F : Field N) where
  open N use {add, nat, equal, order}

  -- where a test fails on every row, it counts none
  pub none : (n bound : ℕ) (test : List K → Bool) → ((x : List K) → Row N n x → test x ≡ false) → count_rows N n test * order ≤ bound
  none n bound test h =
      rw (sum_rows-zero N n (λ x. indicator (test x)) (λ x r. ap indicator (h x r)), zero-mul order) zero-le

  -- One step: two tests, then a coin. If both tests pass, at most k coins are bad, and after any other the rest is bounded.
  pub coin_falls : (n k B : ℕ) (first second : Bool) (bad : K → Bool) (test : List K → Bool) (rest : K → List K → Bool) →
      ((c : K) (x : List K) → test (c ∷ x) ≡ first && (second && rest c x)) →
      (first ≡ true → second ≡ true → count_numbers N bad ≤ k) →
      (first ≡ true → second ≡ true → (c : K) → Coin N c → bad c ≡ false → count_rows N n (rest c) * order ≤ B * order ^ n) →
      count_rows N (suc n) test * order ≤ (k + B) * order ^ suc n
  coin_falls n k B true true bad test rest is few h =
      step N n k B bad test (few refl refl)
      (λ c r e.
      rw (sum_rows_equal N n (λ x. indicator (test (c ∷ x))) (λ x. indicator (rest c x)) (λ x s. ap indicator (is c x)))
      (h refl refl c r e))
  coin_falls n k B true false bad test rest is few h = none (suc n) ((k + B) * order ^ suc n) test all
    where
      all : (x : List K) → Row N (suc n) x → test x ≡ false
      all [] r = absurd r
      all (c ∷ x) r = is c x
  coin_falls n k B false second bad test rest is few h = none (suc n) ((k + B) * order ^ suc n) test all
    where
      all : (x : List K) → Row N (suc n) x → test x ≡ false
      all [] r = absurd r
      all (c ∷ x) r = is c x

  pub well : (n : ℕ) (answer : List K) → well_formed N n answer ≡ true → (length answer ≡ n) × (all_reduced N answer ≡ true)
  well n answer h =
      let p = and_parts (eqb (length answer) n) (all_reduced N answer) h in
      (eqb-true (length answer) n p.0, p.1)

  pub sumcheck : (n m B : ℕ) (G : List K → K) (next : List K → Prover K → K → List K → Bool) (f : Prover K) (total : K) →
      Smooth F.ring n G → (total ≡ sum_corners N n G → ⊥) →
      ((z : List K) → Row N n z → (g : Prover K) (v : K) → (v ≡ G z → ⊥) → count_rows N m (next z g v) * order ≤ B * order ^ m) →
      count_rows N (n + m) (rounds N n next f total) * order ≤ (3 * n + B) * order ^ (n + m)
  unfolding rounds sum_corners
  sumcheck zero m B G next f total smooth wrong h = rw (zero-add m, zero-add B) (h [] tt f total wrong)
  sumcheck (suc n) m B G next f total smooth wrong h =
      let g : K → K = λ t. sum_corners N n (λ z. G (t ∷ z)) in
      let right : List K = four_values N g in
      let answer : List K = f [] in
      let more : 3 * suc n + B ≡ 3 + (3 * n + B) = omega arith in
      rw (suc-add n m, more)
      (coin_falls (n + m) 3 (3 * n + B) (well_formed N 4 answer) (equal (add (nth N answer 0) (nth N answer 1)) total)
      (λ c. equal (interpolate N answer c) (interpolate N right c)) (rounds N (suc n) next f total)
      (λ c. rounds N n (λ point. next (c ∷ point)) (after c f) (interpolate N answer c)) (λ c x. refl)
      (λ w e. agree F answer right (well 4 answer w).0 refl (T_of_path (all_reduced N answer) (well 4 answer w).1) (values_reduced F g smooth.0)
      (λ d. wrong (sym (F.equal_true (add (nth N answer 0) (nth N answer 1)) total e) ∙ ap (λ (l : List K). add (nth N l 0) (nth N l 1)) d)))
      (λ w e c coin good. sumcheck n m B (λ z. G (c ∷ z)) (λ point. next (c ∷ point)) (after c f) (interpolate N answer c) (smooth.1 c)
      (λ d. equal_false F (interpolate N answer c) (interpolate N right c) good (d ∙ cubic F g smooth.0 c))
      (λ z r. h (c ∷ z) (coin, r))))

  -- ---- the honest prover
  pub answered : (n m : ℕ) (G : List K → K) (next : List K → Prover K → K → List K → Bool) (later : List K → Prover K) (total : K) →
      Smooth F.ring n G → total ≡ sum_corners N n G →
      ((z : List K) → length z ≡ n → (rest : List K) → length rest ≡ m → next z (later z) (G z) rest ≡ true) →
      (coins : List K) → length coins ≡ n + m → rounds N n next (respond N n G later) total coins ≡ true
  unfolding rounds respond sum_corners
  answered zero m G next later total smooth right h coins e = rw right (h [] refl coins (e ∙ zero-add m))
  answered (suc n) m G next later total smooth right h [] e = absurd (suc-ne-zero (n + m) (sym (e ∙ suc-add n m)))
  answered (suc n) m G next later total smooth right h (r ∷ coins) e =
      let g : K → K = λ t. sum_corners N n (λ z. G (t ∷ z)) in
      let ys : List K = four_values N g in
      let further : Bool = rounds N n (λ point. next (r ∷ point)) (after r (respond N (suc n) G later)) (interpolate N ys r) coins in
      and_from (well_formed N 4 ys) (equal (add (g (nat 0)) (g (nat 1))) total && further)
      (path_of_T (all_reduced N ys) (values_reduced F g smooth.0))
      (and_from (equal (add (g (nat 0)) (g (nat 1))) total) further
      (equal_yes F (add (g (nat 0)) (g (nat 1))) total (sym right))
      (answered n m (λ z. G (r ∷ z)) (λ point. next (r ∷ point)) (λ z. later (r ∷ z)) (interpolate N ys r) (smooth.1 r)
      (sym (cubic F g smooth.0 r)) (λ z l. h (r ∷ z) (ap suc l)) coins (suc_inj (e ∙ suc-add n m))))
