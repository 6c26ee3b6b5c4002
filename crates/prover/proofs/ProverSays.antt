-- What the prover says at each of its stands is what the honest prover says after the same coins.
-- After the last coin of a layer it goes on as the prover of the layer below does.
use Rattle.std.proofs.Common.{◌≡◌, ℕ, ◌+◌, ◌≤◌, List, [], ◌∷◌, ◌++◌, length, take, drop, sym, ap, ◌∙◌, append_assoc, arith, length-drop}
use Rattle.std.proofs.lemmas.List.{length-take-le, take-append-drop, drop-drop}
use Rattle.arithmetic.specs.Numbers.{Numbers, modulo}
use Rattle.tables.specs.Multilinear.{mle, sum_corners}
use Rattle.circuits.specs.Circuit.{Layer}
use Rattle.circuits.specs.Views.{layer_seen, layers_seen, inputs_below}
use Rattle.circuits.specs.Words.{modulus}
use Rattle.argument.specs.Sumcheck.{Prover, respond}
use Rattle.argument.specs.Honest.{honest_from}
use Rattle.argument.specs.Argument.{claim_below}
use Rattle.prover.specs.Provers.{claim_held, values_held, copies_of, below_of, variables_of, history, speaks}
use Rattle.phases.specs.Standing.{claim_on, term_of}
use Rattle.prover.specs.declared.prover.HonestProver.{HonestProver}
use Rattle.prover.proofs.Telling.{after_copies, after_left, after_right, history_copies, history_left, history_right, history_values, history_next, any_total}

abbrev N : Numbers ℕ
N = modulo modulus

-- the coins of each part
pub split_left : (t : HonestProver) → (z : List ℕ) → take (copies_of t) (history t) ++ (drop (copies_of t) (history t) ++ z) ≡ history t ++ z
split_left t z =
    sym (append_assoc (take (copies_of t) (history t)) (drop (copies_of t) (history t)) z) ∙ ap (λ (d : List ℕ). d ++ z) (take-append-drop (copies_of t) (history t))

pub split_right : (t : HonestProver) → (z : List ℕ) →
    take (copies_of t) (history t) ++ (take (below_of t) (drop (copies_of t) (history t)) ++ (drop (copies_of t + below_of t) (history t) ++ z)) ≡ history t ++ z
split_right t z =
    let rest : List ℕ = drop (copies_of t) (history t) in
    ap (λ (d : List ℕ). take (copies_of t) (history t) ++ d)
    (ap (λ (d : List ℕ). take (below_of t) rest ++ (d ++ z)) (sym (drop-drop (below_of t) (copies_of t) (history t)))
    ∙ sym (append_assoc (take (below_of t) rest) (drop (below_of t) rest) z) ∙ ap (λ (d : List ℕ). d ++ z) (take-append-drop (below_of t) rest))
    ∙ split_left t z

module _ (t : HonestProver) where
  abbrev l : Layer
  l = layer_seen t.layer

  abbrev ls : List Layer
  ls = layers_seen t.rest

  abbrev inputs : ℕ
  inputs = inputs_below t.rest

  abbrev vs : List ℕ
  vs = t.inputs.now

  abbrev c : List ℕ
  c = take (copies_of t) (history t)

  abbrev x : List ℕ
  x = take (below_of t) (drop (copies_of t) (history t))

  abbrev y : List ℕ
  y = drop (copies_of t + below_of t) (history t)

  pub says_copies : (n : ℕ) → length (history t) + n ≡ copies_of t → (answer : List ℕ) →
      ((next : List ℕ → Prover ℕ) → answer ≡ respond N n
      (λ z. sum_corners N (below_of t) (λ x. sum_corners N (below_of t) (λ y. term_of modulus l (below_of t) (claim_held t) (values_held t) (history t ++ z) x y))) next []) →
      answer ≡ speaks t []
  says_copies n all answer is =
      let next : List ℕ → Prover ℕ = λ z. after_copies N (copies_of t) l ls inputs vs (claim_held t) (history t ++ z) in
      is next
      ∙ ap (λ (m : ℕ). respond N n (λ z. sum_corners N m (λ x. sum_corners N m (λ y. term_of modulus l m (claim_held t) (values_held t) (history t ++ z) x y))) next []) t.below
      ∙ sym (history_copies N (copies_of t) l ls inputs vs (claim_held t) (history t) n [] all)

  long_c : copies_of t ≤ length (history t) → length c ≡ copies_of t
  long_c enough = length-take-le (copies_of t) (history t) (omega arith)

  pub says_left : (n : ℕ) → copies_of t ≤ length (history t) → length (history t) + n ≡ copies_of t + below_of t → (answer : List ℕ) →
      ((next : List ℕ → Prover ℕ) → answer ≡ respond N n
      (λ z. sum_corners N (below_of t) (λ y. term_of modulus l (below_of t) (claim_held t) (values_held t) c (drop (copies_of t) (history t) ++ z) y)) next []) →
      answer ≡ speaks t []
  says_left n enough left answer is =
      let x : List ℕ = drop (copies_of t) (history t) in
      let next : List ℕ → Prover ℕ = λ z. after_left N (copies_of t) l ls inputs vs (claim_held t) c (x ++ z) in
      let all : length x + n ≡ below_of t = omega (arith, length-drop (copies_of t) (history t)) in
      is next
      ∙ ap (λ (m : ℕ). respond N n (λ z. sum_corners N m (λ y. term_of modulus l m (claim_held t) (values_held t) c (x ++ z) y)) next []) t.below
      ∙ sym (history_left N (copies_of t) l ls inputs vs (claim_held t) c x n [] (long_c enough) (all ∙ t.below))
      ∙ ap (honest_from N (copies_of t) (l ∷ ls) inputs vs (claim_held t)) (split_left t [])

  long_x : copies_of t + below_of t ≤ length (history t) → length x ≡ below_of t
  long_x enough = length-take-le (below_of t) (drop (copies_of t) (history t)) (omega (arith, length-drop (copies_of t) (history t)))

  pub says_right : (n : ℕ) → copies_of t + below_of t ≤ length (history t) → length (history t) + n ≡ variables_of t → (answer : List ℕ) →
      ((next : List ℕ → Prover ℕ) → answer ≡ respond N n
      (λ z. term_of modulus l (below_of t) (claim_held t) (values_held t) c x (y ++ z)) next []) →
      answer ≡ speaks t []
  says_right n enough left answer is =
      let next : List ℕ → Prover ℕ = λ z. after_right N (copies_of t) l ls inputs vs (claim_held t) c x (y ++ z) in
      let all : length y + n ≡ below_of t = omega (arith, length-drop (copies_of t + below_of t) (history t)) in
      is next
      ∙ ap (λ (m : ℕ). respond N n (λ z. term_of modulus l m (claim_held t) (values_held t) c x (y ++ z)) next []) t.below
      ∙ sym (history_right N (copies_of t) l ls inputs vs (claim_held t) c x y n [] (long_c (omega arith)) (long_x enough ∙ t.below) (all ∙ t.below))
      ∙ ap (honest_from N (copies_of t) (l ∷ ls) inputs vs (claim_held t)) (split_right t [])

  long_y : length (history t) ≡ variables_of t → length y ≡ below_of t
  long_y e = omega (arith, length-drop (copies_of t + below_of t) (history t))

  pub says_values : length (history t) ≡ variables_of t → mle N (values_held t) (c ++ x) ∷ mle N (values_held t) (c ++ y) ∷ [] ≡ speaks t []
  says_values e =
      sym (history_values N (copies_of t) l ls inputs vs (claim_held t) c x y (long_c (omega arith)) (long_x (omega arith) ∙ t.below) (long_y e ∙ t.below))
      ∙ ap (honest_from N (copies_of t) (l ∷ ls) inputs vs (claim_held t)) (split_right t [])

  -- the prover of the layer below goes on, whatever its claim's total is
  pub says_next : length (history t) ≡ variables_of t → (coin : ℕ) (later : List ℕ) →
      speaks t (coin ∷ later) ≡
      honest_from N (copies_of t) ls inputs vs (claim_on c (record { factor = 1; point = x } ∷ record { factor = coin; point = y } ∷ [])) later
  says_next e coin later =
      let V : List ℕ → ℕ = mle N (values_held t) in
      ap (honest_from N (copies_of t) (l ∷ ls) inputs vs (claim_held t)) (sym (split_right t (coin ∷ later)))
      ∙ history_next N (copies_of t) l ls inputs vs (claim_held t) c x y coin later (long_c (omega arith)) (long_x (omega arith) ∙ t.below) (long_y e ∙ t.below)
      ∙ any_total N (copies_of t) ls inputs vs (claim_below N c x y (V (c ++ x)) (V (c ++ y)) coin) 0 later
