-- Each way out is one part of the test, by its order.
use Rattle.std.proofs.Common.{◌≡◌, ℕ, suc, ◌+◌, ◌-◌, ◌*◌, ◌/◌, ◌^◌, ◌<◌, ◌≤◌, Bool, true, false, List, ◌∷◌, length, take, drop, sym, ◌∙◌, ap, ap₂, arith}
use Rattle.std.proofs.lemmas.List.{length-take-le}
use Rattle.std.proofs.lemmas.Bool.Decides.{nat_tests}
use Rattle.circuits.specs.Words.{kinds_known}
use Rattle.circuits.specs.Parts.{starts_layer, layer_length}
use Rattle.circuits.proofs.Steps.{kinds_front}
use Rattle.circuits.proofs.shape.skip_layer.Goals as goal

starts_none : (copies : ℕ) (ws : List ℕ) → length ws ≡ 0 → starts_layer copies ws ≡ false
unfolding starts_layer
starts_none copies ws e = grind (arith, nat_tests)

module _ (copies s : ℕ) (ws rest : List ℕ) (e : ws ≡ s ∷ rest) where
  starts_large : 16 - copies < s → copies ≤ 16 → starts_layer copies ws ≡ false
  unfolding starts_layer
  starts_large h k = ap (starts_layer copies) e ∙ grind (arith, nat_tests)

  starts_short : length rest < 3 * 2 ^ s → starts_layer copies ws ≡ false
  unfolding starts_layer
  starts_short h = ap (starts_layer copies) e ∙ grind (arith, nat_tests)

  starts_known : (n : ℕ) (gates : List ℕ) (b : Bool) → s ≤ 16 - copies → copies ≤ 16 → n ≡ 2 ^ s → 3 * n ≤ length rest → gates ≡ take (3 * n) rest →
      b ≡ kinds_known (length gates / 3) gates → starts_layer copies ws ≡ b
  unfolding starts_layer
  starts_known n gates b h k en long eg eb =
      let l : length gates ≡ 3 * n = ap length eg ∙ length-take-le (3 * n) rest long in
      let d : length gates / 3 ≡ n = omega arith in
      let f : kinds_known n (take (3 * n) rest) ≡ kinds_known n rest = kinds_front n (3 * n) rest (omega arith) in
      let known : b ≡ kinds_known (2 ^ s) rest = eb ∙ ap₂ kinds_known d eg ∙ f ∙ ap (λ j. kinds_known j rest) en in
      ap (starts_layer copies) e ∙ grind (arith, nat_tests)

  starts_rest : (n : ℕ) (others : List ℕ) → n ≡ 2 ^ s → others ≡ drop (3 * n) rest → others ≡ drop (layer_length ws) ws
  starts_rest n others en eo =
      let k : suc (3 * n) ≡ 1 + 3 * 2 ^ s = omega arith in
      eo ∙ ap (λ j. drop j (s ∷ rest)) k ∙ sym (ap (λ w. drop (layer_length w) w) e)

pub returns-in_err-size : goal.returns-in_err-size
returns-in_err-size c = rw c.from_residual.ensures (starts_none c.args.copies c.args.words.now c.in_err-size.ensures.cases)

pub returns-then-size-copies : goal.returns-then-size-copies
returns-then-size-copies c =
    starts_large c.args.copies c.in_ok-size.size.now c.args.words.now c.in_ok-size.rest.now c.in_ok-size.ensures.cases.0 c.if-size-copies.true (omega arith)

pub returns-in_err-gates : goal.returns-in_err-gates
returns-in_err-gates c =
    rw c.from_residual-in_err-gates.ensures
    (starts_short c.args.copies c.in_ok-size.size.now c.args.words.now c.in_ok-size.rest.now c.in_ok-size.ensures.cases.0
    (omega (arith, c.in_err-gates.ensures.cases, c.power.ensures.value)))

pub returns-then-kinds_known : goal.returns-then-kinds_known
returns-then-kinds_known c =
    let h = c.in_ok-gates.ensures in (
      starts_known c.args.copies c.in_ok-size.size.now c.args.words.now c.in_ok-size.rest.now c.in_ok-size.ensures.cases.0
          c.power.result c.in_ok-gates.gates.now true c.if-size-copies.false (omega arith) c.power.ensures.value h.cases.0 h.cases.1 c.if-kinds_known.ensures,
      starts_rest c.args.copies c.in_ok-size.size.now c.args.words.now c.in_ok-size.rest.now c.in_ok-size.ensures.cases.0
          c.power.result c.in_ok-gates.rest.now c.power.ensures.value h.cases.2,
    )

pub returns-else-kinds_known : goal.returns-else-kinds_known
returns-else-kinds_known c =
    let h = c.in_ok-gates.ensures in
    starts_known c.args.copies c.in_ok-size.size.now c.args.words.now c.in_ok-size.rest.now c.in_ok-size.ensures.cases.0
    c.power.result c.in_ok-gates.gates.now false c.if-size-copies.false (omega arith) c.power.ensures.value h.cases.0 h.cases.1 c.if-kinds_known.ensures
