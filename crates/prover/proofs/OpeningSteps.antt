-- The prover at the outputs' layer says what the honest prover says after the first coins.
-- Its words are parts of the circuit's and of these coins.
use Rattle.std.proofs.Common.{◌≡◌, ℕ, ◌+◌, ◌^◌, ◌<◌, ◌≤◌, true, ◌&&◌, leb, List, [], ◌∷◌, ◌++◌, length, take, drop, None, sym, ap, ◌∙◌, ap₂, arith}
use Rattle.std.proofs.lemmas.List.{drop-take, take-take, take_at, drop_at, length-take-le}
use Rattle.std.proofs.lemmas.Bool.{and_parts, leb-true}
use Rattle.arithmetic.specs.Numbers.{modulo}
use Rattle.circuits.specs.Circuit.{Layer, Circuit, size_below, output_size, outputs, lawful, layers_fit}
use Rattle.circuits.specs.Views.{layers_seen, copies_above, inputs_below}
use Rattle.circuits.specs.Words.{modulus, is_circuit, circuit_of, word, shaped}
use Rattle.circuits.specs.declared.view.LayersView.{LayersView}
use Rattle.argument.specs.Claims as claims
use Rattle.argument.specs.Argument.{first_coins, layer_coins, first_claim}
use Rattle.argument.specs.Honest.{honest, honest_from}
use Rattle.argument.specs.Transcript.{layer_words}
use Rattle.claims.specs.Meaning.{shares_meant}
use Rattle.claims.specs.declared.claim.Share.{Share}
use Rattle.prover.specs.Provers.{Begins, speaks, Opened}
use Rattle.phases.specs.Standing.{claim_on}
use Rattle.prover.specs.declared.prover.HonestProver.{HonestProver}
use Rattle.prover.proofs.Telling.{any_total}

-- words of a circuit are those of a lawful one
pub circuit_lawful : (ws : List ℕ) → is_circuit ws ≡ true → lawful (circuit_of ws) ≡ true
circuit_lawful ws h =
    let a = leb 3 (length ws) in
    let b = leb (length ws) (2 ^ 19) in
    let c = leb (word ws 0 + word ws 1) 16 in
    let d = leb 1 (word ws 2) in
    let e = leb (word ws 2) 32 in
    let f = shaped (word ws 0) (word ws 2) (drop 3 ws) in
    let g = lawful (circuit_of ws) in
    let p = and_parts a (b && (c && (d && (e && (f && g))))) h in
    let q = and_parts b (c && (d && (e && (f && g)))) p.1 in
    let r = and_parts c (d && (e && (f && g))) q.1 in
    let s = and_parts d (e && (f && g)) r.1 in
    let t = and_parts e (f && g) s.1 in
    (and_parts f g t.1).1

-- so it has a layer
pub circuit_some : (ws : List ℕ) → is_circuit ws ≡ true → 0 < length (circuit_of ws).layers
circuit_some ws h =
    let c = circuit_of ws in
    leb-true 1 (length c.layers) (and_parts (leb 1 (length c.layers)) (layers_fit c.layers c.inputs) (circuit_lawful ws h)).0

-- at the layers of a circuit, with a share of factor 1 that was cut out of the coins
module _ (c : Circuit) (vs coins copy : List ℕ) (ls : LayersView) (first : Share) (r : HonestProver) (ec : copies_above ls ≡ c.copies)
    (ei : inputs_below ls ≡ c.inputs) (el : layers_seen ls ≡ c.layers) (begun : Begins ls vs copy (record { first = first; second = None }) r)
    (e1 : first.factor ≡ 1) (ic : take c.copies copy ≡ take c.copies coins)
    (ix : take (output_size c) first.point ≡ take (output_size c) (drop c.copies coins)) (enough : first_coins c ≤ length coins) where
  abbrev z : List ℕ
  z = take (first_coins c) coins

  opened_says : (later : List ℕ) → speaks r later ≡ honest (modulo modulus) c vs (z ++ later)
  opened_says later =
      let N = modulo modulus in
      let make : ℕ → List ℕ → claims.Share ℕ = λ f xs. record { factor = f; point = xs } in
      let go : List ℕ → List (claims.Share ℕ) → List ℕ = λ d shares. honest_from N c.copies c.layers c.inputs vs (claim_on d shares) later in
      let long : length z ≡ first_coins c = length-take-le (first_coins c) coins enough in
      let C : take c.copies copy ≡ take c.copies z = ic ∙ sym (take-take c.copies (first_coins c) coins (omega arith)) in
      let X : take (output_size c) first.point ≡ drop c.copies z = ix ∙ sym (drop-take c.copies (output_size c) coins) in
      begun.says later
      ∙ ap₂ (λ (n i : ℕ). honest_from N n (layers_seen ls) i vs (claim_on (take n copy) (shares_meant (size_below (layers_seen ls) i) (record { first = first; second = None }))) later) ec ei
      ∙ ap (λ (qs : List Layer). honest_from N c.copies qs c.inputs vs (claim_on (take c.copies copy) (shares_meant (size_below qs c.inputs) (record { first = first; second = None }))) later) el
      ∙ ap (λ (f : ℕ). go (take c.copies copy) (make f (take (output_size c) first.point) ∷ [])) e1
      ∙ ap₂ (λ (d x : List ℕ). go d (make 1 x ∷ [])) C X
      ∙ sym (any_total N c.copies c.layers c.inputs vs (first_claim N c (outputs N c vs) z) 0 later)
      ∙ sym
      (ap₂ (λ (d e : List ℕ). honest_from N c.copies c.layers c.inputs vs (first_claim N c (outputs N c vs) d) e)
      (take_at z later (first_coins c) long) (drop_at z later (first_coins c) long))

  pub opened : Opened c vs coins r
  opened =
      record {
        none = begun.none;
        says = opened_says;
        coins_are = begun.coins ∙ ap₂ (λ (n i : ℕ). layer_coins n (layers_seen ls) i) ec ei ∙ ap (λ (qs : List Layer). layer_coins c.copies qs c.inputs) el;
        words_are = begun.words ∙ ap₂ (λ (n i : ℕ). layer_words n (layers_seen ls) i) ec ei ∙ ap (λ (qs : List Layer). layer_words c.copies qs c.inputs) el;
      }
