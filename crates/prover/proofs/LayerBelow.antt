-- The prover at the first of some layers, before any coin: what it says, and how much is left of it.
-- After the last coin of a layer it is at the first of the layers below.
use Rattle.std.proofs.Common.{◌≡◌, ℕ, ◌+◌, ◌<◌, ◌≤◌, Bool, true, cond, List, [], ◌∷◌, ◌++◌, length, get_or, take, drop, Some, sym, ap, ◌∙◌, ap₂, arith, length-drop}
use native.Mathlib.Decide.{dec_lt}
use Rattle.std.proofs.lemmas.List.{drop_more, take_all}
use Rattle.std.proofs.lemmas.Bool.{le-ltb}
use Rattle.arithmetic.specs.Numbers.{modulo}
use Rattle.circuits.specs.Circuit.{Layer, size_below}
use Rattle.circuits.specs.Parts.{are_layers}
use Rattle.circuits.specs.Views.{layer_seen, layers_seen, copies_above, inputs_below, size_seen, no_layer}
use Rattle.circuits.specs.Words.{modulus, layers_of, shaped}
use Rattle.circuits.specs.declared.view.LayersView.{LayersView}
use Rattle.circuits.proofs.Parts.{layers_parts}
use Rattle.circuits.proofs.Steps.{shaped_starts, top_none, top_some}
use Rattle.argument.specs.Claims as claims
use Rattle.argument.specs.Argument.{layer_coins}
use Rattle.argument.specs.Honest.{honest_from}
use Rattle.argument.specs.Transcript.{layer_words}
use Rattle.claims.specs.Meaning.{shares_meant}
use Rattle.claims.specs.declared.claim.Share.{Share}
use Rattle.phases.specs.Standing.{claim_on}
use Rattle.prover.specs.Provers.{Begins, Heard, claim_held, copies_of, below_of, variables_of, history, answer_length, speaks}
use Rattle.prover.specs.declared.prover.HonestProver.{HonestProver}
use Rattle.prover.proofs.ProverSays.{says_next}

pub layers_some : (copies inputs : ℕ) (ls : List Layer) → 0 < layer_coins copies ls inputs → 0 < length ls
unfolding layer_coins
layers_some copies inputs [] h = absurd (omega arith)
layers_some copies inputs (l ∷ ls) h = omega arith

pub layers_split : (ls rest : List Layer) (l : Layer) → 0 < length ls → l ≡ get_or ls 0 no_layer → rest ≡ drop 1 ls → ls ≡ l ∷ rest
layers_split ls rest l h el er = drop_more ls 0 no_layer h ∙ sym (ap₂ {C = List Layer} (λ (a : Layer) (b : List Layer). a ∷ b) el er)

-- a part that was cut out, where its place and its length are known
pub cut_is : (a b from len : ℕ) (xs ys part : List ℕ) → a ≡ from → b ≡ len → xs ≡ ys → take b part ≡ take b (drop a xs) →
    take len part ≡ take len (drop from ys)
cut_is a b from len xs ys part ea eb ex is =
    ap (λ (n : ℕ). take n part) (sym eb) ∙ is ∙ ap₂ (λ (n k : ℕ). take n (drop k xs)) eb ea ∙ ap (λ (zs : List ℕ). take len (drop from zs)) ex

-- the limits of what lies below
pub top_limit : (copies inputs n : ℕ) (ws : List ℕ) → are_layers copies inputs n ws ≡ true → copies + size_below (layers_of n ws) inputs ≤ 16
top_limit copies inputs n ws h = go (dec_lt 0 n) (layers_parts copies inputs n ws h).limit (layers_parts copies inputs n ws h).form
  where
    go : Dec (0 < n) → copies + inputs ≤ 16 → shaped copies n ws ≡ true → copies + size_below (layers_of n ws) inputs ≤ 16
    go (yes some) limit form = omega (arith, top_some n inputs ws some, (shaped_starts copies n ws some form).limit)
    go (no none) limit form = let zero : n ≡ 0 = omega arith in omega (arith, top_none n inputs ws zero)

-- of a prover whose words are the first layer's and the rest's
module _ (ls : LayersView) (r : HonestProver) (el : layers_seen ls ≡ layer_seen r.layer ∷ layers_seen r.rest) (ec : copies_of r ≡ copies_above ls)
    (ei : inputs_below r.rest ≡ inputs_below ls) (none : history r ≡ []) where
  size : below_of r ≡ size_below (layers_seen r.rest) (inputs_below ls)
  size = r.below ∙ ap (size_below (layers_seen r.rest)) ei

  begins_says : (later : List ℕ) → speaks r later ≡
      honest_from (modulo modulus) (copies_above ls) (layers_seen ls) (inputs_below ls) r.inputs.now
      (claim_on (take (copies_above ls) r.copy) (shares_meant (size_below (layers_seen ls) (inputs_below ls)) r.shares)) later
  begins_says later =
      let N = modulo modulus in
      let ms : List Layer = layer_seen r.layer ∷ layers_seen r.rest in
      let top : size_below (layers_seen ls) (inputs_below ls) ≡ size_seen r.layer = ap (λ (qs : List Layer). size_below qs (inputs_below ls)) el in
      ap (λ (d : List ℕ). honest_from N (copies_of r) ms (inputs_below r.rest) r.inputs.now (claim_held r) (d ++ later)) none
      ∙ ap₂ (λ (n i : ℕ). honest_from N n ms i r.inputs.now (claim_on (take n r.copy) (shares_meant (size_seen r.layer) r.shares)) later) ec ei
      ∙ ap₂ (λ (qs : List Layer) (n : ℕ). honest_from N (copies_above ls) qs (inputs_below ls) r.inputs.now
      (claim_on (take (copies_above ls) r.copy) (shares_meant n r.shares)) later) (sym el) (sym top)

  pub begins : Begins ls r.inputs.now r.copy r.shares r
  unfolding layer_coins layer_words
  begins =
      let short : length (history r) ≡ 0 = ap length none in
      record {
        says = begins_says;
        coins =
            let all = ap (λ (qs : List Layer). layer_coins (copies_above ls) qs (inputs_below ls)) el in
            let rest = ap₂ (λ (n i : ℕ). layer_coins n (layers_seen r.rest) i) ec ei in
            omega (arith, all, rest, size, ec, short);
        words =
            let all = ap (λ (qs : List Layer). layer_words (copies_above ls) qs (inputs_below ls)) el in
            let rest = ap₂ (λ (n i : ℕ). layer_words n (layers_seen r.rest) i) ec ei in
            omega (arith, all, rest, size, ec, short);
        none = none;
      }

-- after the two values of t, whose coins were cut into the shares of the claim below
module _ (t r : HonestProver) (coin : ℕ) (all : length (history t) ≡ variables_of t) (copy : List ℕ) (first second : Share)
    (e1 : first.factor ≡ 1) (e2 : second.factor ≡ coin) (begun : Begins t.rest t.inputs.now copy (record { first = first; second = Some second }) r)
    (ic : take (copies_of t) copy ≡ take (copies_of t) (history t))
    (ix : take (below_of t) first.point ≡ take (below_of t) (drop (copies_of t) (history t)))
    (iy : take (below_of t) second.point ≡ take (below_of t) (drop (copies_of t + below_of t) (history t))) where
  y_whole : take (below_of t) (drop (copies_of t + below_of t) (history t)) ≡ drop (copies_of t + below_of t) (history t)
  y_whole =
      take_all (below_of t) (drop (copies_of t + below_of t) (history t)) (omega (arith, all, length-drop (copies_of t + below_of t) (history t)))

  below_says : (later : List ℕ) → speaks r later ≡ speaks t (coin ∷ later)
  below_says later =
      let N = modulo modulus in
      let m : ℕ = size_below (layers_seen t.rest) (inputs_below t.rest) in
      let make : ℕ → List ℕ → claims.Share ℕ = λ f xs. record { factor = f; point = xs } in
      let go : List ℕ → List (claims.Share ℕ) → List ℕ = λ c shares. honest_from N (copies_of t) (layers_seen t.rest) (inputs_below t.rest) t.inputs.now (claim_on c shares) later in
      begun.says later
      ∙ ap (λ (n : ℕ). go (take (copies_of t) copy) (shares_meant n (record { first = first; second = Some second }))) (sym t.below)
      ∙ ap₂ (λ (f g : ℕ). go (take (copies_of t) copy) (make f (take (below_of t) first.point) ∷ make g (take (below_of t) second.point) ∷ [])) e1 e2
      ∙ ap (λ (c : List ℕ). go c (make 1 (take (below_of t) first.point) ∷ make coin (take (below_of t) second.point) ∷ [])) ic
      ∙ ap₂ (λ (x y : List ℕ). go (take (copies_of t) (history t)) (make 1 x ∷ make coin y ∷ [])) ix (iy ∙ y_whole)
      ∙ sym (says_next t all coin later)

  pub heard_below : Heard coin t r
  unfolding layer_coins layer_words
  heard_below =
      record {
        says = below_says;
        coins = omega (arith, all, begun.coins);
        words =
            let two : answer_length t ≡ 2 = ap (λ (q : Bool). cond q 4 2) (le-ltb (length (history t)) (variables_of t) (omega arith)) in
            omega (arith, all, begun.words, two);
      }
