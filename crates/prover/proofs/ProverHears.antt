-- The prover after a coin says what it said before, from that coin on; where a part begins nothing is said or heard.
-- Each coin leaves one coin less, and the answer before it is one that is no longer to come.
use Rattle.std.proofs.Common.{◌≡◌, ℕ, ◌+◌, ◌<◌, Bool, cond, List, [], ◌∷◌, ◌++◌, length, take, sym, refl, ap, ◌∙◌, ap₂, append_assoc, arith}
use Rattle.std.proofs.lemmas.Bool.{lt-ltb}
use Rattle.std.proofs.lemmas.List.{length_push}
use Rattle.arithmetic.specs.Numbers.{modulo}
use Rattle.circuits.specs.Circuit.{Circuit}
use Rattle.circuits.specs.Views.{layer_seen, layers_seen, copies_above, inputs_below, size_seen}
use Rattle.circuits.specs.declared.view.LayerView.{LayerView}
use Rattle.circuits.specs.declared.view.LayersView.{LayersView}
use Rattle.circuits.specs.Words.{modulus}
use Rattle.argument.specs.Argument.{layer_coins}
use Rattle.argument.specs.Honest.{honest_from}
use Rattle.argument.specs.Transcript.{layer_words}
use Rattle.claims.specs.Drawing.{coins_drawn}
use Rattle.claims.specs.Meaning.{shares_meant}
use Rattle.claims.specs.declared.claim.Shares.{Shares}
use Rattle.phases.specs.Standing.{claim_on}
use Rattle.prover.specs.Provers.{Alike, Heard, IsDue, Opened, Pushed, SameLayer, copies_of, variables_of, history, honest_at, answer_length, WithFactor, WithValue}
use Rattle.prover.specs.declared.due.Due.{Due}
use Rattle.prover.specs.declared.due.Due.TheVariants.{Copies, Left, Right, Values}
use Rattle.prover.specs.declared.prover.HonestProver.{HonestProver}

-- where variables are due, some are left
pub some_left : (t : HonestProver) (d : Due) → IsDue t d → (d ≡ Values → ⊥) → length (history t) < variables_of t
some_left t (Copies n) due other = omega arith
some_left t (Left n) due other = omega arith
some_left t (Right n) due other = omega arith
some_left t Values due other = absurd (other refl)

-- ---- a prover at the same layer
pub layer_after : (t m r : HonestProver) → SameLayer t m → SameLayer m r → SameLayer t r
layer_after t m r first then =
    record {
      layer = then.layer ∙ first.layer;
      rest = then.rest ∙ first.rest;
      below = then.below ∙ first.below;
      inputs = then.inputs ∙ first.inputs;
      copy = then.copy ∙ first.copy;
      shares = then.shares ∙ first.shares;
    }

honest_same : (t r : HonestProver) → SameLayer t r → (coins : List ℕ) → honest_at r coins ≡ honest_at t coins
honest_same t r same coins =
    let N = modulo modulus in
    let given : r.inputs.now ≡ t.inputs.now = let inputs = same.inputs in cc in
    ap (λ (l : LayerView). honest_from N (copies_of r) (layer_seen l ∷ layers_seen r.rest) (inputs_below r.rest) r.inputs.now
    (claim_on (take (copies_of r) r.copy) (shares_meant (size_seen l) r.shares)) coins) same.layer
    ∙ ap (λ (ls : LayersView). honest_from N (copies_above ls) (layer_seen t.layer ∷ layers_seen ls) (inputs_below ls) r.inputs.now
    (claim_on (take (copies_above ls) r.copy) (shares_meant (size_seen t.layer) r.shares)) coins) same.rest
    ∙ ap (λ (vs : List ℕ). honest_from N (copies_of t) (layer_seen t.layer ∷ layers_seen t.rest) (inputs_below t.rest) vs
    (claim_on (take (copies_of t) r.copy) (shares_meant (size_seen t.layer) r.shares)) coins) given
    ∙ ap₂ (λ (copy : List ℕ) (shares : Shares). honest_from N (copies_of t) (layer_seen t.layer ∷ layers_seen t.rest) (inputs_below t.rest) t.inputs.now
    (claim_on (take (copies_of t) copy) (shares_meant (size_seen t.layer) shares)) coins) same.copy same.shares

-- how many coins and words the layers below take
rest_coins : (t r : HonestProver) → SameLayer t r →
    layer_coins (copies_of r) (layers_seen r.rest) (inputs_below r.rest) ≡ layer_coins (copies_of t) (layers_seen t.rest) (inputs_below t.rest)
rest_coins t r same = ap (λ (ls : LayersView). layer_coins (copies_above ls) (layers_seen ls) (inputs_below ls)) same.rest

rest_words : (t r : HonestProver) → SameLayer t r →
    layer_words (copies_of r) (layers_seen r.rest) (inputs_below r.rest) ≡ layer_words (copies_of t) (layers_seen t.rest) (inputs_below t.rest)
rest_words t r same = ap (λ (ls : LayersView). layer_words (copies_above ls) (layers_seen ls) (inputs_below ls)) same.rest

-- ---- where a part begins
module _ (t m r : HonestProver) (left : WithFactor t m) (right : WithValue m r) where
  pub layer_settled : SameLayer t r
  layer_settled = layer_after t m r left.same right.same

  pub coins_settled : history r ≡ history t
  coins_settled = ap coins_drawn (right.drawn ∙ left.drawn)

  pub alike_settled : Alike t r
  alike_settled =
      let same = layer_settled in
      let copies : copies_of r ≡ copies_of t = ap copies_above same.rest in
      let long : length (history r) ≡ length (history t) = ap length coins_settled in
      record {
        says = λ later. honest_same t r same (history r ++ later) ∙ ap (λ (d : List ℕ). honest_at t (d ++ later)) coins_settled;
        coins = omega (arith, rest_coins t r same, copies, same.below, long);
        words = omega (arith, rest_words t r same, copies, same.below, long);
      }

-- ---- after a coin
pub heard_pushed : (coin : ℕ) (t r : HonestProver) → length (history t) < variables_of t → Pushed coin t r → Heard coin t r
heard_pushed coin t r more p =
    let same = p.same in
    let copies : copies_of r ≡ copies_of t = ap copies_above same.rest in
    let long : length (history r) ≡ length (history t) + 1 = ap length p.coins ∙ length_push (history t) coin in
    let four : answer_length t ≡ 4 = ap (λ (b : Bool). cond b 4 2) (lt-ltb (length (history t)) (variables_of t) more) in
    record {
      says = λ later.
          honest_same t r same (history r ++ later)
          ∙ ap (honest_at t) (ap (λ (d : List ℕ). d ++ later) p.coins ∙ append_assoc (history t) (coin ∷ []) later);
      coins = omega (arith, rest_coins t r same, long, copies, same.below, more);
      words = omega (arith, rest_words t r same, long, copies, same.below, more, four);
    }

pub heard_alike : (coin : ℕ) (t m r : HonestProver) → Heard coin t m → Alike m r → Heard coin t r
heard_alike coin t m r heard alike =
    record {
      says = λ later. alike.says later ∙ heard.says later;
      coins = heard.coins ∙ ap (λ (n : ℕ). n + 1) (sym alike.coins);
      words = heard.words ∙ ap (λ (n : ℕ). answer_length t + n) (sym alike.words);
    }

pub opened_alike : (c : Circuit) (vs coins : List ℕ) (t r : HonestProver) → Opened c vs coins t → Alike t r → history r ≡ [] → Opened c vs coins r
opened_alike c vs coins t r opened alike none =
    record {
      none = none;
      says = λ later. alike.says later ∙ opened.says later;
      coins_are = alike.coins ∙ opened.coins_are;
      words_are = alike.words ∙ opened.words_are;
    }
