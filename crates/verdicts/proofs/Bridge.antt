-- The machine's verdict over a whole transcript is 'believed' exactly where the argument's definition accepts.
-- One lemma over n rounds with any continuation serves for the variables of c, of x and of y.
use Rattle.std.proofs.Common.{◌≡◌, ℕ, zero, suc, ◌+◌, ◌*◌, ◌≤◌, Bool, ◌&&◌, List, [], ◌∷◌, ◌++◌, length, get_or, take, drop, sym, refl, ap, ◌∙◌, arith}
use mathlib.Core.Path.{fun_ext}
use mathlib.Core.Bool.{and_assoc}
use native.Mathlib.Nat.{add-sub_cancel_left}
use Rattle.std.proofs.lemmas.List.{append-nil, append_assoc, take_at, drop_at, length-append, length_push, length-drop, length-take-le}
use Rattle.std.proofs.lemmas.Bool.{eq-eqb}
use Rattle.arithmetic.specs.Numbers.{Numbers, modulo}
use Rattle.arithmetic.specs.Cubic.{interpolate}
use Rattle.circuits.specs.Circuit.{Layer, size_below}
use Rattle.argument.specs.Claims.{Claim, share_sum, expected}
use Rattle.argument.specs.Sumcheck.{Prover, well_formed, nth, rounds}
use Rattle.argument.specs.Argument.{claim_below, first_claim, first_coins, values, believes, layer_coins}
use Rattle.argument.specs.Transcript.{written}
use Rattle.verdicts.specs.declared.verdict.Place.TheVariants.{Inputs}
use Rattle.verdicts.specs.declared.verdict.Verdict.TheVariants.{Believed, Stopped}
use Rattle.verdicts.specs.Machine.{Stand, stand_at, after_variable, variables, settled, resume}
use Rattle.verdicts.specs.Theorems.{MachineBelieves}
use Rattle.verdicts.proofs.Stepping.{said, after-said, believed_cond, goes_on, step_due, step_done}

-- the stand s with another point and total
abbrev pub moved : {K : Type 0} → Stand K → List K → K → Stand K
moved s point total =
    record {
      copies = s.copies;
      inputs = s.inputs;
      layer = s.layer;
      layers = s.layers;
      claim = s.claim;
      point = point;
      total = total;
    }

module _ {K : Type 0} (N : Numbers K) (vs : List K) where
  open N use {add, nat, equal}

  -- what a continuation has to be: what the machine does after the coins z of n more variables
  abbrev pub Continues : ℕ → ℕ → Stand K → (List K → Prover K → K → List K → Bool) → Type 0
  Continues n left s next =
      (z : List K) → length z ≡ n → (t : K) (answers : List (List K)) (coins : List K) → length coins ≡ left →
      next z (said answers) t coins ≡ goes_on N vs (moved s (s.point ++ z) t) answers coins

  -- a continuation after one more coin
  continues_on :
      (n left : ℕ) (s : Stand K) (next : List K → Prover K → K → List K → Bool) (r t : K) → Continues (suc n) left s next →
      Continues n left (after_variable s r t) (λ z. next (r ∷ z))
  continues_on n left s next r t h z e u answers coins l =
      h (r ∷ z) (ap suc e) u answers coins l ∙
      ap (λ (w : List K). goes_on N vs (moved s w u) answers coins) (sym (append_assoc s.point (r ∷ []) z))

  pub rounds_machine :
      (n left : ℕ) (s : Stand K) (next : List K → Prover K → K → List K → Bool) (answers : List (List K)) (coins : List K) →
      length s.point + n ≤ variables s.copies s.inputs s.layers → Continues n left s next →
      length coins ≡ n + left → rounds N n next (said answers) s.total coins ≡ goes_on N vs s answers coins
  unfolding rounds
  rounds_machine zero left s next answers coins h k l =
      k [] refl s.total answers coins (omega arith) ∙
      ap (λ (w : List K). goes_on N vs (moved s w s.total) answers coins) (append-nil s.point)
  rounds_machine (suc n) left s next answers [] h k l = absurd (omega arith)
  rounds_machine (suc n) left s next answers (r ∷ coins) h k l =
      let a = get_or answers 0 [] in
      let t = interpolate N a r in
      let s' = after_variable s r t in
      let room : length (s.point ++ (r ∷ [])) + n ≤ variables s.copies s.inputs s.layers =
      omega (arith, length_push s.point r)
      in
      let later : rounds N n (λ z. next (r ∷ z)) (said (drop 1 answers)) t coins ≡ goes_on N vs s' (drop 1 answers) coins =
      rounds_machine n left s' (λ z. next (r ∷ z)) (drop 1 answers) coins room (continues_on n left s next r t k) (omega arith)
      in
      ap
      (λ (f : Prover K).
      well_formed N 4 a && (equal (add (nth N a 0) (nth N a 1)) s.total && rounds N n (λ z. next (r ∷ z)) f t coins))
      (after-said answers r) ∙
      ap (λ (b : Bool). well_formed N 4 a && (equal (add (nth N a 0) (nth N a 1)) s.total && b)) later ∙
      sym (and_assoc (well_formed N 4 a) (equal (add (nth N a 0) (nth N a 1)) s.total) _) ∙
      sym (step_due N vs s answers r coins (omega arith))

  -- the parts of a whole point
  parts_c : (c x y : List K) → take (length c) (c ++ x ++ y) ≡ c
  parts_c c x y = ap (take (length c)) (append_assoc c x y) ∙ take_at c (x ++ y) (length c) refl

  parts_x : (c x y : List K) → take (length x) (drop (length c) (c ++ x ++ y)) ≡ x
  parts_x c x y =
      ap (λ (w : List K). take (length x) (drop (length c) w)) (append_assoc c x y) ∙
      ap (take (length x)) (drop_at c (x ++ y) (length c) refl) ∙ take_at x y (length x) refl

  parts_y : (c x y : List K) → drop (length c + length x) (c ++ x ++ y) ≡ y
  parts_y c x y = drop_at (c ++ x) y (length c + length x) (length-append c x)

  -- what the machine and the argument do with two values, given that they do the same below
  values_machine :
      (copies inputs layer : ℕ) (l : Layer) (ls : List Layer) (k : Claim K) (c x y : List K) (t : K)
      (answers : List (List K)) (coins : List K) →
      length c ≡ copies → length x ≡ size_below ls inputs → length y ≡ size_below ls inputs →
      ((k' : Claim K) (answers' : List (List K)) (coins' : List K) → length coins' ≡ layer_coins copies ls inputs →
      believes N copies ls inputs vs k' (said answers') coins' ≡
      goes_on N vs (stand_at copies inputs (layer + 1) ls k') answers' coins') →
      length coins ≡ 1 + layer_coins copies ls inputs →
      values N l (size_below ls inputs) k c x y (believes N copies ls inputs vs) (said answers) t coins ≡
      goes_on N vs (moved (stand_at copies inputs layer (l ∷ ls) k) (c ++ x ++ y) t) answers coins
  unfolding values
  values_machine copies inputs layer l ls k c x y t answers [] ec ex ey below e = absurd (omega arith)
  values_machine copies inputs layer l ls k c x y t answers (r ∷ coins) ec ex ey below e =
      let a = get_or answers 0 [] in
      let m = size_below ls inputs in
      let s : Stand K = moved (stand_at copies inputs layer (l ∷ ls) k) (c ++ x ++ y) t in
      let full : copies + 2 * m ≤ length (c ++ x ++ y) = omega (arith, length-append (c ++ x) y, length-append c x) in
      let cut_c : take copies (c ++ x ++ y) ≡ c = rw ec at (parts_c c x y) in
      let cut_x : take m (drop copies (c ++ x ++ y)) ≡ x = rw (ec, ex) at (parts_x c x y) in
      let cut_y : drop (copies + m) (c ++ x ++ y) ≡ y = rw (ec, ex) at (parts_y c x y) in
      let k' = claim_below N c x y (nth N a 0) (nth N a 1) r in
      ap
      (λ (f : Prover K).
      well_formed N 2 a &&
      (equal (expected N l m k c x y (nth N a 0) (nth N a 1)) t && believes N copies ls inputs vs k' f coins))
      (after-said answers r) ∙
      ap
      (λ (b : Bool). well_formed N 2 a && (equal (expected N l m k c x y (nth N a 0) (nth N a 1)) t && b))
      (below k' (drop 1 answers) coins (omega arith)) ∙
      sym (and_assoc (well_formed N 2 a) (equal (expected N l m k c x y (nth N a 0) (nth N a 1)) t) _) ∙
      sym
      (step_done N vs s answers r coins full ∙ rw (cut_c, cut_x, cut_y) refl)

  pub layers_machine :
      (copies inputs : ℕ) (ls : List Layer) (layer : ℕ) (k : Claim K) (answers : List (List K)) (coins : List K) →
      length coins ≡ layer_coins copies ls inputs →
      believes N copies ls inputs vs k (said answers) coins ≡
      goes_on N vs (stand_at copies inputs layer ls k) answers coins
  unfolding believes layer_coins resume settled
  layers_machine copies inputs [] layer k answers [] e =
      sym (believed_cond (equal (share_sum N vs k.copy k.shares) k.total) Believed (Stopped layer Inputs) refl)
  layers_machine copies inputs [] layer k answers (r ∷ coins) e = absurd (omega arith)
  layers_machine copies inputs (l ∷ ls) layer k answers coins e =
      let m = size_below ls inputs in
      let s : Stand K = stand_at copies inputs layer (l ∷ ls) k in
      let left = layer_coins copies ls inputs in
      rounds_machine copies (2 * m + 1 + left) s _ answers coins (omega arith)
      (λ c ec t₁ answers₁ coins₁ l₁.
      rounds_machine m (m + 1 + left) (moved s c t₁) _ answers₁ coins₁ (omega arith)
      (λ x ex t₂ answers₂ coins₂ l₂.
      rounds_machine m (1 + left) (moved s (c ++ x) t₂) _ answers₂ coins₂ (omega (arith, length-append c x))
      (λ y ey t₃ answers₃ coins₃ l₃.
      values_machine copies inputs layer l ls k c x y t₃ answers₃ coins₃ ec ex ey
      (λ k' answers' coins' e'. layers_machine copies inputs ls (layer + 1) k' answers' coins' e') l₃)
      (omega arith))
      (omega arith))
      (omega arith)

-- a prover that begins after k coins, seen from there on
written_after : (z : List ℕ) (answers : List (List ℕ)) → (λ later. written (length z) answers (z ++ later)) ≡ said answers
written_after z answers =
    fun_ext (λ later. ap (λ (n : ℕ). get_or answers n []) (rw length-append (add-sub_cancel_left (length z) (length later))))

pub machine_believes : MachineBelieves
machine_believes p c vs claimed answers coins e =
    let N = modulo p in
    let k = first_coins c in
    let z : List ℕ = take k coins in
    let long : length z ≡ k = length-take-le k coins (omega arith) in
    let seen : (λ later. written k answers (z ++ later)) ≡ said answers = rw long at (written_after z answers) in
    let rest : length (drop k coins) ≡ layer_coins c.copies c.layers c.inputs = omega (arith, length-drop k coins) in
    sym
    (ap (λ (b : Bool). b && believes N c.copies c.layers c.inputs vs (first_claim N c claimed z) (λ later. written k answers (z ++ later)) (drop k coins)) (eq-eqb _ _ e) ∙
    ap (λ (f : Prover ℕ). believes N c.copies c.layers c.inputs vs (first_claim N c claimed z) f (drop k coins)) seen ∙
    layers_machine N vs c.copies c.inputs c.layers 0 (first_claim N c claimed z) answers (drop k coins) rest)
