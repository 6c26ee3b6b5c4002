-- Nothing but answers counts: two provers that answer alike along the coins are believed alike.
-- Each stage asks only at what has been drawn so far, so alike before a coin is alike after it.
use Rattle.std.proofs.Common.{◌≡◌, ℕ, zero, suc, ◌+◌, ◌<◌, ◌≤◌, Bool, ◌&&◌, eqb, List, [], ◌∷◌, ◌++◌, length, take, drop, refl, ap, zero-lt-suc, arith, length-drop, take-add}
use native.Mathlib.Nat.{suc-le-suc_iff}
use Rattle.arithmetic.specs.Numbers.{Numbers, modulo}
use Rattle.arithmetic.specs.Cubic.{interpolate}
use Rattle.circuits.specs.Circuit.{Layer, Circuit, size_below}
use Rattle.argument.specs.Claims.{Claim, expected}
use Rattle.argument.specs.Sumcheck.{Prover, after, well_formed, nth, rounds}
use Rattle.argument.specs.Argument.{values, believes, claim_below, first_claim, first_coins, coins_of, accepts}
use Rattle.argument.specs.Promise.{OnlyMessages}

-- the same answers as long as a coin is still to come
abbrev Alike : {K : Type 0} → Prover K → Prover K → List K → Type 0
Alike f g coins = (n : ℕ) → n < length coins → f (take n coins) ≡ g (take n coins)

-- a continuation that goes alike with provers that answer alike
abbrev Respects : {K : Type 0} → (Prover K → List K → Bool) → Type 0
Respects next = (f g : Prover _) (coins : List _) → Alike f g coins → next f coins ≡ next g coins

alike_after : {K : Type 0} (f g : Prover K) (r : K) (coins : List K) → Alike f g (r ∷ coins) → Alike (after r f) (after r g) coins
alike_after f g r coins h n below = h (suc n) (suc-le-suc_iff.1 below)

module _ {K : Type 0} (N : Numbers K) where
  open N use {add, nat, equal}

  rounds_alike : (n : ℕ) (next : List K → Prover K → K → List K → Bool) →
      ((point : List K) (total : K) → Respects (λ f. next point f total)) →
      (total : K) → Respects (λ f. rounds N n next f total)
  unfolding rounds
  rounds_alike zero next h total f g coins same = h [] total f g coins same
  rounds_alike (suc n) next h total f g [] same = refl
  rounds_alike (suc n) next h total f g (r ∷ coins) same =
      let e : f [] ≡ g [] = same 0 (zero-lt-suc (length coins)) in
      rw e
      (ap (λ (b : Bool). well_formed N 4 (g []) && (equal (add (nth N (g []) 0) (nth N (g []) 1)) total && b))
      (rounds_alike n (λ point. next (r ∷ point)) (λ point. h (r ∷ point)) (interpolate N (g []) r) (after r f) (after r g) coins
      (alike_after f g r coins same)))

  values_alike : (l : Layer) (below : ℕ) (k : Claim K) (c x y : List K) (next : Claim K → Prover K → List K → Bool) →
      ((j : Claim K) → Respects (next j)) →
      (total : K) → Respects (λ f. values N l below k c x y next f total)
  unfolding values
  values_alike l below k c x y next h total f g [] same = refl
  values_alike l below k c x y next h total f g (s ∷ coins) same =
      let e : f [] ≡ g [] = same 0 (zero-lt-suc (length coins)) in
      rw e
      (ap (λ (b : Bool). well_formed N 2 (g []) && (equal (expected N l below k c x y (nth N (g []) 0) (nth N (g []) 1)) total && b))
      (h (claim_below N c x y (nth N (g []) 0) (nth N (g []) 1) s) (after s f) (after s g) coins (alike_after f g s coins same)))

  believes_alike : (copies : ℕ) (ls : List Layer) (inputs : ℕ) (vs : List K) (k : Claim K) → Respects (believes N copies ls inputs vs k)
  unfolding believes
  believes_alike copies [] inputs vs k f g coins same = refl
  believes_alike copies (l ∷ ls) inputs vs k f g coins same =
      let m = size_below ls inputs in
      let next = believes N copies ls inputs vs in
      rounds_alike copies (λ c. rounds N m (λ x. rounds N m (λ y. values N l m k c x y next)))
      (λ c. rounds_alike m (λ x. rounds N m (λ y. values N l m k c x y next))
      (λ x. rounds_alike m (λ y. values N l m k c x y next)
      (λ y. values_alike l m k c x y next (λ j. believes_alike copies ls inputs vs j))))
      k.total f g coins same

  accepts_alike : (c : Circuit) (vs claimed : List K) (f g : Prover K) (coins : List K) →
      ((n : ℕ) → first_coins c ≤ n → n < length coins → f (take n coins) ≡ g (take n coins)) →
      accepts N c vs claimed f coins ≡ accepts N c vs claimed g coins
  accepts_alike c vs claimed f g coins same =
      let first = first_coins c in
      let z = take first coins in
      ap (λ (b : Bool). eqb (length coins) (coins_of c) && b)
      (believes_alike c.copies c.layers c.inputs vs (first_claim N c claimed z)
      (λ later. f (z ++ later)) (λ later. g (z ++ later)) (drop first coins)
      (λ n below. rw (← take-add first n coins) (same (first + n) (omega arith) (omega (arith, length-drop first coins)))))

pub only_messages : OnlyMessages
only_messages p = accepts_alike (modulo p)
