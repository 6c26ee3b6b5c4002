-- What the honest prover says after some coins of a layer: in each part of the layer, the answers to what is left of it.
-- The coins of the parts before are spent, those of this part so far are the first coordinates.
use Rattle.std.proofs.Common.{◌≡◌, ℕ, zero, suc, ◌+◌, ◌^◌, List, [], ◌∷◌, ◌++◌, length, sym, refl, ap, ◌∙◌, append-nil, add-zero, zero-add, arith}
use Rattle.arithmetic.specs.Numbers.{Numbers}
use Rattle.tables.specs.Multilinear.{mle, sum_corners}
use Rattle.circuits.specs.Circuit.{Layer, size_below, all_values}
use Rattle.argument.specs.Claims.{Claim, expected}
use Rattle.argument.specs.Sumcheck.{Prover, respond}
use Rattle.argument.specs.Argument.{claim_below}
use Rattle.argument.specs.Honest.{two_values, honest_from}

module _ {K : Type 0} (N : Numbers K) where
  open N use {nat}

  respond_after : (c : List K) (n m : ℕ) (G : List K → K) (next : List K → Prover K) (later : List K) → length c + n ≡ m →
      respond N m G next (c ++ later) ≡ respond N n (λ z. G (c ++ z)) (λ z. next (c ++ z)) later
  unfolding respond
  respond_after [] n m G next later e = ap (λ (k : ℕ). respond N k G next later) (sym e ∙ zero-add n)
  respond_after (r ∷ c) n zero G next later e = absurd (omega arith)
  respond_after (r ∷ c) n (suc m) G next later e = respond_after c n m (λ z. G (r ∷ z)) (λ z. next (r ∷ z)) later (omega arith)

  -- once all coins of a part are there, the next part goes on
  respond-all : (c : List K) (m : ℕ) (G : List K → K) (next : List K → Prover K) (later : List K) → length c ≡ m →
      respond N m G next (c ++ later) ≡ next c later
  unfolding respond
  respond-all c m G next later e =
      respond_after c 0 m G next later (add-zero (length c) ∙ e) ∙ ap (λ (d : List K). next d later) (append-nil c)

  -- a claim's total is of no account
  pub any_total : (copies : ℕ) (ls : List Layer) (inputs : ℕ) (vs : List K) (k : Claim K) (total : K) (coins : List K) →
      honest_from N copies ls inputs vs k coins ≡
      honest_from N copies ls inputs vs (record { copy = k.copy; shares = k.shares; total = total }) coins
  unfolding honest_from
  any_total copies [] inputs vs k total coins = refl
  any_total copies (l ∷ ls) inputs vs k total coins = refl

  module _ (copies : ℕ) (l : Layer) (ls : List Layer) (inputs : ℕ) (vs : List K) (k : Claim K) where
    abbrev m : ℕ
    m = size_below ls inputs

    abbrev V : List K → K
    V = mle N (all_values N ls (2 ^ inputs) (2 ^ copies) vs)

    abbrev S : List K → List K → List K → K
    S c x y = expected N l m k c x y (V (c ++ x)) (V (c ++ y))

    abbrev pub after_right : List K → List K → List K → Prover K
    after_right c x y =
        two_values N (V (c ++ x)) (V (c ++ y)) (λ s. honest_from N copies ls inputs vs (claim_below N c x y (V (c ++ x)) (V (c ++ y)) s))

    abbrev pub after_left : List K → List K → Prover K
    after_left c x = respond N m (λ y. S c x y) (λ y. after_right c x y)

    abbrev pub after_copies : List K → Prover K
    after_copies c = respond N m (λ x. sum_corners N m (λ y. S c x y)) (λ x. after_left c x)

    pub history_copies : (c : List K) (n : ℕ) (later : List K) → length c + n ≡ copies →
        honest_from N copies (l ∷ ls) inputs vs k (c ++ later) ≡
        respond N n (λ z. sum_corners N m (λ x. sum_corners N m (λ y. S (c ++ z) x y))) (λ z. after_copies (c ++ z)) later
    unfolding honest_from
    history_copies c n later e =
        respond_after c n copies (λ c. sum_corners N m (λ x. sum_corners N m (λ y. S c x y))) (λ c. after_copies c) later e

    all_copies : (c later : List K) → length c ≡ copies → honest_from N copies (l ∷ ls) inputs vs k (c ++ later) ≡ after_copies c later
    unfolding honest_from
    all_copies c later e = respond-all c copies (λ c. sum_corners N m (λ x. sum_corners N m (λ y. S c x y))) (λ c. after_copies c) later e

    pub history_left : (c x : List K) (n : ℕ) (later : List K) → length c ≡ copies → length x + n ≡ m →
        honest_from N copies (l ∷ ls) inputs vs k (c ++ (x ++ later)) ≡
        respond N n (λ z. sum_corners N m (λ y. S c (x ++ z) y)) (λ z. after_left c (x ++ z)) later
    history_left c x n later ec ex =
        all_copies c (x ++ later) ec
        ∙ respond_after x n m (λ x. sum_corners N m (λ y. S c x y)) (λ x. after_left c x) later ex

    all_left : (c x later : List K) → length c ≡ copies → length x ≡ m →
        honest_from N copies (l ∷ ls) inputs vs k (c ++ (x ++ later)) ≡ after_left c x later
    all_left c x later ec ex =
        all_copies c (x ++ later) ec ∙ respond-all x m (λ x. sum_corners N m (λ y. S c x y)) (λ x. after_left c x) later ex

    pub history_right : (c x y : List K) (n : ℕ) (later : List K) → length c ≡ copies → length x ≡ m → length y + n ≡ m →
        honest_from N copies (l ∷ ls) inputs vs k (c ++ (x ++ (y ++ later))) ≡
        respond N n (λ z. S c x (y ++ z)) (λ z. after_right c x (y ++ z)) later
    history_right c x y n later ec ex ey =
        all_left c x (y ++ later) ec ex ∙ respond_after y n m (λ y. S c x y) (λ y. after_right c x y) later ey

    pub history_all : (c x y later : List K) → length c ≡ copies → length x ≡ m → length y ≡ m →
        honest_from N copies (l ∷ ls) inputs vs k (c ++ (x ++ (y ++ later))) ≡ after_right c x y later
    history_all c x y later ec ex ey =
        all_left c x (y ++ later) ec ex ∙ respond-all y m (λ y. S c x y) (λ y. after_right c x y) later ey

    pub history_values : (c x y : List K) → length c ≡ copies → length x ≡ m → length y ≡ m →
        honest_from N copies (l ∷ ls) inputs vs k (c ++ (x ++ (y ++ []))) ≡ V (c ++ x) ∷ V (c ++ y) ∷ []
    unfolding two_values
    history_values c x y ec ex ey = history_all c x y [] ec ex ey

    -- after the coin of the two values the layer below goes on
    pub history_next : (c x y : List K) (s : K) (later : List K) → length c ≡ copies → length x ≡ m → length y ≡ m →
        honest_from N copies (l ∷ ls) inputs vs k (c ++ (x ++ (y ++ (s ∷ later)))) ≡
        honest_from N copies ls inputs vs (claim_below N c x y (V (c ++ x)) (V (c ++ y)) s) later
    unfolding two_values
    history_next c x y s later ec ex ey = history_all c x y (s ∷ later) ec ex ey
