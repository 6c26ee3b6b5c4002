-- Where no part of the layer begins, the tables stand as they are for the part that goes on.
-- And a coin more, in the words that hold the coins so far.
use Rattle.std.proofs.Common.{◌≡◌, ℕ, ◌+◌, ◌<◌, ◌≤◌, List, [], ◌∷◌, ◌++◌, length, take, set, arith}
use Rattle.std.proofs.lemmas.List.{take_more_set}
use Rattle.circuits.specs.Circuit.{Layer}
use Rattle.circuits.specs.Views.{layer_seen}
use Rattle.circuits.specs.Words.{modulus}
use Rattle.argument.specs.Claims.{Claim}
use Rattle.prover.specs.Provers.{Parts, StandsIn, claim_held, values_held, copies_of, below_of, history}
use Rattle.prover.specs.declared.prover.HonestProver.{HonestProver}

pub history_more : (point : List ℕ) (drawn coin : ℕ) → drawn < length point → take (drawn + 1) (set point drawn coin) ≡ take drawn point ++ (coin ∷ [])
history_more point drawn coin h = take_more_set point drawn coin h

module _ (p : ℕ) (l : Layer) (m : ℕ) (k : Claim ℕ) (X : List ℕ) (copies : ℕ) (history : List ℕ) (factor a : ℕ) (v w h j : List ℕ) where
  pub parts_on_left : Parts 1 1 p l m k X copies history factor a v w h j → (length history ≡ copies → ⊥) → Parts 0 1 p l m k X copies history factor a v w h j
  parts_on_left parts other =
      record {
        over_copies = λ few. parts.over_copies (omega arith);
        over_left = λ many few. parts.over_left (above other many) (omega arith);
        over_right = λ many. parts.over_right many;
      }
    where
      above : (length history ≡ copies → ⊥) → copies + 0 ≤ length history → copies + 1 ≤ length history
      above other many = let ne : length history ≡ copies → ⊥ = other in omega (arith, ne)

  pub parts_on_right : Parts 0 1 p l m k X copies history factor a v w h j → (length history ≡ copies + m → ⊥) → Parts 0 0 p l m k X copies history factor a v w h j
  parts_on_right parts other =
      record {
        over_copies = λ few. parts.over_copies few;
        over_left = λ many few. parts.over_left many (omega arith);
        over_right = λ many. parts.over_right (above other many);
      }
    where
      above : (length history ≡ copies + m → ⊥) → copies + m + 0 ≤ length history → copies + m + 1 ≤ length history
      above other many = let ne : length history ≡ copies + m → ⊥ = other in omega (arith, ne)

pub left_passed : (t : HonestProver) (v w h j : List ℕ) → StandsIn 1 1 t v w h j → (length (history t) ≡ copies_of t → ⊥) → StandsIn 0 1 t v w h j
left_passed t v w h j s other =
    record {
      rooms = s.rooms;
      room_j = s.room_j;
      parts =
          parts_on_left modulus (layer_seen t.layer) (below_of t) (claim_held t) (values_held t) (copies_of t) (history t) t.factor t.at_x v w h j s.parts
          other;
    }

pub right_passed : (t : HonestProver) (v w h j : List ℕ) → StandsIn 0 1 t v w h j → (length (history t) ≡ copies_of t + below_of t → ⊥) → StandsIn 0 0 t v w h j
right_passed t v w h j s other =
    record {
      rooms = s.rooms;
      room_j = s.room_j;
      parts =
          parts_on_right modulus (layer_seen t.layer) (below_of t) (claim_held t) (values_held t) (copies_of t) (history t) t.factor t.at_x v w h j s.parts
          other;
    }
