-- Parts of a transcript: where they lead the machine, or the verdict that they end in, whatever comes after them.
-- Each driver of the verifier is stated by these, so that what they say joins.
use Rattle.std.specs.Prelude.{◌≡◌, ℕ, ◌*◌, List, [], ◌∷◌, ◌++◌, length, take, drop}
use Rattle.argument.specs.Argument.{layer_coins}
use Rattle.argument.specs.Transcript.{fours, answers_of, layer_words}
use Rattle.verdicts.specs.declared.verdict.Verdict.{Verdict}
use Rattle.verdicts.specs.Machine.{Stand, variables_of, resume}
use Rattle.claims.specs.Meaning.{numbers}

-- these answers and coins lead from s to t: the verdict from s on with them is that from t on without them
abbrev pub Leads : List ℕ → Stand ℕ → List (List ℕ) → List ℕ → Stand ℕ → Type 0
Leads vs s answers coins t =
    (rest : List (List ℕ)) (later : List ℕ) →
    resume numbers vs s (answers ++ rest) (coins ++ later) ≡ resume numbers vs t rest later

-- with these answers and coins the verdict is v already
abbrev pub Ends : List ℕ → Stand ℕ → List (List ℕ) → List ℕ → Verdict → Type 0
Ends vs s answers coins v =
    (rest : List (List ℕ)) (later : List ℕ) → resume numbers vs s (answers ++ rest) (coins ++ later) ≡ v

-- t is at the same layer as s, with n coins drawn
pub record AtVariable (s t : Stand ℕ) (n : ℕ) : Type 0 where
  pub copies : t.copies ≡ s.copies
  pub inputs : t.inputs ≡ s.inputs
  pub layers : t.layers ≡ s.layers
  pub drawn : length t.point ≡ n

-- t is at the layer below that of s, with no coin drawn
pub record Below (s t : Stand ℕ) : Type 0 where
  pub copies : t.copies ≡ s.copies
  pub inputs : t.inputs ≡ s.inputs
  pub layers : t.layers ≡ drop 1 s.layers
  pub fresh : length t.point ≡ 0

-- the answers of one layer, four words for each variable and then two
abbrev pub layer_answers : Stand ℕ → List ℕ → List (List ℕ)
layer_answers s ws = fours (variables_of s) ws ++ (take 2 (drop (4 * variables_of s) ws) ∷ [])

-- the answers of this layer and those below it
abbrev pub answers_from : Stand ℕ → List ℕ → List (List ℕ)
answers_from s ws = answers_of s.copies s.layers s.inputs ws

-- how many words they take, and how many coins fall for them
abbrev pub words_from : Stand ℕ → ℕ
words_from s = layer_words s.copies s.layers s.inputs

abbrev pub coins_from : Stand ℕ → ℕ
coins_from s = layer_coins s.copies s.layers s.inputs
