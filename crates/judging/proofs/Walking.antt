-- Layer by layer along a transcript: what one layer's part leads to, joined to what comes before and after it.
-- The answers of the layers are cut out of the words one layer after the other.
use Rattle.std.proofs.Common.{◌≡◌, ℕ, zero, suc, ◌+◌, ◌-◌, ◌*◌, ◌<◌, ◌≤◌, Bool, true, false, eqb, List, [], ◌∷◌, ◌++◌, length, get_or, take, drop, sym, refl, ap, ◌∙◌, subst, ap₂, arith, length-drop}
use Rattle.std.proofs.lemmas.Bool.{eqb-true, false≢true}
use Rattle.std.proofs.lemmas.List.{append_assoc, take-take, take_more, take_all, take-append-drop, drop-take, length-take-le, nil_from_length}
use Rattle.arithmetic.specs.Numbers.{all_reduced}
use Rattle.circuits.specs.Circuit.{Layer}
use Rattle.circuits.specs.Words.{modulus}
use Rattle.claims.proofs.Cutting.{reduced_rest}
use Rattle.argument.specs.Argument.{layer_coins}
use Rattle.argument.specs.Transcript.{fours, answers_of, layer_words}
use Rattle.verdicts.specs.declared.verdict.Verdict.{Verdict}
use Rattle.verdicts.specs.Machine.{Stand, variables, variables_of, fits, next, doubt, settled, resume}
use Rattle.verdicts.proofs.Stepping.{Done, next_done}
use Rattle.claims.specs.Meaning.{numbers}
use Rattle.judging.specs.Driving.{Leads, Ends, AtVariable, Below, layer_answers, answers_from, words_from, coins_from}
use Rattle.judging.proofs.Driven.{leads_more, ends_there, ends_more, done_at}
use Rattle.verifier.proofs.PointParts.{part_of_front}

fours_front : (n m : ℕ) (ws : List ℕ) → 4 * n ≤ m → fours n (take m ws) ≡ fours n ws
unfolding fours
fours_front zero m ws h = refl
fours_front (suc n) m ws h =
    let room : 4 + 4 * n ≤ m = omega arith in
    let split : m ≡ 4 + (m - 4) = omega arith in
    let others : drop 4 (take m ws) ≡ take (m - 4) (drop 4 ws) =
    ap (λ (k : ℕ). drop 4 (take k ws)) split ∙ drop-take 4 (m - 4) ws
    in
    ap₂ {B = List (List ℕ)} (λ (a : List ℕ) (xs : List (List ℕ)). a ∷ xs) (take-take 4 m ws (omega arith))
    (ap (fours n) others ∙ fours_front n (m - 4) (drop 4 ws) (omega arith))

-- the first layer's part, and the rest
answers_some : (copies inputs : ℕ) (ls : List Layer) (ws : List ℕ) → 0 < length ls →
    let v = variables copies inputs ls in
    answers_of copies ls inputs ws ≡ fours v ws ++ (take 2 (drop (4 * v) ws) ∷ answers_of copies (drop 1 ls) inputs (drop (4 * v + 2) ws))
unfolding answers_of
answers_some copies inputs [] ws h = absurd (omega arith)
answers_some copies inputs (l ∷ ls) ws h = refl

pub words_some : (copies inputs : ℕ) (ls : List Layer) → 0 < length ls →
    layer_words copies ls inputs ≡ 4 * variables copies inputs ls + 2 + layer_words copies (drop 1 ls) inputs
unfolding layer_words
words_some copies inputs [] h = absurd (omega arith)
words_some copies inputs (l ∷ ls) h = refl

pub coins_some : (copies inputs : ℕ) (ls : List Layer) → 0 < length ls →
    layer_coins copies ls inputs ≡ variables copies inputs ls + 1 + layer_coins copies (drop 1 ls) inputs
unfolding layer_coins
coins_some copies inputs [] h = absurd (omega arith)
coins_some copies inputs (l ∷ ls) h = refl

pub words_none : (copies inputs : ℕ) (ls : List Layer) → length ls ≡ 0 → layer_words copies ls inputs ≡ 0
unfolding layer_words
words_none copies inputs [] h = refl
words_none copies inputs (l ∷ ls) h = absurd (omega arith)

pub coins_none : (copies inputs : ℕ) (ls : List Layer) → length ls ≡ 0 → layer_coins copies ls inputs ≡ 0
unfolding layer_coins
coins_none copies inputs [] h = refl
coins_none copies inputs (l ∷ ls) h = absurd (omega arith)

-- ---- one layer: its variables, and then the two values
module _ (vs : List ℕ) (s : Stand ℕ) (n : ℕ) (ws coins first cs : List ℕ) (en : n ≡ variables_of s) (ec : length coins ≡ n + 1)
    (ef : first ≡ take (4 * n) ws) (ecs : cs ≡ take n coins) where
  count : length cs ≡ n
  count = ap length ecs ∙ length-take-le n coins (omega arith)

  first_fours : fours (length cs) first ≡ fours n ws
  first_fours = ap₂ fours count ef ∙ fours_front n (4 * n) ws (omega arith)

  all_coins : coins ≡ cs ++ (get_or coins n 0 ∷ [])
  all_coins =
      sym (take_all (n + 1) coins (omega arith)) ∙ take_more coins n 0 (omega arith) ∙
      ap (λ (xs : List ℕ). xs ++ (get_or coins n 0 ∷ [])) (sym ecs)

  all_answers : (a : List ℕ) → a ≡ take 2 (drop (4 * n) ws) → layer_answers s ws ≡ fours (length cs) first ++ (a ∷ [])
  all_answers a ea =
      ap (λ (k : ℕ). fours k ws ++ (take 2 (drop (4 * k) ws) ∷ [])) (sym en) ∙
      ap₂ (λ (xs : List (List ℕ)) (b : List ℕ). xs ++ (b ∷ [])) (sym first_fours) (sym ea)

  at_n : (t : Stand ℕ) → AtVariable s t (length cs) → AtVariable s t n
  at_n t at = subst (λ (k : ℕ). AtVariable s t k) count at

  pub layer_leads :
      (t u : Stand ℕ) (a : List ℕ) → Leads vs s (fours (length cs) first) cs t → AtVariable s t (length cs) →
      a ≡ take 2 (drop (4 * n) ws) → fits numbers t a ≡ true → u ≡ next numbers t a (get_or coins n 0) →
      Leads vs s (layer_answers s ws) coins u × Below s u
  layer_leads t u a h at ea fit eu =
      let done : Done t = done_at s t n (at_n t at) en in
      let after = eu ∙ next_done numbers t a (get_or coins n 0) done in (
        λ rest later.
            ap₂ (λ (xs : List (List ℕ)) (ys : List ℕ). resume numbers vs s (xs ++ rest) (ys ++ later)) (all_answers a ea) all_coins ∙
            leads_more vs s t (fours (length cs) first) cs a (get_or coins n 0) h fit rest later ∙
            ap (λ (x : Stand ℕ). resume numbers vs x rest later) (sym eu),
        record {
          copies = ap (λ (x : Stand ℕ). x.copies) after ∙ at.copies;
          inputs = ap (λ (x : Stand ℕ). x.inputs) after ∙ at.inputs;
          layers = ap (λ (x : Stand ℕ). x.layers) after ∙ ap (drop 1) at.layers;
          fresh = ap (λ (x : Stand ℕ). length x.point) after;
        },
      )

  pub layer_ends_late :
      (t : Stand ℕ) (a : List ℕ) (v : Verdict) → Leads vs s (fours (length cs) first) cs t →
      a ≡ take 2 (drop (4 * n) ws) → fits numbers t a ≡ false → v ≡ doubt t → Ends vs s (layer_answers s ws) coins v
  layer_ends_late t a v h ea fit ev rest later =
      ap₂ (λ (xs : List (List ℕ)) (ys : List ℕ). resume numbers vs s (xs ++ rest) (ys ++ later)) (all_answers a ea) all_coins ∙
      ends_there vs s t (fours (length cs) first) [] cs [] a (get_or coins n 0) v h fit ev rest later

  pub layer_ends_early : (v : Verdict) → Ends vs s (fours (length cs) first) cs v → Ends vs s (layer_answers s ws) coins v
  layer_ends_early v h rest later =
      let a = take 2 (drop (4 * n) ws) in
      ap₂ (λ (xs : List (List ℕ)) (ys : List ℕ). resume numbers vs s (xs ++ rest) (ys ++ later)) (all_answers a refl) all_coins ∙
      ends_more vs s (fours (length cs) first) (a ∷ []) cs (get_or coins n 0 ∷ []) v h rest later

-- ---- layer after layer
pub layers_left : (ls : List Layer) (b : Bool) → b ≡ eqb (length ls) 0 → b ≡ false → 0 < length ls
layers_left [] b e h = absurd (false≢true (sym h ∙ e))
layers_left (l ∷ ls) b e h = omega arith

pub no_layers_left : (ls : List Layer) (b : Bool) → b ≡ eqb (length ls) 0 → b ≡ true → length ls ≡ 0
no_layers_left ls b e h = eqb-true (length ls) 0 (sym e ∙ h)

-- the words and coins that are left lead from t to the verdict that all of them lead to from s
pub record Walking (vs : List ℕ) (s : Stand ℕ) (ws coins said drawn : List ℕ) (t : Stand ℕ) : Type 0 where
  pub resumed : resume numbers vs t (answers_from t said) drawn ≡ resume numbers vs s (answers_from s ws) coins
  pub words : length said ≡ words_from t
  pub coins_to_come : length drawn ≡ coins_from t
  pub reduced : all_reduced numbers drawn ≡ true
  pub fresh : length t.point ≡ 0

pub walking_none : (vs : List ℕ) (s : Stand ℕ) (ws coins : List ℕ) → length s.point ≡ 0 → length ws ≡ words_from s → length coins ≡ coins_from s →
    all_reduced numbers coins ≡ true → Walking vs s ws coins ws coins s
walking_none vs s ws coins e ew ec er = record { resumed = refl; words = ew; coins_to_come = ec; reduced = er; fresh = e }

-- the words and coins of this layer are there
pub walking_room : {vs : List ℕ} {s : Stand ℕ} {ws coins said drawn : List ℕ} {t : Stand ℕ} → Walking vs s ws coins said drawn t →
    0 < length t.layers → (4 * variables_of t + 2 ≤ length said) × (variables_of t + 1 ≤ length drawn)
walking_room {vs} {s} {ws} {coins} {said} {drawn} {t} h some = (
  omega (arith, words_some t.copies t.inputs t.layers some, h.words),
  omega (arith, coins_some t.copies t.inputs t.layers some, h.coins_to_come),
)

-- the answers from t on are those of its layer and those from the stand below it on
split_answers : (t : Stand ℕ) (ws : List ℕ) → 0 < length t.layers →
    let n = 4 * variables_of t + 2 in
    answers_from t ws ≡ layer_answers t (take n ws) ++ answers_of t.copies (drop 1 t.layers) t.inputs (drop n ws)
split_answers t ws some =
    let v = variables_of t in
    let rest = answers_of t.copies (drop 1 t.layers) t.inputs (drop (4 * v + 2) ws) in
    answers_some t.copies t.inputs t.layers ws some ∙
    ap₂ (λ (xs : List (List ℕ)) (a : List ℕ). xs ++ (a ∷ rest)) (sym (fours_front v (4 * v + 2) ws (omega arith)))
    (sym (part_of_front (4 * v) 2 (4 * v + 2) ws (omega arith))) ∙
    sym (append_assoc (fours v (take (4 * v + 2) ws)) (take 2 (drop (4 * v) (take (4 * v + 2) ws)) ∷ []) rest)

-- the rest of the answers, from the stand below on
answers_below : (t u : Stand ℕ) (ws : List ℕ) → Below t u → answers_of t.copies (drop 1 t.layers) t.inputs ws ≡ answers_from u ws
answers_below t u ws below = sym (λ i. answers_of (below.copies i) (below.layers i) (below.inputs i) ws)

module _ {vs : List ℕ} {s : Stand ℕ} {ws coins said drawn : List ℕ} {t : Stand ℕ} (h : Walking vs s ws coins said drawn t)
    (some : 0 < length t.layers) (part words_left cs coins_left : List ℕ) (ep : part ≡ take (4 * variables_of t + 2) said)
    (ew : words_left ≡ drop (4 * variables_of t + 2) said) (ec : cs ≡ take (variables_of t + 1) drawn)
    (ed : coins_left ≡ drop (variables_of t + 1) drawn) where
  -- the run from t on, with the layer's part in front
  in_parts :
      resume numbers vs t (layer_answers t part ++ answers_of t.copies (drop 1 t.layers) t.inputs words_left) (cs ++ coins_left) ≡
      resume numbers vs s (answers_from s ws) coins
  in_parts =
      let n = 4 * variables_of t + 2 in
      let m = variables_of t + 1 in
      ap₂ (resume numbers vs t)
      (ap₂ (λ (xs ys : List ℕ). layer_answers t xs ++ answers_of t.copies (drop 1 t.layers) t.inputs ys) ep ew ∙
      sym (split_answers t said some))
      (ap₂ (λ (xs ys : List ℕ). xs ++ ys) ec ed ∙ take-append-drop m drawn) ∙
      h.resumed

  pub walking_more : (u : Stand ℕ) → Leads vs t (layer_answers t part) cs u → Below t u → Walking vs s ws coins words_left coins_left u
  walking_more u leads below =
      let n = 4 * variables_of t + 2 in
      let m = variables_of t + 1 in
      record {
        resumed =
            sym (leads (answers_from u words_left) coins_left) ∙
            ap (λ (xs : List (List ℕ)). resume numbers vs t (layer_answers t part ++ xs) (cs ++ coins_left)) (sym (answers_below t u words_left below)) ∙
            in_parts;
        words =
            let left : words_from u ≡ layer_words t.copies (drop 1 t.layers) t.inputs =
            λ i. layer_words (below.copies i) (below.layers i) (below.inputs i)
            in
            omega (arith, ap length ew, length-drop n said, left, words_some t.copies t.inputs t.layers some, h.words);
        coins_to_come =
            let left : coins_from u ≡ layer_coins t.copies (drop 1 t.layers) t.inputs =
            λ i. layer_coins (below.copies i) (below.layers i) (below.inputs i)
            in
            omega (arith, ap length ed, length-drop m drawn, left, coins_some t.copies t.inputs t.layers some, h.coins_to_come);
        reduced = subst (λ (xs : List ℕ). all_reduced numbers xs ≡ true) (sym ed) (reduced_rest modulus m drawn h.reduced);
        fresh = below.fresh;
      }

  pub walking_ends : (v : Verdict) → Ends vs t (layer_answers t part) cs v → resume numbers vs s (answers_from s ws) coins ≡ v
  walking_ends v ends = sym in_parts ∙ ends (answers_of t.copies (drop 1 t.layers) t.inputs words_left) coins_left

pub walking_all : {vs : List ℕ} {s : Stand ℕ} {ws coins said drawn : List ℕ} {t : Stand ℕ} → Walking vs s ws coins said drawn t →
    length t.layers ≡ 0 → resume numbers vs s (answers_from s ws) coins ≡ settled numbers vs t
unfolding resume
walking_all {vs} {s} {ws} {coins} {said} {drawn} {t} h none =
    let empty : drawn ≡ [] = nil_from_length drawn (omega (arith, h.coins_to_come, coins_none t.copies t.inputs t.layers none)) in
    sym h.resumed ∙ ap (resume numbers vs t (answers_from t said)) empty
