-- How the parts of a transcript join: one step more, a step that does not fit, and one part after another.
-- All of it unfolds the machine's run by one step at a time.
use Rattle.std.proofs.Common.{◌≡◌, ℕ, zero, suc, ◌+◌, ◌-◌, ◌*◌, ◌<◌, ◌≤◌, Bool, true, false, cond, List, [], ◌∷◌, ◌++◌, length, get_or, take, drop, sym, refl, ap, ◌∙◌, ap₂, arith, length-drop}
use Rattle.std.proofs.lemmas.List.{append_assoc, take_at, drop_at, take_more, drop_more, take-append-drop, drop-drop, length_push}
use Rattle.argument.specs.Transcript.{fours}
use Rattle.verdicts.specs.declared.verdict.Verdict.{Verdict}
use Rattle.verdicts.specs.Machine.{Stand, variables_of, fits, next, doubt, resume}
use Rattle.verdicts.proofs.Stepping.{Due, Done, next_due}
use Rattle.claims.specs.Meaning.{numbers}
use Rattle.judging.specs.Driving.{Leads, Ends, AtVariable}

-- ---- answers of four words each
pub fours_split : (n i : ℕ) (ws : List ℕ) → i < n →
    fours n ws ≡ fours i ws ++ (take 4 (drop (4 * i) ws) ∷ fours (n - (i + 1)) (drop (4 * (i + 1)) ws))
unfolding fours
fours_split zero i ws h = absurd (omega arith)
fours_split (suc n) zero ws h =
    let one : suc n - (0 + 1) ≡ n = omega arith in
    ap (λ (m : ℕ). take 4 ws ∷ fours m (drop 4 ws)) (sym one)
fours_split (suc n) (suc i) ws h =
    let count : n - (i + 1) ≡ suc n - (suc i + 1) = omega arith in
    let here : 4 + 4 * i ≡ 4 * suc i = omega arith in
    let there : 4 + 4 * (i + 1) ≡ 4 * (suc i + 1) = omega arith in
    ap {B = List (List ℕ)} (λ xs. take 4 ws ∷ xs)
    (fours_split n i (drop 4 ws) (omega arith) ∙
    ap₂ (λ (a : List ℕ) (xs : List (List ℕ)). fours i (drop 4 ws) ++ (a ∷ xs))
    (ap (take 4) (drop-drop (4 * i) 4 ws ∙ ap (λ (m : ℕ). drop m ws) here))
    (ap₂ fours count (drop-drop (4 * (i + 1)) 4 ws ∙ ap (λ (m : ℕ). drop m ws) there)))

pub fours_more : (i : ℕ) (ws : List ℕ) → fours (i + 1) ws ≡ fours i ws ++ (take 4 (drop (4 * i) ws) ∷ [])
unfolding fours
fours_more i ws =
    let none : i + 1 - (i + 1) ≡ 0 = omega arith in
    fours_split (i + 1) i ws (omega arith) ∙
    ap (λ (m : ℕ). fours i ws ++ (take 4 (drop (4 * i) ws) ∷ fours m (drop (4 * (i + 1)) ws))) none

-- ---- one step
module _ (vs : List ℕ) where
  resume_on : (s : Stand ℕ) (a : List ℕ) (r : ℕ) (rest : List (List ℕ)) (later : List ℕ) → fits numbers s a ≡ true →
      resume numbers vs s (a ∷ rest) (r ∷ later) ≡ resume numbers vs (next numbers s a r) rest later
  unfolding resume
  resume_on s a r rest later e = ap (λ (b : Bool). cond b (resume numbers vs (next numbers s a r) rest later) (doubt s)) e

  resume_off : (s : Stand ℕ) (a : List ℕ) (r : ℕ) (rest : List (List ℕ)) (later : List ℕ) → fits numbers s a ≡ false →
      resume numbers vs s (a ∷ rest) (r ∷ later) ≡ doubt s
  unfolding resume
  resume_off s a r rest later e = ap (λ (b : Bool). cond b (resume numbers vs (next numbers s a r) rest later) (doubt s)) e

  pub leads_none : (s : Stand ℕ) → Leads vs s [] [] s
  leads_none s rest later = refl

  pub leads_more : (s t : Stand ℕ) (answers : List (List ℕ)) (coins : List ℕ) (a : List ℕ) (r : ℕ) → Leads vs s answers coins t →
      fits numbers t a ≡ true → Leads vs s (answers ++ (a ∷ [])) (coins ++ (r ∷ [])) (next numbers t a r)
  leads_more s t answers coins a r h e rest later =
      ap₂ (resume numbers vs s) (append_assoc answers (a ∷ []) rest) (append_assoc coins (r ∷ []) later) ∙
      h (a ∷ rest) (r ∷ later) ∙ resume_on t a r rest later e

  pub ends_there : (s t : Stand ℕ) (answers more : List (List ℕ)) (coins others : List ℕ) (a : List ℕ) (r : ℕ) (v : Verdict) →
      Leads vs s answers coins t → fits numbers t a ≡ false → v ≡ doubt t → Ends vs s (answers ++ (a ∷ more)) (coins ++ (r ∷ others)) v
  ends_there s t answers more coins others a r v h e ev rest later =
      ap₂ (resume numbers vs s) (append_assoc answers (a ∷ more) rest) (append_assoc coins (r ∷ others) later) ∙
      h (a ∷ more ++ rest) (r ∷ others ++ later) ∙ resume_off t a r (more ++ rest) (others ++ later) e ∙ sym ev

  -- more answers and coins after a verdict change nothing
  pub ends_more : (s : Stand ℕ) (answers more : List (List ℕ)) (coins others : List ℕ) (v : Verdict) → Ends vs s answers coins v →
      Ends vs s (answers ++ more) (coins ++ others) v
  ends_more s answers more coins others v h rest later =
      ap₂ (resume numbers vs s) (append_assoc answers more rest) (append_assoc coins others later) ∙ h (more ++ rest) (others ++ later)

-- ---- the variables of a layer
pub record Hearing (vs : List ℕ) (s : Stand ℕ) (ws coins : List ℕ) (i : ℕ) (t : Stand ℕ) : Type 0 where
  pub leads : Leads vs s (fours i ws) (take i coins) t
  pub at : AtVariable s t i

pub hearing_none : (vs : List ℕ) (s : Stand ℕ) (ws coins : List ℕ) → length s.point ≡ 0 → Hearing vs s ws coins 0 s
unfolding fours
hearing_none vs s ws coins e =
    record { leads = leads_none vs s; at = record { copies = refl; inputs = refl; layers = refl; drawn = e } }

-- a variable is due as long as fewer coins are drawn than the layer has variables
pub due_at : (s t : Stand ℕ) (i n : ℕ) → AtVariable s t i → n ≡ variables_of s → i < n → Due t
due_at s t i n h e l =
    let same : variables_of t ≡ variables_of s =
    λ j. variables_of (record { copies = h.copies j; inputs = h.inputs j; layer = 0; layers = h.layers j; claim = s.claim; point = s.point; total = s.total })
    in
    omega (arith, h.drawn, same)

pub done_at : (s t : Stand ℕ) (n : ℕ) → AtVariable s t n → n ≡ variables_of s → Done t
done_at s t n h e =
    let same : variables_of t ≡ variables_of s =
    λ j. variables_of (record { copies = h.copies j; inputs = h.inputs j; layer = 0; layers = h.layers j; claim = s.claim; point = s.point; total = s.total })
    in
    omega (arith, h.drawn, same)

pub hearing_more : {vs : List ℕ} {s : Stand ℕ} {ws coins : List ℕ} {i : ℕ} {t : Stand ℕ} → Hearing vs s ws coins i t → (u : Stand ℕ) (a : List ℕ) →
    i < length coins → length coins ≡ variables_of s → a ≡ take 4 (drop (4 * i) ws) → fits numbers t a ≡ true →
    u ≡ next numbers t a (get_or coins i 0) → Hearing vs s ws coins (i + 1) u
hearing_more {vs} {s} {ws} {coins} {i} {t} h u a l e ea fit eu =
    let r = get_or coins i 0 in
    let due : Due t = due_at s t i (length coins) h.at e l in
    let after = eu ∙ next_due numbers t a r due in
    let counted : length (t.point ++ (r ∷ [])) ≡ i + 1 = length_push t.point r ∙ ap (λ (n : ℕ). n + 1) h.at.drawn in
    record {
      leads = λ rest later.
          ap₂ (λ (xs : List (List ℕ)) (ys : List ℕ). resume numbers vs s (xs ++ rest) (ys ++ later))
          (fours_more i ws ∙ ap (λ (b : List ℕ). fours i ws ++ (b ∷ [])) (sym ea)) (take_more coins i 0 l) ∙
          leads_more vs s t (fours i ws) (take i coins) a r h.leads fit rest later ∙
          ap (λ (x : Stand ℕ). resume numbers vs x rest later) (sym eu);
      at =
          record {
            copies = ap (λ (x : Stand ℕ). x.copies) after ∙ h.at.copies;
            inputs = ap (λ (x : Stand ℕ). x.inputs) after ∙ h.at.inputs;
            layers = ap (λ (x : Stand ℕ). x.layers) after ∙ h.at.layers;
            drawn = ap (λ (x : Stand ℕ). length x.point) after ∙ counted;
          };
    }

pub hearing_ends : {vs : List ℕ} {s : Stand ℕ} {ws coins : List ℕ} {i : ℕ} {t : Stand ℕ} → Hearing vs s ws coins i t → (a : List ℕ) (v : Verdict) →
    i < length coins → a ≡ take 4 (drop (4 * i) ws) → fits numbers t a ≡ false → v ≡ doubt t →
    Ends vs s (fours (length coins) ws) coins v
hearing_ends {vs} {s} {ws} {coins} {i} {t} h a v l ea fit ev rest later =
    let n = length coins in
    let others = fours (n - (i + 1)) (drop (4 * (i + 1)) ws) in
    ap₂ (λ (xs : List (List ℕ)) (ys : List ℕ). resume numbers vs s (xs ++ rest) (ys ++ later))
    (fours_split n i ws l ∙ ap (λ (b : List ℕ). fours i ws ++ (b ∷ others)) (sym ea))
    (sym (take-append-drop i coins) ∙ ap (λ (ys : List ℕ). take i coins ++ ys) (drop_more coins i 0 l)) ∙
    ends_there vs s t (fours i ws) others (take i coins) (drop (i + 1) coins) a (get_or coins i 0) v h.leads fit ev rest later

-- the same along the fours of the words and the coins that are left
pub record Passing (vs : List ℕ) (s : Stand ℕ) (ws coins : List ℕ) (size : ℕ) (words_left coins_left : List ℕ) (t : Stand ℕ) : Type 0 where
  pub done : ℕ
  pub heard : Hearing vs s ws coins done t
  pub within : done ≤ length coins
  pub four : size ≡ 4
  pub words : words_left ≡ drop (4 * done) ws
  pub coins_are : coins_left ≡ drop done coins

pub passing_none : (vs : List ℕ) (s : Stand ℕ) (ws coins : List ℕ) (size : ℕ) (words_left coins_left : List ℕ) → length s.point ≡ 0 → size ≡ 4 →
    words_left ≡ ws → coins_left ≡ coins → Passing vs s ws coins size words_left coins_left s
passing_none vs s ws coins size words_left coins_left e four ew ec =
    record { done = 0; heard = hearing_none vs s ws coins e; within = omega arith; four = four; words = ew; coins_are = ec }

-- one four and one coin, each at its place
pub record Taken (ws coins : List ℕ) (i : ℕ) (a : List ℕ) (r : ℕ) : Type 0 where
  pub inside : i < length coins
  pub said : a ≡ take 4 (drop (4 * i) ws)
  pub word : r ≡ get_or coins i 0

module _ {vs : List ℕ} {s : Stand ℕ} {ws coins : List ℕ} {size : ℕ} {words_left coins_left : List ℕ} {t : Stand ℕ}
    (h : Passing vs s ws coins size words_left coins_left t) (a words_later coins_later : List ℕ) (r : ℕ) (ew : words_left ≡ a ++ words_later)
    (el : length a ≡ size) (ec : coins_left ≡ r ∷ coins_later) where
  pub passing_taken : Taken ws coins h.done a r
  passing_taken =
      let i = h.done in
      let inside : i < length coins = omega (arith, ap length ec, ap length h.coins_are, length-drop i coins) in
      record {
        inside = inside;
        said = sym (take_at a words_later 4 (el ∙ h.four)) ∙ ap (take 4) (sym ew ∙ h.words);
        word = ap (λ (xs : List ℕ). get_or xs 0 0) (sym ec ∙ h.coins_are ∙ drop_more coins i 0 inside);
      }

  pub passing_more : (u : Stand ℕ) (size' : ℕ) → size' ≡ size → length coins ≡ variables_of s → fits numbers t a ≡ true → u ≡ next numbers t a r →
      Passing vs s ws coins size' words_later coins_later u
  passing_more u size' es e fit eu =
      let i = h.done in
      let taken = passing_taken in
      let later : 4 * i + 4 ≡ 4 * (i + 1) = omega arith in
      record {
        done = i + 1;
        heard = hearing_more h.heard u a taken.inside e taken.said fit (eu ∙ ap (next numbers t a) taken.word);
        within = omega (arith, taken.inside);
        four = es ∙ h.four;
        words =
            sym (drop_at a words_later 4 (el ∙ h.four)) ∙ ap (drop 4) (sym ew ∙ h.words) ∙ drop-drop 4 (4 * i) ws ∙
            ap (λ (n : ℕ). drop n ws) later;
        coins_are = ap (drop 1) (sym ec ∙ h.coins_are) ∙ drop-drop 1 i coins;
      }

  pub passing_ends : (v : Verdict) → fits numbers t a ≡ false → v ≡ doubt t → Ends vs s (fours (length coins) ws) coins v
  passing_ends v fit ev = hearing_ends h.heard a v passing_taken.inside passing_taken.said fit ev
