-- The judge prints `believed` only where the argument is accepted, with the coins of DICE and the answers of the lines.
-- Line by line: whatever else comes first, a refusal or a doubt, is the last that is printed.
use Rattle.std.proofs.Common.{◌≡◌, ℕ, zero, suc, ◌<◌, Bool, true, false, cond, ltb, List, [], ◌∷◌, ◌++◌, map, length, get_or, Some, None, Option, sym, refl, ap, ◌∙◌, subst, arith}
use Rattle.std.proofs.lemmas.List.{append-nil, append_assoc, map-append, length-append, take_at, drop_at}
use Rattle.std.proofs.lemmas.Bool.{and_parts, and_from, cond-true, true≢false, false≢true}
use Rattle.arithmetic.specs.Numbers.{all_reduced}
use Rattle.arithmetic.proofs.Truth.{T_of_path}
use Rattle.circuits.specs.Words.{modulus}
use Rattle.argument.specs.Argument.{first_coins, layer_coins, coins_of, accepts}
use Rattle.argument.specs.Transcript.{written}
use Rattle.verdicts.specs.declared.verdict.Verdict.{Verdict}
use Rattle.verdicts.specs.declared.verdict.Verdict.TheVariants.{Believed, Stopped}
use Rattle.verdicts.specs.Machine.{is_believed, Stand, fits, next, doubt, settled, resume, start}
use Rattle.verdicts.specs.Machine as machine
use Rattle.claims.specs.Meaning.{numbers as N}
use Rattle.verdicts.proofs.Bridge.{machine_believes}
use Rattle.texts.specs.Texts.{numbers_of}
use Rattle.programs.specs.Judge.{Said, coin, verdict, refusal, drawn, at_inputs, ending, heard, talk, opening, judge_says}
use Rattle.programs.specs.Theorems.{ReadAs, BelievedOnlyWhere}
use Rattle.programs.proofs.CoinsLeft.{CoinsLeft, none_left, some_left, next_left, start_left}

-- ---- `believed` is among what is printed
abbrev Believing : List Said → Type 0
Believing [] = ⊥
Believing (coin r ∷ later) = Believing later
Believing (refusal n ∷ later) = Believing later
Believing (verdict Believed ∷ later) = Unit {0}
Believing (verdict (Stopped layer place) ∷ later) = Believing later

believing_later : (x : Said) (later : List Said) → Believing later → Believing (x ∷ later)
believing_later (coin r) later h = h
believing_later (refusal n) later h = h
believing_later (verdict Believed) later h = tt
believing_later (verdict (Stopped layer place)) later h = h

believing_at : (k : ℕ) (printed : List Said) → k < length printed → ((d : Said) → get_or printed k d ≡ verdict Believed) →
    Believing printed
believing_at zero [] l h = absurd (omega arith)
believing_at (suc k) [] l h = absurd (omega arith)
believing_at zero (x ∷ later) l h = subst (λ (y : Said). Believing (y ∷ later)) (sym (h x)) tt
believing_at (suc k) (x ∷ later) l h = believing_later x later (believing_at k later (omega arith) h)

in_first : (b : Bool) (x y : List Said) → b ≡ true → Believing (cond b x y) → Believing x
in_first true x y e h = h
in_first false x y e h = absurd (false≢true e)

in_second : (b : Bool) (x y : List Said) → b ≡ false → Believing (cond b x y) → Believing y
in_second true x y e h = absurd (true≢false e)
in_second false x y e h = h

passed : (b : Bool) (x y : List Said) → (Believing y → ⊥) → Believing (cond b x y) → (b ≡ true) × Believing x
passed true x y none h = (refl, h)
passed false x y none h = absurd (none h)

-- ---- one coin, one line
drawn_passed : (dice : List (Option ℕ)) (go : ℕ → List (Option ℕ) → List Said) → Believing (drawn dice go) →
    (r : ℕ) × (rest : List (Option ℕ)) × (dice ≡ Some r ∷ rest) × (ltb r modulus ≡ true) × Believing (go r rest)
drawn_passed [] go h = absurd h
drawn_passed (None ∷ dice) go h = absurd h
drawn_passed (Some r ∷ dice) go h =
    let p = passed (ltb r modulus) (coin r ∷ go r dice) (refusal 3 ∷ []) (λ x. x) h in (r, dice, refl, p.0, p.1)

heard_passed : (s : Stand ℕ) (numbers : Option (List ℕ)) (go : List ℕ → List Said) → Believing (heard s numbers go) →
    (a : List ℕ) × (numbers ≡ Some a) × (fits N s a ≡ true) × Believing (go a)
unfolding doubt
heard_passed s None go h = absurd h
heard_passed s (Some a) go h =
    let p = passed (fits N s a) (go a) (verdict (doubt s) ∷ []) (λ x. x) h in (a, refl, p.0, p.1)

-- ---- from a stand on, n coins being left
record Talked (vs : List ℕ) (s : Stand ℕ) (dice : List (Option ℕ)) (lines : List (List ℕ)) (n : ℕ) : Type 0 where
  coins : List ℕ
  answers : List (List ℕ)
  all_dice : dice ≡ map Some coins
  coin_count : length coins ≡ n
  coins_below : all_reduced N coins ≡ true
  answer_count : length answers ≡ n
  lines_read : ReadAs lines answers
  believed : resume N vs s answers coins ≡ Believed

settled_believed : (vs : List ℕ) (s : Stand ℕ) (dice : List (Option ℕ)) (lines : List (List ℕ)) →
    Believing (ending (settled N vs s) dice ∷ []) → Talked vs s dice lines 0
unfolding resume all_reduced
settled_believed vs s dice lines h = go (settled N vs s) dice refl h
  where
    go : (v : Verdict) (left : List (Option ℕ)) → settled N vs s ≡ v → Believing (ending v left ∷ []) →
        Talked vs s left lines 0
    go Believed [] e h =
        record {
          coins = [];
          answers = [];
          all_dice = refl;
          coin_count = refl;
          coins_below = refl;
          answer_count = refl;
          lines_read = tt;
          believed = e;
        }
    go Believed (None ∷ left) e h = absurd h
    go Believed (Some r ∷ left) e h = absurd h
    go (Stopped layer place) left e h = absurd h

-- one line and one coin before all that
talked_more :
    (vs : List ℕ) (s : Stand ℕ) (dice : List (Option ℕ)) (line : List ℕ) (lines : List (List ℕ)) (n : ℕ) (a : List ℕ)
    (r : ℕ) (rest : List (Option ℕ)) →
    numbers_of line ≡ Some a → fits N s a ≡ true → dice ≡ Some r ∷ rest → ltb r modulus ≡ true →
    Talked vs (next N s a r) rest lines n → Talked vs s dice (line ∷ lines) (suc n)
unfolding resume all_reduced
talked_more vs s dice line lines n a r rest reads fit dice_are below later =
    record {
      coins = r ∷ later.coins;
      answers = a ∷ later.answers;
      all_dice = dice_are ∙ ap (λ (left : List (Option ℕ)). Some r ∷ left) later.all_dice;
      coin_count = ap suc later.coin_count;
      coins_below = and_from (ltb r modulus) (all_reduced N later.coins) below later.coins_below;
      answer_count = ap suc later.answer_count;
      lines_read = (reads, later.lines_read);
      believed =
          cond-true (fits N s a) (resume N vs (next N s a r) later.answers later.coins) (doubt s) fit ∙
          later.believed;
    }

talk_believed : (vs : List ℕ) (lines : List (List ℕ)) (n : ℕ) (s : Stand ℕ) (dice : List (Option ℕ)) → CoinsLeft s n →
    Believing (talk vs s dice lines) → Talked vs s dice lines n
unfolding talk doubt
talk_believed vs [] zero s dice left h =
    settled_believed vs s dice [] (in_first (at_inputs s.layers) _ _ (none_left s left) h)
talk_believed vs [] (suc n) s dice left h = absurd (in_second (at_inputs s.layers) _ _ (some_left s n left) h)
talk_believed vs (line ∷ lines) zero s dice left h =
    settled_believed vs s dice (line ∷ lines) (in_first (at_inputs s.layers) _ _ (none_left s left) h)
talk_believed vs (line ∷ lines) (suc n) s dice left h =
    let go : List ℕ → List Said = λ a. drawn dice (λ r rest. talk vs (next N s a r) rest lines) in
    let line-heard = heard_passed s (numbers_of line) go (in_second (at_inputs s.layers) _ _ (some_left s n left) h) in
    let a : List ℕ = line-heard.0 in
    let fallen = drawn_passed dice (λ r rest. talk vs (next N s a r) rest lines) line-heard.3 in
    let r : ℕ = fallen.0 in
    talked_more vs s dice line lines n a r fallen.1 line-heard.1 line-heard.2 fallen.2 fallen.3
    (talk_believed vs lines n (next N s a r) fallen.1 (next_left N s n a r left) fallen.4)

-- ---- the first coins
record Opened (n : ℕ) (z : List ℕ) (dice : List (Option ℕ)) (go : List ℕ → List (Option ℕ) → List Said) : Type 0 where
  first : List ℕ
  rest : List (Option ℕ)
  dice_are : dice ≡ map Some first ++ rest
  count : length first ≡ n
  below : all_reduced N first ≡ true
  goes_on : Believing (go (z ++ first) rest)

opening_believed : (n : ℕ) (z : List ℕ) (dice : List (Option ℕ)) (go : List ℕ → List (Option ℕ) → List Said) →
    Believing (opening n z dice go) → Opened n z dice go
unfolding opening all_reduced
opening_believed zero z dice go h =
    record {
      first = [];
      rest = dice;
      dice_are = refl;
      count = refl;
      below = refl;
      goes_on = subst (λ (w : List ℕ). Believing (go w dice)) (sym (append-nil z)) h;
    }
opening_believed (suc n) z dice go h =
    let fallen = drawn_passed dice (λ r left. opening n (z ++ (r ∷ [])) left go) h in
    let r : ℕ = fallen.0 in
    let later : Opened n (z ++ (r ∷ [])) fallen.1 go =
    opening_believed n (z ++ (r ∷ [])) fallen.1 go fallen.4
    in
    record {
      first = r ∷ later.first;
      rest = later.rest;
      dice_are = fallen.2 ∙ ap (λ (left : List (Option ℕ)). Some r ∷ left) later.dice_are;
      count = ap suc later.count;
      below = and_from (ltb r modulus) (all_reduced N later.first) fallen.3 later.below;
      goes_on =
          subst (λ (w : List ℕ). Believing (go w later.rest)) (append_assoc z (r ∷ []) later.first) later.goes_on;
    }

reduced_append : (xs ys : List ℕ) → all_reduced N xs ≡ true → all_reduced N ys ≡ true → all_reduced N (xs ++ ys) ≡ true
unfolding all_reduced
reduced_append [] ys h k = k
reduced_append (x ∷ xs) ys h k =
    let p = and_parts (ltb x modulus) (all_reduced N xs) h in
    and_from (ltb x modulus) (all_reduced N (xs ++ ys)) p.0 (reduced_append xs ys p.1 k)

-- ---- a whole run
pub believed_only_where : BelievedOnlyWhere
believed_only_where c vs claimed dice lines has =
    let k : ℕ = first_coins c in
    let n : ℕ = layer_coins c.copies c.layers c.inputs in
    let go : List ℕ → List (Option ℕ) → List Said = λ z rest. talk vs (start N c claimed z) rest lines in
    let opened : Opened k [] dice go =
    opening_believed k [] dice go (believing_at has.0 (judge_says c vs claimed dice lines) has.1 has.2)
    in
    let z : List ℕ = opened.first in
    let talked : Talked vs (start N c claimed z) opened.rest lines n =
    talk_believed vs lines n (start N c claimed z) opened.rest (start_left N c claimed z) opened.goes_on
    in
    let later : List ℕ = talked.coins in
    let answers : List (List ℕ) = talked.answers in
    let first_count : length z ≡ k = opened.count in
    let later-count : length later ≡ n = talked.coin_count in
    let answer_count : length answers ≡ n = talked.answer_count in
    let count : length (z ++ later) ≡ coins_of c = omega (arith, length-append z later) in
    let sure : machine.verdict N c vs claimed answers (z ++ later) ≡ Believed =
    rw (take_at z later k first_count, drop_at z later k first_count) talked.believed
    in (
      z ++ later,
      answers,
      opened.dice_are ∙ ap (λ (w : List (Option ℕ)). map Some z ++ w) talked.all_dice ∙ sym (map-append Some z later),
      (count, T_of_path (all_reduced N (z ++ later)) (reduced_append z later opened.below talked.coins_below)),
      omega arith,
      talked.lines_read,
      T_of_path (accepts N c vs claimed (written k answers) (z ++ later))
          (sym (machine_believes modulus c vs claimed answers (z ++ later) count) ∙ ap is_believed sure),
    )
