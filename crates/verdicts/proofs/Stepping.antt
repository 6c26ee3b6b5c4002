-- The laws of one step of the machine, with a variable due and with the two values due.
-- And the prover that says the answers of a list in turn: after a coin it says those from the next one on.
use Rattle.std.proofs.Common.{◌≡◌, ℕ, ◌<◌, ◌≤◌, Bool, true, false, cond, ◌&&◌, eqb, ◌⊎◌, List, [], ◌∷◌, length, get_or, drop, sym, refl, ap, ◌∙◌, inl, inr, arith}
use mathlib.Core.Path.{fun_ext}
use Rattle.std.proofs.lemmas.Bool.{lt-ltb, le-ltb, ltb-true, ltb-false, eqb-true, eq-eqb, ne_eqb, and_parts, cases_lt, cond-true, cond-false}
use Rattle.arithmetic.specs.Numbers.{Numbers, modulo, all_reduced}
use Rattle.arithmetic.specs.Cubic.{interpolate}
use Rattle.argument.specs.Claims.{share_sum}
use Rattle.argument.specs.Sumcheck.{Prover, after, well_formed, nth}
use Rattle.verdicts.specs.declared.verdict.Place.TheVariants.{Variable, Values, Inputs}
use Rattle.verdicts.specs.declared.verdict.Verdict.{Verdict}
use Rattle.verdicts.specs.declared.verdict.Verdict.TheVariants.{Believed, Stopped}
use Rattle.verdicts.specs.Machine.{is_believed, Stand, after_variable, after_values, variables, variables_of, variable_due, size_under, point_c, point_x, point_y, expected_of, fits_variable, fits_values, fits, next, doubt, settled, resume}

-- the prover that says these answers in turn
abbrev pub said : {K : Type 0} → List (List K) → Prover K
said answers coins = get_or answers (length coins) []

pub after-said : {K : Type 0} (answers : List (List K)) (r : K) → after r (said answers) ≡ said (drop 1 answers)
after-said [] r = fun_ext (λ coins. refl)
after-said (a ∷ answers) r = fun_ext (λ coins. refl)

pub believed_cond : (b : Bool) (v w : Verdict) → is_believed w ≡ false → is_believed (cond b v w) ≡ (b && is_believed v)
believed_cond true v w e = refl
believed_cond false v w e = e

doubt_stops : {K : Type 0} (s : Stand K) → is_believed (doubt s) ≡ false
unfolding doubt
doubt_stops s = refl

-- a variable is left, or none is
abbrev pub Due : {K : Type 0} → Stand K → Type 0
Due s = length s.point < variables s.copies s.inputs s.layers

abbrev pub Done : {K : Type 0} → Stand K → Type 0
Done s = variables s.copies s.inputs s.layers ≤ length s.point

-- what is due, from the test that the code makes
pub due_is : {K : Type 0} (s : Stand K) (b : Bool) → b ≡ variable_due s → b ≡ true → Due s
due_is s b e h = ltb-true (length s.point) (variables_of s) (sym e ∙ h)

pub done_is : {K : Type 0} (s : Stand K) (b : Bool) → b ≡ variable_due s → b ≡ false → Done s
done_is s b e h = ltb-false (length s.point) (variables_of s) (sym e ∙ h)

pub doubt_due : {K : Type 0} (s : Stand K) (n : ℕ) → Due s → length s.point ≡ n → Stopped s.layer (Variable n) ≡ doubt s
unfolding doubt
doubt_due s n h e =
    ap (λ (k : ℕ). Stopped s.layer (Variable k)) (sym e) ∙
    ap (Stopped s.layer) (sym (cond-true (variable_due s) (Variable (length s.point)) Values (lt-ltb _ _ h)))

pub doubt_done : {K : Type 0} (s : Stand K) → Done s → Stopped s.layer Values ≡ doubt s
unfolding doubt
doubt_done s h = ap (Stopped s.layer) (sym (cond-false (variable_due s) (Variable (length s.point)) Values (le-ltb _ _ h)))

module _ {K : Type 0} (N : Numbers K) where
  open N use {add, equal}

  -- the test of the two values
  abbrev values_test : Stand K → List K → Bool
  values_test s a =
      equal
      (expected_of N s.layers (size_under s) s.claim (point_c s) (point_x s) (point_y s) (nth N a 0) (nth N a 1))
      s.total

  pub fits_due : (s : Stand K) (a : List K) → Due s → fits N s a ≡ fits_variable N s a
  unfolding fits
  fits_due s a h = cond-true (variable_due s) (fits_variable N s a) (fits_values N s a) (lt-ltb _ _ h)

  pub fits_done : (s : Stand K) (a : List K) → Done s → fits N s a ≡ fits_values N s a
  unfolding fits
  fits_done s a h = cond-false (variable_due s) (fits_variable N s a) (fits_values N s a) (le-ltb _ _ h)

  -- only a variable's answer has four numbers, and only the two values are two
  pub four_due : (s : Stand K) (a : List K) → length a ≡ 4 → fits N s a ≡ true → Due s × (all_reduced N a ≡ true)
  four_due s a four h = by-due (cases_lt (length s.point) (variables_of s))
    where
      by-due : (length s.point < variables_of s) ⊎ (variables_of s ≤ length s.point) → Due s × (all_reduced N a ≡ true)
      by-due (inl due) =
          let all : fits_variable N s a ≡ true = sym (fits_due s a due) ∙ h in
          let form = (and_parts (well_formed N 4 a) (equal (add (nth N a 0) (nth N a 1)) s.total) all).0 in
          (due, (and_parts (eqb (length a) 4) (all_reduced N a) form).1)
      by-due (inr done) =
          let all : fits_values N s a ≡ true = sym (fits_done s a done) ∙ h in
          let form = (and_parts (well_formed N 2 a) (values_test s a) all).0 in
          let two : length a ≡ 2 = eqb-true (length a) 2 (and_parts (eqb (length a) 2) (all_reduced N a) form).0 in
          absurd (omega arith)

  pub two_done : (s : Stand K) (a : List K) → length a ≡ 2 → fits N s a ≡ true → Done s × (all_reduced N a ≡ true)
  two_done s a two h = by-due (cases_lt (length s.point) (variables_of s))
    where
      by-due : (length s.point < variables_of s) ⊎ (variables_of s ≤ length s.point) → Done s × (all_reduced N a ≡ true)
      by-due (inl due) =
          let all : fits_variable N s a ≡ true = sym (fits_due s a due) ∙ h in
          let form = (and_parts (well_formed N 4 a) (equal (add (nth N a 0) (nth N a 1)) s.total) all).0 in
          let four : length a ≡ 4 = eqb-true (length a) 4 (and_parts (eqb (length a) 4) (all_reduced N a) form).0 in
          absurd (omega arith)
      by-due (inr done) =
          let all : fits_values N s a ≡ true = sym (fits_done s a done) ∙ h in
          let form = (and_parts (well_formed N 2 a) (values_test s a) all).0 in
          (done, (and_parts (eqb (length a) 2) (all_reduced N a) form).1)

  pub next_due : (s : Stand K) (a : List K) (r : K) → Due s → next N s a r ≡ after_variable s r (interpolate N a r)
  unfolding next
  next_due s a r h =
      cond-true (variable_due s) (after_variable s r (interpolate N a r)) (after_values N s a r) (lt-ltb _ _ h)

  pub next_done : (s : Stand K) (a : List K) (r : K) → Done s → next N s a r ≡ after_values N s a r
  unfolding next
  next_done s a r h =
      cond-false (variable_due s) (after_variable s r (interpolate N a r)) (after_values N s a r) (le-ltb _ _ h)

  -- whether the machine believes from a stand on
  abbrev pub goes_on : List K → Stand K → List (List K) → List K → Bool
  goes_on vs s answers coins = is_believed (resume N vs s answers coins)

  pub step : (vs : List K) (s : Stand K) (answers : List (List K)) (r : K) (coins : List K) →
      goes_on vs s answers (r ∷ coins) ≡
      (fits N s (get_or answers 0 []) && goes_on vs (next N s (get_or answers 0 []) r) (drop 1 answers) coins)
  unfolding resume
  step vs s answers r coins =
      let a = get_or answers 0 [] in
      believed_cond (fits N s a) (resume N vs (next N s a r) (drop 1 answers) coins) (doubt s) (doubt_stops s)

  pub step_due : (vs : List K) (s : Stand K) (answers : List (List K)) (r : K) (coins : List K) → Due s →
      goes_on vs s answers (r ∷ coins) ≡
      (fits_variable N s (get_or answers 0 []) &&
      goes_on vs (after_variable s r (interpolate N (get_or answers 0 []) r)) (drop 1 answers) coins)
  step_due vs s answers r coins h =
      step vs s answers r coins ∙ rw (fits_due s (get_or answers 0 []) h, next_due s (get_or answers 0 []) r h)

  pub step_done : (vs : List K) (s : Stand K) (answers : List (List K)) (r : K) (coins : List K) → Done s →
      goes_on vs s answers (r ∷ coins) ≡
      (fits_values N s (get_or answers 0 []) && goes_on vs (after_values N s (get_or answers 0 []) r) (drop 1 answers) coins)
  step_done vs s answers r coins h =
      step vs s answers r coins ∙ rw (fits_done s (get_or answers 0 []) h, next_done s (get_or answers 0 []) r h)

-- the verdict at the inputs, from whether the sum is the total
pub settled_so : (p : ℕ) (vs : List ℕ) (s : Stand ℕ) (sum : ℕ) → sum ≡ share_sum (modulo p) vs s.claim.copy s.claim.shares →
    sum ≡ s.claim.total → Believed ≡ settled (modulo p) vs s
unfolding settled
settled_so p vs s sum e h =
    sym (cond-true (eqb (share_sum (modulo p) vs s.claim.copy s.claim.shares) s.claim.total) Believed (Stopped s.layer Inputs)
    (eq-eqb _ _ (sym e ∙ h)))

pub settled-not : (p : ℕ) (vs : List ℕ) (s : Stand ℕ) (sum : ℕ) → sum ≡ share_sum (modulo p) vs s.claim.copy s.claim.shares →
    (sum ≡ s.claim.total → ⊥) → Stopped s.layer Inputs ≡ settled (modulo p) vs s
unfolding settled
settled-not p vs s sum e h =
    sym (cond-false (eqb (share_sum (modulo p) vs s.claim.copy s.claim.shares) s.claim.total) Believed (Stopped s.layer Inputs)
    (ne_eqb _ _ (λ f. h (e ∙ f))))
