-- What the verifier reads in a line is what the talk goes on with: an answer that fits, or where it stopped believing.
-- A line with more numbers than the longest answer fits nowhere.
use Rattle.std.proofs.Common.{◌≡◌, ℕ, ◌-◌, ◌<◌, Bool, true, false, cond, List, [], ◌∷◌, ◌++◌, length, take, IfOk, Some, Ok, Err, Option, Result, sym, refl, ap, ◌∙◌, arith, ne_eqb, MatchResult}
use lib.Seq.{take-append_seam}
use Rattle.arithmetic.specs.Numbers.{modulo}
use Rattle.circuits.specs.Words.{modulus}
use Rattle.verifier.specs.Answers.{answer_seen}
use Rattle.verdicts.specs.Machine.{Stand, variable_due, fits, doubt}
use Rattle.verifier.specs.declared.answer.Answer.{Answer}
use Rattle.verdicts.specs.declared.verdict.Verdict.{Verdict}
use Rattle.texts.specs.Answers.{ReadInto}
use Rattle.texts.specs.Texts.{numbers_of}
use Rattle.texts.specs.declared.error.TextError.{TextError}
use Rattle.texts.specs.declared.error.TextError.TheVariants.{NoNumber, TooMany, NoMemory}
use Rattle.programs.specs.Judge.{Said, verdict, heard}

both_same : (b : Bool) (c : Bool) → cond b c c ≡ c
both_same true c = refl
both_same false c = refl

too_long : (s : Stand ℕ) (ns : List ℕ) → 5 < length ns → fits (modulo modulus) s ns ≡ false
unfolding fits
too_long s ns h =
    rw (ne_eqb (length ns) 4 (omega arith), ne_eqb (length ns) 2 (omega arith)) (both_same (variable_due s) false)

module _ (s : Stand ℕ) (o : Option (List ℕ)) (ns : List ℕ) (read : o ≡ Some ns) (go : List ℕ → List Said) where
  heard_fit : fits (modulo modulus) s ns ≡ true → heard s o go ≡ go ns
  heard_fit f = rw read (rw f refl)

  heard_unfit : fits (modulo modulus) s ns ≡ false → heard s o go ≡ verdict (doubt s) ∷ []
  heard_unfit f = rw read (rw f refl)

-- the verifier was given just the numbers of the line
pub heard_read :
    (s : Stand ℕ) (o : Option (List ℕ)) (ns said : List ℕ) (r : Result Answer Verdict) → o ≡ Some ns → said ≡ ns →
    MatchResult r (λ a. (answer_seen a ≡ said) × (fits (modulo modulus) s said ≡ true))
    (λ v. (v ≡ doubt s) × (fits (modulo modulus) s said ≡ false)) →
    MatchResult r (λ a. (go : List ℕ → List Said) → heard s o go ≡ go (answer_seen a))
    (λ v. (go : List ℕ → List Said) → heard s o go ≡ verdict v ∷ [])
heard_read s o ns said (Ok a) e p h =
    λ go. heard_fit s o ns e go (ap (fits (modulo modulus) s) (sym p) ∙ h.1) ∙ ap go (sym p ∙ sym h.0)
heard_read s o ns said (Err v) e p h =
    λ go. heard_unfit s o ns e go (ap (fits (modulo modulus) s) (sym p) ∙ h.1)
    ∙ ap (λ (w : Verdict). verdict w ∷ []) (sym h.0)

-- and an answer that was read fits
pub read_fits :
    (s : Stand ℕ) (said : List ℕ) (r : Result Answer Verdict) →
    MatchResult r (λ a. (answer_seen a ≡ said) × (fits (modulo modulus) s said ≡ true))
    (λ v. (v ≡ doubt s) × (fits (modulo modulus) s said ≡ false)) →
    IfOk r (λ a. fits (modulo modulus) s (answer_seen a) ≡ true)
read_fits s said (Ok a) h = ap (fits (modulo modulus) s) h.0 ∙ h.1
read_fits s said (Err v) h = tt

-- the line gave no numbers, or too many
pub heard_unread :
    (s : Stand ℕ) (line room filled : List ℕ) (e : TextError) (v : Verdict) → ReadInto line room (Err e) filled →
    length room ≡ 5 → v ≡ doubt s → (go : List ℕ → List Said) → heard s (numbers_of line) go ≡ verdict v ∷ []
heard_unread s line room filled NoNumber v h five d go =
    ap (λ (o : Option (List ℕ)). heard s o go) h ∙ ap (λ (w : Verdict). verdict w ∷ []) (sym d)
heard_unread s line room filled TooMany v h five d go =
    let (ns, e, long) = h in
    heard_unfit s (numbers_of line) ns e go (too_long s ns (omega arith)) ∙ ap (λ (w : Verdict). verdict w ∷ []) (sym d)
heard_unread s line room filled (NoMemory e) v h five d go = absurd h

-- the part of lent words that holds the numbers of a line
pub front_is : (k : ℕ) (filled ns rest : List ℕ) → filled ≡ ns ++ rest → k ≡ length ns → take (k - 0) filled ≡ ns
front_is k filled ns rest e n =
    let whole : k - 0 ≡ length ns = omega arith in
    ap (λ (l : List ℕ). take (k - 0) l) e ∙ ap (λ (m : ℕ). take m (ns ++ rest)) whole ∙ take-append_seam ns rest
