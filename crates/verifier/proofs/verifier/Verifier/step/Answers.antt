-- Four numbers are a variable's, and two are the values; each leads where the machine goes.
use Rattle.std.proofs.Common.{◌≡◌, ℕ, ◌+◌, true, List, length, get_or, drop, sym, ap, ◌∙◌, ap₂, arith, rules}
use Rattle.arithmetic.specs.Cubic.{interpolate}
use Rattle.arithmetic.proofs.Newton.{reduced_at}
use Rattle.arithmetic.proofs.Truth.{T_of_path}
use Rattle.argument.specs.Argument.{claim_below}
use Rattle.argument.specs.Claims.{Claim}
use Rattle.circuits.specs.Words.{modulus}
use Rattle.verdicts.specs.Machine.{Stand, after_variable, stand_at, point_c, point_x, point_y, fits}
use Rattle.verdicts.proofs.Stepping.{four_due, two_done, next_due, next_done}
use Rattle.claims.specs.Meaning.{numbers}
use Rattle.claims.specs.Messages.{numbers_of}
use Rattle.claims.specs.declared.message.Message.{Message}
use Rattle.verifier.specs.Answers.{coin_answer, coin_word}
use Rattle.verifier.specs.Meaning.{stand_of}
use Rattle.verifier.proofs.verifier.Verifier.step.Goals as goal

-- the numbers that a match found in the message are those of the answer, so that they fit
said_fits : (s : Stand ℕ) (m n : Message) (answer : List ℕ) → m ≡ n → numbers_of m ≡ answer → fits numbers s answer ≡ true →
    (numbers_of n ≡ answer) × (fits numbers s (numbers_of n) ≡ true)
said_fits s m n answer is said fit =
    let same : numbers_of n ≡ answer = sym (ap numbers_of is) ∙ said in
    (same, ap (fits numbers s) same ∙ fit)

pub cubic_at-total-requires-clause-reduced : goal.cubic_at-total-requires-clause-reduced
cubic_at-total-requires-clause-reduced c =
    let s = stand_of c.args.self.now in
    let values = c.in-Round.values in
    let four : length values ≡ 4 = search rules in
    let fit = said_fits s _ _ (coin_answer c.args.coin) c.in-Round.is c.spend-message.ensures.0 c.requires.fits in
    T_of_path _ (four_due numbers s values four fit.1).1

pub advanced-requires-clause-due : goal.advanced-requires-clause-due
advanced-requires-clause-due c =
    let s = stand_of c.args.self.now in
    let values = c.in-Round.values in
    let four : length values ≡ 4 = search rules in
    let fit = said_fits s _ _ (coin_answer c.args.coin) c.in-Round.is c.spend-message.ensures.0 c.requires.fits in
    (four_due numbers s values four fit.1).0

pub claim_below-claim-requires-clause-done : goal.claim_below-claim-requires-clause-done
claim_below-claim-requires-clause-done c =
    let s = stand_of c.args.self.now in
    let values = c.in-Values.values in
    let two : length values ≡ 2 = search rules in
    let fit = said_fits s _ _ (coin_answer c.args.coin) c.in-Values.is c.spend-message.ensures.0 c.requires.fits in
    (two_done numbers s values two fit.1).0

pub claim_below-claim-requires-clause-values : goal.claim_below-claim-requires-clause-values
claim_below-claim-requires-clause-values c =
    let s = stand_of c.args.self.now in
    let values = c.in-Values.values in
    let two : length values ≡ 2 = search rules in
    let fit = said_fits s _ _ (coin_answer c.args.coin) c.in-Values.is c.spend-message.ensures.0 c.requires.fits in
    let at = reduced_at modulus values (T_of_path _ (two_done numbers s values two fit.1).1) in
    (at 0 (omega arith), at 1 (omega arith))

pub returns-in-Round-clause-stand : goal.returns-in-Round-clause-stand
returns-in-Round-clause-stand c =
    let s = stand_of c.args.self.now in
    let answer = coin_answer c.args.coin in
    let word = coin_word c.args.coin in
    let values = c.in-Round.values in
    let four : length values ≡ 4 = search rules in
    let fit = said_fits s _ _ answer c.in-Round.is c.spend-message.ensures.0 c.requires.fits in
    let at-coin : c.cubic_at-total.result ≡ interpolate numbers values c.spend-message.result.1 = c.cubic_at-total.ensures.value in
    let total : c.cubic_at-total.result ≡ interpolate numbers answer word =
    at-coin ∙ ap₂ (interpolate numbers) fit.0 c.spend-message.ensures.1
    in
    c.advanced.ensures.stand ∙ ap₂ (λ (r t : ℕ). after_variable s r t) c.spend-message.ensures.1 total ∙
    sym (next_due numbers s answer word (four_due numbers s values four fit.1).0)

pub returns-in-Values-clause-stand : goal.returns-in-Values-clause-stand
returns-in-Values-clause-stand c =
    let s = stand_of c.args.self.now in
    let answer = coin_answer c.args.coin in
    let word = coin_word c.args.coin in
    let values = c.in-Values.values in
    let two : length values ≡ 2 = search rules in
    let fit = said_fits s _ _ answer c.in-Values.is c.spend-message.ensures.0 c.requires.fits in
    let claims =
    c.claim_below-claim.ensures ∙
    ap₂ (λ (a : List ℕ) (r : ℕ). claim_below numbers (point_c s) (point_x s) (point_y s) (get_or a 0 0) (get_or a 1 0) r) fit.0 c.spend-message.ensures.1
    in
    c.descended.ensures.stand ∙
    ap (λ (k : Claim ℕ). stand_at s.copies s.inputs (s.layer + 1) (drop 1 s.layers) k) claims ∙
    sym (next_done numbers s answer word (two_done numbers s values two fit.1).0)
