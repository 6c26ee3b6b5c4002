-- Each turn writes one answer and takes the coin after it.
use Rattle.std.proofs.Common.{◌≡◌, ℕ, ◌<◌, sym, refl, ◌∙◌, subst, arith}
use Rattle.arithmetic.proofs.Newton.{reduced_at}
use Rattle.circuits.specs.Words.{modulus}
use Rattle.claims.specs.Messages.{numbers_of}
use Rattle.prover.specs.Provers.{Heard, coins_left}
use Rattle.proving.proofs.SpeakSteps.{before_last, spoken_none, spoken_more, spoken_all, last_words}
use Rattle.proving.proofs.speaking.answer_all.Goals as goal

pub loop-coin-init : goal.loop-coin-init
loop-coin-init c = (c.requires.stands, spoken_none c.args.prover c.args.coins.now c.args.room.now c.requires.counts.0 c.requires.counts.1, (refl, refl, refl, refl))

pub hear-requires-clause-coin : goal.hear-requires-clause-coin
hear-requires-clause-coin c =
    let i = c.loop-coin.coin-index in
    let split = c.in-Some.ensures.cases in
    let same = before_last c.args.coins.now c.in-Some.before.now _ i split.0 (omega arith) in
    subst (λ (n : ℕ). n < modulus) same (reduced_at modulus c.args.coins.now c.requires.coins i (omega (arith, split.1)))

pub loop-coin-preserved : goal.loop-coin-preserved
loop-coin-preserved c =
    let i = c.loop-coin.coin-index in
    let split = c.in-Some.ensures.cases in
    let same = before_last c.args.coins.now c.in-Some.before.now _ i split.0 (omega arith) in
    let kept = c.hear.ensures.same_references in
    let before = c.loop-coin.invariant.2 in (
      c.hear.ensures.stands,
      spoken_more c.args.prover c.args.coins.now i c.loop-coin.prover c.loop-coin.room c.write-at.new.room c.loop-coin.at c.write-at.result
          (numbers_of c.say.result) c.loop-coin.invariant.1 c.say.ensures.answer c.say.ensures.reduced c.write-at.ensures.place c.write-at.ensures.words
          c.hear.new.self (subst (λ (n : ℕ). Heard n c.loop-coin.prover c.hear.new.self) (sym same) c.hear.ensures.heard) c.say.ensures.length (omega arith)
          (omega (arith, split.1)),
      (kept.0 ∙ before.0, kept.1 ∙ before.1, kept.2 ∙ before.2, kept.3 ∙ before.3),
    )

pub returns : goal.returns
returns c =
    let s = c.loop-coin.invariant.1 in
    let t = c.loop-coin.prover in
    let split = c.in-Some.ensures.cases in
    let left = s.coins_to_come in
    let one : coins_left t ≡ 1 = omega (arith, split.1) in
    let words = last_words t one in
    let whole =
    spoken_all c.args.prover c.args.coins.now c.loop-coin.coin-index t c.loop-coin.room c.write.new.room c.loop-coin.at c.write.result
    (numbers_of c.say-2.result) s c.say-2.ensures.answer c.say-2.ensures.reduced c.write.ensures.place c.write.ensures.words (omega (arith, split.1))
    (omega (arith, words, c.say-2.ensures.length, c.write.ensures.place, s.words_to_come)) in
    record { room = whole.0; reduced = whole.1; same_references = c.loop-coin.invariant.2 }
