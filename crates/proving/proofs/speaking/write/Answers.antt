-- The message's numbers follow the words before them.
use Rattle.std.proofs.Common.{◌≡◌, ℕ, ◌+◌, ◌-◌, List, ◌++◌, length, take, ap, ◌∙◌, arith}
use Rattle.std.proofs.lemmas.Slice.{take-put_mid}
use Rattle.claims.specs.Messages.{numbers_of}
use Rattle.proving.proofs.speaking.write.Goals as goal

pub returns-clause-words : goal.returns-clause-words
returns-clause-words c =
    let at = c.args.at in
    let room = c.args.room.now in
    let n = length c.as_slice-numbers.result.now in
    let new = c.copy_from_slice.new.self in
    let after : new ≡ numbers_of c.args.message = c.copy_from_slice.ensures.after ∙ c.as_slice-numbers.ensures in
    take-put_mid at (at + n - at) room new (at + n) (omega (arith, ap length c.copy_from_slice.ensures.after)) (omega (arith, c.requires, ap length c.as_slice-numbers.ensures))
    ∙ ap (λ (l : List ℕ). take at room ++ l) after
