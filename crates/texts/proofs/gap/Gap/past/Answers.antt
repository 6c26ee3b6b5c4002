-- A byte that is none of those that are passed by name begins a word.
use Rattle.std.proofs.Common.{rules, ◌≡◌, sym}
use Rattle.texts.specs.declared.gap.Gap.TheVariants.{First}
use Rattle.texts.proofs.Steps.{past_line_end, past_comment, past_space, past_hash, past_word}
use Rattle.texts.proofs.gap.Gap.past.Goals as goal

pub returns-then-byte-eq-LINE_END : goal.returns-then-byte-eq-LINE_END
returns-then-byte-eq-LINE_END c = λ rest. past_line_end c.args.self c.args.byte rest c.if-byte-eq-LINE_END.true

pub returns-in-Comment : goal.returns-in-Comment
returns-in-Comment c = λ rest. past_comment c.args.self c.args.byte rest c.in-Comment.is c.if-byte-eq-LINE_END.false

pub returns-in_default-2 : goal.returns-in_default-2
returns-in_default-2 c = λ rest. past_space c.args.self c.args.byte rest c.in_default-2.not-Comment (sym c.if-is_space.ensures)

pub returns-in-First : goal.returns-in-First
returns-in-First c =
    let first : c.args.self ≡ First = search rules in
    λ rest. past_hash c.args.self c.args.byte rest first c.if-byte-eq-HASH.true

pub returns-in_default-3 : goal.returns-in_default-3
returns-in_default-3 c =
    past_word c.args.self c.args.byte c.if-byte-eq-LINE_END.false c.in_default-3.not-Comment (λ _. c.if-byte-eq-HASH.false) (sym c.if-is_space.ensures)
