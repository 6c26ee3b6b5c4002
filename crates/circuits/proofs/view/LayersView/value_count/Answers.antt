-- A power of a sum is the product of the powers.
use Rattle.std.proofs.Common.{◌*◌, ◌^◌, ap, ◌∙◌}
use Rattle.std.proofs.lemmas.Nat.{pow-add}
use Rattle.circuits.proofs.view.LayersView.value_count.Goals as goal

pub returns-clause-value : goal.returns-clause-value
returns-clause-value c =
    let copies = c.args.self.copies in
    c.power.ensures.value ∙ pow-add 2 copies c.top_size.result ∙ ap (λ k. 2 ^ copies * 2 ^ k) c.top_size.ensures.value
