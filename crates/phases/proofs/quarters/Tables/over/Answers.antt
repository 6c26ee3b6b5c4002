-- The words are cut in half, and each half again.
use Rattle.std.proofs.Common.{◌++◌, sym, ◌∙◌, ap₂}
use Rattle.phases.proofs.quarters.Tables.over.Goals as goal

pub returns : goal.returns
returns c = sym (c.split_at_mut-front.ensures.value ∙ ap₂ ◌++◌ c.split_at_mut-v.ensures.value c.split_at_mut-h.ensures.value)
