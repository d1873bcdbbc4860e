-- `with_checksum` meets its contract: the value is read, if it is JSON.
-- Assumes nothing.
use mathlib.Core.Path.{refl, sym, ◌∙◌}
use Rattle.message_k.proofs.Numbers.{sum-none, sum_told}
use Rattle.message_k.proofs.with_checksum.Goals as goal

pub returns-in_default : goal.returns-in_default
returns-in_default c = let a = c.args in sum-none a.s.now a.members a.from (sym c.item_end.ensures ∙ c.in_default.is) _ refl

pub summed-next-requires : goal.summed-next-requires
summed-next-requires c = sym c.in-Some.ensures

pub returns : goal.returns
returns c = let a = c.args in sum_told a.s.now a.members a.from c.in-Some.end (sym c.in-Some.ensures) c.summed-next.result c.summed-next.ensures
