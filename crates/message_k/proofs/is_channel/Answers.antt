-- `is_channel` meets its contract: the bytes are those of the name.
-- Assumes nothing.
use mathlib.Core.Path.{◌≡◌, ap, ◌∙◌}
use native.Mathlib.Omega.{arith}
use Rattle.json_values.specs.Names.{means}
use Rattle.message_k.proofs.Channel.{channel-three}
use Rattle.message_k.proofs.is_channel.Goals as goal

pub returns-then-depth-lt100 : goal.returns-then-depth-lt100
returns-then-depth-lt100 c = let a = c.args in c.is_name.ensures ∙ ap (means a.s.now (record { from = a.from; to = a.to })) c.two_digits-name.ensures

pub returns-else-depth-lt100 : goal.returns-else-depth-lt100
returns-else-depth-lt100 c = let a = c.args in let h : a.depth ≡ 100 = omega arith in c.is_name-else-depth-lt100.ensures ∙ ap (means a.s.now (record { from = a.from; to = a.to })) (channel-three a.depth h)
