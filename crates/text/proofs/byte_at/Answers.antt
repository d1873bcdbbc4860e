-- `text::byte_at` meets its contract: past its end a list gives the default.
-- Assumes nothing.
use mathlib.Core.Path.{sym}
use lib.ListN.{get_or-eq_default}
use borrow.Author.Rules.{rules}
use Rattle.text.specs.Text.{byte_at}
use Rattle.text.proofs.byte_at.Goals as goal

pub returns-then-i-s : goal.returns-then-i-s
unfolding byte_at
returns-then-i-s c = search rules

pub returns-else-i-s : goal.returns-else-i-s
unfolding byte_at
returns-else-i-s c = sym (get_or-eq_default c.args.s.now 0 c.if-i-s.false)
