-- `with_member_span` meets its contract.
use Rattle.layout.specs.MemberSpans.{with_member_span}
use Rattle.layout.proofs.with_member_span.Goals as goal

pub returns : goal.returns
unfolding with_member_span
returns c = rw c.few_more.ensures
