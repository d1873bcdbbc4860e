-- `few_more` meets its contract: case by case.
use Rattle.layout.proofs.MemberSpans.{few-more-zero, few-more-some}
use Rattle.layout.proofs.few_more.Goals as goal

pub returns-then-times-eq0 : goal.returns-then-times-eq0
returns-then-times-eq0 c = few-more-zero c.args.times c.if-times-eq0.true

pub returns-else-times-eq0 : goal.returns-else-times-eq0
returns-else-times-eq0 c = few-more-some c.args.times c.if-times-eq0.false
