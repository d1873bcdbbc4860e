-- `weigh` meets its contract: what is found before check 13, and then that.
use mathlib.Core.Path.{◌≡◌, sym, ap, ap₂, ◌∙◌}
use mathlib.Core.Bool.{Bool, ◌&&◌, ◌||◌, not}
use lib.Dec.{ltb}
use Rattle.settings.specs.declared.Rules.{Rules}
use Rattle.answer.specs.Answers.{is_taken}
use Rattle.answer.specs.declared.Answer.{Answer}
use Rattle.lifecycle.specs.Lifecycle.{judged_sides}
use Rattle.level.specs.Kept.{kept_in}
use Rattle.settings.specs.Rules.{rules_of}
use Rattle.book.proofs.Refusing.{before-sum, weighed-refused, weighed-sum}
use Rattle.book.proofs.taking.weigh.Goals as goal
use Rattle.book.proofs.taking.weigh.Goals.{After-judge_sides-answer}

-- what is found before check 13
module _ (c : After-judge_sides-answer) where
  abbrev met : Bool
  met = c.args.bid_side.replaced || c.args.ask_side.replaced

  abbrev over : Bool
  over = ltb (rules_of c.args.dialect).levels c.args.bid_side.count || ltb (rules_of c.args.dialect).levels c.args.ask_side.count

  abbrev found : Answer
  found = before-sum c.args.outline c.args.dialect (kept_in c.args.bids.now c.args.bid_side.left) (kept_in c.args.asks.now c.args.ask_side.left) met over

  found-is : c.judge_sides-answer.result ≡ found
  found-is =
      c.judge_sides-answer.ensures
      ∙ ap₂ (judged_sides c.args.outline.kind met)
      (c.is_over.ensures ∙ ap (λ (x : Rules). not x.cut && (ltb x.levels c.args.bid_side.count || ltb x.levels c.args.ask_side.count)) c.rules_of-rules.ensures)
      c.is_crossed-crossed.ensures

pub returns-then-is_taken : goal.returns-then-is_taken
returns-then-is_taken c =
    let j = (goal.at.returns-then-is_taken c).After-judge_sides-answer in
    let a = c.args in
    c.judge_checksum.ensures
    ∙ weighed-sum a.outline a.dialect (kept_in a.bids.now a.bid_side.left) (kept_in a.asks.now a.ask_side.left) (met j) (over j)
    (ap is_taken (sym (found-is j)) ∙ sym c.is_taken.ensures ∙ c.if-is_taken.true)

pub returns : goal.returns
returns c =
    let j = (goal.at.returns c).After-judge_sides-answer in
    let a = c.args in
    found-is j
    ∙ weighed-refused a.outline a.dialect (kept_in a.bids.now a.bid_side.left) (kept_in a.asks.now a.ask_side.left) (met j) (over j)
    (ap is_taken (sym (found-is j)) ∙ sym c.is_taken.ensures ∙ c.if-is_taken.false)
