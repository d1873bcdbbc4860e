-- What the book answers to a message and to the question how many levels it has is the reply. Assumes nothing.
use Prim.Native.Nat.{ℕ, ◌-◌}
use mathlib.Core.Path.{◌≡◌, refl, ap, ap₂, ◌∙◌}
use mathlib.Core.Bool.{true, false, cond}
use mathlib.Core.List.{List, []}
use lib.Dec.{eqb}
use native.Mathlib.Omega.{arith}
use lib.ListN.{length, take, drop, length-drop}
use lib.Seq.{take_all}
use Rattle.line_text.specs.Reply.{reply_text}
use Rattle.answer.specs.Answers.{answer_number, is_taken}
use Rattle.answer.specs.declared.Answer.{Answer}
use Rattle.answer.specs.declared.Answer.TheVariants.{Taken, NoSnapshot}
use Rattle.answer.specs.declared.Answer.TheVariants as answer·
use Rattle.reference.specs.Reference.{Status, shut, waiting, live, is_shut, is_live, Reference, receive, how_many, Value, counts, zeros, stands, side_of, respond, refusal, replied, question, does}
use Rattle.book.specs.Shown.{shows, Received, AnswersCounts}
use Rattle.reference.specs.declared.Scope.TheVariants.{Current}
use Rattle.book.specs.declared.Step.{Step}
use Rattle.book.specs.declared.CountsReply.{CountsReply}
use Rattle.feed.specs.Feed.{reply_to}

-- the answer to a question on current levels
asked_of : Status → Answer
asked_of status = cond (is_shut status) answer·.Shut (cond (is_live status) Taken NoSnapshot)

counted : Status → ℕ → ℕ → Value
counted status m n = cond (is_taken (asked_of status)) (counts m n) (counts 0 0)

same_answer : (p : Reference) → (does p (question (how_many Current)) []).answer ≡ asked_of p.status
unfolding does respond refusal replied stands asked_of
same_answer p = refl

same_value : (p : Reference) → (does p (question (how_many Current)) []).value ≡ counted p.status (length p.last.sides.bids) (length p.last.sides.asks)
unfolding does respond refusal replied zeros side_of stands asked_of counted
same_value p = refl

module _ (answer : Answer) (m n : ℕ) where
  dashes : (bids asks : ℕ) → reply_text answer false bids asks ≡ reply_text answer false m n
  unfolding reply_text
  dashes bids asks = refl

  by-status : (status : Status) (bids asks : ℕ) → counts bids asks ≡ counted status m n → reply_text answer (eqb (answer_number (asked_of status)) 0) bids asks ≡ reply_text answer (is_live status) m n
  unfolding asked_of counted is_shut is_live answer_number is_taken
  by-status shut bids asks v = dashes bids asks
  by-status waiting bids asks v = dashes bids asks
  by-status live bids asks v =
      let b : bids ≡ m = cc in
      let a : asks ≡ n = cc in
      ap₂ (reply_text answer true) b a

-- the number of the answer to the question says whether the book is live
pub reply-is : (p : Reference) (line : List ℕ) {step : Step} {r : CountsReply} → Received (receive p line) step → AnswersCounts step.book Current r → {n : ℕ} → n ≡ answer_number r.answer →
    reply_text step.answer (eqb n 0) r.bids r.asks ≡ reply_to (receive p line)
reply-is p line {step} {r} told levels e =
    let q : Reference = shows step.book in
    ap (λ (k : ℕ). reply_text step.answer (eqb k 0) r.bids r.asks) (e ∙ ap answer_number (levels.answer [] ∙ same_answer q))
    ∙ by-status step.answer (length q.last.sides.bids) (length q.last.sides.asks) q.status r.bids r.asks (levels.value [] ∙ same_value q)
    ∙ ap₂ reply told.answer told.same
  where
    reply : Answer → Reference → List ℕ
    reply a q = reply_text a (is_live q.status) (length q.last.sides.bids) (length q.last.sides.asks)

-- ---- line 1: what follows the depth is the name

pub whole-rest : (line : List ℕ) (n : ℕ) → take (length line - n) (drop n line) ≡ drop n line
whole-rest line n = take_all (length line - n) (drop n line) (omega (arith, length-drop n line))
