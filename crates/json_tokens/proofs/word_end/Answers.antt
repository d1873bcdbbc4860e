-- `json_tokens::word_end` meets its contract: wherever the loop stands, what is left of w is to stand at i.
-- Assumes nothing.
use Prim.Native.Nat.{◌≤◌, ◌<◌}
use lib.ListN.{get_or, length}
use mathlib.Core.Path.{◌∙◌, ◌≡◌, refl, sym}
use native.Mathlib.Omega.{arith}
use Rattle.std.proofs.lemmas.Bool.Decides.{nat_tests}
use Rattle.std.proofs.lemmas.Grind.{get_or_default_zero}
use Rattle.json_tokens.proofs.Laws.{word-ends, word-off, word_on, word-past}
use Rattle.json_tokens.specs.Tokens.{literal}
use Rattle.json_tokens.proofs.word_end.Goals as goal

pub loop-b-init : goal.loop-b-init
unfolding literal
loop-b-init c = refl

pub returns-in_err-get : goal.returns-in_err-get
returns-in_err-get c =
    let s = c.args.s.now in
    let i = c.loop-b.i in
    let past : length s ≤ i = grind (arith, nat_tests, c.in_err-get.ensures.lookup) in
    c.from_residual.ensures ∙ sym (word-past c.args.w.now s c.loop-b.b-index i c.loop-b-test.true past) ∙ c.loop-b.invariant

pub returns-then-branch-b : goal.returns-then-branch-b
returns-then-branch-b c =
    let s = c.args.s.now in
    let i = c.loop-b.i in
    let within : i < length s = grind (arith, nat_tests, c.in_ok-get.ensures.lookup) in
    let here : c.in_ok-get.field-0.now ≡ get_or s i 0 = c.in_ok-get.ensures.lookup.1 ∙ get_or_default_zero s i _ within in
    sym (word-off c.args.w.now s c.loop-b.b-index i c.loop-b-test.true within (λ e. c.if-branch-b.true (here ∙ e))) ∙ c.loop-b.invariant

pub loop-b-preserved : goal.loop-b-preserved
loop-b-preserved c =
    let s = c.args.s.now in
    let i = c.loop-b.i in
    let within : i < length s = grind (arith, nat_tests, c.in_ok-get.ensures.lookup) in
    let here : c.in_ok-get.field-0.now ≡ get_or s i 0 = c.in_ok-get.ensures.lookup.1 ∙ get_or_default_zero s i _ within in
    sym (word_on c.args.w.now s c.loop-b.b-index i c.loop-b-test.true within (sym here ∙ c.if-branch-b.false)) ∙ c.loop-b.invariant

pub returns : goal.returns
returns c = sym (word-ends c.args.w.now c.args.s.now c.loop-b.b-index c.loop-b.i (omega arith)) ∙ c.loop-b.invariant
