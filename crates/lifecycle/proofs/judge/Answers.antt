-- `judge` meets its contract: a shut book, the checks of the text, then those of an update.
use mathlib.Core.Path.{sym, ap, ◌∙◌}
use mathlib.Core.Bool.{true≢false}
use native.Mathlib.Omega.{arith}
use lib.ListN.{length-take}
use Rattle.std.specs.Prelude.{Err}
use Rattle.std.proofs.lemmas.Result.{err_from_is_err_and}
use Rattle.settings.specs.Kept.{config_of}
use Rattle.settings.specs.declared.Rules.{Rules}
use Rattle.lifecycle.specs.Lifecycle.{judged_update, after_text}
use Rattle.lifecycle.proofs.Laws.{judged-shut, judged-open}
use Rattle.lifecycle.proofs.judge.Goals as goal

pub returns-then-is_shut : goal.returns-then-is_shut
returns-then-is_shut c =
    let a = c.args in
    let shut = sym c.is_shut.ensures ∙ c.if-is_shut.true in
    record { told = judged-shut a.settings a.lifecycle a.number a.s.now shut; kept = λ u. absurd (true≢false (sym shut ∙ u)) }

pub slice_bounds-name-end : goal.slice_bounds-name-end
slice_bounds-name-end c =
    let a = c.args in
    let g = c.requires.0 in
    let r = g.room in
    let s = g.short in
    let l = length-take a.settings.length a.settings.name in
    omega arith

pub read_open-requires : goal.read_open-requires
unfolding config_of
read_open-requires c =
    let p = c.requires in
    (p.0.config (sym c.is_shut.ensures ∙ c.if-is_shut.false), p.1)

pub returns-in_err-outline : goal.returns-in_err-outline
unfolding config_of after_text
returns-in_err-outline c =
    let a = c.args in
    let u = sym c.is_shut.ensures ∙ c.if-is_shut.false in
    let r = c.read_open in
    let q = err_from_is_err_and c.from_residual.result c.from_residual.ensures.1 in
    record {
      told = q.1 ∙ ap Err q.2 ∙ judged-open a.settings a.lifecycle a.number a.s.now u _ (sym r.ensures.told ∙ c.in_err-outline.was);
      kept = λ v. r.ensures.kept;
    }

pub returns : goal.returns
unfolding config_of after_text
returns c =
    let a = c.args in
    let u = sym c.is_shut.ensures ∙ c.if-is_shut.false in
    let r = c.read_open in
    let o = c.in_ok-outline in
    record {
      told =
          c.judge_update.ensures ∙ ap (λ (x : Rules). judged_update a.lifecycle.state x a.number o.outline) c.rules_of.ensures
          ∙ judged-open a.settings a.lifecycle a.number a.s.now u _ (sym r.ensures.told ∙ o.was);
      kept = λ v. r.ensures.kept;
    }
