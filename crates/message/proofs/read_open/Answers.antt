-- `read_open` meets its contract: checks 2 to 7, then 8.
use mathlib.Core.Path.{ap, ◌∙◌}
use Rattle.std.specs.Prelude.{Err}
use Rattle.std.proofs.lemmas.Result.{err_from_is_err_and}
use Rattle.message.proofs.Reading.{open-bad, open-fails, open-passes}
use Rattle.message.proofs.Entering.{also-framed}
use Rattle.settings.specs.Settings.{Config}
use Rattle.message.proofs.read_open.Goals as goal

pub returns-in_err-outline : goal.returns-in_err-outline
returns-in_err-outline c =
    let a = c.args in
    let t : Config = record { dialect = a.dialect; depth = a.depth; name = a.name.now } in
    let f = c.read_frame in
    let q = err_from_is_err_and c.from_residual.result c.from_residual.ensures.1 in
    record {
      told = q.1 ∙ ap Err q.2 ∙ open-fails t a.s.now f.result f.ensures.told c.in_err-outline.field-0.0 c.in_err-outline.was;
      kept = λ l h. f.ensures.kept l (also-framed t a.s.now l h).0;
    }

pub returns-then-outline-ne0 : goal.returns-then-outline-ne0
returns-then-outline-ne0 c =
    let a = c.args in
    let t : Config = record { dialect = a.dialect; depth = a.depth; name = a.name.now } in
    let f = c.read_frame in
    record {
      told = open-bad t a.s.now f.result f.ensures.told c.in_ok-outline.outline c.in_ok-outline.was c.if-outline-ne0.true;
      kept = λ l h. f.ensures.kept l (also-framed t a.s.now l h).0;
    }

pub returns : goal.returns
returns c =
    let a = c.args in
    let t : Config = record { dialect = a.dialect; depth = a.depth; name = a.name.now } in
    let f = c.read_frame in
    record {
      told = open-passes t a.s.now f.result f.ensures.told c.in_ok-outline.outline c.in_ok-outline.was c.if-outline-ne0.false;
      kept = λ l h. f.ensures.kept l (also-framed t a.s.now l h).0;
    }
