-- `read_depth` meets its contract: by where the blank stands, and by whether a whole number stands before it.
use mathlib.Core.Path.{sym, ◌∙◌}
use Rattle.line_text.proofs.Settings.{found_as, no_name, bad-depth, good-depth}
use Rattle.line_text.proofs.read_depth.Goals as goal

pub returns-then-line-end : goal.returns-then-line-end
returns-then-line-end c = found_as (no_name c.args.line.now c.args.at c.args.dialect c.find-end.result c.find-end.ensures.2 c.if-line-end.true) c.no_settings.ensures

pub returns-in-Some : goal.returns-in-Some
returns-in-Some c =
    let s = c in
    let find = c.find-end in
    good-depth s.args.line.now s.args.at s.args.dialect find.result find.ensures.2 c.if-line-end.false c.in-Some.depth (sym c.in-Some.is ∙ c.parse_whole.ensures)

pub returns-in-None : goal.returns-in-None
returns-in-None c =
    let s = c in
    let find = c.find-end in
    found_as
    (bad-depth s.args.line.now s.args.at s.args.dialect find.result find.ensures.2 c.if-line-end.false (sym c.in-None.is ∙ c.parse_whole.ensures))
    c.no_settings-in-None.ensures
