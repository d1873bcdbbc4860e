-- `read_settings` meets its contract: by where the first blank stands.
use Prim.Native.Nat.{ℕ, ◌+◌}
use mathlib.Core.Path.{◌≡◌, ap, ◌∙◌}
use mathlib.Core.List.{List}
use native.Mathlib.Omega.{arith}
use lib.ListN.{drop, length-take}
use Rattle.lines.specs.Lines.{bytes_before}
use Rattle.line_text.specs.Opening.{space, depth_and_name}
use Rattle.settings.specs.declared.Dialect.{Dialect}
use Rattle.line_text.proofs.Settings.{found_as, no-blank, laid_out}
use Rattle.line_text.proofs.read_settings.Goals as goal
use Rattle.line_text.proofs.read_settings.Lts as lts
use Rattle.line_text.proofs.read_settings.Tie as tie
use Rattle.line_text.proofs.read_settings.Reads as reads

-- Places in the code.
abbrev After-find-end : Type 0
After-find-end = lts.After-find tie.the-claims reads.Pre reads.Post

abbrev line_of : After-find-end → List ℕ
line_of c = c.args.line.now

first-blank : (c : After-find-end) → c.find-end.result ≡ bytes_before space (line_of c)
first-blank c = let q = c.find-end.ensures.2 in omega (arith, q)

pub returns-then-line-end : goal.returns-then-line-end
returns-then-line-end c =
    let f = c.before.before.before in
    found_as (no-blank (line_of f) f.find-end.result (first-blank f) c.if-line-end.true) c.no_settings.ensures

pub slice_bounds-dialect_of-end : goal.slice_bounds-dialect_of-end
slice_bounds-dialect_of-end c =
    let f = c.before.before in
    let l = length-take f.find-end.result (line_of f) in
    let k = c.if-line-end.false in
    omega arith

pub returns : goal.returns
returns c =
    let f = c.before.before.before.before in
    found_as
    (ap (λ (d : Dialect). depth_and_name d (drop (f.find-end.result + 1) (line_of f))) c.dialect_of-dialect.ensures
    ∙ laid_out (line_of f) f.find-end.result (first-blank f) c.if-line-end.false)
    c.read_depth.ensures
