-- `is_good_depth` meets its contract: each way out is one case of the definition.
use borrow.Author.Tests.{lt-leb}
use mathlib.Core.Path.{sym, ap, ◌∙◌}
use Rattle.settings.specs.Settings.{good_depth}
use Rattle.settings.specs.declared.Dialect.{Dialect}
use Rattle.settings.proofs.Good.{k-low, k-deep, m-depth, no-depth}
use Rattle.settings.proofs.is_good_depth.Goals as goal

pub returns-then-depth-ge10 : goal.returns-then-depth-ge10
returns-then-depth-ge10 c = sym (ap (λ (d : Dialect). good_depth d c.args.depth) c.in-K.is ∙ k-deep c.args.depth c.if-depth-ge10.true)

pub returns-else-depth-ge10 : goal.returns-else-depth-ge10
returns-else-depth-ge10 c = lt-leb 10 c.args.depth c.if-depth-ge10.false ∙ sym (ap (λ (d : Dialect). good_depth d c.args.depth) c.in-K.is ∙ k-low c.args.depth c.if-depth-ge10.false)

pub returns-in-M : goal.returns-in-M
returns-in-M c = sym (ap (λ (d : Dialect). good_depth d c.args.depth) c.in-M.is ∙ m-depth _ c.args.depth)

pub returns-in-Unknown : goal.returns-in-Unknown
returns-in-Unknown c = sym (ap (λ (d : Dialect). good_depth d c.args.depth) c.in-Unknown.is ∙ no-depth c.args.depth)
