-- `json_values::spells` meets its contract: past the bytes that stand for themselves, both end, an escape stands, or another byte.
-- Assumes nothing.
use borrow.Author.Tests.{ne_eqb}
use mathlib.Core.Path.{sym, ap, ◌∙◌}
use mathlib.Core.List.{List}
use Prim.Native.Nat.{ℕ}
use lib.ListN.{drop}
use Rattle.text.specs.Text.{byte_at}
use Rattle.json_values.specs.Names.{same}
use Rattle.json_values.proofs.Names.{meaning-end, same_end}
use Rattle.json_values.proofs.spells.Goals as goal

pub returns-then-t-k : goal.returns-then-t-k
returns-then-t-k c =
    let a = c.args in
    let p = c.plain_end-k in
    sym (ap (λ (x : List ℕ). same x (drop p.result a.name.now)) (meaning-end a.t.now p.result c.if-t-k.true) ∙ same_end a.name.now p.result p.ensures.inside)
    ∙ p.ensures.left

pub returns-else-t-k-eq-BACKSLASH : goal.returns-else-t-k-eq-BACKSLASH
unfolding byte_at
returns-else-t-k-eq-BACKSLASH c =
    let p = c.plain_end-k.ensures in
    ne_eqb _ _ c.if-t-k-eq-BACKSLASH.false ∙ sym (p.stops c.if-t-k.false c.if-t-k-eq-BACKSLASH.false) ∙ p.left
