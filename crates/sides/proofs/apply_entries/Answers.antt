-- `apply_entries` meets its contract: no entries of its own leave the side as it is; others are applied.
use mathlib.Core.Path.{refl, sym, ◌∙◌}
use lib.ListN.{take}
use Rattle.edit.specs.Buffer.{entries_in}
use Rattle.level.specs.Kept.{kept_in}
use Rattle.sides.proofs.Working.{none-worked, some-worked}
use Rattle.sides.proofs.apply_entries.Goals as goal

pub returns-then-own-eq0 : goal.returns-then-own-eq0
returns-then-own-eq0 c =
    let a = c.args in
    (none-worked a.text a.side a.depth (kept_in a.words.now a.kept) (take a.count (entries_in a.buffer.now)) (sym c.if-own-eq0.true ∙ c.requires.2) c.requires.0 c.requires.4, λ z. refl)

pub apply-requires : goal.apply-requires
apply-requires c = let p = c.requires in (p.0.good, p.1, p.3, p.5)

pub returns : goal.returns
returns c =
    let a = c.args in
    (some-worked a.text a.side a.depth (kept_in a.words.now a.kept) (take a.count (entries_in a.buffer.now)) c.requires.0 c.requires.1.within c.apply.ensures, λ z. absurd (c.if-own-eq0.false z))
