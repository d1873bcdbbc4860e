use mathlib.Core.Path.{◌≡◌, refl, sym, ◌∙◌, subst}
use mathlib.Core.Bool.{Bool, true, false}
use Prim.Native.Nat.{ℕ, ◌≤◌}
use native.Mathlib.Omega.{arith}
use borrow.Author.Tests.{ltb-true}
use lib.Dec.{ltb}
use lib.ListN.{take}
use lib.Seq.{length-take-le}
use Rattle.decimal.specs.Decimal.{number, value}
use Rattle.decimal.specs.Limits.{Within}
use Rattle.level.specs.Words.{level_price, no_level}
use Rattle.side.proofs.Find.{stands-there, stands-nowhere}
use Rattle.side.proofs.Entries.{sound-at, equal-at}
use Rattle.side.proofs.find_price.Goals as goal

not-true : (b : Bool) → (b ≡ true → ⊥) → b ≡ false
not-true true n = absurd (n refl)
not-true false n = refl

not-below : (i n : ℕ) → n ≤ i → ltb i n ≡ false
not-below i n h = not-true (ltb i n) (λ q. omega (arith, ltb-true))

pub compare-requires : goal.compare-requires
compare-requires c =
    let w = c.requires.0 in
    let a = c.args in
    (subst Within (sym c.price_of.ensures) (sound-at a.levels.now a.count c.place_of-at.result c.if-at-count.true (omega (arith, w.few)) w.within), c.requires.1)

pub returns-then-at-count : goal.returns-then-at-count
returns-then-at-count c =
    let w = c.requires.0 in
    let a = c.args in
    let at = c.place_of-at.result in
    let long = length-take-le a.count a.levels.now (omega (arith, w.few)) in (
      c.place_of-at.ensures,
      stands-there level_price a.side (take a.count a.levels.now) (value (number a.price)) at w.sorted c.place_of-at.ensures no_level (omega (arith, c.if-at-count.true)) c.is_eq.result
          (equal-at a.levels.now a.count at c.if-at-count.true c.price_of.result a.price c.compare.result c.price_of.ensures c.compare.ensures c.is_eq.result c.is_eq.result c.is_eq.ensures refl),
    )

pub returns-else-at-count : goal.returns-else-at-count
returns-else-at-count c =
    let w = c.requires.0 in
    let a = c.args in
    let at = c.place_of-at.result in
    let long = length-take-le a.count a.levels.now (omega (arith, w.few)) in (
      c.place_of-at.ensures,
      not-below at a.count c.if-at-count.false ∙ stands-nowhere level_price a.side (take a.count a.levels.now) (value (number a.price)) at w.sorted c.place_of-at.ensures (omega (arith, c.if-at-count.false)),
    )
