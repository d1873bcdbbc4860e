use mathlib.Core.Path.{◌≡◌, sym, ap, ◌∙◌, subst}
use mathlib.Core.Bool.{true, false}
use Prim.Native.Nat.{◌+◌, ◌-◌}
use native.Mathlib.Omega.{arith}
use lib.ListN.{set, take}
use Rattle.decimal.specs.Decimal.{number, value}
use Rattle.decimal.specs.declared.Decimal.{Decimal}
use Rattle.edit.specs.Edit.{named}
use Rattle.level.specs.declared.Change.{Change}
use Rattle.level.specs.declared.Change.TheVariants.{Set, Remove}
use Rattle.level.specs.declared.Level.{Level}
use Rattle.level.specs.Words.{edit, level_price}
use Rattle.side.specs.Working.{AfterChange}
use Rattle.side.proofs.Steps.{key, step, inside, below-count, after-replaced, after-inserted, after-absent, after-removed}
use Rattle.side.proofs.apply_change.Goals as goal

-- the price of the change
key-new : (price : Decimal) (change : Change) (new : Level) → number price ≡ named level_price (edit change) → change ≡ Set new → key new ≡ value (number price)
unfolding edit named
key-new price change new e is = sym (ap value e ∙ ap (λ (x : Change). value (named level_price (edit x))) is)

removed-price : (price : Decimal) (change : Change) (p : Decimal) → number price ≡ named level_price (edit change) → change ≡ Remove p → value (number p) ≡ value (number price)
unfolding edit named
removed-price price change p e is = sym (ap value e ∙ ap (λ (x : Change). value (named level_price (edit x))) is)

pub offset_bounds-levels-at : goal.offset_bounds-levels-at
offset_bounds-levels-at c = omega (arith, below-count c.args.side c.args.levels.now c.args.count c.find_price-place.result.at (value (number c.args.price)) c.requires.0 c.find_price-place.ensures.0 (sym c.find_price-place.ensures.1 ∙ c.if-place.true))

pub bounds-levels-at : goal.bounds-levels-at
bounds-levels-at c = omega (arith, below-count c.args.side c.args.levels.now c.args.count c.find_price-place.result.at (value (number c.args.price)) c.requires.0 c.find_price-place.ensures.0 (sym c.find_price-place.ensures.1 ∙ c.if-place.true))

pub returns-then-place : goal.returns-then-place
unfolding edit
returns-then-place c =
    let a = c.args in
    let r = c.find_price-place.result in
    let f = c.find_price-place.ensures in
    subst (λ (x : Change). AfterChange a.side (edit x) (take a.count a.levels.now) (set a.levels.now r.at c.in-Set.new) (step a.count 0 true)) (sym c.in-Set.is)
    (after-replaced a.side a.levels.now a.count r.at (value (number a.price)) c.requires.0 f.0 c.in-Set.new (key-new a.price a.change c.in-Set.new c.requires.3 c.in-Set.is) (sym f.1 ∙ c.if-place.true))

pub insert-requires : goal.insert-requires
insert-requires c = (inside c.args.side c.args.levels.now c.args.count c.find_price-place.result.at (value (number c.args.price)) c.requires.0 c.find_price-place.ensures.0, c.requires.1)

pub overflow_sub-result : goal.overflow_sub-result
overflow_sub-result c = inside c.args.side c.args.levels.now c.args.count c.find_price-place.result.at (value (number c.args.price)) c.requires.0 c.find_price-place.ensures.0

pub returns-else-place-2 : goal.returns-else-place-2
unfolding edit
returns-else-place-2 c =
    let a = c.args in
    let r = c.find_price-place.result in
    let f = c.find_price-place.ensures in
    subst (λ (x : Change). AfterChange a.side (edit x) (take a.count a.levels.now) a.levels.now (step a.count 0 false)) (sym c.in-Remove.is)
    (after-absent a.side a.levels.now a.count r.at (value (number a.price)) c.requires.0 f.0 (number c.in-Remove.field-0) (removed-price a.price a.change c.in-Remove.field-0 c.requires.3 c.in-Remove.is) (sym f.1 ∙ c.if-place-2.false))

pub remove-requires : goal.remove-requires
remove-requires c = (below-count c.args.side c.args.levels.now c.args.count c.find_price-place.result.at (value (number c.args.price)) c.requires.0 c.find_price-place.ensures.0 (sym c.find_price-place.ensures.1 ∙ c.if-place-2.true), c.requires.0.few)

pub overflow_sub-result-then-place-2 : goal.overflow_sub-result-then-place-2
overflow_sub-result-then-place-2 c = omega (arith, below-count c.args.side c.args.levels.now c.args.count c.find_price-place.result.at (value (number c.args.price)) c.requires.0 c.find_price-place.ensures.0 (sym c.find_price-place.ensures.1 ∙ c.if-place-2.true))

pub overflow_sub-result-then-place-2-2 : goal.overflow_sub-result-then-place-2-2
overflow_sub-result-then-place-2-2 c = omega (arith, below-count c.args.side c.args.levels.now c.args.count c.find_price-place.result.at (value (number c.args.price)) c.requires.0 c.find_price-place.ensures.0 (sym c.find_price-place.ensures.1 ∙ c.if-place-2.true))

pub overflow_sub-result-then-place-2-3 : goal.overflow_sub-result-then-place-2-3
overflow_sub-result-then-place-2-3 c = omega (arith, below-count c.args.side c.args.levels.now c.args.count c.find_price-place.result.at (value (number c.args.price)) c.requires.0 c.find_price-place.ensures.0 (sym c.find_price-place.ensures.1 ∙ c.if-place-2.true))

pub returns-else-place : goal.returns-else-place
unfolding edit
returns-else-place c =
    let a = c.args in
    let r = c.find_price-place.result in
    let f = c.find_price-place.ensures in
    subst (λ (x : Change). AfterChange a.side (edit x) (take a.count a.levels.now) c.insert.new.levels (step (a.count + 1) (a.count - r.at) false)) (sym c.in-Set.is)
    (after-inserted a.side a.levels.now a.count r.at (value (number a.price)) c.requires.0 f.0 c.in-Set.new (key-new a.price a.change c.in-Set.new c.requires.3 c.in-Set.is) (sym f.1 ∙ c.if-place.false)
    c.requires.1 c.insert.new.levels c.insert.array_long c.insert.ensures)

pub returns-then-place-2 : goal.returns-then-place-2
unfolding edit
returns-then-place-2 c =
    let a = c.args in
    let r = c.find_price-place.result in
    let f = c.find_price-place.ensures in
    subst (λ (x : Change). AfterChange a.side (edit x) (take a.count a.levels.now) c.remove.new.levels (step (a.count - 1) (a.count - 1 - r.at) false)) (sym c.in-Remove.is)
    (after-removed a.side a.levels.now a.count r.at (value (number a.price)) c.requires.0 f.0 (number c.in-Remove.field-0) (removed-price a.price a.change c.in-Remove.field-0 c.requires.3 c.in-Remove.is) (sym f.1 ∙ c.if-place-2.true)
    c.remove.new.levels c.remove.array_long c.remove.ensures)
