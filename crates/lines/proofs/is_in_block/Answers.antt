-- `is_in_block` meets its contract: whether one of the block's bytes is the one asked for.
use Prim.Native.Nat.{ℕ, ◌+◌, ◌-◌}
use mathlib.Core.Path.{◌≡◌, ap, ◌∙◌}
use mathlib.Core.Bool.{Bool, false, ◌||◌}
use native.Mathlib.Omega.{arith}
use lib.Dec.{eqb, ltb}
use lib.ListN.{drop, length-drop}
use Rattle.std.proofs.Common.{rules, tests}
use Rattle.std.proofs.lemmas.Iterator.{YieldsList-from_slice}
use Rattle.std.proofs.lemmas.Iterator.Consumers.{fold_from_yields_List}
use Rattle.lines.specs.Lines.{bytes_before}
use Rattle.lines.proofs.Before.{among-first}
use Rattle.lines.proofs.is_in_block.Goals as goal

pub returns : goal.returns
returns c =
    let rest = drop c.args.at c.args.s.now in
    let b = c.args.b in
    let l = length-drop c.args.at c.args.s.now in
    let found = fold_from_yields_List _ (λ (t : Bool) (x : ℕ). t || eqb x b) false c.fold.result c.fold.ensures.ran (YieldsList-from_slice _ c.iter.ensures.rest) (λ t x u q k. search (rules, tests)) in
    let n : c.args.at + 16 - c.args.at ≡ 16 = omega arith in
    found ∙ among-first b (c.args.at + 16 - c.args.at) rest false (omega arith) ∙ ap (ltb (bytes_before b rest)) n
