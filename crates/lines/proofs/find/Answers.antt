-- `find` meets its contract: past the blocks that do not have the byte, it is where the first byte stands that is the one asked for.
use Prim.Native.Nat.{ℕ, ◌-◌, ◌<◌}
use mathlib.Core.Path.{◌≡◌, sym, ap, ◌∙◌}
use native.Mathlib.Omega.{arith}
use mathlib.Core.List.{List}
use Rattle.std.specs.declared.option.Option.{Option}
use Rattle.std.specs.declared.option.Option.TheVariants.{Some, None}
use lib.Seq.{take-length}
use lib.Dec.{eqb}
use lib.ListN.{length, take, drop, length-drop}
use Rattle.std.proofs.Common.{rules, tests}
use Rattle.std.proofs.lemmas.Iterator.{YieldsList-from_slice}
use Rattle.std.proofs.lemmas.Iterator.Search.{position_from_yields_List}
use Rattle.lines.specs.Lines.{bytes_before}
use Rattle.lines.proofs.Before.{placed, not_placed, place}
use Rattle.lines.proofs.find.Goals as goal

-- the rest of a text, as a part of it that ends where the text does
rest : (s : List ℕ) (i : ℕ) → take (length s - i) (drop i s) ≡ drop i s
rest s i = ap (λ (n : ℕ). take n (drop i s)) (sym (length-drop i s)) ∙ take-length (drop i s)

module _ (s : List ℕ) (i b : ℕ) (r : Option ℕ) (is : r ≡ place b (take (length s - i) (drop i s))) where
  here : (k : ℕ) → r ≡ Some k → (k ≡ bytes_before b (drop i s)) × (k < length (drop i s))
  here k e = placed b k (drop i s) (sym e ∙ is ∙ ap (place b) (rest s i))

  nowhere : r ≡ None → bytes_before b (drop i s) ≡ length (drop i s)
  nowhere e = not_placed b (drop i s) (sym e ∙ is ∙ ap (place b) (rest s i))

pub returns-in-Some : goal.returns-in-Some
returns-in-Some c =
    let s = c.args.s.now in
    let b = c.args.b in
    let i = c.skip_blocks-i.result in
    let is = position_from_yields_List (λ (x : ℕ). eqb x b) _ _ c.position.result c.position.ensures.ran (YieldsList-from_slice _ c.iter.ensures.rest) (λ x t q k. search (rules, tests)) in
    let h = here s i b c.position.result is c.in-Some.k c.in-Some.is in
    let p = c.skip_blocks-i.ensures in
    let l = length-drop i s in
    (omega arith, omega arith, omega arith)

pub returns-in-None : goal.returns-in-None
returns-in-None c =
    let s = c.args.s.now in
    let b = c.args.b in
    let i = c.skip_blocks-i.result in
    let is = position_from_yields_List (λ (x : ℕ). eqb x b) _ _ c.position.result c.position.ensures.ran (YieldsList-from_slice _ c.iter.ensures.rest) (λ x t q k. search (rules, tests)) in
    let h = nowhere s i b c.position.result is c.in-None.is in
    let p = c.skip_blocks-i.ensures in
    let l = length-drop i s in
    (omega arith, omega arith, omega arith)
