-- How many levels a side has after entries, and after ranking. Assumes nothing.
use Prim.Native.Nat.{ℕ, suc, ◌+◌, ◌≤◌}
use mathlib.Core.Path.{◌≡◌, refl, ap, ◌∙◌}
use mathlib.Core.Bool.{Bool, true, false, cond}
use mathlib.Core.List.{List, [], ◌∷◌}
use native.Mathlib.Omega.{arith}
use lib.Dec.{eqb}
use lib.ListN.{length}
use lib.Seq.{take_all}
use Rattle.decimal.specs.Decimal.{Number, value}
use Rattle.edit.specs.declared.Side.{Side}
use Rattle.edit.specs.Edit.{Edit, sets, removes}
use Rattle.level.specs.Side.{nearer, without, apply, apply_all, place, ranked}
use Rattle.level.specs.Ranked.{after_message}

module _ {A : Type 0} (price_of : A → Number) where
  place-cond : (x y : A) (s r : List A) (t : Bool) → length r ≡ suc (length s) → length (cond t (y ∷ r) (x ∷ y ∷ s)) ≡ suc (suc (length s))
  place-cond x y s r true e = ap suc e
  place-cond x y s r false e = refl

  pub length-place : (side : Side) (x : A) (s : List A) → length (place price_of side x s) ≡ suc (length s)
  unfolding place
  length-place side x [] = refl
  length-place side x (y ∷ s) =
      place-cond x y s (place price_of side x s) (nearer side (value (price_of y)) (value (price_of x))) (length-place side x s)

  pub length-ranked : (side : Side) (s : List A) → length (ranked price_of side s) ≡ length s
  unfolding ranked
  length-ranked side [] = refl
  length-ranked side (x ∷ s) = length-place side x (ranked price_of side s) ∙ ap suc (length-ranked side s)

  without-cond : (x : A) (s r : List A) (t : Bool) → length r ≤ length s → length (cond t r (x ∷ r)) ≤ suc (length s)
  without-cond x s r true h = omega arith
  without-cond x s r false h = omega arith

  pub length_without : (v : ℕ) (s : List A) → length (without price_of v s) ≤ length s
  unfolding without
  length_without v [] = omega arith
  length_without v (x ∷ s) = without-cond x s (without price_of v s) (eqb (value (price_of x)) v) (length_without v s)

  pub length-apply : (e : Edit A) (s : List A) → length (apply price_of e s) ≤ suc (length s)
  unfolding apply
  length-apply (sets x) s = let h : length (without price_of (value (price_of x)) s) ≤ length s = length_without (value (price_of x)) s in omega arith
  length-apply (removes p) s = let h : length (without price_of (value p) s) ≤ length s = length_without (value p) s in omega arith

  -- entries add one level each at the most
  pub length-apply_all : (es : List (Edit A)) (s : List A) → length (apply_all price_of es s) ≤ length es + length s
  unfolding apply_all
  length-apply_all [] s = omega arith
  length-apply_all (e ∷ es) s =
      let h : length (apply_all price_of es (apply price_of e s)) ≤ length es + length (apply price_of e s) = length-apply_all es (apply price_of e s) in
      let k : length (apply price_of e s) ≤ suc (length s) = length-apply e s in
      omega arith

  -- where no more levels stand than the depth, nothing is cut
  pub after_message-whole : (side : Side) (depth : ℕ) (es : List (Edit A)) (s : List A) → length (apply_all price_of es s) ≤ depth
      → after_message price_of side depth es s ≡ ranked price_of side (apply_all price_of es s)
  unfolding after_message
  after_message-whole side depth es s h =
      take_all depth (ranked price_of side (apply_all price_of es s)) (omega (arith, length-ranked side (apply_all price_of es s)))
