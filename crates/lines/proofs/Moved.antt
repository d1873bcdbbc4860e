-- Bytes moved to the front of their own list: those that are still to be moved stand where they stood. Assumes nothing.
use Prim.Native.Nat.{ℕ, ◌+◌, ◌<◌, zero-le}
use mathlib.Core.Path.{◌≡◌, sym, ap, ◌∙◌}
use mathlib.Core.List.{List}
use native.Mathlib.Nat.{zero-add}
use native.Mathlib.Numerals.{add-one}
use native.Mathlib.Omega.{arith}
use lib.ListN.{length, drop, set, get_or, length-drop}
use lib.Seq.{paste, paste-suc, drop-paste, get_or-drop}

module _ (l : List ℕ) (from i : ℕ) (h : from + i < length l) where
  in-part : i < length (drop from l)
  in-part = omega (arith, length-drop from l)

  still : get_or (paste l 0 (drop from l) i) (from + i) 0 ≡ get_or (drop from l) i 0
  still =
      let p : List ℕ = paste l 0 (drop from l) i in
      let r : i < length (drop from l) = in-part in
      let e : from + i ≡ 0 + i + from = omega arith in
      ap (λ (k : ℕ). get_or p k 0) e
      ∙ sym (get_or-drop (0 + i) p from 0)
      ∙ ap (λ (k : List ℕ). get_or k from 0) (drop-paste l 0 (drop from l) i zero-le (omega arith))
      ∙ get_or-drop (0 + i) l from 0
      ∙ ap (λ (k : ℕ). get_or l k 0) (sym e)
      ∙ sym (get_or-drop from l i 0)

  pub moved-next : (m : List ℕ) → m ≡ paste l 0 (drop from l) i → set m i (get_or m (from + i) 0) ≡ paste l 0 (drop from l) (i + 1)
  moved-next m e =
      let r : i < length (drop from l) = in-part in
      ap (λ (k : List ℕ). set k i (get_or k (from + i) 0)) e
      ∙ ap (set (paste l 0 (drop from l) i) i) still
      ∙ ap (λ (k : ℕ). set (paste l 0 (drop from l) i) k (get_or (drop from l) i 0)) (sym (zero-add i))
      ∙ paste-suc l 0 (drop from l) i 0 (omega arith) r
      ∙ ap (paste l 0 (drop from l)) (sym (add-one i))
