-- What `insert` and `remove` leave of the first n elements of an array. Assumes nothing.
use Prim.Native.Nat.{ℕ, suc, ◌+◌, ◌-◌, ◌≤◌, ◌<◌}
use mathlib.Core.Path.{◌≡◌, sym, ap, ap₂, ◌∙◌}
use mathlib.Core.List.{List, ◌++◌, append_assoc}
use native.Mathlib.Omega.{arith}
use native.Mathlib.Numerals.{add-one}
use lib.ListN.{length, set, take, drop, length-append, length-drop}
use lib.Seq.{length-take-le, take_at, take-take}
use Rattle.std.specs.List.{insert, remove, copy_within}
use Rattle.std.proofs.lemmas.List.{drop-take}
use Rattle.level.proofs.Shift.{up, up-end}

module _ {A : Type 0} (a : List A) (at n : ℕ) where
  part : (i : ℕ) → i ≤ n → take (n - i) (drop i a) ≡ drop i (take n a)
  part i h = let e : i + (n - i) ≡ n = omega arith in sym (drop-take i (n - i) a) ∙ ap (λ (k : ℕ). drop i (take k a)) e

  moved_up : at ≤ n → copy_within a at n (at + 1) ≡ up a at n
  unfolding up
  moved_up h =
      let e : at + 1 + (n - at) ≡ suc n = omega arith in
      append_assoc (take (at + 1) a) (take (n - at) (drop at a)) (drop (at + 1 + (n - at)) a)
      ∙ rw (part at h, e, add-one at)

  pub inserted : at ≤ n → n < length a → (x : A) → take (n + 1) (set (copy_within a at n (at + 1)) at x) ≡ insert (take n a) at x
  inserted h k x = rw (moved_up h, add-one n) (up-end a at n x h k)

  front-long : at < n → n ≤ length a → length (take at a ++ take (n - (at + 1)) (drop (at + 1) a)) ≡ n - 1
  front-long h k =
      simp (length-append) (omega (arith, length-take-le at a (omega arith), length-take-le (n - (at + 1)) (drop (at + 1) a) (simp length-drop (omega arith))))

  pub removed : at < n → n ≤ length a → take (n - 1) (copy_within a (at + 1) n at) ≡ remove (take n a) at
  removed h k =
      take_at (take at a ++ take (n - (at + 1)) (drop (at + 1) a)) (drop (at + (n - (at + 1))) a) (n - 1) (front-long h k)
      ∙ ap₂ (λ (x y : List A). x ++ y) (sym (take-take at n a (omega arith)))
      (part (at + 1) (omega arith) ∙ ap (λ (i : ℕ). drop i (take n a)) (add-one at))
