-- Laws of `All`. Assumes nothing.
use Prim.Native.Nat.{ℕ, zero, suc, ◌+◌, ◌<◌}
use mathlib.Core.Bool.{Bool, true, false, cond}
use mathlib.Core.List.{List, [], ◌∷◌, ◌++◌}
use native.Mathlib.Numerals.{add-one}
use native.Mathlib.Nat.{le_of_suc-le-suc, not-suc-le-zero}
use lib.ListN.{length, get_or, take}
use lib.Seq.{take-suc}
use Rattle.level.specs.Ranked.{All}

module _ {A : Type 0} where
  pub all_map : {P Q : A → Type 0} → ((x : A) → P x → Q x) → (s : List A) → All P s → All Q s
  unfolding All
  all_map f [] a = tt
  all_map f (x ∷ s) a = (f x a.0, all_map f s a.1)

  pub all_append : (P : A → Type 0) (s t : List A) → All P s → All P t → All P (s ++ t)
  unfolding All
  all_append P [] t a c = c
  all_append P (x ∷ s) t a c = (a.0, all_append P s t a.1 c)

  pub all-cond : (P : A → Type 0) (t : Bool) (s r : List A) → All P s → All P r → All P (cond t s r)
  all-cond P true s r a c = a
  all-cond P false s r a c = c

  pub all_take : (P : A → Type 0) (n : ℕ) (s : List A) → All P s → All P (take n s)
  unfolding All
  all_take P zero s a = tt
  all_take P (suc n) [] a = tt
  all_take P (suc n) (x ∷ s) a = (a.0, all_take P n s a.1)

  -- what holds of all holds of the one at k
  pub all-at : (P : A → Type 0) (s : List A) (k : ℕ) (d : A) → k < length s → All P s → P (get_or s k d)
  unfolding All
  all-at P [] k d h a = absurd (not-suc-le-zero h)
  all-at P (x ∷ s) zero d h a = a.0
  all-at P (x ∷ s) (suc k) d h a = all-at P s k d (le_of_suc-le-suc h) a.1

  -- one more from the front
  pub all-next : (P : A → Type 0) (s : List A) (k : ℕ) (d : A) → k < length s → All P (take k s) → P (get_or s k d) → All P (take (k + 1) s)
  unfolding All
  all-next P s k d h a p = rw (add-one k, take-suc s k d h) (all_append P (take k s) (get_or s k d ∷ []) a (p, tt))

  -- what two hold together
  pub all_both : (P Q R : A → Type 0) → ((x : A) → P x → Q x → R x) → (s : List A) → All P s → All Q s → All R s
  unfolding All
  all_both P Q R f [] a b = tt
  all_both P Q R f (x ∷ s) a b = (f x a.0 b.0, all_both P Q R f s a.1 b.1)

  pub all_true : (P : A → Type 0) → ((x : A) → P x) → (s : List A) → All P s
  unfolding All
  all_true P f [] = tt
  all_true P f (x ∷ s) = (f x, all_true P f s)
