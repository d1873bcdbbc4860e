-- Laws of texts that commas part: those from a place on are each led by a comma. `written` is the text of a thing in the list. Assumes nothing.
use mathlib.Core.Path.{◌≡◌, refl, sym, ap, ap₂, ◌∙◌}
use mathlib.Core.List.{List, [], ◌∷◌, ◌++◌, map, append-nil}
use Prim.Native.Nat.{ℕ, ◌+◌, ◌-◌, ◌*◌, ◌≤◌, ◌<◌}
use native.Mathlib.Numerals.{add-one}
use native.Mathlib.Omega.{arith}
use lib.ListN.{length, get_or, drop, length-append, drop_of_length-le}
use lib.Seq.{drop-cons}
use Rattle.text.specs.Text.{ascii}
use Rattle.level.specs.Ranked.{All}
use Rattle.writer.specs.Snapshot.{comma_joined}

-- A list of `count` things, and the one at each place.
pub record Listed {A : Type 0} (xs : List A) (count : ℕ) (at : ℕ → A) : Type 0 where
  pub counted : length xs ≡ count
  pub from_place : (i : ℕ) → i < count → drop i xs ≡ at i ∷ drop (i + 1) xs

pub listed : {A : Type 0} {xs : List A} {count : ℕ} {at : ℕ → A} (none : A) → length xs ≡ count → ((i : ℕ) → i < count → get_or xs i none ≡ at i) → Listed xs count at
listed {xs = xs} {at = at} none counted at_place = record {
  counted = counted;
  from_place =
      λ i inside.
      drop-cons xs i none (omega (arith, counted, inside))
      ∙ ap₂ (λ x (k : ℕ). x ∷ drop k xs) (at_place i inside) (sym (add-one i));
}

module _ {A : Type 0} (written : A → List ℕ) where
  -- Each text after a comma.
  unfoldable pub led : List A → List ℕ
  led [] = []
  led (x ∷ xs) = (ascii "," ++ written x) ++ led xs

  pub joined : (x : A) (xs : List A) → comma_joined (map written (x ∷ xs)) ≡ written x ++ led xs
  unfolding comma_joined led
  joined x [] = sym (append-nil (written x))
  joined x (y ∷ xs) = ap (λ (l : List ℕ). written x ++ (ascii "," ++ l)) (joined y xs)

  -- a comma fewer than texts
  pub length-joined : (xs : List A) → length (comma_joined (map written xs)) ≡ length (led xs) - 1
  unfolding comma_joined led
  length-joined [] = refl
  length-joined (x ∷ xs) = let e = ap length (joined x xs) in omega arith

  -- so long at the most where each text is
  pub led-short : (most : ℕ) (xs : List A) → All (λ x. length (written x) ≤ most) xs → length (led xs) ≤ (most + 1) * length xs
  unfolding led All
  led-short most [] a = omega arith
  led-short most (x ∷ xs) a = let h = led-short most xs a.1 in let k = a.0 in let l = length-append (ascii "," ++ written x) (led xs) in omega arith

  module _ {xs : List A} {count : ℕ} {at : ℕ → A} (listed : Listed xs count at) where
    module _ (i : ℕ) (inside : i < count) where
      pub led-next : led (drop i xs) ≡ (ascii "," ++ written (at i)) ++ led (drop (i + 1) xs)
      unfolding led
      led-next = ap led (listed.from_place i inside)

      pub length-led : length (led (drop i xs)) ≡ 1 + length (written (at i)) + length (led (drop (i + 1) xs))
      length-led = let e = ap length led-next ∙ length-append (ascii "," ++ written (at i)) (led (drop (i + 1) xs)) in omega arith

    pub led-end : (i : ℕ) → count ≤ i → led (drop i xs) ≡ []
    unfolding led
    led-end i past = let n = listed.counted in ap led (drop_of_length-le xs {i = i} (omega arith))

    pub joined-some : 0 < count → comma_joined (map written xs) ≡ written (at 0) ++ led (drop 1 xs)
    joined-some some = ap (λ (l : List A). comma_joined (map written l)) (listed.from_place 0 some) ∙ joined (at 0) (drop 1 xs)

    pub joined-none : count ≡ 0 → comma_joined (map written xs) ≡ []
    unfolding comma_joined
    joined-none zero = let n = listed.counted in ap (λ (l : List A). comma_joined (map written l)) (drop_of_length-le xs {i = 0} (omega arith))
