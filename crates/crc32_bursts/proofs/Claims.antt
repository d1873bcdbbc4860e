-- The claims of `specs/Claims`, each under its own name. Assumes nothing.
use mathlib.Core.Path.{◌≡◌, refl, sym, ap, ap₂, ◌∙◌}
use mathlib.Core.List.{List, [], ◌∷◌, ◌++◌}
use Prim.Native.Nat.{ℕ, zero, suc, ◌+◌, ◌-◌, ◌≤◌, ◌<◌, min}
use native.Mathlib.Nat.{le_trans, le_of_eq, lt_of_lt_of_le, min-le_left, not-suc-le-zero, suc-ne-zero}
use native.Mathlib.Omega.{arith}
use lib.Dec.{lit<}
use lib.ListN.{length, get_or, get_or-eq_default, take, drop, length-take, length-drop, take-append-drop}
use lib.Seq.{drop-drop, get_or-take, get_or-drop, ext_get_or}
use Rattle.crc32_spec.specs.Crc.{crc}
use Rattle.crc32_spec.specs.Text.{Bytes, bytes_take, bytes_drop}
use Rattle.crc32_bursts.specs.Claims.{SameOutside, BurstsCaught, FiveMissed, ChangedCaught, ExchangedCaught, ReplacedCaught, LastTerm}
use Rattle.crc32_bursts.specs.Examples.{zeros, generator, of_zeros, of_generator}
use Rattle.crc32_bursts.proofs.OneToOne.{highest}
use Rattle.crc32_bursts.proofs.Window.{same-window}

-- ---- four places

-- what stands before the places is one, and so is what stands after
module _ (i n : ℕ) (a b : List ℕ) (h : SameOutside i n a b) where
  length_before : (c : List ℕ) → length (take i c) ≤ i
  length_before c = le_trans (le_of_eq (length-take i c)) (min-le_left i (length c))

  same-before : take i a ≡ take i b
  same-before =
      ext_get_or 0 (take i a) (take i b) (length-take i a ∙ ap (min i) h.lengths ∙ sym (length-take i b))
      (λ j l.
      let k : j < i = lt_of_lt_of_le l (length_before a) in
      get_or-take i a j 0 k ∙ h.before j k ∙ sym (get_or-take i b j 0 k))

  same_after : drop (i + n) a ≡ drop (i + n) b
  same_after =
      ext_get_or 0 (drop (i + n) a) (drop (i + n) b) (length-drop (i + n) a ∙ ap (λ (k : ℕ). k - (i + n)) h.lengths ∙ sym (length-drop (i + n) b))
      (λ j l. get_or-drop (i + n) a j 0 ∙ h.after (i + n + j) (omega arith) ∙ sym (get_or-drop (i + n) b j 0))

  -- a text in three parts
  parts : (c : List ℕ) → take i c ++ (take n (drop i c) ++ drop (i + n) c) ≡ c
  parts c =
      ap (λ (r : List ℕ). take i c ++ r) (ap (λ (r : List ℕ). take n (drop i c) ++ r) (sym (drop-drop n i c)) ∙ take-append-drop n (drop i c))
      ∙ take-append-drop i c

  other-parts : take i a ++ (take n (drop i b) ++ drop (i + n) a) ≡ b
  other-parts = ap₂ (λ (x y : List ℕ). x ++ (take n (drop i b) ++ y)) same-before same_after ∙ parts b

  length-places : (c : List ℕ) → length (take n (drop i c)) ≡ min n (length c - i)
  length-places c = length-take n (drop i c) ∙ ap (min n) (length-drop i c)

  one-text : Bytes a → Bytes b → n ≤ 4 → crc a ≡ crc b → a ≡ b
  one-text ha hb few e =
      sym (parts a)
      ∙ ap (λ (w : List ℕ). take i a ++ (w ++ drop (i + n) a))
      (same-window (take i a) (drop (i + n) a) (take n (drop i a)) (take n (drop i b)) (bytes_take i a ha) (bytes_drop (i + n) a ha)
      (bytes_take n (drop i a) (bytes_drop i a ha)) (bytes_take n (drop i b) (bytes_drop i b hb))
      (length-places a ∙ ap (λ (k : ℕ). min n (k - i)) h.lengths ∙ sym (length-places b))
      (le_trans (le_trans (le_of_eq (length-places a)) (min-le_left n (length a - i))) few)
      (ap crc (parts a) ∙ e ∙ sym (ap crc other-parts)))
      ∙ other-parts

pub bursts-caught : BurstsCaught
bursts-caught a b i ha hb h d e = d (one-text i 4 a b h ha hb (omega arith) e)

-- ---- bytes

unfoldable Each : List ℕ → Type 0
Each [] = Unit {0}
Each (x ∷ xs) = (x < 256) × Each xs

bytes : (xs : List ℕ) → Each xs → Bytes xs
unfolding Each
bytes [] h i = lit< tt
bytes (x ∷ xs) h zero = h.0
bytes (x ∷ xs) h (suc i) = bytes xs h.1 i

head-alike : (x y : ℕ) (xs ys : List ℕ) → x ∷ xs ≡ y ∷ ys → x ≡ y
head-alike x y xs ys e = ap (λ (l : List ℕ). get_or l 0 0) e

-- ---- five

pub five-missed : FiveMissed
unfolding Each
five-missed c =
    c zeros generator 0 (bytes zeros (lit< tt, (lit< tt, (lit< tt, (lit< tt, (lit< tt, tt)))))) (bytes generator (lit< tt, (lit< tt, (lit< tt, (lit< tt, (lit< tt, tt))))))
    (record { lengths = refl; before = λ j l. absurd (not-suc-le-zero l); after = λ j l. past zeros j l ∙ sym (past generator j l) })
    (λ e. suc-ne-zero 64 (sym (head-alike 0 65 _ _ e))) (of_zeros ∙ sym of_generator)
  where
    past : (l : List ℕ) (j : ℕ) → length l ≤ j → get_or l j 0 ≡ 0
    past l j h = get_or-eq_default l 0 h

-- ---- what follows

pub replaced-caught : ReplacedCaught
replaced-caught before after v w hb ha hv hw l few d e = d (same-window before after v w hb ha hv hw l few e)

pub changed-caught : ChangedCaught
unfolding Each
changed-caught before after x y hb ha hx hy d =
    replaced-caught before after (x ∷ []) (y ∷ []) hb ha (bytes (x ∷ []) (hx, tt)) (bytes (y ∷ []) (hy, tt)) refl (omega arith) (λ e. d (head-alike x y [] [] e))

pub exchanged-caught : ExchangedCaught
unfolding Each
exchanged-caught before after x y hb ha hx hy d =
    replaced-caught before after (x ∷ y ∷ []) (y ∷ x ∷ []) hb ha (bytes (x ∷ y ∷ []) (hx, (hy, tt))) (bytes (y ∷ x ∷ []) (hy, (hx, tt))) refl (omega arith)
    (λ e. d (head-alike x y (y ∷ []) (x ∷ []) e))

-- ---- the polynomial

pub last-term : LastTerm
last-term = highest
