-- The levels that a list of words holds: how many, one read, and one put in its place; the words past them. Assumes nothing.
use Prim.Native.Nat.{ℕ, ◌+◌, ◌-◌, ◌*◌, ◌≤◌, ◌<◌}
use mathlib.Core.Path.{◌≡◌, sym, ap, ◌∙◌}
use mathlib.Core.List.{List}
use native.Mathlib.Omega.{arith}
use lib.ListN.{length, get_or, set, drop}
use lib.Seq.{drop-set-lt, drop-drop}
use Rattle.edit.proofs.Threes.{threes-length, threes-at, threes-set}
use Rattle.level.specs.Words.{level_words, level_of, levels_in, words_past, no_level}

pub length-levels : (n : ℕ) (words : List ℕ) → length words ≡ level_words * n → length (levels_in words) ≡ n
unfolding levels_in
length-levels n words h = threes-length level_of n words h

pub level-at-words : (i : ℕ) (words : List ℕ) → 3 * i + 2 < length words
    → level_of (get_or words (3 * i) 0) (get_or words (3 * i + 1) 0) (get_or words (3 * i + 2) 0) ≡ get_or (levels_in words) i no_level
unfolding levels_in
level-at-words i words h = threes-at level_of i words no_level h

pub put-words : (i : ℕ) (words : List ℕ) (price size rest : ℕ) → 3 * i + 2 < length words
    → levels_in (set (set (set words (3 * i) price) (3 * i + 1) size) (3 * i + 2) rest) ≡ set (levels_in words) i (level_of price size rest)
unfolding levels_in
put-words i words price size rest h = threes-set level_of i words price size rest h

-- ---- the words past the first levels

pub put-past : (i : ℕ) (words : List ℕ) (price size rest : ℕ)
    → words_past (i + 1) (set (set (set words (3 * i) price) (3 * i + 1) size) (3 * i + 2) rest) ≡ words_past (i + 1) words
unfolding words_past
put-past i words price size rest =
    drop-set-lt (3 * (i + 1)) (set (set words (3 * i) price) (3 * i + 1) size) (3 * i + 2) rest (omega arith)
    ∙ drop-set-lt (3 * (i + 1)) (set words (3 * i) price) (3 * i + 1) size (omega arith)
    ∙ drop-set-lt (3 * (i + 1)) words (3 * i) price (omega arith)

-- what is the same past n levels is the same past more
pub past_more : (n m : ℕ) (a b : List ℕ) → n ≤ m → words_past n a ≡ words_past n b → words_past m a ≡ words_past m b
unfolding words_past
past_more n m a b h e =
    let k : 3 * m ≡ 3 * n + 3 * (m - n) = omega arith in
    ap (λ (j : ℕ). drop j a) k ∙ sym (drop-drop (3 * (m - n)) (3 * n) a) ∙ ap (drop (3 * (m - n))) e ∙ drop-drop (3 * (m - n)) (3 * n) b ∙ sym (ap (λ (j : ℕ). drop j b) k)
