-- A word by its bytes. Assumes nothing.
use mathlib.Core.Path.{◌≡◌, sym, ap, ◌∙◌}
use mathlib.Core.List.{List}
use Prim.Native.Nat.{ℕ, suc, ◌+◌, ◌*◌, ◌≤◌, ◌<◌}
use native.Mathlib.Nat.{add-zero, add-suc}
use native.Mathlib.Omega.{arith}
use lib.Dec.{lit<}
use lib.ListN.{length, get_or, take, drop}
use lib.Seq.{drop-cons}
use Rattle.text.specs.Words.{word, word_at}

module _ (s : List ℕ) (i : ℕ) (room : i + 8 ≤ length s) where
  first : (n k : ℕ) → k < 8 → word (take (suc n) (drop (i + k) s)) ≡ word (take n (drop (i + suc k) s)) * 256 + get_or s (i + k) 0
  unfolding word
  first n k h =
      let l : i + k < length s = omega arith in
      ap (λ (xs : List ℕ). word (take (suc n) xs)) (drop-cons s (i + k) 0 l)
      ∙ ap (λ (j : ℕ). word (take n (drop j s)) * 256 + get_or s (i + k) 0) (sym (add-suc i k))

  pub eight-bytes : word_at s i ≡
      get_or s i 0 + get_or s (i + 1) 0 * 256 + get_or s (i + 2) 0 * 65536 + get_or s (i + 3) 0 * 16777216 + get_or s (i + 4) 0 * 4294967296
      + get_or s (i + 5) 0 * 1099511627776 + get_or s (i + 6) 0 * 281474976710656 + get_or s (i + 7) 0 * 72057594037927936
  unfolding word word_at
  eight-bytes =
      let e0 : word (take 8 (drop i s)) ≡ word (take 7 (drop (i + 1) s)) * 256 + get_or s i 0 = rw (add-zero) at (first 7 0 (lit< tt)) in
      omega (arith, first 6 1 (lit< tt), first 5 2 (lit< tt), first 4 3 (lit< tt), first 3 4 (lit< tt), first 2 5 (lit< tt), first 1 6 (lit< tt), first 0 7 (lit< tt))
