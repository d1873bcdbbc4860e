-- Why up to eight bytes of a string may be passed at once: what is computed of a word is computed of each of its bytes, and those below the lowest mark stand for themselves.
-- Assumes nothing.
use mathlib.Core.Path.{◌≡◌, refl, sym, ap, ◌∙◌}
use mathlib.Core.List.{List, [], ◌∷◌}
use mathlib.Core.Bool.{Bool, true, false, true≢false, ◌&&◌, ◌||◌, not, and-eq-true_iff}
use Prim.Native.Nat.{ℕ, zero, suc, ◌+◌, ◌*◌, ◌/◌, ◌%◌, ◌^◌, ◌≤◌, ◌<◌}
use native.Mathlib.Decide.{dec_lt}
use native.Mathlib.Omega.{arith}
use lib.ListN.{length}
use lib.Bits.{bit_and, bit_or, bit_xor, and_zero_l, or_zero_l, xor_zero_l, and_block, or_block, xor_block, and_lt, or_lt, xor_lt, and_le_r, shifted_half, shifted_even}
use lib.Count.{count_trailing_zeros, trailing_of_zero}
use lib.Dec.{leb, eqb}
use borrow.Author.Tests.{eqb-true, eqb-false, leb-true, not-true, ne_eqb, le-leb}
use Rattle.text.specs.Text.{byte_at}
use Rattle.text.specs.Words.{word_at}
use Rattle.text.proofs.Words.{eight-bytes}
use Rattle.json_tokens.specs.Ends.{unescaped}
use Rattle.json_tokens.specs.Tokens.{string_rest}
use Rattle.json_tokens.specs.Words.{special_bytes}
use Rattle.json_tokens.proofs.Laws.{in-kind, rest_plain}

-- ---- bytes that stand for themselves
module _ (c : ℕ) where
  pub unescaped-low : unescaped c ≡ false → (c ≡ 34 → ⊥) → (c ≡ 92 → ⊥) → c < 32
  unfolding unescaped
  unescaped-low h n m = elim (dec_lt c 32) [ yes l ↦ l | no l ↦ absurd (true≢false (sym (rw (le-leb 32 c (omega arith), ne_eqb c 34 n, ne_eqb c 92 m)) ∙ h)) ]

  pub unescaped-plain : unescaped c ≡ true → (32 ≤ c) × (c ≡ 34 → ⊥) × (c ≡ 92 → ⊥)
  unfolding unescaped
  unescaped-plain h =
      let p = (and-eq-true_iff (leb 32 c) _).0 h in
      let q = (and-eq-true_iff (not (eqb c 34)) _).0 p.1 in
      (leb-true 32 c p.0, eqb-false c 34 (not-true _ q.0), eqb-false c 92 (not-true _ q.1))

module _ (s : List ℕ) (i : ℕ) where
  pub in-unescaped : unescaped (byte_at s i) ≡ true → i < length s
  unfolding unescaped
  in-unescaped h = in-kind unescaped refl s i h

  pub rest-unescaped : unescaped (byte_at s i) ≡ true → string_rest s i ≡ string_rest s (i + 1)
  rest-unescaped h = let u = unescaped-plain (byte_at s i) h in rest_plain s i u.1 u.2 u.0

-- ---- a number of bytes, each changed by f; the first byte of the list is the lowest
lanes : (ℕ → ℕ) → List ℕ → ℕ
lanes f [] = 0
lanes f (b ∷ l) = lanes f l * 256 + f b

data Bytes : List ℕ → Type 0 where
  none : Bytes []
  byte : (b : ℕ) (l : List ℕ) → b < 256 → Bytes l → Bytes (b ∷ l)

Stays : (ℕ → ℕ) → Type 0
Stays f = (b : ℕ) → b < 256 → f b < 256

module _ (f g : ℕ → ℕ) where
  lanes-add : (l : List ℕ) → lanes f l + lanes g l ≡ lanes (λ b. f b + g b) l
  unfolding lanes
  lanes-add [] = refl
  lanes-add (b ∷ l) = let h = lanes-add l in omega arith

  module _ (p : Stays f) (q : Stays g) where
    lanes-and : (l : List ℕ) → Bytes l → bit_and (lanes f l) (lanes g l) ≡ lanes (λ b. bit_and (f b) (g b)) l
    unfolding lanes Stays
    lanes-and [] none = and_zero_l 0
    lanes-and (b ∷ l) (byte c m h r) = and_block 8 (lanes f l) (lanes g l) (f b) (g b) (p b h) (q b h) ∙ ap (λ x. x * 256 + bit_and (f b) (g b)) (lanes-and l r)

    lanes-or : (l : List ℕ) → Bytes l → bit_or (lanes f l) (lanes g l) ≡ lanes (λ b. bit_or (f b) (g b)) l
    unfolding lanes Stays
    lanes-or [] none = or_zero_l 0
    lanes-or (b ∷ l) (byte c m h r) = or_block 8 (lanes f l) (lanes g l) (f b) (g b) (p b h) (q b h) ∙ ap (λ x. x * 256 + bit_or (f b) (g b)) (lanes-or l r)

    lanes-xor : (l : List ℕ) → Bytes l → bit_xor (lanes f l) (lanes g l) ≡ lanes (λ b. bit_xor (f b) (g b)) l
    unfolding lanes Stays
    lanes-xor [] none = xor_zero_l 0
    lanes-xor (b ∷ l) (byte c m h r) = xor_block 8 (lanes f l) (lanes g l) (f b) (g b) (p b h) (q b h) ∙ ap (λ x. x * 256 + bit_xor (f b) (g b)) (lanes-xor l r)

-- ---- the test of a word, byte by byte
lows : ℕ → ℕ
lows b = bit_and b 127

aboves : ℕ → ℕ
aboves b = lows b + 96

others : ℕ → ℕ → ℕ
others c b = bit_xor (lows b) c + 127

tests : ℕ → ℕ
tests b = bit_and (bit_or (bit_and (bit_and (aboves b) (others 34 b)) (others 92 b)) b) 128

marks : ℕ → ℕ
marks b = bit_xor (tests b) 128

same : ℕ → ℕ
same b = b

always : ℕ → ℕ → ℕ
always c b = c

lows-small : (b : ℕ) → lows b < 128
unfolding lows
lows-small b = omega (arith, and_le_r b 127)

module _ (l : List ℕ) (bytes : Bytes l) where
  stays-always : (c : ℕ) → c < 256 → Stays (always c)
  unfolding Stays always
  stays-always c h b s = h

  stays_same : Stays same
  unfolding Stays same
  stays_same b s = s

  stays-lows : Stays lows
  unfolding Stays
  stays-lows b s = omega (arith, lows-small b)

  stays-aboves : Stays aboves
  unfolding Stays aboves
  stays-aboves b s = omega (arith, lows-small b)

  xor-small : (c b : ℕ) → c < 128 → bit_xor (lows b) c < 128
  xor-small c b h = xor_lt 7 (lows b) c (lows-small b) h

  stays-others : (c : ℕ) → c < 128 → Stays (others c)
  unfolding Stays others
  stays-others c h b s = omega (arith, xor-small c b h)

  is-lows : bit_and (lanes same l) (lanes (always 127) l) ≡ lanes lows l
  unfolding lows same always
  is-lows = lanes-and same (always 127) stays_same (stays-always 127 (omega arith)) l bytes

  is-aboves : bit_and (lanes same l) (lanes (always 127) l) + lanes (always 96) l ≡ lanes aboves l
  unfolding aboves always
  is-aboves = ap (λ x. x + lanes (always 96) l) is-lows ∙ lanes-add lows (always 96) l

  is-others : (c : ℕ) → c < 128 → bit_xor (bit_and (lanes same l) (lanes (always 127) l)) (lanes (always c) l) + lanes (always 127) l ≡ lanes (others c) l
  unfolding others always
  is-others c h =
      ap (λ x. bit_xor x (lanes (always c) l) + lanes (always 127) l) is-lows
      ∙ ap (λ x. x + lanes (always 127) l) (lanes-xor lows (always c) stays-lows (stays-always c (omega arith)) l bytes)
      ∙ lanes-add (λ b. bit_xor (lows b) c) (always 127) l

  stays-both : Stays (λ b. bit_and (aboves b) (others 34 b))
  unfolding Stays
  stays-both b s = and_lt 8 (aboves b) (others 34 b) (stays-aboves b s) (stays-others 34 (omega arith) b s)

  stays_all : Stays (λ b. bit_and (bit_and (aboves b) (others 34 b)) (others 92 b))
  unfolding Stays
  stays_all b s = and_lt 8 (bit_and (aboves b) (others 34 b)) (others 92 b) (stays-both b s) (stays-others 92 (omega arith) b s)

  stays-or : Stays (λ b. bit_or (bit_and (bit_and (aboves b) (others 34 b)) (others 92 b)) b)
  unfolding Stays
  stays-or b s = or_lt 8 (bit_and (bit_and (aboves b) (others 34 b)) (others 92 b)) b (stays_all b s) s

  stays-tests : Stays tests
  unfolding Stays tests
  stays-tests b s = and_lt 8 (bit_or (bit_and (bit_and (aboves b) (others 34 b)) (others 92 b)) b) 128 (stays-or b s) (omega arith)

  is-tests :
      bit_and (bit_or (bit_and
      (bit_and (bit_and (lanes same l) (lanes (always 127) l) + lanes (always 96) l)
      (bit_xor (bit_and (lanes same l) (lanes (always 127) l)) (lanes (always 34) l) + lanes (always 127) l))
      (bit_xor (bit_and (lanes same l) (lanes (always 127) l)) (lanes (always 92) l) + lanes (always 127) l)) (lanes same l)) (lanes (always 128) l)
      ≡ lanes tests l
  unfolding tests always same
  is-tests =
      ap (λ x. bit_and (bit_or (bit_and (bit_and x
      (bit_xor (bit_and (lanes same l) (lanes (always 127) l)) (lanes (always 34) l) + lanes (always 127) l))
      (bit_xor (bit_and (lanes same l) (lanes (always 127) l)) (lanes (always 92) l) + lanes (always 127) l)) (lanes same l)) (lanes (always 128) l)) is-aboves
      ∙ ap (λ x. bit_and (bit_or (bit_and (bit_and (lanes aboves l) x)
      (bit_xor (bit_and (lanes same l) (lanes (always 127) l)) (lanes (always 92) l) + lanes (always 127) l)) (lanes same l)) (lanes (always 128) l)) (is-others 34 (omega arith))
      ∙ ap (λ x. bit_and (bit_or (bit_and (bit_and (lanes aboves l) (lanes (others 34) l)) x) (lanes same l)) (lanes (always 128) l)) (is-others 92 (omega arith))
      ∙ ap (λ x. bit_and (bit_or (bit_and x (lanes (others 92) l)) (lanes same l)) (lanes (always 128) l)) (lanes-and aboves (others 34) stays-aboves (stays-others 34 (omega arith)) l bytes)
      ∙ ap (λ x. bit_and (bit_or x (lanes same l)) (lanes (always 128) l)) (lanes-and (λ b. bit_and (aboves b) (others 34 b)) (others 92) stays-both (stays-others 92 (omega arith)) l bytes)
      ∙ ap (λ x. bit_and x (lanes (always 128) l)) (lanes-or (λ b. bit_and (bit_and (aboves b) (others 34 b)) (others 92 b)) same stays_all stays_same l bytes)
      ∙ lanes-and (λ b. bit_or (bit_and (bit_and (aboves b) (others 34 b)) (others 92 b)) b) (always 128) stays-or (stays-always 128 (omega arith)) l bytes

  is-marks :
      bit_xor (bit_and (bit_or (bit_and
      (bit_and (bit_and (lanes same l) (lanes (always 127) l) + lanes (always 96) l)
      (bit_xor (bit_and (lanes same l) (lanes (always 127) l)) (lanes (always 34) l) + lanes (always 127) l))
      (bit_xor (bit_and (lanes same l) (lanes (always 127) l)) (lanes (always 92) l) + lanes (always 127) l)) (lanes same l)) (lanes (always 128) l)) (lanes (always 128) l)
      ≡ lanes marks l
  unfolding marks always
  is-marks = ap (λ x. bit_xor x (lanes (always 128) l)) is-tests ∙ lanes-xor tests (always 128) stays-tests (stays-always 128 (omega arith)) l bytes

-- ---- a byte is marked by its high bit or stands for itself: computed for each of the 256
all-below : ℕ → (ℕ → Bool) → Bool
all-below zero p = true
all-below (suc n) p = p n && all-below n p

below_at : (n : ℕ) (p : ℕ → Bool) → all-below n p ≡ true → (k : ℕ) → k < n → p k ≡ true
unfolding all-below
below_at zero p h k l = absurd (omega arith)
below_at (suc n) p h k l = go ((and-eq-true_iff (p n) (all-below n p)).0 h) (λ r. below_at n p r k)
  where
    go : (p n ≡ true) × (all-below n p ≡ true) → (all-below n p ≡ true → k < n → p k ≡ true) → p k ≡ true
    go h f = elim (dec_lt k n) [ yes m ↦ f h.1 m | no m ↦ let e : k ≡ n = omega arith in ap p e ∙ h.0 ]

tells : ℕ → Bool
tells b = eqb (marks b) 128 || (eqb (marks b) 0 && unescaped b)

all_tell : all-below 256 tells ≡ true
unfolding all-below tells marks tests aboves others lows unescaped
all_tell = refl

by-mark : {A : Type 0} (b : ℕ) → b < 256 → (marks b ≡ 128 → A) → (marks b ≡ 0 → unescaped b ≡ true → A) → A
unfolding tells
by-mark {A} b small f g = go (eqb (marks b) 128) refl (below_at 256 tells all_tell b small)
  where
    go : (x : Bool) → eqb (marks b) 128 ≡ x → (x || (eqb (marks b) 0 && unescaped b)) ≡ true → A
    go true e h = f (eqb-true (marks b) 128 e)
    go false e h = let p = (and-eq-true_iff (eqb (marks b) 0) (unescaped b)).0 h in g (eqb-true (marks b) 0 p.0) p.1

-- ---- the zeros below the lowest mark
trailing-up : (d k a : ℕ) → count_trailing_zeros (d + k) (a * 2 ^ d) ≡ d + count_trailing_zeros k a
unfolding count_trailing_zeros
trailing-up zero k a =
    let p : 0 + k ≡ k = omega arith in
    let q : a * 2 ^ 0 ≡ a = omega arith in
    rw (p, q) (omega arith)
trailing-up (suc d) k a =
    let h = trailing-up d k a in
    let p : suc d + k ≡ suc (d + k) = omega arith in
    rw (p, shifted_half a d, shifted_even a d) (omega arith)

-- a byte with no mark has eight zeros, and one with a mark has seven
unmarked : (k a : ℕ) → count_trailing_zeros (8 + k) (a * 256 + 0) ≡ 8 + count_trailing_zeros k a
unmarked k a =
    let p : a * 256 + 0 ≡ a * 256 = omega arith in
    rw p (trailing-up 8 k a)

marked : (k a : ℕ) → count_trailing_zeros (8 + k) (a * 256 + 128) ≡ 7
unfolding count_trailing_zeros
marked k a =
    let p : 8 + k ≡ 7 + suc k = omega arith in
    let q : a * 256 + 128 ≡ (a * 2 + 1) * 128 = omega arith in
    let r : (a * 2 + 1) % 2 ≡ 1 = omega arith in
    rw (p, q) (trailing-up 7 (suc k) (a * 2 + 1) ∙ rw r)

-- ---- a text whose numbers are bytes: l is what it holds from i on
module _ (s : List ℕ) (small : (k : ℕ) → byte_at s k < 256) where
  data Holds : ℕ → List ℕ → Type 0 where
    no_byte : (i : ℕ) → Holds i []
    a_byte : (i j : ℕ) (l : List ℕ) → i + 1 ≡ j → Holds j l → Holds i (byte_at s i ∷ l)

  held_bytes : {i : ℕ} {l : List ℕ} → Holds i l → Bytes l
  held_bytes (no_byte i) = none
  held_bytes (a_byte i j l e h) = byte (byte_at s i) l (small i) (held_bytes h)

  width : List ℕ → ℕ
  width [] = 0
  width (b ∷ l) = 8 + width l

  -- the bytes below the lowest mark stand for themselves
  rest-marked : {i : ℕ} {l : List ℕ} → Holds i l → string_rest s (i + count_trailing_zeros (width l) (lanes marks l) / 8) ≡ string_rest s i
  unfolding width lanes
  rest-marked (no_byte i) = ap (string_rest s) (omega (arith, trailing_of_zero 0))
  rest-marked (a_byte i j l e h) =
      by-mark (byte_at s i) (small i)
      (λ m. let z = marked (width l) (lanes marks l) in rw m (ap (string_rest s) (omega arith)))
      (λ m u.
      let z = unmarked (width l) (lanes marks l) in
      let p : i + count_trailing_zeros (8 + width l) (lanes marks l * 256 + 0) / 8 ≡ j + count_trailing_zeros (width l) (lanes marks l) / 8 = omega arith in
      rw m (ap (string_rest s) p ∙ rest-marked h ∙ ap (string_rest s) (sym e) ∙ sym (rest-unescaped s i u)))

  module _ (i : ℕ) where
    eight : List ℕ
    eight =
        byte_at s i ∷ byte_at s (i + 1) ∷ byte_at s (i + 2) ∷ byte_at s (i + 3)
        ∷ byte_at s (i + 4) ∷ byte_at s (i + 5) ∷ byte_at s (i + 6) ∷ byte_at s (i + 7) ∷ []

    eight-held : Holds i eight
    unfolding eight
    eight-held =
        a_byte i (i + 1) _ refl (a_byte (i + 1) (i + 2) _ (omega arith)
        (a_byte (i + 2) (i + 3) _ (omega arith) (a_byte (i + 3) (i + 4) _ (omega arith)
        (a_byte (i + 4) (i + 5) _ (omega arith) (a_byte (i + 5) (i + 6) _ (omega arith)
        (a_byte (i + 6) (i + 7) _ (omega arith) (a_byte (i + 7) (i + 8) _ (omega arith) (no_byte (i + 8)))))))))

    eight-word : i + 8 ≤ length s → word_at s i ≡ lanes same eight
    unfolding eight lanes same byte_at
    eight-word room = omega (arith, eight-bytes s i room)

    eight-marks : special_bytes (lanes same eight) ≡ lanes marks eight
    unfolding eight lanes always special_bytes
    eight-marks = is-marks eight (held_bytes eight-held)

    pub rest-special : i + 8 ≤ length s → string_rest s (i + count_trailing_zeros 64 (special_bytes (word_at s i)) / 8) ≡ string_rest s i
    unfolding eight width
    rest-special room = ap (λ m. string_rest s (i + count_trailing_zeros 64 m / 8)) (ap special_bytes (eight-word room) ∙ eight-marks) ∙ rest-marked eight-held
