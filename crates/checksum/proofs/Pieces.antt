-- Laws of the state after the pieces of levels: it is that of their joined text, and the text of a book is such a joined text. Assumes nothing.
use mathlib.Core.Path.{◌≡◌, refl, sym, ap, ap₂, ◌∙◌, subst}
use mathlib.Core.Logic.{◌⊎◌, ⊎_elim}
use mathlib.Core.List.{List, [], ◌∷◌, ◌++◌, map, append-nil}
use Prim.Native.Nat.{ℕ, zero, suc, ◌+◌, ◌-◌, ◌*◌, ◌^◌, ◌≤◌, ◌<◌, min}
use native.Mathlib.Nat.{mul-add, le_of_suc-le-suc, not-suc-le-zero, zero-lt-suc}
use native.Mathlib.Omega.{arith}
use native.Mathlib.Numerals.{add-one}
use lib.Bits.{bit_xor}
use lib.ListN.{length, get_or, take, drop, length-map, length-append, drop_of_length-le}
use lib.Seq.{take-nil, take-take, drop-cons, get_or-take, length-take-le}
use Rattle.decimal.specs.Decimal.{Number, text, stripped}
use Rattle.decimal.specs.Limits.{Within}
use Rattle.decimal.proofs.Text.{length-text, length-stripped}
use Rattle.crc32_spec.specs.Crc.{bits, step, run, start, finish, crc, bit}
use Rattle.crc32_spec.specs.Laws.{xor_assoc, bits_xor, bits_add}
use Rattle.crc32_spec.specs.Text.{run_append, run_from}
use Rattle.piece.specs.Piece.{k_piece, m_piece}
use Rattle.settings.specs.declared.SumText.{SumText}
use Rattle.settings.specs.declared.SumText.TheVariants.{Stripped, Interleaved}
use Rattle.edit.specs.Edit.{PriceLevel}
use Rattle.level.specs.Words.{level_price, level_size, level_sum, level_length, max_length, shown}
use Rattle.level.specs.Ranked.{All}
use Rattle.level.specs.Words.{levels_in, no_level}
use Rattle.level.specs.Kept.{max_levels, max_words}
use Rattle.level.proofs.Changes.{made-price, made-size, made-sum, made-length, made-shown}
use Rattle.level.proofs.Stored.{length-levels}
use Rattle.level.specs.declared.Level.{Level}
use Rattle.text.specs.Text.{joined, colon}
use Rattle.checksum.specs.Text.{k_level, k_checksum_text, m_level, interleaved, colon_joined, m_checksum_text}
use Rattle.checksum.specs.Carried.{piece_of, level_for, Carries, summed}
use Rattle.checksum.proofs.Bytes.{piece-sum}

-- ---- the length of a piece

k-short : (price size : Number) → Within price → Within size → length (k_piece price size) ≤ max_length
unfolding k_piece
k-short price size p s =
    let a = length-stripped price p in
    let b = length-stripped size s in
    let e : length (stripped price ++ stripped size) ≡ length (stripped price) + length (stripped size) = length-append (stripped price) (stripped size) in
    omega arith

m-short : (price size : Number) → Within price → Within size → length (m_piece price size) ≤ max_length
unfolding m_piece
m-short price size p s =
    let a = length-text price p in
    let b = length-text size s in
    let e : length (text price ++ (colon ∷ text size)) ≡ length (text price) + suc (length (text size)) = length-append (text price) (colon ∷ text size) in
    omega arith

pub piece-short : (sum_text : SumText) (price size : Number) → Within price → Within size → length (piece_of sum_text price size) ≤ max_length
piece-short Stripped = k-short
piece-short Interleaved = m-short

-- ---- a level that was made carries its piece

module _ (sum_text : SumText) (price size : Number) (p : Within price) (s : Within size) where
  abbrev sum : ℕ
  sum = run 0 (piece_of sum_text price size)

  abbrev long : ℕ
  long = length (piece_of sum_text price size)

  fits : run 0 (piece_of sum_text price size) < 2 ^ 32
  fits = piece-sum sum_text price size

  short : length (piece_of sum_text price size) ≤ max_length
  short = piece-short sum_text price size p s

  pub level-price : level_price (level_for sum_text price size) ≡ price
  unfolding level_for
  level-price = made-price price size sum long p s fits short

  pub level-size : level_size (level_for sum_text price size) ≡ size
  unfolding level_for
  level-size = made-size price size sum long p s fits short

  pub level-shown : shown (level_for sum_text price size) ≡ record { price = price; size = size }
  unfolding level_for
  level-shown = made-shown price size sum long p s fits short

  pub level-carries : Carries (piece_of sum_text) (level_for sum_text price size)
  unfolding level_for
  level-carries =
      let same : piece_of sum_text price size ≡ piece_of sum_text (level_price (level_for sum_text price size)) (level_size (level_for sum_text price size)) = sym (ap₂ (piece_of sum_text) level-price level-size) in
      record { sum = made-sum price size sum long p s fits short ∙ ap (run 0) same; long = made-length price size sum long p s fits short ∙ ap length same }

-- ---- the state after the pieces of levels

module _ (piece : Number → Number → List ℕ) where
  -- the piece of a level as it is shown
  abbrev pub shown_piece : PriceLevel → List ℕ
  shown_piece l = piece l.price l.size

  pub summed-run : (levels : List Level) (s : ℕ) → All (Carries piece) levels → summed s levels ≡ run s (joined (map shown_piece (map shown levels)))
  unfolding summed joined run All shown
  summed-run [] s h = refl
  summed-run (l ∷ levels) s h =
      summed-run levels (bit_xor (bits (8 * level_length l) s) (level_sum l)) h.1
      ∙ ap (λ (x : ℕ). run x (joined (map shown_piece (map shown levels))))
      (ap₂ (λ (n x : ℕ). bit_xor (bits (8 * n) s) x) h.0.long h.0.sum ∙ sym (run_from (piece (level_price l) (level_size l)) s))
      ∙ sym (run_append (piece (level_price l) (level_size l)) (joined (map shown_piece (map shown levels))) s)

pub summed-append : (xs ys : List Level) (s : ℕ) → summed s (xs ++ ys) ≡ summed (summed s xs) ys
unfolding summed
summed-append [] ys s = refl
summed-append (x ∷ xs) ys s = summed-append xs ys (bit_xor (bits (8 * level_length x) s) (level_sum x))

-- two pieces put together first
pub summed-pair : (bid ask : Level) (s : ℕ) →
    bit_xor (bits (8 * (level_length bid + level_length ask)) s) (bit_xor (bits (8 * level_length ask) (level_sum bid)) (level_sum ask)) ≡ summed s (bid ∷ (ask ∷ []))
unfolding summed
summed-pair bid ask s =
    sym (xor_assoc (bits (8 * (level_length bid + level_length ask)) s) (bits (8 * level_length ask) (level_sum bid)) (level_sum ask))
    ∙ ap (λ (x : ℕ). bit_xor x (level_sum ask))
    (ap (λ (x : ℕ). bit_xor x (bits (8 * level_length ask) (level_sum bid)))
    (ap (λ (n : ℕ). bits n s) (mul-add 8 (level_length bid) (level_length ask)) ∙ bits_add (8 * level_length bid) (8 * level_length ask) s)
    ∙ sym (bits_xor (8 * level_length ask) (bits (8 * level_length bid) s) (level_sum bid)))

-- ---- the levels of a side, one more at a time, and two sides in turn

module _ {A : Type 0} where
  -- one pair more at the end
  pub interleaved-more : (n : ℕ) (xs ys : List A) (d : A) → n < length xs → n < length ys →
      interleaved (suc n) xs ys ≡ interleaved n xs ys ++ (get_or xs n d ∷ (get_or ys n d ∷ []))
  unfolding interleaved
  interleaved-more n [] ys d p q = absurd (not-suc-le-zero p)
  interleaved-more n (x ∷ xs) [] d p q = absurd (not-suc-le-zero q)
  interleaved-more zero (x ∷ xs) (y ∷ ys) d p q = refl
  interleaved-more (suc n) (x ∷ xs) (y ∷ ys) d p q =
      ap (λ (l : List A). x ∷ (y ∷ l)) (interleaved-more n xs ys d (le_of_suc-le-suc p) (le_of_suc-le-suc q))

  -- the first n alone, whatever follows them
  pub interleaved-take : (n : ℕ) (xs ys : List A) → interleaved n (take n xs) (take n ys) ≡ interleaved n xs ys
  unfolding interleaved
  interleaved-take zero xs ys = refl
  interleaved-take (suc n) [] [] = ap₂ (λ (a b : List A). interleaved n a b) (sym (take-nil n)) (sym (take-nil n)) ∙ interleaved-take n [] []
  interleaved-take (suc n) [] (y ∷ ys) = ap (λ (l : List A). y ∷ l) (ap (λ (a : List A). interleaved n a (take n ys)) (sym (take-nil n)) ∙ interleaved-take n [] ys)
  interleaved-take (suc n) (x ∷ xs) [] = ap (λ (l : List A). x ∷ l) (ap (λ (a : List A). interleaved n (take n xs) a) (sym (take-nil n)) ∙ interleaved-take n xs [])
  interleaved-take (suc n) (x ∷ xs) (y ∷ ys) = ap (λ (l : List A). x ∷ (y ∷ l)) (interleaved-take n xs ys)

  pub none_left : (n : ℕ) → ◌≡◌ {A = List A} (interleaved n [] []) []
  unfolding interleaved
  none_left zero = refl
  none_left (suc n) = none_left n

  left-only : (n : ℕ) (xs : List A) → length xs ≤ n → interleaved n xs [] ≡ xs
  unfolding interleaved
  left-only zero [] h = refl
  left-only zero (x ∷ xs) h = absurd (not-suc-le-zero h)
  left-only (suc n) [] h = none_left n
  left-only (suc n) (x ∷ xs) h = ap (λ (l : List A). x ∷ l) (left-only n xs (le_of_suc-le-suc h))

  right-only : (n : ℕ) (ys : List A) → length ys ≤ n → interleaved n [] ys ≡ ys
  unfolding interleaved
  right-only zero [] h = refl
  right-only zero (y ∷ ys) h = absurd (not-suc-le-zero h)
  right-only (suc n) [] h = none_left n
  right-only (suc n) (y ∷ ys) h = ap (λ (l : List A). y ∷ l) (right-only n ys (le_of_suc-le-suc h))

  -- all of two sides: those that both have, in turn, then what one has more
  pub interleaved-all : (n k : ℕ) (xs ys : List A) → length xs ≤ n → length ys ≤ n → k ≡ min (length xs) (length ys) →
      interleaved n xs ys ≡ interleaved k xs ys ++ (drop k xs ++ drop k ys)
  unfolding interleaved
  interleaved-all n k [] ys hx hy e =
      right-only n ys hy
      ∙ sym (ap (λ (j : ℕ). interleaved j [] ys ++ (drop j [] ++ drop j ys)) none)
    where
      none : k ≡ 0
      none = omega arith
  interleaved-all n k (x ∷ xs) [] hx hy e =
      left-only n (x ∷ xs) hx
      ∙ sym (ap (λ (j : ℕ). interleaved j (x ∷ xs) [] ++ (drop j (x ∷ xs) ++ drop j [])) none ∙ append-nil (x ∷ xs))
    where
      none : k ≡ 0
      none = omega arith
  interleaved-all zero k (x ∷ xs) (y ∷ ys) hx hy e = absurd (not-suc-le-zero hx)
  interleaved-all (suc n) zero (x ∷ xs) (y ∷ ys) hx hy e = absurd (some e)
    where
      some : 0 ≡ min (suc (length xs)) (suc (length ys)) → ⊥
      some q = omega arith
  interleaved-all (suc n) (suc k) (x ∷ xs) (y ∷ ys) hx hy e =
      ap (λ (l : List A). x ∷ (y ∷ l)) (interleaved-all n k xs ys (le_of_suc-le-suc hx) (le_of_suc-le-suc hy) (omega arith))

-- ---- a turn of the loops that sum

-- the words of a side hold as many levels as it may have
pub enough : (n : ℕ) (words : List ℕ) → n ≤ max_levels → length words ≡ max_words → n ≤ length (levels_in words)
enough n words h e = omega (arith, length-levels max_levels words e)

level-left : (items : List Level) (i to : ℕ) → i < to → to ≤ length items → drop i (take to items) ≡ get_or items i no_level ∷ drop (i + 1) (take to items)
level-left items i to l h =
    let n : length (take to items) ≡ to = length-take-le to items h in
    drop-cons (take to items) i no_level (omega arith)
    ∙ ap₂ (λ (x : Level) (k : ℕ). x ∷ drop k (take to items)) (get_or-take to items i no_level l) (sym (add-one i))

pub summed_turn : (items : List Level) (i to s r : ℕ) → i < to → to ≤ length items →
    r ≡ bit_xor (bits (8 * level_length (get_or items i no_level)) s) (level_sum (get_or items i no_level)) → summed r (drop (i + 1) (take to items)) ≡ summed s (drop i (take to items))
unfolding summed
summed_turn items i to s r l h e =
    ap (λ (x : ℕ). summed x (drop (i + 1) (take to items))) e ∙ sym (ap (summed s) (level-left items i to l h))

pub summed-done : (items : List Level) (i to s : ℕ) → to ≤ i → to ≤ length items → summed s (drop i (take to items)) ≡ s
unfolding summed
summed-done items i to s l h =
    let n : length (take to items) ≡ to = length-take-le to items h in
    ap (summed s) (drop_of_length-le (take to items) {i = i} (omega arith))

pub pairs-turn : (bids asks : List Level) (i n s r p : ℕ) → i < n → n ≤ length bids → n ≤ length asks →
    p ≡ bit_xor (bits (8 * level_length (get_or asks i no_level)) (level_sum (get_or bids i no_level))) (level_sum (get_or asks i no_level)) →
    r ≡ bit_xor (bits (8 * (level_length (get_or bids i no_level) + level_length (get_or asks i no_level))) s) p →
    summed r (interleaved (n - (i + 1)) (drop (i + 1) (take n bids)) (drop (i + 1) (take n asks)))
    ≡ summed s (interleaved (n - i) (drop i (take n bids)) (drop i (take n asks)))
unfolding summed interleaved
pairs-turn bids asks i n s r p l hb ha e f =
    let k : n - i ≡ suc (n - (i + 1)) = omega arith in
    ap (λ (x : ℕ). summed x (interleaved (n - (i + 1)) (drop (i + 1) (take n bids)) (drop (i + 1) (take n asks))))
    (f ∙ ap (bit_xor (bits (8 * (level_length (get_or bids i no_level) + level_length (get_or asks i no_level))) s)) e ∙ summed-pair (get_or bids i no_level) (get_or asks i no_level) s)
    ∙ sym (ap (summed s)
    (ap (λ (m : ℕ). interleaved m (drop i (take n bids)) (drop i (take n asks))) k
    ∙ ap₂ (interleaved (suc (n - (i + 1)))) (level-left bids i n l hb) (level-left asks i n l ha)))

pub pairs-done : (bids asks : List Level) (i n s : ℕ) → n ≤ i → summed s (interleaved (n - i) (drop i (take n bids)) (drop i (take n asks))) ≡ s
unfolding summed interleaved
pairs-done bids asks i n s l =
    let z : n - i ≡ 0 = omega arith in
    ap (λ (m : ℕ). summed s (interleaved m (drop i (take n bids)) (drop i (take n asks)))) z

-- one of two sides has a level
pub some_left : {A : Type 0} (n : ℕ) (xs ys : List A) → 0 < n → 0 < length xs → 0 < length (interleaved n xs ys)
unfolding interleaved
some_left zero xs ys p h = absurd (not-suc-le-zero p)
some_left (suc n) [] ys p h = absurd (not-suc-le-zero h)
some_left (suc n) (x ∷ xs) ys p h = zero-lt-suc (length (take 1 ys ++ interleaved n xs (drop 1 ys)))

pub some_right : {A : Type 0} (n : ℕ) (xs ys : List A) → 0 < n → 0 < length ys → 0 < length (interleaved n xs ys)
unfolding interleaved
some_right zero xs ys p h = absurd (not-suc-le-zero p)
some_right (suc n) xs [] p h = absurd (not-suc-le-zero h)
some_right (suc n) [] (y ∷ ys) p h = zero-lt-suc (length (interleaved n [] ys))
some_right (suc n) (x ∷ xs) (y ∷ ys) p h = zero-lt-suc (suc (length (interleaved n xs ys)))

-- ---- a list mapped, and what holds of each of its elements

module _ {A B : Type 0} (f : A → B) where
  pub map-take : (n : ℕ) (xs : List A) → map f (take n xs) ≡ take n (map f xs)
  map-take zero xs = refl
  map-take (suc n) [] = refl
  map-take (suc n) (x ∷ xs) = ap (λ (l : List B). f x ∷ l) (map-take n xs)

  pub map-drop : (n : ℕ) (xs : List A) → map f (drop n xs) ≡ drop n (map f xs)
  map-drop zero xs = refl
  map-drop (suc n) [] = refl
  map-drop (suc n) (x ∷ xs) = map-drop n xs

  pub map_both : (xs ys : List A) → map f (xs ++ ys) ≡ map f xs ++ map f ys
  map_both [] ys = refl
  map_both (x ∷ xs) ys = ap (λ (l : List B). f x ∷ l) (map_both xs ys)

  pub map-interleaved : (n : ℕ) (xs ys : List A) → map f (interleaved n xs ys) ≡ interleaved n (map f xs) (map f ys)
  unfolding interleaved
  map-interleaved zero xs ys = refl
  map-interleaved (suc n) xs ys =
      map_both (take 1 xs) (take 1 ys ++ interleaved n (drop 1 xs) (drop 1 ys))
      ∙ ap₂ (λ (a b : List B). a ++ b) (map-take 1 xs)
      (map_both (take 1 ys) (interleaved n (drop 1 xs) (drop 1 ys))
      ∙ ap₂ (λ (a b : List B). a ++ b) (map-take 1 ys)
      (map-interleaved n (drop 1 xs) (drop 1 ys) ∙ ap₂ (interleaved n) (map-drop 1 xs) (map-drop 1 ys)))

module _ {A : Type 0} (P : A → Type 0) where
  pub all_both : (xs ys : List A) → All P xs → All P ys → All P (xs ++ ys)
  unfolding All
  all_both [] ys h k = k
  all_both (x ∷ xs) ys h k = (h.0, all_both xs ys h.1 k)

  pub all_take : (n : ℕ) (xs : List A) → All P xs → All P (take n xs)
  unfolding All
  all_take zero xs h = tt
  all_take (suc n) [] h = tt
  all_take (suc n) (x ∷ xs) h = (h.0, all_take n xs h.1)

  pub all_drop : (n : ℕ) (xs : List A) → All P xs → All P (drop n xs)
  unfolding All
  all_drop zero xs h = h
  all_drop (suc n) [] h = tt
  all_drop (suc n) (x ∷ xs) h = all_drop n xs h.1

  pub all-interleaved : (n : ℕ) (xs ys : List A) → All P xs → All P ys → All P (interleaved n xs ys)
  unfolding interleaved All
  all-interleaved zero xs ys h k = tt
  all-interleaved (suc n) xs ys h k =
      all_both (take 1 xs) (take 1 ys ++ interleaved n (drop 1 xs) (drop 1 ys)) (all_take 1 xs h)
      (all_both (take 1 ys) (interleaved n (drop 1 xs) (drop 1 ys)) (all_take 1 ys k)
      (all-interleaved n (drop 1 xs) (drop 1 ys) (all_drop 1 xs h) (all_drop 1 ys k)))

-- ---- K

-- the first levels of those that are kept
pub take_min : {A : Type 0} (n m : ℕ) (xs : List A) → take (min n m) xs ≡ take m (take n xs)
take_min n m [] = take-nil (min n m) ∙ sym (ap (take m) (take-nil n) ∙ take-nil m)
take_min zero m (x ∷ xs) = ap (λ (k : ℕ). take k (x ∷ xs)) none ∙ sym (take-nil m)
  where
    none : min 0 m ≡ 0
    none = omega arith
take_min (suc n) zero (x ∷ xs) = ap (λ (k : ℕ). take k (x ∷ xs)) none
  where
    none : min (suc n) 0 ≡ 0
    none = omega arith
take_min {A} (suc n) (suc m) (x ∷ xs) = ap (λ (k : ℕ). take k (x ∷ xs)) more ∙ ap (λ (l : List A). x ∷ l) (take_min n m xs)
  where
    more : min (suc n) (suc m) ≡ suc (min n m)
    more = omega arith

pub k-summed : (n : ℕ) (bids asks : List Level) → All (Carries k_piece) bids → All (Carries k_piece) asks →
    finish (summed (summed start (take n asks)) (take n bids)) ≡ crc (k_checksum_text n (map shown bids) (map shown asks))
unfolding k_checksum_text k_level k_piece crc
k-summed n bids asks hb ha =
    ap finish
    (sym (summed-append (take n asks) (take n bids) start)
    ∙ summed-run k_piece (take n asks ++ take n bids) start
    (all_both (Carries k_piece) (take n asks) (take n bids) (all_take (Carries k_piece) n asks ha) (all_take (Carries k_piece) n bids hb))
    ∙ ap (λ (l : List PriceLevel). run start (joined (map (shown_piece k_piece) l)))
    (map_both shown (take n asks) (take n bids) ∙ ap₂ (λ (a b : List PriceLevel). a ++ b) (map-take shown n asks) (map-take shown n bids)))

-- ---- M

-- a colon in front of each piece, and none in front of the text
colons : (l : PriceLevel) (ls : List PriceLevel) → joined (map (shown_piece m_piece) (l ∷ ls)) ≡ colon ∷ colon_joined (map m_level (l ∷ ls))
unfolding joined m_piece m_level colon_joined
colons l [] = ap (λ (t : List ℕ). colon ∷ t) (append-nil (text l.price ++ (colon ∷ text l.size)))
colons l (k ∷ ls) = ap (λ (t : List ℕ). colon ∷ ((text l.price ++ (colon ∷ text l.size)) ++ t)) (colons k ls)

-- the state that a colon turns into the start
abbrev pub before_colon : ℕ
before_colon = 4036333539

to_start : step before_colon colon ≡ start
unfolding step bits bit
to_start = refl

m-run : (ls : List PriceLevel) → 0 < length ls → run before_colon (joined (map (shown_piece m_piece) ls)) ≡ run start (colon_joined (map m_level ls))
unfolding run
m-run [] h = absurd (not-suc-le-zero h)
m-run (l ∷ ls) h = ap (run before_colon) (colons l ls) ∙ ap (λ (s : ℕ). run s (colon_joined (map m_level (l ∷ ls)))) to_start

m-empty : (n : ℕ) → crc (m_checksum_text n [] []) ≡ 0
unfolding m_checksum_text colon_joined crc run
m-empty n = ap (λ (l : List PriceLevel). crc (colon_joined (map m_level l))) (none_left n)

m-summed : (n : ℕ) (bids asks : List Level) → 0 < length (interleaved n bids asks) → All (Carries m_piece) bids → All (Carries m_piece) asks →
    finish (summed before_colon (interleaved n bids asks)) ≡ crc (m_checksum_text n (map shown bids) (map shown asks))
unfolding m_checksum_text crc
m-summed n bids asks some hb ha =
    ap finish
    (summed-run m_piece (interleaved n bids asks) before_colon (all-interleaved (Carries m_piece) n bids asks hb ha)
    ∙ m-run (map shown (interleaved n bids asks)) (subst (λ (k : ℕ). 0 < k) (sym (length-map (interleaved n bids asks) shown)) some)
    ∙ ap (λ (l : List PriceLevel). run start (colon_joined (map m_level l))) (map-interleaved shown n bids asks))

-- all of two sides: the pairs, then what one side has more
m-parts : (n : ℕ) (bids asks : List Level) (nb na k : ℕ) → nb ≤ length bids → na ≤ length asks → nb ≤ n → na ≤ n → k ≡ min nb na → (s : ℕ) →
    summed (summed (summed s (interleaved k (take k bids) (take k asks))) (drop k (take nb bids))) (drop k (take na asks))
    ≡ summed s (interleaved n (take nb bids) (take na asks))
m-parts n bids asks nb na k hb ha lb la e s =
    let ib : length (take nb bids) ≡ nb = length-take-le nb bids hb in
    let ia : length (take na asks) ≡ na = length-take-le na asks ha in
    sym (summed-append (drop k (take nb bids)) (drop k (take na asks)) (summed s (interleaved k (take k bids) (take k asks))))
    ∙ sym (summed-append (interleaved k (take k bids) (take k asks)) (drop k (take nb bids) ++ drop k (take na asks)) s)
    ∙ ap (λ (l : List Level). summed s (l ++ (drop k (take nb bids) ++ drop k (take na asks))))
    (ap₂ (interleaved k) (sym (take-take k nb bids (omega arith))) (sym (take-take k na asks (omega arith))) ∙ interleaved-take k (take nb bids) (take na asks))
    ∙ ap (summed s) (sym (interleaved-all n k (take nb bids) (take na asks) (omega arith) (omega arith) (omega arith)))

-- the n best levels of sides that have nb and na of them; b and a are how many these are
module _ (n nb na b a : ℕ) (bids asks : List Level) (b-is : b ≡ min nb n) (a-is : a ≡ min na n) where
  best : (k m : ℕ) (levels : List Level) → m ≡ min k n → take n (map shown (take k levels)) ≡ map shown (take m levels)
  best k m levels e =
      sym (map-take shown n (take k levels)) ∙ ap (map shown) (sym (take_min k n levels) ∙ ap (λ (x : ℕ). take x levels) (sym e))

  of-best : crc (m_checksum_text n (map shown (take b bids)) (map shown (take a asks))) ≡ crc (m_checksum_text n (map shown (take nb bids)) (map shown (take na asks)))
  unfolding m_checksum_text
  of-best =
      sym (ap₂ (λ (x y : List PriceLevel). crc (colon_joined (map m_level (interleaved n x y)))) (best nb b bids b-is) (best na a asks a-is))
      ∙ ap (λ (l : List PriceLevel). crc (colon_joined (map m_level l))) (interleaved-take n (map shown (take nb bids)) (map shown (take na asks)))

  pub m-none : b ≡ 0 → a ≡ 0 → 0 ≡ crc (m_checksum_text n (map shown (take nb bids)) (map shown (take na asks)))
  m-none zb za =
      sym (m-empty n)
      ∙ sym (ap₂ (λ (x y : ℕ). crc (m_checksum_text n (map shown (take x bids)) (map shown (take y asks)))) zb za)
      ∙ of-best

  carried : (k m : ℕ) (levels : List Level) → m ≡ min k n → All (Carries m_piece) (take k levels) → All (Carries m_piece) (take m levels)
  carried k m levels e h = subst (All (Carries m_piece)) (sym (take_min k n levels) ∙ ap (λ (x : ℕ). take x levels) (sym e)) (all_take (Carries m_piece) n (take k levels) h)

  some_of : (m : ℕ) (levels : List Level) → m ≤ length levels → (m ≡ 0 → ⊥) → 0 < length (take m levels)
  some_of m levels h z = let e : length (take m levels) ≡ m = length-take-le m levels h in omega arith

  pub m-all : (k : ℕ) → nb ≤ length bids → na ≤ length asks → k ≡ min b a → ((b ≡ 0 → ⊥) ⊎ (a ≡ 0 → ⊥))
      → All (Carries m_piece) (take nb bids) → All (Carries m_piece) (take na asks)
      → finish (summed (summed (summed before_colon (interleaved k (take k bids) (take k asks))) (drop k (take b bids))) (drop k (take a asks)))
      ≡ crc (m_checksum_text n (map shown (take nb bids)) (map shown (take na asks)))
  m-all k hb ha e some cb ca =
      ap finish (m-parts n bids asks b a k (omega arith) (omega arith) (omega arith) (omega arith) e before_colon)
      ∙ m-summed n (take b bids) (take a asks)
      (⊎_elim
      (λ z. some_left n (take b bids) (take a asks) (omega arith) (some_of b bids (omega arith) z))
      (λ z. some_right n (take b bids) (take a asks) (omega arith) (some_of a asks (omega arith) z)) some)
      (carried nb b bids b-is cb) (carried na a asks a-is ca)
      ∙ of-best
