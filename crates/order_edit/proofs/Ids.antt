-- Laws of ids: which are the same, and that the words of an id hold its bytes. Assumes nothing.
use Prim.Native.Nat.{ℕ, zero, suc, ◌+◌, ◌*◌, ◌/◌, ◌%◌, ◌≤◌, ◌<◌}
use mathlib.Core.Path.{◌≡◌, refl, sym, ap, ◌∙◌}
use mathlib.Core.Bool.{Bool, true, false, ◌&&◌, cond, and-true}
use mathlib.Core.List.{List, [], ◌∷◌, ◌++◌}
use native.Mathlib.Nat.{not-suc-le-zero, add-zero, add-suc}
use native.Mathlib.Omega.{arith}
use lib.Dec.{eqb, leb}
use lib.ListN.{length, get_or, take, drop, take-append-drop, length-take, length-drop}
use lib.Seq.{drop-drop, take_all, take-nil}
use borrow.Author.Tests.{eqb-true, eqb-false, eq-eqb, ne_eqb, leb-true, le-leb, lt-leb}
use Rattle.text.specs.Text.{byte_at}
use Rattle.text.specs.Words.{word, word_at}
use Rattle.settings.specs.Settings.{name_byte, name_bytes}
use Rattle.order_edit.specs.declared.Id.{Id}
use Rattle.order_edit.specs.Ids.{is_id, max_id, same_id, id_of, bytes_of, id_bytes, id_words, Packed}

-- ---- which ids are the same

and_left : (a b : Bool) → (a && b) ≡ true → a ≡ true
and_left true b e = refl
and_left false b e = e

and_right : (a b : Bool) → (a && b) ≡ true → b ≡ true
and_right true b e = e
and_right false true e = refl
and_right false false e = e

eqb-swapped : (x y : ℕ) (t : Bool) → eqb x y ≡ t → eqb y x ≡ t
eqb-swapped x y true e = eq-eqb y x (sym (eqb-true x y e))
eqb-swapped x y false e = ne_eqb y x (λ q. eqb-false x y e (sym q))

pub same_id-swap : (a b : List ℕ) → same_id a b ≡ same_id b a
unfolding same_id
same_id-swap [] [] = refl
same_id-swap [] (y ∷ t) = refl
same_id-swap (x ∷ s) [] = refl
same_id-swap (x ∷ s) (y ∷ t) = ap (λ (q : Bool). q && same_id s t) (sym (eqb-swapped x y (eqb x y) refl)) ∙ ap (λ (q : Bool). eqb y x && q) (same_id-swap s t)

-- `==` of two ids, which Rust derives, compares their words
pub same_words : (a b : Id) → (eqb a.first b.first && (eqb a.second b.second && eqb a.third b.third)) ≡ same_id (id_words a) (id_words b)
unfolding same_id id_words
same_words a b = ap (λ (q : Bool). eqb a.first b.first && (eqb a.second b.second && q)) (sym (and-true (eqb a.third b.third)))

false-true : ◌≡◌ {A = Bool} false true → ⊥
false-true e = let z : ◌≡◌ {A = ℕ} 0 1 = cc in omega arith

pub same_id-true : (a b : List ℕ) → same_id a b ≡ true → a ≡ b
unfolding same_id
same_id-true [] [] e = refl
same_id-true [] (y ∷ t) e = absurd (false-true e)
same_id-true (x ∷ s) [] e = absurd (false-true e)
same_id-true (x ∷ s) (y ∷ t) e =
    ap (λ (n : ℕ). n ∷ s) (eqb-true x y (and_left (eqb x y) (same_id s t) e)) ∙ ap (λ (r : List ℕ). y ∷ r) (same_id-true s t (and_right (eqb x y) (same_id s t) e))

pub same_id-refl : (a : List ℕ) → same_id a a ≡ true
unfolding same_id
same_id-refl [] = refl
same_id-refl (x ∷ s) = rw (eq-eqb x x refl, same_id-refl s)

same-same_id : (a b : List ℕ) → a ≡ b → same_id a b ≡ true
same-same_id a b e = ap (same_id a) (sym e) ∙ same_id-refl a

both_ways : (t u : Bool) → (t ≡ true → u ≡ true) → (u ≡ true → t ≡ true) → t ≡ u
both_ways true u f g = sym (f refl)
both_ways false true f g = g refl
both_ways false false f g = refl

bytes_same : (x y : Id) → id_words x ≡ id_words y → id_bytes x ≡ id_bytes y
unfolding id_words id_bytes
bytes_same x y e = ap (λ (l : List ℕ). bytes_of 8 (get_or l 0 0) ++ (bytes_of 8 (get_or l 1 0) ++ bytes_of 8 (get_or l 2 0))) e

-- ids that are packed have the same words where they have the same bytes
pub same-ids : (x y : Id) → Packed x → Packed y → same_id (id_words x) (id_words y) ≡ same_id (id_bytes x) (id_bytes y)
unfolding Packed
same-ids x y p q =
    both_ways (same_id (id_words x) (id_words y)) (same_id (id_bytes x) (id_bytes y))
    (λ e. same-same_id (id_bytes x) (id_bytes y) (bytes_same x y (same_id-true (id_words x) (id_words y) e)))
    (λ e. same-same_id (id_words x) (id_words y) (ap id_words (sym p ∙ ap id_of (same_id-true (id_bytes x) (id_bytes y) e) ∙ q)))

-- ---- the words of an id hold its bytes

name-low : (c : ℕ) → name_byte c ≡ true → 33 ≤ c
unfolding name_byte
name-low c e = leb-true 33 c (and_left (leb 33 c) _ e)

name-high : (c : ℕ) → name_byte c ≡ true → c ≤ 126
unfolding name_byte
name-high c e = leb-true c 126 (and_left (leb c 126) _ (and_right (leb 33 c) _ e))

names-take : (n : ℕ) (s : List ℕ) → name_bytes s ≡ true → name_bytes (take n s) ≡ true
unfolding name_bytes
names-take zero s e = refl
names-take (suc n) [] e = refl
names-take (suc n) (c ∷ s) e = rw (and_left (name_byte c) (name_bytes s) e, names-take n s (and_right (name_byte c) (name_bytes s) e))

names-drop : (n : ℕ) (s : List ℕ) → name_bytes s ≡ true → name_bytes (drop n s) ≡ true
unfolding name_bytes
names-drop zero s e = e
names-drop (suc n) [] e = refl
names-drop (suc n) (c ∷ s) e = names-drop n s (and_right (name_byte c) (name_bytes s) e)

bytes_word : (n : ℕ) (s : List ℕ) → length s ≤ n → name_bytes s ≡ true → bytes_of n (word s) ≡ s
unfolding name_bytes bytes_of word
bytes_word zero [] h a = refl
bytes_word (suc n) [] h a = refl
bytes_word zero (c ∷ s) h a = absurd (not-suc-le-zero h)
bytes_word (suc n) (c ∷ s) h a =
    let l = name-low c (and_left (name_byte c) (name_bytes s) a) in
    let u = name-high c (and_left (name_byte c) (name_bytes s) a) in
    let m : (word s * 256 + c) % 256 ≡ c = omega (arith, u) in
    let d : (word s * 256 + c) / 256 ≡ word s = omega (arith, u) in
    let z : eqb c 0 ≡ false = ne_eqb c 0 (λ e. omega (arith, l)) in
    ap (λ (k : ℕ). cond (eqb k 0) [] (k ∷ bytes_of n ((word s * 256 + c) / 256))) m
    ∙ ap (λ (k : ℕ). cond (eqb c 0) [] (c ∷ bytes_of n k)) d
    ∙ ap (λ (t : Bool). cond t [] (c ∷ bytes_of n (word s))) z
    ∙ ap (λ (r : List ℕ). c ∷ r) (bytes_word n s (omega arith) (and_right (name_byte c) (name_bytes s) a))

-- eight bytes from a position on
eight : (i : ℕ) (id : List ℕ) → name_bytes id ≡ true → bytes_of 8 (word_at id i) ≡ take 8 (drop i id)
unfolding word_at
eight i id a = bytes_word 8 (take 8 (drop i id)) (omega (arith, length-take 8 (drop i id))) (names-take 8 (drop i id) (names-drop i id a))

-- an id comes back out of its words, which are packed
pub id-bytes : (id : List ℕ) → is_id id ≡ true → id_bytes (id_of id) ≡ id
unfolding is_id id_bytes id_of
id-bytes id i =
    let few = leb-true (length id) max_id (and_left (leb (length id) max_id) (name_bytes id) (and_right (leb 1 (length id)) _ i)) in
    let a : name_bytes id ≡ true = and_right (leb (length id) max_id) (name_bytes id) (and_right (leb 1 (length id)) _ i) in
    ap (λ (r : List ℕ). r ++ (bytes_of 8 (word_at id 8) ++ bytes_of 8 (word_at id 16))) (eight 0 id a)
    ∙ ap (λ (r : List ℕ). take 8 id ++ (r ++ bytes_of 8 (word_at id 16))) (eight 8 id a)
    ∙ ap (λ (r : List ℕ). take 8 id ++ (take 8 (drop 8 id) ++ r)) (eight 16 id a ∙ take_all 8 (drop 16 id) (omega (arith, length-drop 16 id, few)))
    ∙ ap (λ (r : List ℕ). take 8 id ++ (take 8 (drop 8 id) ++ r)) (sym (drop-drop 8 8 id))
    ∙ ap (λ (r : List ℕ). take 8 id ++ r) (take-append-drop 8 (drop 8 id))
    ∙ take-append-drop 8 id

-- ---- eight bytes by number, zeros past the end

next-byte : (s : List ℕ) (j n : ℕ) → word (take (suc n) (drop j s)) ≡ word (take n (drop (suc j) s)) * 256 + byte_at s j
unfolding word byte_at
next-byte [] zero n = rw (take-nil n)
next-byte [] (suc j) n = rw (take-nil n)
next-byte (c ∷ s) zero n = refl
next-byte (c ∷ s) (suc j) n = next-byte s j n

pub bytes-from : (s : List ℕ) (i : ℕ) → word_at s i ≡
    byte_at s i + byte_at s (i + 1) * 256 + byte_at s (i + 2) * 65536 + byte_at s (i + 3) * 16777216 + byte_at s (i + 4) * 4294967296
    + byte_at s (i + 5) * 1099511627776 + byte_at s (i + 6) * 281474976710656 + byte_at s (i + 7) * 72057594037927936
unfolding word_at word
bytes-from s i =
    let step : (n k : ℕ) → word (take (suc n) (drop (i + k) s)) ≡ word (take n (drop (i + suc k) s)) * 256 + byte_at s (i + k) =
    λ n k. next-byte s (i + k) n ∙ ap (λ (j : ℕ). word (take n (drop j s)) * 256 + byte_at s (i + k)) (sym (add-suc i k)) in
    let e0 : word (take 8 (drop i s)) ≡ word (take 7 (drop (i + 1) s)) * 256 + byte_at s i = rw add-zero at (step 7 0) in
    omega (arith, e0, step 6 1, step 5 2, step 4 3, step 3 4, step 2 5, step 1 6, step 0 7)

pub id-packed : (id : List ℕ) → is_id id ≡ true → Packed (id_of id)
unfolding Packed
id-packed id i = ap id_of (id-bytes id i)

-- ---- whether a text is an id

pub no_bytes : (id : List ℕ) → length id < 1 → is_id id ≡ false
unfolding is_id
no_bytes id h = rw (lt-leb 1 (length id) h)

pub many-bytes : (id : List ℕ) → 1 ≤ length id → max_id < length id → is_id id ≡ false
unfolding is_id
many-bytes id l h = rw (le-leb 1 (length id) l, lt-leb (length id) max_id h)

pub few_bytes : (id : List ℕ) → 1 ≤ length id → length id ≤ max_id → is_id id ≡ name_bytes id
unfolding is_id
few_bytes id l h = rw (le-leb 1 (length id) l, le-leb (length id) max_id h)
