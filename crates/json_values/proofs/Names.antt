-- The laws of what strings mean.
-- Assumes nothing.
use Rattle.std.specs.Prelude.{None, Some, min}
use native.Mathlib.Decide.{dec_lt}
use mathlib.Core.Path.{◌≡◌, refl, sym, ap, ap₂, ◌∙◌}
use mathlib.Core.List.{List, [], ◌∷◌}
use mathlib.Core.Bool.{Bool, true, false, ◌&&◌, ◌||◌, not, cond, true≢false, and-eq-true_iff}
use Prim.Native.Nat.{ℕ, zero, suc, ◌+◌, ◌-◌, ◌≤◌, ◌<◌}
use native.Mathlib.Omega.{arith}
use native.Mathlib.Numerals.{add-one}
use lib.ListN.{length, take, drop, get_or, drop_of_length-le, length-take, length-drop}
use lib.Seq.{take_all, drop-nil, drop-cons, drop-drop, get_or-drop}
use lib.Dec.{leb, eqb}
use borrow.Author.Tests.{eq-eqb, ne_eqb, eqb-true, leb-true, le-leb, lt-leb}
use Rattle.text.specs.Text.{byte_at, is_digit}
use Rattle.json_tokens.proofs.Laws.{here}
use Rattle.json_values.specs.Json.{Span}
use Rattle.json_values.specs.Names.{short_meaning, hex_value, long_meaning, escape_meaning, escape_length, meaning, inner, same, means}
use Rattle.json_values.specs.Escapes.{PastEscape, Spelled, begins_otherwise}
use Rattle.json_values.specs.Claims.{holds, PlainText}

-- a part from a place to the end
pub part-all : (t : List ℕ) (n : ℕ) → take (length t - n) (drop n t) ≡ drop n t
part-all t n = let l = length-drop n t in take_all (length t - n) (drop n t) (omega arith)

-- ---- escapes

module _ (c : ℕ) where
  pub digit_low : is_digit c ≡ true → 48 ≤ c
  unfolding is_digit
  digit_low h = leb-true 48 c ((and-eq-true_iff (leb 48 c) (leb c 57)).0 h).0

  pub hex-digit : is_digit c ≡ true → hex_value c ≡ c - 48
  unfolding hex_value
  hex-digit h = rw h

  pub hex-small : is_digit c ≡ false → 97 ≤ c → hex_value c ≡ c - 87
  unfolding hex_value
  hex-small h l = rw (h, le-leb 97 c l)

  pub hex-capital : is_digit c ≡ false → c < 97 → hex_value c ≡ c - 55
  unfolding hex_value
  hex-capital h l = rw (h, lt-leb 97 c l)

pub escape-long : (t : List ℕ) → byte_at t 0 ≡ 117 → escape_meaning t ≡ long_meaning t
unfolding escape_meaning
escape-long t h = rw (eq-eqb (byte_at t 0) 117 h)

pub escape-short : (t : List ℕ) → (byte_at t 0 ≡ 117 → ⊥) → escape_meaning t ≡ short_meaning (byte_at t 0)
unfolding escape_meaning
escape-short t h = rw (ne_eqb (byte_at t 0) 117 h)

-- ---- what bytes mean

pub meaning-skip : (k : ℕ) (t : List ℕ) → meaning k t ≡ meaning 0 (drop k t)
unfolding meaning
meaning-skip k [] = sym (ap (meaning 0) (drop-nil k))
meaning-skip zero (c ∷ t) = refl
meaning-skip (suc k) (c ∷ t) = meaning-skip k t

-- what follows the escape whose backslash stands at i; n is its length from there on
module _ (t : List ℕ) (i n : ℕ) (is : n ≡ cond (eqb (byte_at t (i + 1)) 117) 5 1) where
  length-is : escape_length (drop (i + 1) t) ≡ n
  unfolding escape_length byte_at
  length-is = ap (λ (x : ℕ). cond (eqb x 117) 5 1) (get_or-drop (i + 1) t 0 0 ∙ ap (λ (k : ℕ). get_or t k 0) (omega arith)) ∙ sym is

  past-rest : meaning (escape_length (drop (i + 1) t)) (drop (i + 1) t) ≡ meaning 0 (drop (i + 1 + n) t)
  past-rest = ap (λ (k : ℕ). meaning k (drop (i + 1) t)) length-is ∙ meaning-skip n (drop (i + 1) t) ∙ ap (meaning 0) (drop-drop n (i + 1) t)

  past-cut : length t - i ≤ n → i < length t → PastEscape t i (length t)
  past-cut h l =
      record {
        later = l;
        rest = past-rest ∙ ap (meaning 0) (drop_of_length-le t {i = i + 1 + n} (omega arith) ∙ sym (drop_of_length-le t {i = length t} (omega arith)));
      }

  past-whole : PastEscape t i (i + 1 + n)
  past-whole = record { later = omega arith; rest = past-rest }

  -- where the text ends, if it ends within the escape
  pub past_least : i < length t → PastEscape t i (i + 1 + min n (length t - i - 1))
  past_least l =
      elim (dec_lt (length t - i - 1) n) [
        | yes h ↦ let z : i + 1 + min n (length t - i - 1) ≡ length t = omega arith in rw z (past-cut (omega arith) l)
        | no h ↦ let z : min n (length t - i - 1) ≡ n = omega arith in rw z past-whole
      ]

-- it is no longer than they are
pub meaning-length : (k : ℕ) (t : List ℕ) → length (meaning k t) ≤ length t
unfolding meaning
meaning-length k [] = omega arith
meaning-length (suc k) (c ∷ t) = let h = meaning-length k t in omega arith
meaning-length zero (c ∷ t) = go (eqb c 92) (λ k. meaning-length k t)
  where
    go : (b : Bool) → ((k : ℕ) → length (meaning k t) ≤ length t) → length (cond b (escape_meaning t ∷ meaning (escape_length t) t) (c ∷ meaning zero t)) ≤ suc (length t)
    go true h = let l = h (escape_length t) in omega arith
    go false h = let l = h zero in omega arith

-- one character at a time
module _ (t : List ℕ) (i : ℕ) where
  pub meaning-end : length t ≤ i → meaning 0 (drop i t) ≡ []
  unfolding meaning
  meaning-end h = ap (meaning 0) (drop_of_length-le t h)

  module _ (h : i < length t) where
    pub meaning-plain : (byte_at t i ≡ 92 → ⊥) → meaning 0 (drop i t) ≡ byte_at t i ∷ meaning 0 (drop (i + 1) t)
    unfolding meaning
    meaning-plain n = rw (here t i h, meaning, ne_eqb (byte_at t i) 92 n)

    pub meaning-escape : byte_at t i ≡ 92 → meaning 0 (drop i t) ≡ escape_meaning (drop (i + 1) t) ∷ meaning (escape_length (drop (i + 1) t)) (drop (i + 1) t)
    unfolding meaning
    meaning-escape e = rw (here t i h, meaning, eq-eqb (byte_at t i) 92 e)

pub plain-text : PlainText
unfolding meaning holds
plain-text [] h = refl
plain-text (c ∷ t) h = go (eqb c 92) h (plain-text t)
  where
    go : (b : Bool) → (b || holds 92 t) ≡ false → (holds 92 t ≡ false → meaning 0 t ≡ t) → cond b (escape_meaning t ∷ meaning (escape_length t) t) (c ∷ meaning zero t) ≡ c ∷ t
    go true h later = absurd (true≢false h)
    go false h later = ap (λ (l : List ℕ). c ∷ l) (later h)

-- ---- two texts are one

pub same-is : (m n : List ℕ) → same m n ≡ true → m ≡ n
same-is [] [] h = refl
same-is [] (d ∷ n) h = absurd (true≢false (sym h))
same-is (c ∷ m) [] h = absurd (true≢false (sym h))
same-is (c ∷ m) (d ∷ n) h =
    let p = (and-eq-true_iff (eqb c d) (same m n)).0 h in
    ap₂ (λ (x : ℕ) (l : List ℕ). x ∷ l) (eqb-true c d p.0) (same-is m n p.1)

pub same_self : (t : List ℕ) → same t t ≡ true
same_self [] = refl
same_self (c ∷ t) = rw (eq-eqb c c refl, same_self t)

pub same-longer : (m n : List ℕ) → length m < length n → same m n ≡ false
same-longer [] [] h = absurd (omega arith)
same-longer [] (d ∷ n) h = refl
same-longer (c ∷ m) [] h = absurd (omega arith)
same-longer (c ∷ m) (d ∷ n) h = ap (λ (b : Bool). eqb c d && b) (same-longer m n (omega arith)) ∙ no (eqb c d)
  where
    no : (b : Bool) → (b && false) ≡ false
    no true = refl
    no false = refl

-- a character and what follows it
module _ (c b : ℕ) (m n : List ℕ) where
  pub same-on : c ≡ b → same (c ∷ m) (b ∷ n) ≡ same m n
  same-on e = rw (eq-eqb c b e)

  pub same-off : (c ≡ b → ⊥) → same (c ∷ m) (b ∷ n) ≡ false
  same-off h = rw (ne_eqb c b h)

-- the character at i, and a name that begins with b
module _ (t : List ℕ) (i b : ℕ) (l : i < length t) where
  module _ (e : byte_at t i ≡ 92) where
    pub spelled-escape : escape_meaning (drop (i + 1) t) ≡ b → (r : ℕ) → PastEscape t i r → Spelled t i b (Some r)
    spelled-escape h r p = (
      p.later,
      λ m. ap (λ (x : List ℕ). same x (b ∷ m)) (meaning-escape t i l e) ∙ same-on (escape_meaning (drop (i + 1) t)) b (meaning (escape_length (drop (i + 1) t)) (drop (i + 1) t)) m h ∙ ap (λ (x : List ℕ). same x m) p.rest,
    )

    pub other-escape : (escape_meaning (drop (i + 1) t) ≡ b → ⊥) → Spelled t i b None
    other-escape h = λ m. ap (λ (x : List ℕ). same x (b ∷ m)) (meaning-escape t i l e) ∙ same-off (escape_meaning (drop (i + 1) t)) b (meaning (escape_length (drop (i + 1) t)) (drop (i + 1) t)) m h

  module _ (n : byte_at t i ≡ 92 → ⊥) where
    pub spelled-plain : byte_at t i ≡ b → Spelled t i b (Some (i + 1))
    spelled-plain h = (omega arith, λ m. ap (λ (x : List ℕ). same x (b ∷ m)) (meaning-plain t i l n) ∙ same-on (byte_at t i) b (meaning 0 (drop (i + 1) t)) m h)

    pub other-plain : (byte_at t i ≡ b → ⊥) → Spelled t i b None
    other-plain h = λ m. ap (λ (x : List ℕ). same x (b ∷ m)) (meaning-plain t i l n) ∙ same-off (byte_at t i) b (meaning 0 (drop (i + 1) t)) m h

-- what is left of a name, from place k on
pub name-left : (name : List ℕ) (k : ℕ) → k < length name → drop k name ≡ get_or name k 0 ∷ drop (k + 1) name
name-left name k h = rw (add-one, drop-cons name k 0)

pub same_end : (name : List ℕ) (k : ℕ) → k ≤ length name → same [] (drop k name) ≡ eqb k (length name)
same_end [] k h = rw drop-nil (sym (eq-eqb k 0 (omega arith)))
same_end (d ∷ name) zero h = sym (ne_eqb 0 (suc (length name)) (λ e. omega arith))
same_end (d ∷ name) (suc k) h = same_end name k (omega arith) ∙ by_one (eqb k (length name)) refl
  where
    by_one : (b : Bool) → eqb k (length name) ≡ b → eqb k (length name) ≡ eqb (suc k) (suc (length name))
    by_one true p = p ∙ sym (eq-eqb (suc k) (suc (length name)) (ap suc (eqb-true k (length name) p)))
    by_one false p = p ∙ sym (ne_eqb (suc k) (suc (length name)) (λ e. true≢false (sym (eq-eqb k (length name) (omega arith)) ∙ p)))

-- the byte at k is none of the name's
pub same_stop : (t name : List ℕ) (k : ℕ) → k < length t → k < length name → (byte_at t k ≡ 92 → ⊥) → (byte_at t k ≡ get_or name k 0 → ⊥)
    → same (meaning 0 (drop k t)) (drop k name) ≡ false
same_stop t name k l h n d = ap₂ same (meaning-plain t k l n) (name-left name k h) ∙ same-off (byte_at t k) (get_or name k 0) (meaning 0 (drop (k + 1) t)) (drop (k + 1) name) d

-- .. or it is, and what is left is compared
pub same_step : (t name : List ℕ) (k : ℕ) → k < length t → k < length name → (byte_at t k ≡ 92 → ⊥) → byte_at t k ≡ get_or name k 0
    → same (meaning 0 (drop k t)) (drop k name) ≡ same (meaning 0 (drop (k + 1) t)) (drop (k + 1) name)
same_step t name k l h n e = ap₂ same (meaning-plain t k l n) (name-left name k h) ∙ same-on (byte_at t k) (get_or name k 0) (meaning 0 (drop (k + 1) t)) (drop (k + 1) name) e

pub same_over : (t name : List ℕ) (i k : ℕ) → i < length t → length name ≤ k → same (meaning 0 (drop i t)) (drop k name) ≡ false
same_over t name i k l h = rw (drop_of_length-le name h) (at (eqb (byte_at t i) 92) refl)
  where
    at : (b : Bool) → eqb (byte_at t i) 92 ≡ b → same (meaning 0 (drop i t)) [] ≡ false
    at true p = rw (meaning-escape t i l (eqb-true (byte_at t i) 92 p))
    at false p = rw (meaning-plain t i l (λ e. true≢false (sym (eq-eqb (byte_at t i) 92 e) ∙ p)))

-- a string that begins with another byte, and no escape
other-first : (t : List ℕ) (n : ℕ) (name : List ℕ) → (length name ≡ 0 → ⊥) → (byte_at t 0 ≡ get_or name 0 0 → ⊥) → (byte_at t 0 ≡ 92 → ⊥) → same (meaning 0 (take n t)) name ≡ false
unfolding meaning byte_at
other-first t n [] h d b = absurd (h refl)
other-first t zero (d ∷ name) h o b = refl
other-first [] (suc n) (d ∷ name) h o b = refl
other-first (c ∷ t) (suc n) (d ∷ name) h o b = rw (ne_eqb c 92 b, ne_eqb c d o)

-- what is not so is not so
refuted : (b : Bool) → not b ≡ true → b ≡ true → ⊥
refuted true h e = true≢false (sym h)
refuted false h e = true≢false (sym e)

-- ---- names

module _ (s : List ℕ) (from to : ℕ) (name : List ℕ) where
  pub means-no-quote : (byte_at s from ≡ 34 → ⊥) → means s (record { from = from; to = to }) name ≡ false
  unfolding means
  means-no-quote n = rw (ne_eqb (byte_at s from) 34 n)

  module _ (q : byte_at s from ≡ 34) where
    pub means-between : same (meaning 0 (take (to - 1 - (from + 1)) (drop (from + 1) s))) name ≡ means s (record { from = from; to = to }) name
    unfolding means inner
    means-between = let e : to - from - 2 ≡ to - 1 - (from + 1) = omega arith in rw (eq-eqb (byte_at s from) 34 q, e)

    pub means-otherwise : begins_otherwise (byte_at s (from + 1)) name ≡ true → means s (record { from = from; to = to }) name ≡ false
    unfolding begins_otherwise byte_at
    means-otherwise h =
        let c = byte_at s (from + 1) in
        let p = (and-eq-true_iff (not (eqb (length name) 0)) (not (eqb c (get_or name 0 0)) && not (eqb c 92))).0 h in
        let q = (and-eq-true_iff (not (eqb c (get_or name 0 0))) (not (eqb c 92))).0 p.1 in
        let e : byte_at (drop (from + 1) s) 0 ≡ c = get_or-drop (from + 1) s 0 0 ∙ ap (λ (k : ℕ). get_or s k 0) (omega arith) in
        sym means-between
        ∙ other-first (drop (from + 1) s) (to - 1 - (from + 1)) name
        (λ z. refuted (eqb (length name) 0) p.0 (eq-eqb (length name) 0 z))
        (λ z. refuted (eqb c (get_or name 0 0)) q.0 (eq-eqb c (get_or name 0 0) (sym e ∙ z)))
        (λ z. refuted (eqb c 92) q.1 (eq-eqb c 92 (sym e ∙ z)))

-- what stands between the quotes of a string that ends at `to`, from past the first on
module _ (s : List ℕ) (first to : ℕ) (name : List ℕ) where
  -- nothing
  pub between-empty : to ≤ first → eqb (length name) 0 ≡ same (meaning 0 (take (to - 1 - first) (drop first s))) name
  unfolding meaning
  between-empty h = let z : to - 1 - first ≡ 0 = omega arith in sym (rw z (none name))
    where
      none : (n : List ℕ) → same [] n ≡ eqb (length n) 0
      none [] = refl
      none (d ∷ n) = sym (ne_eqb (suc (length n)) 0 (λ e. omega arith))

  -- too little
  pub between-short : to - 1 - first < length name → false ≡ same (meaning 0 (take (to - 1 - first) (drop first s))) name
  between-short h =
      let t = take (to - 1 - first) (drop first s) in
      let a = meaning-length 0 t in
      let b = length-take (to - 1 - first) (drop first s) in
      sym (same-longer (meaning 0 t) name (omega arith))

  -- no more than the text has
  pub between-cut : same (meaning 0 (take (min (to - 1) (length s) - first) (drop first s))) name ≡ same (meaning 0 (take (to - 1 - first) (drop first s))) name
  between-cut =
      let b = length-drop first s in
      elim (dec_lt (length s) (to - 1)) [
        | yes h ↦
            let p = take_all (to - 1 - first) (drop first s) (omega arith) in
            let q = take_all (min (to - 1) (length s) - first) (drop first s) (omega arith) in
            ap (λ (x : List ℕ). same (meaning 0 x) name) (q ∙ sym p)
        | no h ↦ let z : min (to - 1) (length s) ≡ to - 1 = omega arith in ap (λ (k : ℕ). same (meaning 0 (take (k - first) (drop first s))) name) z
      ]

-- a string means one name at the most
pub means-meaning : (s : List ℕ) (a : Span) (name : List ℕ) → means s a name ≡ true → meaning 0 (inner s a) ≡ name
unfolding means
means-meaning s a name h = same-is (meaning 0 (inner s a)) name ((and-eq-true_iff (eqb (byte_at s a.from) 34) (same (meaning 0 (inner s a)) name)).0 h).1
