-- A text in front of a piece, its last byte first: what the sum and the length become. Assumes nothing.
use mathlib.Core.Path.{◌≡◌, sym, ap, ap₂, ◌∙◌, subst}
use mathlib.Core.List.{List, [], ◌∷◌, ◌++◌, append-nil}
use Prim.Native.Nat.{ℕ, ◌+◌, ◌*◌}
use native.Mathlib.Nat.{add_comm}
use native.Mathlib.Numerals.{add-one}
use lib.Bits.{bit_xor, xor_comm, xor_zero_r}
use lib.ListN.{length, length-append}
use Rattle.crc32_spec.specs.Crc.{bits, step, run}
use Rattle.crc32_spec.specs.Laws.{xor_assoc, bits_xor, bits_zero}
use Rattle.crc32_spec.specs.Text.{bits_byte, run_pieces, run_front}
use Rattle.decimal.specs.Tail.{remaining}
use Rattle.decimal.specs.declared.Tail.{Tail}
use Rattle.piece.specs.Piece.{SumsTo, Fed, Fronted}
use Rattle.piece.specs.declared.Piece.{Piece}

zero_xor : (b : ℕ) → bit_xor 0 b ≡ b
zero_xor b = xor_comm 0 b ∙ xor_zero_r b

one_byte : (b : ℕ) → run 0 (b ∷ []) ≡ bits 8 b
unfolding run step
one_byte b = ap (bits 8) (zero_xor b)

one_more : (n x : ℕ) → bits (8 * (n + 1)) x ≡ bits (8 * n) (bits 8 x)
one_more n x = ap (λ (k : ℕ). bits (8 * k) x) (add-one n) ∙ sym (bits_byte n x)

-- the last byte of a text in front of a piece, then the others
front-last : (l : List ℕ) (b n s : ℕ) →
    bit_xor (bits (8 * (n + 1)) (run 0 l)) (bit_xor (bits (8 * (n + 1)) b) s) ≡ bit_xor (bits (8 * n) (run 0 (l ++ (b ∷ [])))) s
front-last l b n s =
    sym (xor_assoc (bits (8 * (n + 1)) (run 0 l)) (bits (8 * (n + 1)) b) s)
    ∙ ap (λ (x : ℕ). bit_xor x s) (ap₂ bit_xor (one_more n (run 0 l)) (one_more n b) ∙ sym (bits_xor (8 * n) (bits 8 (run 0 l)) (bits 8 b)) ∙ ap (bits (8 * n)) joined)
  where
    joined : bit_xor (bits 8 (run 0 l)) (bits 8 b) ≡ run 0 (l ++ (b ∷ []))
    joined = ap (bit_xor (bits 8 (run 0 l))) (sym (one_byte b)) ∙ sym (run_pieces l (b ∷ []) 0)

-- a text in front of a piece
abbrev pub ahead : List ℕ → Piece → ℕ
ahead l p = bit_xor (bits (8 * p.length) (run 0 l)) p.sum

-- the last byte of the text becomes the first of the piece
pub ahead-byte : (l : List ℕ) {b : ℕ} {p r : Piece} → Fronted b p r → ahead l r ≡ ahead (l ++ (b ∷ [])) p
ahead-byte l {b} {p} {r} f = ap₂ (λ (n s : ℕ). bit_xor (bits (8 * n) (run 0 l)) s) f.long f.sum ∙ front-last l b p.length p.sum

pub front-none : (n s : ℕ) → bit_xor (bits (8 * n) (run 0 [])) s ≡ s
unfolding run
front-none n s = ap (λ (x : ℕ). bit_xor x s) (bits_zero (8 * n)) ∙ zero_xor s

-- ---- what the records say of whole texts

pub sums_none : (p : Piece) → p.sum ≡ 0 → p.length ≡ 0 → SumsTo [] p
unfolding run
sums_none p s l = record { sum = s; long = l }

pub sums-fed : {y : List ℕ} {t : Tail} {p r : Piece} → SumsTo y p → Fed t p r → SumsTo (remaining t ++ y) r
sums-fed {y} {t} {p} {r} h f = record {
  sum = f.sum ∙ ap₂ (λ (n s : ℕ). bit_xor (bits (8 * n) (run 0 (remaining t))) s) h.long h.sum ∙ sym (run_pieces (remaining t) y 0);
  long = f.long ∙ ap (λ (n : ℕ). n + length (remaining t)) h.long ∙ add_comm (length y) (length (remaining t)) ∙ sym (length-append (remaining t) y);
}

pub sums-fronted : {y : List ℕ} {b : ℕ} {p r : Piece} → SumsTo y p → Fronted b p r → SumsTo (b ∷ y) r
sums-fronted {y} {b} {p} {r} h f = record {
  sum = f.sum ∙ ap₂ (λ (n s : ℕ). bit_xor (bits (8 * n) b) s) (ap (λ (n : ℕ). n + 1) h.long ∙ add-one (length y)) h.sum ∙ sym (run_front b y);
  long = f.long ∙ ap (λ (n : ℕ). n + 1) h.long ∙ add-one (length y);
}

-- a text in front of nothing, and of another
pub fed-first : {l : List ℕ} {t : Tail} {p r : Piece} → remaining t ≡ l → p.sum ≡ 0 → p.length ≡ 0 → Fed t p r → SumsTo l r
fed-first {l} {t} {p} {r} e s n f = subst (λ (x : List ℕ). SumsTo x r) (append-nil (remaining t) ∙ e) (sums-fed (sums_none p s n) f)

pub fed-next : {l y : List ℕ} {t : Tail} {p r : Piece} → remaining t ≡ l → SumsTo y p → Fed t p r → SumsTo (l ++ y) r
fed-next {l} {y} {t} {p} {r} e h f = subst (λ (x : List ℕ). SumsTo (x ++ y) r) e (sums-fed h f)
