-- What a checksum catches, of books: a checksum text is one of bytes, and the checksum of a message that is taken is that of the book afterwards.
-- Assumes nothing.
use Rattle.std.specs.Prelude.{Ok, Result}
use Rattle.answer.specs.declared.Answer.{Answer}
use Prim.Native.Nat.{ℕ, zero, suc, ◌<◌}
use mathlib.Core.Path.{◌≡◌, sym, ◌∙◌, subst}
use mathlib.Core.Bool.{Bool, true, false}
use mathlib.Core.List.{List, [], ◌∷◌, ◌++◌, map}
use native.Mathlib.Omega.{arith}
use lib.Dec.{eqb}
use lib.ListN.{take}
use Rattle.text.specs.Text.{colon, joined}
use Rattle.decimal.specs.Decimal.{Number, point, after_point, text, without_point, without_zeros, stripped}
use Rattle.decimal.proofs.Digits.{Digits, none, one, digit-in, fixed-digits, written-digits}
use Rattle.crc32_spec.specs.Crc.{crc}
use Rattle.crc32_spec.specs.Text.{Bytes}
use Rattle.crc32_bursts.proofs.Claims.{bursts-caught}
use Rattle.settings.specs.declared.SumText.{SumText}
use Rattle.settings.specs.declared.SumText.TheVariants.{Stripped, Interleaved}
use Rattle.edit.specs.Edit.{PriceLevel}
use Rattle.checksum.specs.Text.{k_level, k_checksum_text, m_level, interleaved, colon_joined, m_checksum_text}
use Rattle.layout.specs.Layout.{Printed, printed}
use Rattle.message.specs.Meaning.{Message}
use Rattle.reference.specs.Reference.{Reference, rules, opened, sides_after, checksum_text, checksum_of, final}
use Rattle.reference.specs.Claims.{Agrees, carries_none, the_same, Acceptable}
use Rattle.reference.proofs.Claims.{demand-2}
use Rattle.claims.specs.Bursts.{text_after, BurstRefused}

-- ---- bytes one by one

data Low : List ℕ → Type 0 where
  low-none : Low []
  low-one : {c : ℕ} {s : List ℕ} → c < 256 → Low s → Low (c ∷ s)

low-bytes : {s : List ℕ} → Low s → Bytes s
low-bytes low-none i = omega arith
low-bytes (low-one h k) zero = h
low-bytes (low-one h k) (suc i) = low-bytes k i

low-append : {v w : List ℕ} → Low v → Low w → Low (v ++ w)
low-append low-none k = k
low-append (low-one h l) k = low-one h (low-append l k)

digits_low : {s : List ℕ} → Digits s → Low s
digits_low none = low-none
digits_low (one {c} e h) = let d = digit-in e in low-one {c = c} (omega arith) (digits_low h)

-- ---- prices, sizes and levels

text-low : (n : Number) → Low (text n)
unfolding text after_point
text-low n = low-append (digits_low (written-digits _)) (after n.decimals n.digits)
  where
    after : (k d : ℕ) → Low (after_point k d)
    after zero d = low-none
    after (suc k) d = low-one {c = point} (omega arith) (digits_low (fixed-digits (suc k) d))

point-low : {s : List ℕ} → Low s → Low (without_point s)
unfolding without_point
point-low low-none = low-none
point-low (low-one {c} {s} h k) = at (eqb c point) (point-low k)
  where
    at : (b : Bool) → Low (without_point s) → Low (elim b as (λ x. List ℕ) [ true ↦ without_point s | false ↦ c ∷ without_point s ])
    at true l = l
    at false l = low-one h l

zeros-low : {s : List ℕ} → Low s → Low (without_zeros s)
unfolding without_zeros
zeros-low low-none = low-none
zeros-low (low-one {c} {s} h k) = at (eqb c 48) (zeros-low k)
  where
    at : (b : Bool) → Low (without_zeros s) → Low (elim b as (λ x. List ℕ) [ true ↦ without_zeros s | false ↦ c ∷ s ])
    at true l = l
    at false l = low-one h k

k-level-low : (l : PriceLevel) → Low (k_level l)
unfolding k_level stripped
k-level-low l = low-append (zeros-low (point-low (text-low l.price))) (zeros-low (point-low (text-low l.size)))

m-level-low : (l : PriceLevel) → Low (m_level l)
unfolding m_level
m-level-low l = low-append (text-low l.price) (low-one {c = colon} (omega arith) (text-low l.size))

-- ---- a book

joined-low : (ls : List PriceLevel) → Low (joined (map k_level ls))
unfolding joined
joined-low [] = low-none
joined-low (l ∷ ls) = low-append (k-level-low l) (joined-low ls)

colons-low : (ls : List PriceLevel) → Low (colon_joined (map m_level ls))
unfolding colon_joined
colons-low [] = low-none
colons-low (l ∷ []) = m-level-low l
colons-low (l ∷ (k ∷ ls)) = low-append (m-level-low l) (low-one {c = colon} (omega arith) (colons-low (k ∷ ls)))

book-low : (t : SumText) (n : ℕ) (bids asks : List PriceLevel) → Low (checksum_text t n bids asks)
unfolding checksum_text k_checksum_text m_checksum_text
book-low Stripped n bids asks = joined-low (take n asks ++ take n bids)
book-low Interleaved n bids asks = colons-low (interleaved n bids asks)

-- ---- the claim

same-printed : {m n : ℕ} → printed m ≡ printed n → m ≡ n
same-printed e = cc

same-message : {x y : Message} → ◌≡◌ {A = Result Message Answer} (Ok x) (Ok y) → x ≡ y
same-message e = cc

pub burst-refused : BurstRefused
unfolding checksum_of
burst-refused t cs s text m i q c b o n h =
    let p : Reference = final (opened t) cs in
    let d = (demand-2 p s).only_when h in
    let same : d.0 ≡ m = same-message (sym d.1 ∙ q) in
    let a : Acceptable p m = subst (Acceptable p) same d.2 in
    bursts-caught text (text_after p m) i b (low-bytes (book-low (rules p).text (rules p).summed (sides_after p m).bids (sides_after p m).asks)) o n
    (agreed c a.checksum)
  where
    agreed : {x : Printed} {k : ℕ} → x ≡ printed (crc text) → Agrees x k → crc text ≡ k
    agreed e (carries_none z) = let w : ◌≡◌ {A = ℕ} 0 1 = cc in absurd (omega arith)
    agreed e (the_same z) = same-printed (sym e ∙ z)
