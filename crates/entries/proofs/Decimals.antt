-- A decimal in quotes, read in one go: digits and a point stand for themselves in a string, so that it ends past the quote that follows them. Then an
-- entry that begins with two such strings.
-- Assumes nothing.
use Rattle.std.specs.Prelude.{None, Option, Some}
use Prim.Native.Nat.{ℕ, ◌+◌, ◌-◌, ◌≤◌, ◌<◌}
use mathlib.Core.Path.{◌≡◌, refl, sym, ap, ap₂, ◌∙◌}
use mathlib.Core.Bool.{Bool, true, false, ◌&&◌, ◌||◌, cond, and-eq-true_iff}
use mathlib.Core.List.{List, ◌∷◌, ◌++◌, append_assoc}
use native.Mathlib.Omega.{arith}
use borrow.Author.Tests.{eqb-false, eqb-true, ne_eqb, le-ltb, leb-true}
use lib.Dec.{eqb, leb}
use lib.ListN.{length, get_or, take, drop, length-append, length-drop, take-append-drop}
use lib.Seq.{drop-drop, length-take-le}
use Rattle.text.specs.Text.{is_digit, byte_at}
use Rattle.decimal.specs.Digits.{leading}
use Rattle.decimal.specs.Decimal.{Number, number, Prefix, prefixed, is_whole, fractional, prefix, read, max_whole, max_decimals}
use Rattle.decimal.specs.declared.Decimal.{Decimal}
use Rattle.decimal.proofs.Digits.{Digits, none, one, digit-in}
use Rattle.decimal.proofs.Scan.{prefix-refused, prefix-pointed, pointed-plain, pointed-fraction, read_all}
use Rattle.decimal.proofs.RoundTrip.{Shape, plain, with-point, read-shape, prefix-stop}
use Rattle.json_tokens.specs.Tokens.{blanks, chars, separator, string_rest, string}
use Rattle.json_tokens.proofs.Laws.{here, in-byte, string-yes}
use Rattle.json_values.specs.Names.{inner}
use Rattle.entries.specs.Rows.{is_bad_price, is_bad_size, bad_price, bad_size, is_bad, number_in, number_at}
use Rattle.entries.specs.Found.{entry_place_of, price_span, size_span, row_from, entry_place_at}
use Rattle.entries.specs.Front.{EntryEnd}
use Rattle.entries.specs.Decimals.{QuotedAt, TwoDecimals}
use Rattle.entries.specs.declared.Form.{Form}
use Rattle.entries.specs.declared.EntryPlace.{EntryPlace}
use Rattle.entries.specs.declared.Amounts.{Amounts}
use Rattle.entries.specs.declared.QuotedDecimal.{QuotedDecimal}
use Rattle.entries.proofs.Strings.{no_row, same_row}

-- ---- a decimal takes a byte at least

module _ (p : Prefix) where
  sized : (digits : List ℕ) (decimals size : ℕ) → prefixed digits decimals size ≡ Some p → 0 < size → 0 < p.size
  sized digits decimals size h n = let e : p.size ≡ size = ap (λ (x : Prefix). x.size) (same_row h) in omega arith

  fraction-some : (w f : List ℕ) → 0 < length w → fractional w f ≡ Some p → 0 < p.size
  unfolding fractional
  fraction-some w f n h = go (leb 1 (length f) && leb (length f) max_decimals) h
    where
      go : (b : Bool) → cond b (prefixed (w ++ f) (length f) (length w + 1 + length f)) None ≡ Some p → 0 < p.size
      go true g = sized (w ++ f) (length f) (length w + 1 + length f) g (omega arith)
      go false g = no_row g

  prefix-some : (t : List ℕ) → prefix t ≡ Some p → 0 < p.size
  unfolding is_whole
  prefix-some t h = whole (is_whole max_whole (leading t)) refl
    where
      w : List ℕ
      w = leading t

      rest : List ℕ
      rest = drop (length w) t

      pointed-some : is_whole max_whole w ≡ true → 0 < length w → (b : Bool) → eqb (get_or rest 0 0) 46 ≡ b → 0 < p.size
      pointed-some g n true e = fraction-some w (leading (drop 1 rest)) n (sym (prefix-pointed t g ∙ pointed-fraction w rest (eqb-true _ _ e)) ∙ h)
      pointed-some g n false e = sized w 0 (length w) (sym (prefix-pointed t g ∙ pointed-plain w rest (eqb-false _ _ e)) ∙ h) n

      whole : (b : Bool) → is_whole max_whole w ≡ b → 0 < p.size
      whole true g = pointed-some g (leb-true 1 (length w) ((and-eq-true_iff (leb 1 (length w)) _).0 g).0) (eqb (get_or rest 0 0) 46) refl
      whole false g = no_row (sym (prefix-refused t g) ∙ h)

-- ---- digits and a point in a string

chars-itself : (c : ℕ) (t : List ℕ) (i : ℕ) → 46 ≤ c → c ≤ 57 → chars (c ∷ t) i ≡ chars t (i + 1)
unfolding chars
chars-itself c t i low high = rw (ne_eqb c 34 (λ z. omega arith), ne_eqb c 92 (λ z. omega arith), le-ltb c 32 (omega arith), chars)

chars-digits : {w : List ℕ} → Digits w → (t : List ℕ) (i : ℕ) → chars (w ++ t) i ≡ chars t (i + length w)
chars-digits none t i = ap (chars t) (omega arith)
chars-digits (one {c} {s} e d) t i =
    let k = digit-in e in
    chars-itself c (s ++ t) i (omega arith) (omega arith) ∙ chars-digits d t (i + 1) ∙ ap (chars t) (omega arith)

chars-decimal : {w : List ℕ} {n : Number} → Shape w n → (t : List ℕ) (i : ℕ) → chars (w ++ t) i ≡ chars t (i + length w)
chars-decimal (plain w d g) t i = chars-digits d t i
chars-decimal (with-point w f d g e some few) t i =
    let l : length (w ++ (46 ∷ f)) ≡ length w + (1 + length f) = length-append w (46 ∷ f) ∙ omega arith in
    ap (λ (x : List ℕ). chars x i) (append_assoc w (46 ∷ f) t)
    ∙ chars-digits d (46 ∷ (f ++ t)) i
    ∙ chars-itself 46 (f ++ t) (i + length w) (omega arith) (omega arith)
    ∙ chars-digits e t (i + length w + 1)
    ∙ ap (chars t) (omega arith)

-- ---- a decimal between two quotes of the text, the second at e

module _ (s : List ℕ) (at e : ℕ) (d : Decimal) (h : Some (record { number = number d; size = e - (at + 1) }) ≡ prefix (drop (at + 1) s)) (opens : byte_at s at ≡ 34)
    (closes : byte_at s e ≡ 34) where
  between : List ℕ
  between = take (e - (at + 1)) (drop (at + 1) s)

  past : at + 1 < e
  past = let n = prefix-some (record { number = number d; size = e - (at + 1) }) (drop (at + 1) s) (sym h) in omega arith

  inside : e < length s
  inside = in-byte s e 34 (omega arith) closes

  split : drop (at + 1) s ≡ between ++ (34 ∷ drop (e + 1) s)
  unfolding between
  split =
      let p = past in
      let n : at + 1 + (e - (at + 1)) ≡ e = omega arith in
      sym (take-append-drop (e - (at + 1)) (drop (at + 1) s))
      ∙ ap (λ (t : List ℕ). between ++ t)
      (drop-drop (e - (at + 1)) (at + 1) s ∙ ap (λ (k : ℕ). drop k s) n ∙ here s e inside ∙ ap (λ (b : ℕ). b ∷ drop (e + 1) s) closes)

  long : length between ≡ e - (at + 1)
  unfolding between
  long = let n = length-drop (at + 1) s in let i = inside in length-take-le (e - (at + 1)) (drop (at + 1) s) (omega arith)

  between-reads : read between ≡ Some (number d)
  unfolding is_digit
  between-reads =
      read_all between (record { number = number d; size = e - (at + 1) })
      (sym (prefix-stop between 34 (drop (e + 1) s) refl (λ z. omega arith)) ∙ ap prefix (sym split) ∙ sym h) (sym long)

  ends : string s at ≡ Some (e + 1)
  unfolding string_rest chars
  ends =
      let l = long in
      let p = past in
      string-yes s at opens
      ∙ ap (λ (t : List ℕ). chars t (at + 1)) split
      ∙ chars-decimal (read-shape between (number d) between-reads) (34 ∷ drop (e + 1) s) (at + 1)
      ∙ ap Some (omega arith)

  inner-is : inner s (record { from = at; to = e + 1 }) ≡ between
  unfolding inner between
  inner-is = let n : e + 1 - at - 2 ≡ e - (at + 1) = omega arith in ap (λ (k : ℕ). take k (drop (at + 1) s)) n

module _ (s : List ℕ) (at e : ℕ) (d : Decimal) (h : Some (record { number = number d; size = e - (at + 1) }) ≡ prefix (drop (at + 1) s)) (opens : byte_at s at ≡ 34)
    (closes : byte_at s e ≡ 34) where
  pub decimal-quoted : QuotedAt s at (record { decimal = d; end = e + 1 })
  decimal-quoted = record { ends = ends s at e d h opens closes; text = ap read (inner-is s at e d h opens closes) ∙ between-reads s at e d h opens closes }

-- ---- two of them at the front of an array, from k on, with a comma between

module _ (s : List ℕ) (at : ℕ) (opens : byte_at s at ≡ 91) (k : ℕ) (begins : k ≡ blanks s (at + 1)) (p : QuotedDecimal) (first : QuotedAt s k p) (j : ℕ)
    (comma : separator 44 s p.end ≡ Some j) (z : QuotedDecimal) (second : QuotedAt s j z) where
  pub two-decimals : TwoDecimals s at (record { price = p.decimal; size = z.decimal; end = z.end })
  two-decimals =
      record {
        found = record { end = z.end; well_formed = true; price_from = k; price_to = p.end; size_from = j; size_to = z.end };
        two = record { opens = opens; begins = begins; price = first.ends; comma = comma; size = second.ends; ends = refl };
        ends = refl;
        price = first.text;
        size = second.text;
      }

-- ---- the entry that they begin, which ends at e

module _ (form : Form) (depth : ℕ) (s : List ℕ) (at : ℕ) (a : Amounts) (d : TwoDecimals s at a) (end : Option ℕ) (fits : EntryEnd form depth s a.end end)
    (e : ℕ) (is : end ≡ Some e) where
  abbrev found : EntryPlace
  found = entry_place_at form depth s at

  found-is : found ≡ entry_place_of e (Some (row_from at d.found))
  found-is = fits.some e is at d.found d.two d.ends

  pub decimals-formed : found.well_formed ≡ true
  unfolding entry_place_of
  decimals-formed = ap (λ (x : EntryPlace). x.well_formed) found-is

  pub decimals-end : found.end ≡ e
  unfolding entry_place_of
  decimals-end = ap (λ (x : EntryPlace). x.end) found-is

  pub price-reads : read (inner s (price_span found)) ≡ Some (number a.price)
  unfolding entry_place_of
  price-reads = ap (λ (x : EntryPlace). read (inner s (price_span x))) found-is ∙ d.price

  pub size-reads : read (inner s (size_span found)) ≡ Some (number a.size)
  unfolding entry_place_of
  size-reads = ap (λ (x : EntryPlace). read (inner s (size_span x))) found-is ∙ d.size

-- ---- the numbers of two texts, and whether check 8 refuses them, by what is read of them

module _ (s : List ℕ) (at : ℕ) (f : EntryPlace) (p z : Option Number) (price : p ≡ read (inner s (price_span f))) (size : z ≡ read (inner s (size_span f))) where
  pub bad-by : (snapshot : Bool) → (is_bad_price p || is_bad_size snapshot z) ≡ is_bad snapshot s (row_from at f)
  unfolding is_bad bad_price bad_size
  bad-by snapshot = ap₂ (λ (m n : Option Number). is_bad_price m || is_bad_size snapshot n) price size

  pub price-by : number_in p ≡ number_at s (price_span f)
  unfolding number_at
  price-by = ap number_in price

  pub size-by : number_in z ≡ number_at s (size_span f)
  unfolding number_at
  size-by = ap number_in size
