-- The price and the size of an entry are strings: each begins with a quote, has room for two, and lies within the text.
-- Assumes nothing.
use Rattle.std.specs.Prelude.{None, Option, Some, ℕ}
use mathlib.Core.Path.{◌≡◌, refl, sym, ap, ◌∙◌}
use mathlib.Core.List.{List, [], ◌∷◌}
use mathlib.Core.Bool.{Bool, true, false, ◌&&◌, cond, and-eq-true_iff}
use Prim.Native.Nat.{ℕ, zero, suc, ◌+◌, ◌≤◌}
use native.Mathlib.Omega.{arith}
use lib.ListN.{length, drop}
use lib.Dec.{eqb, ltb}
use borrow.Author.Tests.{eqb-true}
use Rattle.text.specs.Text.{byte_at}
use Rattle.json_tokens.specs.Bytes.{hex_digit, escaped}
use Rattle.json_tokens.specs.Tokens.{chars, escape, hexes, string_rest, string}
use Rattle.json_tokens.proofs.Laws.{string-yes}
use Rattle.json_tokens.proofs.Bounds.{In, within, none, bounds, in-when, in-sub, string-in}
use Rattle.json_values.specs.Json.{Span, Items, items, no_items, elements, value}
use Rattle.json_values.specs.Claims.{InOrder, then, IsElement}
use Rattle.json_values.proofs.Laws.{value-string}
use Rattle.json_values.proofs.Claims.{elements-in-order}
use Rattle.entries.specs.Places.{and_then, is_string, contents, array_at}
use Rattle.entries.specs.Rows.{Row, row_k, row_m, row_of, entry_of}
use Rattle.entries.specs.declared.Form.{Form}
use Rattle.entries.specs.declared.Form.TheVariants.{Triple, Pair}
use Rattle.entries.proofs.Stops.{broken-at, string-byte}

-- ---- a string has two quotes: past the first, it ends past where it begins
step : (t : List ℕ) (i : ℕ) {x : Option ℕ} → In (i + 1 + 1) (i + 1 + length t) x → In (i + 1) (i + suc (length t)) x
step t i p = in-sub (omega arith) (omega arith) p

mutual
  unfolding chars

  chars-in : (t : List ℕ) (i : ℕ) → In (i + 1) (i + length t) (chars t i)
  chars-in [] i = none
  chars-in (c ∷ t) i =
      in-when (eqb c 34) (λ h. within (i + 1) (omega arith) (omega arith))
      (in-when (eqb c 92) (λ h. step t i (escape-in t (i + 1)))
      (in-when (ltb c 32) (λ h. none) (step t i (chars-in t (i + 1)))))

  escape-in : (t : List ℕ) (i : ℕ) → In (i + 1) (i + length t) (escape t i)
  escape-in [] i = none
  escape-in (c ∷ t) i =
      in-when (eqb c 117) (λ h. step t i (hexes-in t 3 (i + 1)))
      (in-when (escaped c) (λ h. step t i (chars-in t (i + 1))) none)

  hexes-in : (t : List ℕ) (n i : ℕ) → In (i + 1) (i + length t) (hexes t n i)
  hexes-in [] n i = none
  hexes-in (c ∷ t) zero i = in-when (hex_digit c) (λ h. step t i (chars-in t (i + 1))) none
  hexes-in (c ∷ t) (suc m) i = in-when (hex_digit c) (λ h. step t i (hexes-in t m (i + 1))) none

-- a string that ends past the next byte has its second quote there
pub chars-close : (c : ℕ) (t : List ℕ) (i : ℕ) → chars (c ∷ t) i ≡ Some (i + 1) → c ≡ 34
unfolding chars
chars-close c t i h = go (eqb c 34) refl (eqb c 92) (ltb c 32) h
  where
    go : (b : Bool) → eqb c 34 ≡ b → (d f : Bool)
        → elim b [ true ↦ Some (i + 1) | false ↦ elim d [ true ↦ escape t (i + 1) | false ↦ elim f [ true ↦ None | false ↦ chars t (i + 1) ] ] ] ≡ Some (i + 1) → c ≡ 34
    go true q d f g = eqb-true _ _ q
    go false q true f g = let b = bounds (i + 1) (escape-in t (i + 1)) g in absurd (omega arith)
    go false q false true g = broken-at refl g
    go false q false false g = let b = bounds (i + 1) (chars-in t (i + 1)) g in absurd (omega arith)

pub string-two : (s : List ℕ) (i e : ℕ) → string s i ≡ Some e → (i + 2 ≤ e) × (e ≤ length s)
unfolding string_rest
string-two s i e h =
    let b = bounds e (chars-in (drop (i + 1) s) (i + 1)) (sym (string-yes s i (string-byte s i e h)) ∙ h) in
    let c = bounds e (string-in s i) h in
    (omega arith, c.1)

-- ---- a string that lies in the text
pub record StringAt (s : List ℕ) (a : Span) : Type 0 where
  pub opens : byte_at s a.from ≡ 34
  pub is-string : string s a.from ≡ Some a.to
  pub room : a.from + 2 ≤ a.to
  pub inside : a.to ≤ length s

string-at : (d : ℕ) (s : List ℕ) (a : Span) → value d s a.from ≡ Some a.to → is_string s a ≡ true → StringAt s a
unfolding is_string
string-at d s a v h =
    let b : byte_at s a.from ≡ 34 = eqb-true _ _ h in
    let q : string s a.from ≡ Some a.to = sym (value-string s a.from d b) ∙ v in
    let c = string-two s a.from a.to q in
    record { opens = b; is-string = q; room = c.0; inside = c.1 }

pub no_row : {A B : Type 0} {r : B} → None ≡ Some r → A
no_row h = let z : ◌≡◌ {A = ℕ} 0 1 = cc in absurd (omega arith)

pub same_row : {A : Type 0} {x y : A} → ◌≡◌ {A = Option A} (Some x) (Some y) → y ≡ x
same_row h = cc

-- the row r is made of the first two elements, which are strings
record Begins (s : List ℕ) (a : Span) (l : List Span) (r : Row) : Type 0 where
  first : Span
  second : Span
  others : List Span
  all_of : l ≡ first ∷ (second ∷ others)
  first-is : is_string s first ≡ true
  second_is : is_string s second ≡ true
  row_is : r ≡ record { whole = a; price = first; size = second }

rows-begin : (form : Form) (s : List ℕ) (a : Span) (l : List Span) (r : Row) → row_of form s a l ≡ Some r → Begins s a l r
unfolding row_k row_m
rows-begin Triple s a [] r g = no_row g
rows-begin Triple s a (p ∷ []) r g = no_row g
rows-begin Triple s a (p ∷ (z ∷ [])) r g = no_row g
rows-begin Triple s a (p ∷ (z ∷ (t ∷ k))) r g = strings (is_string s p && (is_string s z && is_string s t)) refl g
  where
    strings : (b : Bool) → (is_string s p && (is_string s z && is_string s t)) ≡ b → cond b (Some (record { whole = a; price = p; size = z })) None ≡ Some r
        → Begins s a (p ∷ (z ∷ (t ∷ k))) r
    strings true q g =
        let c = (and-eq-true_iff (is_string s p) (is_string s z && is_string s t)).0 q in
        let d = (and-eq-true_iff (is_string s z) (is_string s t)).0 c.1 in
        record { first = p; second = z; others = t ∷ k; all_of = refl; first-is = c.0; second_is = d.0; row_is = same_row g }
    strings false q g = no_row g
rows-begin Pair s a [] r g = no_row g
rows-begin Pair s a (p ∷ []) r g = no_row g
rows-begin Pair s a (p ∷ (z ∷ [])) r g = strings (is_string s p && is_string s z) refl g
  where
    strings : (b : Bool) → (is_string s p && is_string s z) ≡ b → cond b (Some (record { whole = a; price = p; size = z })) None ≡ Some r → Begins s a (p ∷ (z ∷ [])) r
    strings true q g =
        let c = (and-eq-true_iff (is_string s p) (is_string s z)).0 q in
        record { first = p; second = z; others = []; all_of = refl; first-is = c.0; second_is = c.1; row_is = same_row g }
    strings false q g = no_row g
rows-begin Pair s a (p ∷ (z ∷ (x ∷ k))) r g = no_row g

-- ---- an entry's price and size are strings
module _ (form : Form) (d : ℕ) (s : List ℕ) where
  in_order : (hi lo : ℕ) (p z : Span) (k : List Span) → InOrder (IsElement d s) hi lo (p ∷ (z ∷ k)) → (value d s p.from ≡ Some p.to) × (value d s z.from ≡ Some z.to)
  in_order hi lo p z k (then lo1 from1 to1 p1 l1 a b c (then lo2 from2 to2 z1 k1 d e f o)) = (c.a_value, f.a_value)

  sound-items : (i : ℕ) (a : Span) (x : Items Span) → elements (value d s) s i ≡ x → (r : Row) → and_then (contents x) (row_of form s a) ≡ Some r → StringAt s r.price × StringAt s r.size
  unfolding contents and_then
  sound-items i a (items l e) q r h =
      let g = rows-begin form s a l r h in
      let p = g.first in
      let z = g.second in
      let o : InOrder (IsElement d s) e i (p ∷ (z ∷ g.others)) = rw g.all_of at (elements-in-order d s i l e q).0 in
      let v = in_order e i p z g.others o in
      rw g.row_is (string-at d s p v.0 g.first-is, string-at d s z v.1 g.second_is)
  sound-items i a no_items q r h = no_row h

pub sound : (form : Form) (d : ℕ) (s : List ℕ) (a : Span) (r : Row) → entry_of form d s a ≡ Some r → StringAt s r.price × StringAt s r.size
unfolding entry_of array_at and_then
sound form zero s a r h = no_row h
sound form (suc d) s a r h = go (eqb (byte_at s a.from) 91) h
  where
    go : (b : Bool) → and_then (cond b (contents (elements (value d s) s (a.from + 1))) None) (row_of form s a) ≡ Some r → StringAt s r.price × StringAt s r.size
    go true g = sound-items form d s (a.from + 1) a (elements (value d s) s (a.from + 1)) refl r g
    go false g = no_row g

-- an entry lies where the value is
pub entry_whole : (form : Form) (d : ℕ) (s : List ℕ) (a : Span) (r : Row) → entry_of form d s a ≡ Some r → r.whole ≡ a
unfolding entry_of and_then
entry_whole form d s a r h = go (array_at d s a) h
  where
    go : (x : Option (List Span)) → and_then x (row_of form s a) ≡ Some r → r.whole ≡ a
    go (Some l) g = ap (λ (x : Row). x.whole) (rows-begin form s a l r g).row_is
    go None g = no_row g
