-- The first bad text of a message, from where the first bad entry begins.
-- Assumes nothing.
use Rattle.std.specs.Prelude.{Some, Err, Ok, Result}
use mathlib.Core.Path.{◌≡◌, refl, sym, ap, ◌∙◌}
use mathlib.Core.List.{List, []}
use mathlib.Core.Bool.{Bool, true, false, cond}
use Prim.Native.Nat.{ℕ}
use native.Mathlib.Omega.{arith}
use borrow.Author.Tests.{eqb-true, eqb-false, eq-eqb, ne_eqb}
use lib.Dec.{eqb}
use Rattle.json_values.specs.Json.{Span}
use Rattle.settings.specs.Settings.{Config, good}
use Rattle.entries.specs.Rows.{bad_price, bad_texts, first_of}
use Rattle.entries.specs.Found.{entry_place_at, price_span, size_span, Placed}
use Rattle.entries.specs.declared.EntryPlace.{EntryPlace}
use Rattle.entries.specs.declared.Form.{Form}
use Rattle.entries.proofs.Claims.{AllHere, FirstBad}
use Rattle.layout.specs.Layout.{is_snapshot, Layout}
use Rattle.layout.specs.Scan.{outline_of}
use Rattle.layout.specs.declared.Outline.{Outline}
use Rattle.message.specs.Meaning.{framed, bad, first_bad, first_bad_of, bad_decimal}
use Rattle.message.specs.Verdict.{verdict_of}
use Rattle.message.specs.Bad.{part_of, form_of, bad_of, bad_in, Within, PartIs}
use Rattle.answer.specs.declared.Answer.{Answer}
use Rattle.message.proofs.Deciding.{no-bad, first-text}
use Rattle.message.proofs.Where.{framed-lies}

-- ---- the first bad text of a layout

span-part : (s : List ℕ) (f : EntryPlace) → part_of (cond (bad_price s (price_span f)) (price_span f) (size_span f)) ≡ bad_of s f
unfolding bad_of
span-part s f = go (bad_price s (price_span f))
  where
    go : (b : Bool) → part_of (cond b (price_span f) (size_span f)) ≡ cond b (part_of (price_span f)) (part_of (size_span f))
    go true = refl
    go false = refl

part-within : (s : List ℕ) (f : EntryPlace) → Placed s f → Within s (bad_of s f).from (bad_of s f).to
unfolding bad_of part_of
part-within s f p = go (bad_price s (price_span f))
  where
    go : (b : Bool) → Within s (cond b (part_of (price_span f)) (part_of (size_span f))).from (cond b (part_of (price_span f)) (part_of (size_span f))).to
    go true = let x = p.0.0 in record { order = omega arith; inside = p.0.1 }
    go false = let x = p.1.0 in record { order = omega arith; inside = p.1.1 }

no_part : part_of (first_of []) ≡ record { from = 0; to = 0 }
unfolding part_of first_of
no_part = refl

text-bad : (form : Form) (s : List ℕ) (l : Layout) → AllHere form 13 s l.entries → (n : ℕ) → n ≡ (outline_of s (Some l)).bad_at
    → PartIs s (part_of (first_of (bad_texts (is_snapshot l.kind) s l.entries))) (bad_in s form n)
unfolding bad_in bad
text-bad form s l stand n q = go (eqb n 0) refl
  where
    go : (b : Bool) → eqb n 0 ≡ b → PartIs s (part_of (first_of (bad_texts (is_snapshot l.kind) s l.entries))) (cond b (record { from = 0; to = 0 }) (bad_of s (entry_place_at form 13 s n)))
    go true e =
        record {
          is = sym (ap (λ (x : List Span). part_of (first_of x)) (no-bad form s l stand (sym q ∙ eqb-true n 0 e)) ∙ no_part);
          within = record { order = omega arith; inside = omega arith };
        }
    go false e =
        let f = first-text form s l stand (λ z. eqb-false n 0 e (q ∙ z)) in
        let g : FirstBad form 13 s (is_snapshot l.kind) l.entries n = rw q f in
        record { is = sym (ap part_of g.first ∙ span-part s (entry_place_at form 13 s n)); within = part-within s (entry_place_at form 13 s n) g.placed }

-- ---- the message

module _ (t : Config) (s : List ℕ) (h : good t ≡ true) (v : Result Outline Answer) (is : v ≡ verdict_of s (framed t s)) where
  pub frame-fails : (a : Answer) → v ≡ Err a → PartIs s (part_of (first_bad_of s (framed t s))) (record { from = 0; to = 0 })
  unfolding verdict_of first_bad_of part_of
  frame-fails a g = record { is = go (framed t s) (sym is ∙ g); within = record { order = omega arith; inside = omega arith } }
    where
      go : (x : Result Layout Answer) → verdict_of s x ≡ Err a → record { from = 0; to = 0 } ≡ part_of (first_bad_of s x)
      go (Err b) k = refl
      go (Ok l) k = let z : ◌≡◌ {A = ℕ} 0 1 = cc in absurd (omega arith)

  module _ (o : Outline) (g : v ≡ Ok o) where
    passed : (l : Layout) × (framed t s ≡ Ok l) × (o ≡ outline_of s (Some l))
    unfolding verdict_of
    passed = go (framed t s) (sym is ∙ g)
      where
        go : (x : Result Layout Answer) → verdict_of s x ≡ Ok o → (l : Layout) × (x ≡ Ok l) × (o ≡ outline_of s (Some l))
        go (Err b) k = let z : ◌≡◌ {A = ℕ} 0 1 = cc in absurd (omega arith)
        go (Ok l) k = let e : outline_of s (Some l) ≡ o = cc in (l, refl, sym e)

    pub frame-placed : (form : Form) → form ≡ form_of t.dialect → (o.bad_at ≡ 0 → ⊥) → Placed s (entry_place_at form 13 s o.bad_at)
    frame-placed form q n =
        let p = passed in
        let l = p.0 in
        rw (q, p.2) (first-text (form_of t.dialect) s l (framed-lies t s l p.1).entries (λ z. n (ap (λ (x : Outline). x.bad_at) p.2 ∙ z))).placed

    pub frame-bad : (form : Form) → form ≡ form_of t.dialect → PartIs s (part_of (first_bad_of s (framed t s))) (bad_in s form o.bad_at)
    unfolding first_bad_of first_bad bad bad_in
    frame-bad form q =
        let p = passed in
        let l = p.0 in
        let stand = (framed-lies t s l p.1).entries in
        rw (q, p.2, p.1) (text-bad (form_of t.dialect) s l stand (outline_of s (Some l)).bad_at refl)

-- ---- the price or the size of the entry at a position
module _ (s : List ℕ) (form : Form) (at : ℕ) where
  pub in-none : at ≡ 0 → record { from = 0; to = 0 } ≡ bad_in s form at
  unfolding bad_in
  in-none h = sym (rw (eq-eqb at 0 h, bad_in))

  module _ (h : at ≡ 0 → ⊥) (f : EntryPlace) (e : f ≡ entry_place_at form 13 s at) where
    is-entry : bad_of s f ≡ bad_in s form at
    unfolding bad_in
    is-entry = ap (bad_of s) e ∙ sym (rw (ne_eqb at 0 h, bad_in))

    pub in-price : bad_price s (price_span f) ≡ true → record { from = f.price_from; to = f.price_to } ≡ bad_in s form at
    unfolding bad_of part_of
    in-price g = sym (rw (g, bad_of)) ∙ is-entry

    pub in_size : bad_price s (price_span f) ≡ false → record { from = f.size_from; to = f.size_to } ≡ bad_in s form at
    unfolding bad_of part_of
    in_size g = sym (rw (g, bad_of)) ∙ is-entry

pub place-good : (t : Config) (s : List ℕ) → good t ≡ true → part_of (first_bad_of s (framed t s)) ≡ part_of (bad_decimal t s)
unfolding bad_decimal
place-good t s h = sym (ap part_of (rw (h, bad_decimal)))

pub place-shut : (t : Config) (s : List ℕ) → good t ≡ false → PartIs s (part_of (bad_decimal t s)) (record { from = 0; to = 0 })
unfolding bad_decimal part_of
place-shut t s h = record { is = sym (rw (h, bad_decimal, part_of)); within = record { order = omega arith; inside = omega arith } }
