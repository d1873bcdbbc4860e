-- What is told of the entry at a position: where it ends, and that its price and its size are strings. Assumes nothing.
use Rattle.std.specs.Prelude.{None, Option, Some, ℕ}
use mathlib.Core.Path.{◌≡◌, refl, sym, ap, ◌∙◌}
use mathlib.Core.List.{List}
use mathlib.Core.Bool.{true, true≢false}
use Prim.Native.Nat.{ℕ, ◌+◌, ◌-◌, ◌≤◌, ◌<◌}
use native.Mathlib.Omega.{arith}
use lib.ListN.{length, take, drop}
use Rattle.json_tokens.specs.Ends.{end_of}
use Rattle.json_tokens.proofs.Laws.{end-at}
use Rattle.json_tokens.proofs.Bounds.{bounds, end-broken}
use Rattle.json_values.specs.Json.{Span, value}
use Rattle.json_values.proofs.Bounds.{value_in}
use Rattle.json_values.specs.Names.{inner}
use Rattle.entries.specs.Rows.{Row, entry_of}
use Rattle.entries.specs.Found.{entry_place_of, price_span, size_span, entry_place_at, Laid}
use Rattle.entries.specs.declared.Form.{Form}
use Rattle.entries.specs.declared.EntryPlace.{EntryPlace}
use Rattle.entries.proofs.Strings.{StringAt, sound}

-- the text between two quotes
pub inner-part : (s : List ℕ) (from to : ℕ) → take (to - 1 - (from + 1)) (drop (from + 1) s) ≡ inner s (record { from = from; to = to })
unfolding inner
inner-part s from to = let n : to - 1 - (from + 1) ≡ to - from - 2 = omega arith in ap (λ k. take k (drop (from + 1) s)) n

module _ (form : Form) (d : ℕ) (s : List ℕ) where
  abbrev entry : Span → Option Row
  entry = entry_of form d s

  module _ (i : ℕ) (g : EntryPlace) (told : g ≡ entry_place_at form d s i) where
    pub found-end : g.end ≡ end_of (value d s i)
    unfolding entry_place_at end_of entry_place_of
    found-end = ap (λ (x : EntryPlace). x.end) told ∙ go (value d s i)
      where
        at_value : (e : ℕ) (y : Option Row) → (entry_place_of e y).end ≡ e
        at_value e (Some r) = refl
        at_value e None = refl

        go : (x : Option ℕ) → (elim x as (λ y. EntryPlace) [ Some e ↦ entry_place_of e (entry (record { from = i; to = e })) | None ↦ entry_place_of 0 None ]).end ≡ end_of x
        go (Some e) = at_value e (entry (record { from = i; to = e }))
        go None = refl

    -- a fair entry's price and size are strings
    pub found-strings : g.well_formed ≡ true
        → StringAt s (price_span g) × StringAt s (size_span g)
    unfolding entry_place_at entry_place_of
    found-strings fair = go (value d s i) told
      where
        at_value : (e : ℕ) (y : Option Row) → entry (record { from = i; to = e }) ≡ y → g ≡ entry_place_of e y
            → StringAt s (price_span g) × StringAt s (size_span g)
        at_value e (Some r) q h = rw h (sound form d s (record { from = i; to = e }) r q)
        at_value e None q h = absurd (true≢false (sym fair ∙ ap (λ (x : EntryPlace). x.well_formed) h))

        go : (x : Option ℕ) → g ≡ elim x [ Some e ↦ entry_place_of e (entry (record { from = i; to = e })) | None ↦ entry_place_of 0 None ]
            → StringAt s (price_span g) × StringAt s (size_span g)
        go (Some e) h = at_value e (entry (record { from = i; to = e })) refl h
        go None h = absurd (true≢false (sym fair ∙ ap (λ (x : EntryPlace). x.well_formed) h))

    pub found-laid : Laid s g
    found-laid fair = let c = found-strings fair in ((c.0.room, c.0.inside), (c.1.room, c.1.inside))

    pub found-is : (e : ℕ) → value d s i ≡ Some e → g ≡ entry_place_of e (entry (record { from = i; to = e }))
    unfolding entry_place_at
    found-is e v = told ∙ rw (v, entry_place_at)

    pub found-broken : g.end ≡ 0 → g ≡ entry_place_of 0 None
    unfolding entry_place_at
    found-broken z = told ∙ rw (end-broken g.end (omega arith) (value_in d s i) found-end z, entry_place_at)

    pub found-past : (g.end ≡ 0 → ⊥) → (i < g.end) × (g.end ≤ length s)
    found-past n = let b = bounds g.end (value_in d s i) (end-at (value d s i) g.end found-end n) in (omega arith, b.1)
