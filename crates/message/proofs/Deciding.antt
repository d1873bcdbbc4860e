-- The checks by what one walk over a message tells are the checks of the message.
-- Assumes nothing.
use Rattle.std.specs.Prelude.{None, Option, Some, ℕ, Err, Ok, Result}
use mathlib.Core.Path.{◌≡◌, refl, sym, ap, ap₂, ◌∙◌}
use mathlib.Core.List.{List, [], ◌∷◌}
use mathlib.Core.Bool.{Bool, true, false, ◌||◌, cond}
use Prim.Native.Nat.{ℕ}
use native.Mathlib.Omega.{arith}
use borrow.Author.Tests.{eq-eqb, ne_eqb}
use lib.Dec.{ltb}
use lib.ListN.{length}
use Rattle.json_tokens.specs.Tokens.{blanks, ended}
use Rattle.json_tokens.proofs.Bounds.{bounds}
use Rattle.json_values.specs.Json.{Span, value, text}
use Rattle.json_values.proofs.Bounds.{value_in}
use Rattle.entries.specs.Places.{top}
use Rattle.edit.specs.declared.Side.TheVariants.{Bids, Asks}
use Rattle.entries.specs.Rows.{bad_texts}
use Rattle.entries.specs.Tally.{tally_of}
use Rattle.entries.specs.declared.Form.{Form}
use Rattle.entries.specs.declared.Tally.{Tally}
use Rattle.entries.proofs.Tallies.{tally-bids, tally-asks}
use Rattle.layout.proofs.Laws.{outline-is, outline-reads}
use Rattle.entries.proofs.Claims.{AllHere, bad_at, bad-none, none-bad, FirstBad, first-bad}
use Rattle.answer.specs.declared.Answer.{Answer}
use Rattle.layout.specs.Layout.{is_snapshot, Layout, Envelope}
use Rattle.layout.specs.Scan.{bad_at as layout_bad, is_printed, sum_of, outline_of, scan_of, scan_at}
use Rattle.layout.specs.declared.Outline.{Outline}
use Rattle.layout.specs.declared.Scan.{Scan}
use Rattle.message.specs.Meaning.{bad, decimals, entries_for, too_many, counted, laid_out, addressed}
use Rattle.message.specs.Verdict.{verdict_of}
use Rattle.message.specs.Deciding.{laid_outline, addressed_scan, decided}
use Rattle.answer.specs.declared.Answer.TheVariants.{NotJson, NotOurs, BadLayout, TooManyEntries, BadDecimal}

-- ---- one test at a time
module _ (most : ℕ) (o : Outline) where
  pub outline-unfair : o.well_formed ≡ false → Err BadLayout ≡ laid_outline most o
  unfolding laid_outline
  outline-unfair h = sym (rw (h, laid_outline))

  module _ (h : o.well_formed ≡ true) where
    pub outline-many-bids : ltb most o.bids ≡ true → Err TooManyEntries ≡ laid_outline most o
    unfolding laid_outline
    outline-many-bids g = sym (rw (h, g, laid_outline))

    pub outline-many-asks : ltb most o.bids ≡ false → ltb most o.asks ≡ true → Err TooManyEntries ≡ laid_outline most o
    unfolding laid_outline
    outline-many-asks g k = sym (rw (h, g, k, laid_outline))

    pub outline-passes : ltb most o.bids ≡ false → ltb most o.asks ≡ false → Ok o ≡ laid_outline most o
    unfolding laid_outline
    outline-passes g k = sym (rw (h, g, k, laid_outline))

module _ (most : ℕ) (t : Scan) where
  pub address-no-frame : t.framed ≡ false → Err NotOurs ≡ addressed_scan most t
  unfolding addressed_scan
  address-no-frame h = sym (rw (h, addressed_scan))

  module _ (h : t.framed ≡ true) where
    pub address-ours : t.ours ≡ true → laid_outline most t.outline ≡ addressed_scan most t
    unfolding addressed_scan
    address-ours k = sym (rw (h, k, addressed_scan))

    pub address-other : t.ours ≡ false → Err NotOurs ≡ addressed_scan most t
    unfolding addressed_scan
    address-other k = sym (rw (h, k, addressed_scan))

  pub decided-broken : (b : Bool) → t.end ≡ 0 → Err NotJson ≡ decided most t b
  unfolding decided
  decided-broken b h = let e = eq-eqb t.end 0 h in sym (rw (e, decided))

  module _ (h : t.end ≡ 0 → ⊥) (b : Bool) where
    pub decided-ended : b ≡ true → addressed_scan most t ≡ decided most t b
    unfolding decided
    decided-ended g = let e = ne_eqb t.end 0 h in sym (rw (e, g, decided))

    pub decided-more : b ≡ false → Err NotJson ≡ decided most t b
    unfolding decided
    decided-more g = let e = ne_eqb t.end 0 h in sym (rw (e, g, decided))

-- ---- the whole

-- the outline of a layout, whose entries are entries
module _ (s : List ℕ) (l : Layout) where
  abbrev t : Tally
  t = tally_of s l.entries

  pub outline-bids : (outline_of s (Some l)).bids ≡ length (entries_for Bids l)
  outline-bids = ap (λ (o : Outline). o.bids) (outline-is s l) ∙ tally-bids s l.entries

  pub outline-asks : (outline_of s (Some l)).asks ≡ length (entries_for Asks l)
  outline-asks = ap (λ (o : Outline). o.asks) (outline-is s l) ∙ tally-asks s l.entries

  pub outline-printed : (outline_of s (Some l)).printed ≡ is_printed l.checksum
  outline-printed = ap (λ (o : Outline). o.printed) (outline-is s l)

  pub outline-checksum : (outline_of s (Some l)).checksum ≡ sum_of l.checksum
  outline-checksum = ap (λ (o : Outline). o.checksum) (outline-is s l)

  pub outline-number : (outline_of s (Some l)).number ≡ l.number
  outline-number = ap (λ (o : Outline). o.number) (outline-is s l)

  pub outline-previous : (outline_of s (Some l)).previous ≡ l.previous
  outline-previous = ap (λ (o : Outline). o.previous) (outline-is s l)

  pub outline-bad : (outline_of s (Some l)).bad_at ≡ bad_at (is_snapshot l.kind) t
  unfolding layout_bad
  outline-bad = ap (λ (o : Outline). o.bad_at) (outline-is s l) ∙ go (is_snapshot l.kind)
    where
      go : (b : Bool) → cond b t.strict_at t.broken_at ≡ bad_at b t
      go true = refl
      go false = refl

-- check 7, by the counts
few-entries : (most : ℕ) (o : Outline) (b a : ℕ) → o.well_formed ≡ true → o.bids ≡ b → o.asks ≡ a
    → laid_outline most o ≡ cond (ltb most b || ltb most a) (Err TooManyEntries) (Ok o)
unfolding laid_outline
few-entries most o b a h p q =
    ap (λ (x : Bool). cond x (cond (ltb most o.bids || ltb most o.asks) (Err TooManyEntries) (Ok o)) (Err BadLayout)) h
    ∙ ap₂ (λ (x y : ℕ). cond (ltb most x || ltb most y) (Err TooManyEntries) (Ok o)) p q

refused-laid : (most : ℕ) (s : List ℕ) → laid_outline most (outline_of s None) ≡ verdict_of s (laid_out most None)
unfolding laid_outline outline_of laid_out verdict_of
refused-laid most s = refl

laid-is : (most : ℕ) (s : List ℕ) (l : Option Layout) → laid_outline most (outline_of s l) ≡ verdict_of s (laid_out most l)
unfolding laid_out counted too_many verdict_of
laid-is most s (Some l) =
    few-entries most (outline_of s (Some l)) (length (entries_for Bids l)) (length (entries_for Asks l)) (outline-reads s l) (outline-bids s l) (outline-asks s l)
    ∙ at (ltb most (length (entries_for Bids l)) || ltb most (length (entries_for Asks l)))
  where
    at : (b : Bool) → cond b (Err TooManyEntries) (Ok (outline_of s (Some l))) ≡ verdict_of s (cond b (Err TooManyEntries) (Ok l))
    at true = refl
    at false = refl
laid-is most s None = refused-laid most s

address_is : (most : ℕ) (s : List ℕ) (e : ℕ) (h : Option Envelope) → addressed_scan most (scan_of s e h) ≡ verdict_of s (addressed most h)
unfolding addressed_scan scan_of addressed verdict_of
address_is most s e (Some h) = at h.ours (laid-is most s h.layout)
  where
    at : (y : Bool) → laid_outline most (outline_of s h.layout) ≡ verdict_of s (laid_out most h.layout)
        → cond y (laid_outline most (outline_of s h.layout)) (Err NotOurs)
        ≡ verdict_of s (cond y (laid_out most h.layout) (Err NotOurs))
    at true k = k
    at false k = refl
address_is most s e None = refl

told-end : (s : List ℕ) (e : ℕ) (h : Option Envelope) → (scan_of s e h).end ≡ e
unfolding scan_of
told-end s e (Some h) = refl
told-end s e None = refl

-- a value that ends at e, past which nothing stands, or something
over : (most : ℕ) (s : List ℕ) (e : ℕ) (h : Option Envelope) → (e ≡ 0 → ⊥) → (b : Bool) → decided most (scan_of s e h) b ≡ verdict_of s (cond b (addressed most h) (Err NotJson))
unfolding verdict_of
over most s e h n true = sym (decided-ended most (scan_of s e h) (λ z. n (sym (told-end s e h) ∙ z)) true refl) ∙ address_is most s e h
over most s e h n false = sym (decided-more most (scan_of s e h) (λ z. n (sym (told-end s e h) ∙ z)) false refl)

module _ (most : ℕ) (hear : List ℕ → Span → Option Envelope) (s : List ℕ) where
  abbrev here : Scan
  here = scan_at hear s (blanks s 0)

  module _ (e : ℕ) (v : value 16 s (blanks s 0) ≡ Some e) where
    told_at : here ≡ scan_of s e (hear s (record { from = blanks s 0; to = e }))
    unfolding scan_at
    told_at = rw (v, scan_at)

    text_at : text s ≡ ended s e
    unfolding text
    text_at = rw (v, text)

    top-at : top s ≡ record { from = blanks s 0; to = e }
    unfolding top
    top-at = rw (v, top)

    decided-at : decided most here (ended s here.end) ≡ verdict_of s (cond (text s) (addressed most (hear s (top s))) (Err NotJson))
    unfolding scan_of
    decided-at =
        let b = bounds e (value_in 16 s (blanks s 0)) v in
        let a : Span = record { from = blanks s 0; to = e } in
        let d = told-end s e (hear s a) in
        rw (told_at, text_at, top-at, d) (over most s e (hear s a) (λ z. omega arith) (ended s e))

  decided-none : value 16 s (blanks s 0) ≡ None → decided most here (ended s here.end) ≡ verdict_of s (cond (text s) (addressed most (hear s (top s))) (Err NotJson))
  unfolding scan_at scan_of text decided verdict_of
  decided-none v = rw (v, scan_at, text, scan_of, decided, verdict_of)

  -- checks 3 to 7, from what is told of the value that the text begins with
  pub decided-is : decided most here (ended s here.end) ≡ verdict_of s (cond (text s) (addressed most (hear s (top s))) (Err NotJson))
  decided-is = go (value 16 s (blanks s 0)) refl
    where
      go : (x : Option ℕ) → value 16 s (blanks s 0) ≡ x → decided most here (ended s here.end) ≡ verdict_of s (cond (text s) (addressed most (hear s (top s))) (Err NotJson))
      go (Some e) v = decided-at e v
      go None v = decided-none v

-- ---- check 8
module _ (form : Form) (s : List ℕ) (l : Layout) (stand : AllHere form 13 s l.entries) where
  -- where the first bad text begins, or 0
  abbrev at : ℕ
  at = (outline_of s (Some l)).bad_at

  pub no-bad : at ≡ 0 → bad s l ≡ []
  unfolding bad
  no-bad h = none-bad (is_snapshot l.kind) s form 13 l.entries stand (sym (outline-bad s l) ∙ h)

  pub none-decimals : at ≡ 0 → decimals s l ≡ Ok l
  unfolding decimals
  none-decimals h = ap (λ (u : List Span). elim u [ [] ↦ Ok l | a ∷ rest ↦ Err BadDecimal ]) (no-bad h)

  pub some-decimals : (at ≡ 0 → ⊥) → decimals s l ≡ Err BadDecimal
  unfolding decimals bad
  some-decimals n = go (bad_texts (is_snapshot l.kind) s l.entries) refl
    where
      go : (u : List Span) → bad_texts (is_snapshot l.kind) s l.entries ≡ u → ◌≡◌ {A = Result Layout Answer} (elim u [ [] ↦ Ok l | a ∷ rest ↦ Err BadDecimal ]) (Err BadDecimal)
      go (a ∷ u) p = refl
      go [] p = absurd (n (outline-bad s l ∙ bad-none (is_snapshot l.kind) s form 13 l.entries stand p))

  -- the first bad text, where there is one
  pub first-text : (at ≡ 0 → ⊥) → FirstBad form 13 s (is_snapshot l.kind) l.entries at
  first-text n = rw (outline-bad s l) (first-bad (is_snapshot l.kind) s form 13 l.entries stand (λ z. n (outline-bad s l ∙ z)))
