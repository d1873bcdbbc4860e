-- The reader's answers, step by step.
-- Assumes nothing.
use Rattle.std.specs.Prelude.{None, Option, Some, ℕ, Err, Ok, Result}
use mathlib.Core.Path.{◌≡◌, refl, sym, ap, ◌∙◌, subst}
use mathlib.Core.List.{List}
use mathlib.Core.Bool.{Bool, true, false, true≢false, ◌&&◌, cond}
use Prim.Native.Nat.{ℕ, ◌<◌, ◌≤◌}
use native.Mathlib.Omega.{arith}
use borrow.Author.Tests.{lt-ltb, le-ltb, leb-true}
use lib.Dec.{leb, ltb}
use lib.ListN.{length}
use Rattle.json_tokens.specs.Tokens.{blanks, ended}
use Rattle.json_tokens.specs.Ends.{end_of}
use Rattle.json_values.specs.Json.{Span, value, text}
use Rattle.entries.specs.Places.{top}
use Rattle.entries.specs.Tally.{Kept}
use Rattle.settings.specs.Settings.{Config, good_depth, good_name, good}
use Rattle.settings.specs.Rules.{rules_of}
use Rattle.settings.specs.declared.Dialect.TheVariants.{K, Unknown}
use Rattle.settings.specs.declared.Rules.{Rules}
use Rattle.layout.specs.Scan.{not_framed, outline_of, scan_of, scan_at, Scanned}
use Rattle.layout.specs.Layout.{Layout, Envelope}
use Rattle.layout.specs.declared.Outline.{Outline}
use Rattle.layout.specs.declared.Scan.{Scan}
use Rattle.message.specs.Meaning.{too_many, counted, laid_out, addressed, also_decimals, envelope_in, framed, checked}
use Rattle.message.specs.Verdict.{judged}
use Rattle.message.specs.Verdict.{verdict_of}
use Rattle.message.specs.Deciding.{decided}
use Rattle.answer.specs.declared.Answer.{Answer}
use Rattle.answer.specs.declared.Answer.TheVariants.{Shut, TooLong, NotJson, NotOurs, BadLayout, TooManyEntries, BadDecimal}
use Rattle.message.specs.Bad.{form_of}
use Rattle.message.proofs.Deciding.{decided-is, none-decimals, some-decimals}
use Rattle.message.proofs.Where.{framed-lies}
use Rattle.message.proofs.Entering.{no-pass, no-reading}

and_first : (a b : Bool) → (a && b) ≡ true → a ≡ true
and_first true b h = refl
and_first false b h = h

and_second : (a b : Bool) → (a && b) ≡ true → b ≡ true
and_second true b h = h
and_second false b h = absurd (true≢false (sym h))

-- ---- check 1

pub k-depth : (depth : ℕ) (name : List ℕ) → good (record { dialect = K; depth = depth; name = name }) ≡ true → (10 ≤ depth) × (depth ≤ 100)
unfolding good good_depth
k-depth depth name h =
    let d = and_first (leb 10 depth && leb depth 100) (good_name name) h in
    (leb-true 10 depth (and_first (leb 10 depth) (leb depth 100) d), leb-true depth 100 (and_second (leb 10 depth) (leb depth 100) d))

module _ (t : Config) (s : List ℕ) where
  pub judged-good : good t ≡ true → verdict_of s (checked t s) ≡ verdict_of s (judged t s)
  unfolding judged
  judged-good h = sym (ap (verdict_of s) (rw (h, judged)))

  pub judged-shut : good t ≡ false → Err Shut ≡ verdict_of s (judged t s)
  unfolding judged verdict_of
  judged-shut h = sym (rw (h, judged, verdict_of))

  -- ---- checks 2 to 7

  abbrev here : Scan
  here = scan_at (envelope_in t.dialect t) s (blanks s 0)

  -- r is what the code has of the rules
  module _ (r : Rules) (same : r ≡ rules_of t.dialect) where
    longest : r.longest ≡ (rules_of t.dialect).longest
    longest = ap (λ (x : Rules). x.longest) same

    pub frame-long : r.longest < length s → Err TooLong ≡ verdict_of s (framed t s)
    unfolding framed verdict_of
    frame-long h = let e = lt-ltb (rules_of t.dialect).longest (length s) (subst (λ (n : ℕ). n < length s) longest h) in sym (rw (e, framed, verdict_of))

    pub long_kept : r.longest < length s → (l : Layout) → {A : Type 0} → framed t s ≡ Ok l → A
    unfolding framed
    long_kept h l g = let e = lt-ltb (rules_of t.dialect).longest (length s) (subst (λ (n : ℕ). n < length s) longest h) in no-pass TooLong l (rw e at g)

    pub frame-rest : length s ≤ r.longest → (scan : Scan) → scan ≡ here → (over : Bool) → over ≡ ended s scan.end
        → decided r.entries scan over ≡ verdict_of s (framed t s)
    unfolding framed
    frame-rest h scan p over q =
        let e = le-ltb (rules_of t.dialect).longest (length s) (subst (λ (n : ℕ). length s ≤ n) longest h) in
        let o : over ≡ ended s here.end = q ∙ ap (λ (x : Scan). ended s x.end) p in
        ap (λ (x : Scan). decided r.entries x over) p ∙ ap (decided r.entries here) o ∙ ap (λ (x : Rules). decided x.entries here (ended s here.end)) same
        ∙ decided-is (rules_of t.dialect).entries (envelope_in t.dialect t) s ∙ sym (ap (verdict_of s) (rw (e, framed)))

  -- ---- check 8

  module _ (v : Result Outline Answer) (h : v ≡ verdict_of s (framed t s)) where
    pub open-fails : (a : Answer) → v ≡ Err a → Err a ≡ verdict_of s (checked t s)
    unfolding checked also_decimals verdict_of
    open-fails a g = go (framed t s) (sym h ∙ g)
      where
        go : (x : Result Layout Answer) → verdict_of s x ≡ Err a → Err a ≡ verdict_of s (also_decimals s x)
        go (Err b) k = sym k
        go (Ok l) k = let z : ◌≡◌ {A = ℕ} 0 1 = cc in absurd (omega arith)

    pub open-bad : (o : Outline) → v ≡ Ok o → (o.bad_at ≡ 0 → ⊥) → Err BadDecimal ≡ verdict_of s (checked t s)
    unfolding checked also_decimals verdict_of
    open-bad o g b = go (framed t s) refl (sym h ∙ g)
      where
        go : (x : Result Layout Answer) → framed t s ≡ x → verdict_of s x ≡ Ok o → Err BadDecimal ≡ verdict_of s (also_decimals s x)
        go (Err a) q k = let z : ◌≡◌ {A = ℕ} 0 1 = cc in absurd (omega arith)
        go (Ok l) q k =
            let e : outline_of s (Some l) ≡ o = cc in
            sym (ap (verdict_of s) (some-decimals (form_of t.dialect) s l (framed-lies t s l q).entries (λ z. b (sym (ap (λ (x : Outline). x.bad_at) e) ∙ z))))

    pub open-passes : (o : Outline) → v ≡ Ok o → o.bad_at ≡ 0 → Ok o ≡ verdict_of s (checked t s)
    unfolding checked also_decimals verdict_of
    open-passes o g b = go (framed t s) refl (sym h ∙ g)
      where
        go : (x : Result Layout Answer) → framed t s ≡ x → verdict_of s x ≡ Ok o → Ok o ≡ verdict_of s (also_decimals s x)
        go (Err a) q k = let z : ◌≡◌ {A = ℕ} 0 1 = cc in absurd (omega arith)
        go (Ok l) q k =
            let e : outline_of s (Some l) ≡ o = cc in
            sym k ∙ sym (ap (verdict_of s) (none-decimals (form_of t.dialect) s l (framed-lies t s l q).entries (ap (λ (x : Outline). x.bad_at) e ∙ b)))

-- ---- the buffer

refused-address : (most : ℕ) → Err NotOurs ≡ addressed most None
unfolding addressed
refused-address most = refl

kept-laid : (most : ℕ) (s : List ℕ) (x : Option Layout) (l : Layout) → laid_out most x ≡ Ok l → x ≡ Some l
unfolding laid_out counted
kept-laid most s (Some k) l g = at (too_many most k) g
  where
    at : (b : Bool) → cond b (Err TooManyEntries) (Ok k) ≡ Ok l → Some k ≡ Some l
    at true h = no-pass TooManyEntries l h
    at false h = let e : k ≡ l = cc in ap Some e
kept-laid most s None l g = no-pass BadLayout l g

kept-address : {A : Layout → Type 0} (most : ℕ) (s : List ℕ) (x : Envelope) (l : Layout) → addressed most (Some x) ≡ Ok l → (x.ours ≡ true → (y : Layout) → x.layout ≡ Some y → A y) → A l
unfolding addressed
kept-address {A} most s x l g f = at x.ours refl g
  where
    at : (b : Bool) → x.ours ≡ b → cond b (laid_out most x.layout) (Err NotOurs) ≡ Ok l → A l
    at true q h = f q l (kept-laid most s x.layout l h)
    at false q h = no-pass NotOurs l h

-- a message that passes checks 2 to 7 is this book's, and has a layout
pub framed_kept : (t : Config) (s buffer : List ℕ) (r : Scan) → Scanned (envelope_in t.dialect t) s (blanks s 0) buffer r → (l : Layout) → framed t s ≡ Ok l → Kept s (Some l.entries) buffer
unfolding framed text top
framed_kept t s buffer r w l h = first (ltb (rules_of t.dialect).longest (length s)) (value 16 s (blanks s 0)) refl h
  where
    most : ℕ
    most = (rules_of t.dialect).entries

    laid_kept : (e : ℕ) → value 16 s (blanks s 0) ≡ Some e → (x : Option Envelope) → envelope_in t.dialect t s (record { from = blanks s 0; to = e }) ≡ x → addressed most x ≡ Ok l → Kept s (Some l.entries) buffer
    laid_kept e v (Some x) q g = kept-address {A = λ y. Kept s (Some y.entries) buffer} most s x l g (λ o y k. w.kept e v x q o y k)
    laid_kept e v None q g = no-pass NotOurs l (refused-address most ∙ g)

    first : (a : Bool) (x : Option ℕ) → value 16 s (blanks s 0) ≡ x
        → cond a (Err TooLong) (cond (elim x [ Some e ↦ ended s e | None ↦ false ]) (addressed most (envelope_in t.dialect t s (elim x [ Some e ↦ record { from = blanks s 0; to = e } | None ↦ record { from = 0; to = 0 } ]))) (Err NotJson)) ≡ Ok l
        → Kept s (Some l.entries) buffer
    first true x v g = no-pass TooLong l g
    first false None v g = no-pass NotJson l g
    first false (Some e) v g = at (ended s e) g
      where
        at : (b : Bool) → cond b (addressed most (envelope_in t.dialect t s (record { from = blanks s 0; to = e }))) (Err NotJson) ≡ Ok l → Kept s (Some l.entries) buffer
        at true k = laid_kept e v (envelope_in t.dialect t s (record { from = blanks s 0; to = e })) refl k
        at false k = no-pass NotJson l k

-- ---- what no dialect reads

pub kept-unknown : (t : Config) (s : List ℕ) (a : Span) (h : Envelope) → {A : Type 0} → envelope_in Unknown t s a ≡ Some h → A
unfolding envelope_in
kept-unknown t s a h g = no-reading g

pub told-unknown : (t : Config) (s : List ℕ) (at e : ℕ) → e ≡ end_of (value 16 s at) → not_framed e ≡ scan_at (envelope_in Unknown t) s at
unfolding scan_at envelope_in scan_of end_of
told-unknown t s at e h = go (value 16 s at) h
  where
    go : (x : Option ℕ) → e ≡ end_of x → not_framed e ≡ elim x [ Some i ↦ scan_of s i None | None ↦ scan_of s 0 None ]
    go (Some i) g = ap not_framed g
    go None g = ap not_framed g
