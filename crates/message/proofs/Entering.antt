-- What holds of a message that passes the checks: no text of it is bad, and it has few entries.
-- Assumes nothing.
use Rattle.std.specs.Prelude.{None, Option, Some, Err, Ok, Result}
use mathlib.Core.Path.{◌≡◌, refl, sym, ap, ◌∙◌, subst}
use mathlib.Core.List.{List, [], ◌∷◌}
use mathlib.Core.Bool.{Bool, true, false, true≢false, ◌||◌, cond}
use Prim.Native.Nat.{ℕ, ◌≤◌}
use native.Mathlib.Omega.{arith}
use borrow.Author.Tests.{ltb-false}
use lib.Dec.{ltb}
use lib.ListN.{length}
use Rattle.edit.specs.declared.Side.TheVariants.{Bids, Asks}
use Rattle.json_values.specs.Json.{Span, text}
use Rattle.settings.specs.Settings.{Config, good, good_depth}
use Rattle.settings.specs.Rules.{rules_of}
use Rattle.settings.specs.declared.Dialect.{Dialect}
use Rattle.settings.specs.declared.Dialect.TheVariants.{K, M, Unknown}
use Rattle.settings.specs.declared.Edition.{Edition}
use Rattle.entries.specs.Places.{top}
use Rattle.layout.specs.Layout.{Layout, Envelope}
use Rattle.message.specs.Meaning.{bad, decimals, also_decimals, entries_for, too_many, counted, laid_out, addressed, envelope_in, framed, checked}
use Rattle.answer.specs.declared.Answer.{Answer}
use Rattle.answer.specs.declared.Answer.TheVariants.{TooLong, NotJson, NotOurs, BadLayout, TooManyEntries, BadDecimal}

pub no-pass : {A : Type 0} (a : Answer) (l : Layout) → Err a ≡ Ok l → A
no-pass a l h = let z : ◌≡◌ {A = ℕ} 0 1 = cc in absurd (omega arith)

pub no-reading : {A B : Type 0} {b : B} → None ≡ Some b → A
no-reading h = let z : ◌≡◌ {A = ℕ} 0 1 = cc in absurd (omega arith)

-- ---- a message that passes checks 2 to 8 passes 2 to 7, and no text of it is bad

pub also-framed : (t : Config) (s : List ℕ) (l : Layout) → checked t s ≡ Ok l → (framed t s ≡ Ok l) × (bad s l ≡ [])
unfolding checked also_decimals decimals
also-framed t s l h = go (framed t s) h
  where
    here : (k : Layout) (x : List Span) → bad s k ≡ x → ◌≡◌ {A = Result Layout Answer} (elim x [ [] ↦ Ok k | a ∷ rest ↦ Err BadDecimal ]) (Ok l) → (◌≡◌ {A = Result Layout Answer} (Ok k) (Ok l)) × (bad s l ≡ [])
    here k [] q g = let e : k ≡ l = cc in (ap Ok e, subst (λ (y : Layout). bad s y ≡ []) e q)
    here k (a ∷ x) q g = no-pass BadDecimal l g

    go : (x : Result Layout Answer) → also_decimals s x ≡ Ok l → (x ≡ Ok l) × (bad s l ≡ [])
    go (Err a) g = no-pass a l g
    go (Ok k) g = here k (bad s k) refl g

pub or-none : (a b : Bool) → (a || b) ≡ false → (a ≡ false) × (b ≡ false)
or-none true b h = absurd (true≢false h)
or-none false b h = (refl, h)

-- no dialect has more than 100 entries a side
few-entries : (d : Dialect) → (rules_of d).entries ≤ 100
unfolding rules_of
few-entries K = omega arith
few-entries (M e) = omega arith
few-entries Unknown = omega arith

-- it has no more entries a side than there may be
module _ (most : ℕ) (l : Layout) where
  abbrev Few : Type 0
  Few = (length (entries_for Bids l) ≤ most) × (length (entries_for Asks l) ≤ most)

  few-counted : (k : Layout) (b : Bool) → (ltb most (length (entries_for Bids k)) || ltb most (length (entries_for Asks k))) ≡ b → cond b (Err TooManyEntries) (Ok k) ≡ Ok l → Few
  few-counted k true q g = no-pass TooManyEntries l g
  few-counted k false q g =
      let e : k ≡ l = cc in
      let o = or-none (ltb most (length (entries_for Bids k))) (ltb most (length (entries_for Asks k))) q in
      let x : length (entries_for Bids k) ≤ most = ltb-false most (length (entries_for Bids k)) o.0 in
      let y : length (entries_for Asks k) ≤ most = ltb-false most (length (entries_for Asks k)) o.1 in
      subst (λ (z : Layout). (length (entries_for Bids z) ≤ most) × (length (entries_for Asks z) ≤ most)) e (x, y)

  few-laid : (r : Option Layout) → laid_out most r ≡ Ok l → Few
  unfolding laid_out counted too_many
  few-laid (Some k) g = few-counted k (too_many most k) refl g
  few-laid None g = no-pass BadLayout l g

  few-addressed : (r : Option Envelope) → addressed most r ≡ Ok l → Few
  unfolding addressed
  few-addressed (Some x) g = at x.ours g
    where
      at : (b : Bool) → cond b (laid_out most x.layout) (Err NotOurs) ≡ Ok l → Few
      at true g = few-laid x.layout g
      at false g = no-pass NotOurs l g
  few-addressed None g = no-pass NotOurs l g

pub framed-few : (t : Config) (s : List ℕ) (l : Layout) → framed t s ≡ Ok l → (length (entries_for Bids l) ≤ 100) × (length (entries_for Asks l) ≤ 100)
unfolding framed
framed-few t s l h = let f = first (ltb (rules_of t.dialect).longest (length s)) (text s) h in let e = few-entries t.dialect in (omega arith, omega arith)
  where
    first : (a b : Bool) → cond a (Err TooLong) (cond b (addressed (rules_of t.dialect).entries (envelope_in t.dialect t s (top s))) (Err NotJson)) ≡ Ok l
        → (length (entries_for Bids l) ≤ (rules_of t.dialect).entries) × (length (entries_for Asks l) ≤ (rules_of t.dialect).entries)
    first true b g = no-pass TooLong l g
    first false true g = few-addressed (rules_of t.dialect).entries l (envelope_in t.dialect t s (top s)) g
    first false false g = no-pass NotJson l g

-- ---- dialect K or M

-- a dialect that can be read
pub data Readable : Dialect → Type 0 where
  is-k : Readable K
  is_m : (e : Edition) → Readable (M e)

pub good-readable : (t : Config) → good t ≡ true → Readable t.dialect
unfolding good good_depth
good-readable t h = go t.dialect refl
  where
    go : (d : Dialect) → t.dialect ≡ d → Readable d
    go K e = is-k
    go (M v) e = is_m v
    go Unknown e = absurd (true≢false (sym h ∙ rw e))
