-- What holds of every answer of the checks 2 to 8, and of every layout that passes them, holds of what they give.
-- Assumes nothing.
use Rattle.std.specs.Prelude.{None, Option, Some, Err, Ok, Result}
use mathlib.Core.List.{List, [], ◌∷◌}
use mathlib.Core.Bool.{Bool, true, false, cond}
use Prim.Native.Nat.{ℕ}
use lib.Dec.{ltb}
use lib.ListN.{length}
use Rattle.json_values.specs.Json.{Span, text}
use Rattle.settings.specs.Settings.{Config}
use Rattle.settings.specs.Rules.{rules_of}
use Rattle.entries.specs.Places.{top}
use Rattle.layout.specs.Layout.{Layout, Envelope}
use Rattle.message.specs.Meaning.{too_many, counted, laid_out, addressed, envelope_in, framed, bad, decimals, also_decimals, checked}
use Rattle.answer.specs.declared.Answer.{Answer}
use Rattle.answer.specs.declared.Answer.TheVariants.{TooLong, NotJson, NotOurs, BadLayout, TooManyEntries, BadDecimal}

pub record Refusals (F : Answer → Type 0) : Type 0 where
  pub long : F TooLong
  pub not-json : F NotJson
  pub not_ours : F NotOurs
  pub layout : F BadLayout
  pub entries : F TooManyEntries
  pub decimal : F BadDecimal

-- what holds of whatever is read
abbrev pub Read : {A : Type 0} → (A → Type 0) → Option A → Type 0
Read P (Some a) = P a
Read P None = Unit {0}

abbrev pub Either : (Answer → Type 0) → (Layout → Type 0) → Result Layout Answer → Type 0
Either F P (Err a) = F a
Either F P (Ok l) = P l

module _ (F : Answer → Type 0) (P : Layout → Type 0) (f : Refusals F) where
  laid-either : (most : ℕ) (x : Option Layout) → Read P x → Either F P (laid_out most x)
  unfolding laid_out counted
  laid-either most (Some l) h = at (too_many most l)
    where
      at : (b : Bool) → Either F P (cond b (Err TooManyEntries) (Ok l))
      at true = f.entries
      at false = h
  laid-either most None h = f.layout

  addressed-either : (most : ℕ) (x : Option Envelope) → Read (λ h. Read P h.layout) x → Either F P (addressed most x)
  unfolding addressed
  addressed-either most (Some h) r = at h.ours
    where
      at : (b : Bool) → Either F P (cond b (laid_out most h.layout) (Err NotOurs))
      at true = laid-either most h.layout r
      at false = f.not_ours
  addressed-either most None r = f.not_ours

  framed-either : (t : Config) (s : List ℕ) → Read (λ h. Read P h.layout) (envelope_in t.dialect t s (top s)) → Either F P (framed t s)
  unfolding framed
  framed-either t s r = at (ltb (rules_of t.dialect).longest (length s)) (text s)
    where
      at : (a b : Bool) → Either F P (cond a (Err TooLong) (cond b (addressed (rules_of t.dialect).entries (envelope_in t.dialect t s (top s))) (Err NotJson)))
      at true b = f.long
      at false true = addressed-either (rules_of t.dialect).entries (envelope_in t.dialect t s (top s)) r
      at false false = f.not-json

  decimals-either : (s : List ℕ) (x : Result Layout Answer) → Either F P x → Either F P (also_decimals s x)
  unfolding also_decimals decimals
  decimals-either s (Err a) h = h
  decimals-either s (Ok l) h = at (bad s l)
    where
      at : (x : List Span) → Either F P (elim x [ [] ↦ Ok l | a ∷ rest ↦ Err BadDecimal ])
      at [] = h
      at (a ∷ x) = f.decimal

  pub checked-either : (t : Config) (s : List ℕ) → Read (λ h. Read P h.layout) (envelope_in t.dialect t s (top s)) → Either F P (checked t s)
  unfolding checked
  checked-either t s r = decimals-either s (framed t s) (framed-either t s r)
