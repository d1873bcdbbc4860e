-- What one dialect has other than another, in numbers. Assumes nothing: these are definitions.
use Rattle.std.specs.Prelude.{ℕ, Bool, true, false}
use Rattle.settings.specs.declared.Dialect.{Dialect}
use Rattle.settings.specs.declared.Dialect.TheVariants.{K, M, Unknown}
use Rattle.settings.specs.declared.Edition.{Edition}
use Rattle.settings.specs.declared.Edition.TheVariants.{M1, M2}
use Rattle.settings.specs.declared.Rules.{Rules}
use Rattle.settings.specs.declared.SumText.TheVariants.{Stripped, Interleaved}

-- M1 sums all levels that may stand; M2 sums the 25 best a side, and links an update to the sequence number before it.
unfoldable pub summed_in : Edition → ℕ
summed_in M1 = 100
summed_in M2 = 25

unfoldable pub is_linked : Edition → Bool
is_linked M1 = false
is_linked M2 = true

-- K sums its ten best levels a side and cuts a side to the depth. M cuts none, and numbers its messages.
unfoldable pub rules_of : Dialect → Rules
rules_of K = record { longest = 32768; entries = 100; levels = 100; summed = 10; text = Stripped; cut = true; numbered = false; linked = false }
rules_of (M e) = record { longest = 32768; entries = 100; levels = 100; summed = summed_in e; text = Interleaved; cut = false; numbered = true; linked = is_linked e }
rules_of Unknown = record { longest = 0; entries = 0; levels = 0; summed = 0; text = Stripped; cut = false; numbered = false; linked = false }
