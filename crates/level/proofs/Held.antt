-- How many levels a side has, the level at a place of a list, and a side with no level. Assumes nothing.
use Prim.Native.Nat.{ℕ, zero, suc, ◌<◌, ◌≤◌}
use mathlib.Core.Path.{◌≡◌, refl}
use native.Mathlib.Omega.{arith}
use mathlib.Core.List.{List, [], ◌∷◌}
use native.Mathlib.Nat.{le_of_suc-le-suc, not-suc-le-zero}
use lib.ListN.{length, get_or}
use lib.Seq.{length-take-le}
use Rattle.edit.specs.declared.Side.{Side}
use Rattle.edit.specs.declared.Side.TheVariants.{Bids, Asks}
use Rattle.level.specs.declared.Level.{Level}
use Rattle.level.specs.declared.Levels.{Levels}
use Rattle.std.specs.Prelude.{None, Some}
use Rattle.level.specs.Words.{levels_in}
use Rattle.level.specs.Kept.{max_levels, max_words, held, level_at, Good, Empty}
use Rattle.level.proofs.Stored.{length-levels}

pub held-length : (kept : Levels) → kept.count ≤ max_levels → length kept.words ≡ max_words → length (held kept) ≡ kept.count
unfolding held
held-length kept few room = length-take-le kept.count (levels_in kept.words) (omega (arith, length-levels max_levels kept.words room))

pub level_in : (s : List Level) (i : ℕ) (d : Level) → i < length s → level_at i s ≡ Some (get_or s i d)
unfolding level_at
level_in [] i d h = absurd (not-suc-le-zero h)
level_in (x ∷ s) zero d h = refl
level_in (x ∷ s) (suc i) d h = level_in s i d (le_of_suc-le-suc h)

pub level-past : (s : List Level) (i : ℕ) → length s ≤ i → level_at i s ≡ None
unfolding level_at
level-past [] i h = refl
level-past (x ∷ s) zero h = absurd (not-suc-le-zero h)
level-past (x ∷ s) (suc i) h = level-past s i (le_of_suc-le-suc h)

pub empty-good : {kept : Levels} → Empty kept → (side : Side) → Good side kept
empty-good e Bids = e.bids
empty-good e Asks = e.asks
