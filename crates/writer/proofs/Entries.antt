-- Laws of the entries of a side: the texts that they are laid from. Assumes nothing.
use mathlib.Core.Path.{◌≡◌, subst}
use mathlib.Core.Bool.{Bool, true, false, cond}
use mathlib.Core.List.{List, [], ◌++◌, append_assoc}
use Prim.Native.Nat.{ℕ, ◌+◌, ◌-◌, ◌≤◌, ◌<◌}
use native.Mathlib.Omega.{arith}
use lib.ListN.{length, get_or, drop, length-append}
use lib.Seq.{get_or-take, length-take-le}
use Rattle.text.specs.Text.{ascii}
use Rattle.decimal.specs.Decimal.{text}
use Rattle.decimal.proofs.Text.{length-text}
use Rattle.level.specs.declared.Level.{Level}
use Rattle.level.specs.declared.Levels.{Levels}
use Rattle.level.specs.Words.{level_price, level_size, shown}
use Rattle.level.specs.Words.{levels_in, no_level}
use Rattle.level.specs.Kept.{max_levels, held}
use Rattle.level.proofs.All.{all-at}
use Rattle.level.proofs.Stored.{length-levels}
use Rattle.writer.specs.Snapshot.{quoted, comma_joined, array, k_entry, m_entry}
use Rattle.writer.specs.Parts.{entry, next_entry, entries, Writable, WritableSide, max_entry}
use Rattle.writer.proofs.Joined.{Listed, listed}
use Rattle.writer.proofs.Joined as Joined

-- What follows the size.
unfoldable pub closing : Bool → List ℕ
closing stamped = cond stamped (ascii "\",\"0.000000\"]") (ascii "\"]")

pub stamped-closing : {stamped : Bool} → stamped ≡ true → closing stamped ≡ ascii "\",\"0.000000\"]"
unfolding closing
stamped-closing e = rw e

pub plain-closing : {stamped : Bool} → stamped ≡ false → closing stamped ≡ ascii "\"]"
unfolding closing
plain-closing e = rw e

abbrev pub from_size : Bool → Level → List ℕ
from_size stamped level = text (level_size level) ++ closing stamped

abbrev pub from_price : Bool → Level → List ℕ
from_price stamped level = text (level_price level) ++ (ascii "\",\"" ++ from_size stamped level)

pub entry-parts : (stamped : Bool) (level : Level) → entry stamped level ≡ ascii "[\"" ++ from_price stamped level
unfolding entry k_entry m_entry array quoted comma_joined shown closing
entry-parts true level = simp append_assoc
entry-parts false level = simp append_assoc

pub length-entry : (stamped : Bool) (level : Level) → length (entry stamped level) ≡ 5 + length (text (level_price level)) + length (text (level_size level)) + length (closing stamped)
length-entry stamped level = rw entry-parts (simp length-append (omega arith))

closing-short : (stamped : Bool) → length (closing stamped) ≤ 13
unfolding closing
closing-short true = omega arith
closing-short false = omega arith

pub entry-short : (stamped : Bool) (level : Level) → Writable level → length (entry stamped level) ≤ max_entry
entry-short stamped level w =
    let e = length-entry stamped level in
    let p = length-text (level_price level) w.price in
    let s = length-text (level_size level) w.size in
    let k = closing-short stamped in
    omega arith

-- ---- entries, each after a comma

abbrev pub led : Bool → List Level → List ℕ
led stamped = Joined.led (entry stamped)

-- ---- the entries of a side from a place on

-- The level at a place, as the code reads it.
abbrev pub level_in : Levels → ℕ → Level
level_in kept i = get_or (levels_in kept.words) i no_level

module _ (stamped : Bool) (kept : Levels) (writable : WritableSide kept) where
  count_held : length (held kept) ≡ kept.count
  unfolding held
  count_held =
      let f = writable.few in
      let l = length-levels max_levels kept.words writable.room in
      length-take-le kept.count (levels_in kept.words) (omega arith)

  at_place : (i : ℕ) → i < kept.count → get_or (held kept) i no_level ≡ level_in kept i
  unfolding held
  at_place i inside = get_or-take kept.count (levels_in kept.words) i no_level inside

  levels : Listed (held kept) kept.count (level_in kept)
  levels = listed no_level count_held at_place

  module _ (i : ℕ) (inside : i < kept.count) where
    pub writable-at : Writable (level_in kept i)
    writable-at = let n = count_held in subst Writable (at_place i inside) (all-at Writable (held kept) i no_level (omega arith) writable.levels)

    pub led-next : led stamped (drop i (held kept)) ≡ next_entry stamped (level_in kept i) ++ led stamped (drop (i + 1) (held kept))
    unfolding next_entry
    led-next = Joined.led-next (entry stamped) levels i inside

    pub length-led : length (led stamped (drop i (held kept))) ≡ 1 + length (entry stamped (level_in kept i)) + length (led stamped (drop (i + 1) (held kept)))
    length-led = Joined.length-led (entry stamped) levels i inside

  pub led-end : (i : ℕ) → kept.count ≤ i → led stamped (drop i (held kept)) ≡ []
  led-end i past = Joined.led-end (entry stamped) levels i past

  pub entries-some : 0 < kept.count → entries stamped kept ≡ entry stamped (level_in kept 0) ++ led stamped (drop 1 (held kept))
  unfolding entries
  entries-some some = Joined.joined-some (entry stamped) levels some

  pub entries_none : kept.count ≡ 0 → entries stamped kept ≡ []
  unfolding entries
  entries_none zero = Joined.joined-none (entry stamped) levels zero

  pub length-entries : length (entries stamped kept) ≡ length (led stamped (held kept)) - 1
  unfolding entries
  length-entries = Joined.length-joined (entry stamped) (held kept)
