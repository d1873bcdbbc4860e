-- The kind of a message, and whether it is a snapshot. Assumes nothing.
use mathlib.Core.Path.{◌≡◌, refl, ap}
use mathlib.Core.Bool.{true, false, true≢false, false≢true}
use Rattle.layout.specs.Layout.{is_snapshot}
use Rattle.layout.specs.declared.Kind.{Kind}
use Rattle.layout.specs.declared.Kind.TheVariants.{Snapshot, Update}

pub of-snapshot : {k : Kind} → k ≡ Snapshot → is_snapshot k ≡ true
unfolding is_snapshot
of-snapshot e = ap is_snapshot e

pub of-update : {k : Kind} → k ≡ Update → is_snapshot k ≡ false
unfolding is_snapshot
of-update e = ap is_snapshot e

pub a-snapshot : (k : Kind) → is_snapshot k ≡ true → k ≡ Snapshot
unfolding is_snapshot
a-snapshot Snapshot h = refl
a-snapshot Update h = absurd (false≢true h)

pub an-update : (k : Kind) → is_snapshot k ≡ false → k ≡ Update
unfolding is_snapshot
an-update Snapshot h = absurd (true≢false h)
an-update Update h = refl
