-- `level_at` meets its contract: a place below the count is in the list, and any other past its end.
use mathlib.Core.Path.{◌≡◌, sym, ap, ◌∙◌}
use native.Mathlib.Omega.{arith}
use borrow.Author.Rules.{rules}
use lib.ListN.{length}
use lib.Seq.{get_or-take}
use Rattle.std.specs.Prelude.{Some}
use Rattle.level.specs.Words.{levels_in, no_level}
use Rattle.level.specs.Kept.{max_words, held}
use Rattle.level.proofs.Held.{held-length, level_in, level-past}
use Rattle.level.proofs.level_at.Goals as goal
use Rattle.level.proofs.level_at.Goals.{Start}

room : (s : Start) → length s.args.kept.words ≡ max_words
room s = search rules

long : (s : Start) → length (held s.args.kept) ≡ s.args.kept.count
long s = held-length s.args.kept s.requires (room s)

pub returns-then-i-kept : goal.returns-then-i-kept
unfolding held
returns-then-i-kept c =
    let s = (goal.at.returns-then-i-kept c).Start in
    ap Some c.level_in.ensures
    ∙ sym (level_in (held s.args.kept) s.args.i no_level (omega (arith, long s, c.if-i-kept.true))
    ∙ ap Some (get_or-take s.args.kept.count (levels_in s.args.kept.words) s.args.i no_level c.if-i-kept.true))

pub returns-else-i-kept : goal.returns-else-i-kept
returns-else-i-kept c = sym (level-past (held c.args.kept) c.args.i (omega (arith, long (goal.at.returns-else-i-kept c).Start, c.if-i-kept.false)))
