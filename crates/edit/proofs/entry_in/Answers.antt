-- `entry_in` meets its contract: entry k is the three words from 3k on.
use native.Mathlib.Omega.{arith}
use Rattle.edit.specs.Buffer.{entry_of, entries_in, no_numbers}
use Rattle.edit.proofs.Threes.{threes-at}
use Rattle.edit.proofs.entry_in.Goals as goal

pub returns : goal.returns
unfolding entries_in entry_of
returns c =
    let b = c in
    rw (c.of_parts-price.ensures, c.of_parts-size.ensures, c.side_in.ensures)
    (threes-at entry_of b.args.k b.args.buffer.now no_numbers (omega (arith, b.requires.0, b.requires.1)))
