-- `put` meets its contract: the three words from 3k on are the entry's, which comes back out of them; past the end nothing is set.
use Prim.Native.Nat.{◌≤◌, ◌<◌}
use mathlib.Core.Path.{sym, ap, ◌∙◌}
use native.Mathlib.Omega.{arith}
use lib.ListN.{set, length-set}
use Rattle.decimal.specs.Decimal.{number}
use Rattle.decimal.specs.Words.{digits_near}
use Rattle.decimal.proofs.Words.{parts_low}
use Rattle.edit.specs.Edit.{Numbers}
use Rattle.edit.specs.Buffer.{entry_of, entries_in}
use Rattle.edit.proofs.Threes.{threes-length, threes-set, set_past}
use Rattle.edit.proofs.Packing.{side-few, packed, entry-packed}
use Rattle.edit.proofs.put.Goals as goal
use Rattle.edit.proofs.put.Goals.{After-parts_of-s, After-side_number}

low-price : (c : After-parts_of-s) → c.parts_of-p.result.code < 2000
low-price c = let b = c.before.before.before in parts_low (number b.args.price) c.parts_of-p.result b.requires.1.few c.parts_of-p.ensures

low-size : (c : After-parts_of-s) → c.parts_of-s.result.code < 2000
low-size c = let b = c.before.before.before in parts_low (number b.args.size) c.parts_of-s.result b.requires.2.few c.parts_of-s.ensures

few : (c : After-side_number) → c.side_number.result ≤ 1
few c = let h = side-few c.args.side in rw c.side_number.ensures h

pub overflow_mul-codes : goal.overflow_mul-codes
overflow_mul-codes c = let z = low-size (goal.at.overflow_mul-codes c).After-parts_of-s in record { fits = omega arith }

pub overflow_add-codes : goal.overflow_add-codes
overflow_add-codes c = let p = low-price (goal.at.overflow_add-codes c).After-parts_of-s in let z = low-size (goal.at.overflow_add-codes c).After-parts_of-s in record { fits = omega arith }

pub overflow_mul-rest : goal.overflow_mul-rest
overflow_mul-rest c = let h = few (goal.at.overflow_mul-rest c).After-side_number in record { fits = omega arith }

pub overflow_add-rest : goal.overflow_add-rest
overflow_add-rest c = let h = few (goal.at.overflow_add-rest c).After-side_number in let p = low-price (goal.at.overflow_add-rest c).After-parts_of-s in let z = low-size (goal.at.overflow_add-rest c).After-parts_of-s in record { fits = omega arith }

pub returns-then-k-lt-MAX_BUFFERED : goal.returns-then-k-lt-MAX_BUFFERED
unfolding entries_in
returns-then-k-lt-MAX_BUFFERED c =
    let b = c in
    let a = b.args in
    let e : Numbers = record { side = a.side; price = number a.price; size = number a.size } in
    record {
      room = simp length-set b.requires.0;
      entries =
          rw (c.parts_of-p.ensures, c.parts_of-s.ensures, c.side_number.ensures)
          (threes-set entry_of a.k a.buffer.now (digits_near e.price) (digits_near e.size) (packed e b.requires.1 b.requires.2) (omega (arith, b.requires.0))
          ∙ ap (set (entries_in a.buffer.now) a.k) (entry-packed e b.requires.1 b.requires.2));
    }

pub returns-else-k-lt-MAX_BUFFERED : goal.returns-else-k-lt-MAX_BUFFERED
unfolding entries_in
returns-else-k-lt-MAX_BUFFERED c =
    let a = c.args in
    let room = c.requires.0 in
    record {
      room = room;
      entries = sym (set_past (entries_in a.buffer.now) a.k _ (let n = threes-length entry_of 200 a.buffer.now room in omega arith));
    }
