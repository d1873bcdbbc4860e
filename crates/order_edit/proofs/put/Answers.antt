-- `put` meets its contract: the six words from 6k on are the entry's, which comes back out of them; past the end nothing is set.
use Prim.Native.Nat.{◌≤◌, ◌<◌}
use mathlib.Core.Path.{sym, ap, ◌∙◌}
use native.Mathlib.Omega.{arith}
use lib.ListN.{set, length-set}
use Rattle.decimal.specs.Decimal.{number}
use Rattle.decimal.specs.Words.{digits_near}
use Rattle.decimal.proofs.Words.{parts_low}
use Rattle.edit.proofs.Packing.{side-few}
use Rattle.edit.proofs.Threes.{set_past}
use Rattle.order_edit.specs.Buffer.{OrderEntry, max_buffered, order_entry, entry_of, entries_in}
use Rattle.order_edit.proofs.Sixes.{stored, sixes-length, sixes-set}
use Rattle.order_edit.proofs.Packing.{event-few, packed, entry-packed}
use Rattle.order_edit.proofs.put.Goals as goal
use Rattle.order_edit.proofs.put.Goals.{After-event_number}

low-price : (c : After-event_number) → c.parts_of-p.result.code < 2000
low-price c =
    let b = c.before.before.before.before.before in
    parts_low (number b.args.entry.price) c.parts_of-p.result b.requires.1.few c.parts_of-p.ensures

low-size : (c : After-event_number) → c.parts_of-s.result.code < 2000
low-size c =
    let b = c.before.before.before.before.before in
    parts_low (number b.args.entry.size) c.parts_of-s.result b.requires.2.few c.parts_of-s.ensures

few-side : (c : After-event_number) → c.side_number.result ≤ 1
few-side c = let h = side-few c.args.entry.side in rw c.side_number.ensures h

few-event : (c : After-event_number) → c.event_number.result ≤ 2
few-event c = let h = event-few c.args.entry.event in rw c.event_number.ensures h

pub overflow_mul-marks : goal.overflow_mul-marks
overflow_mul-marks c = let e = few-event (goal.at.overflow_mul-marks c).After-event_number in record { fits = omega arith }

pub overflow_add-marks : goal.overflow_add-marks
overflow_add-marks c = let s = few-side (goal.at.overflow_add-marks c).After-event_number in let e = few-event (goal.at.overflow_add-marks c).After-event_number in record { fits = omega arith }

pub overflow_mul-codes : goal.overflow_mul-codes
overflow_mul-codes c = let z = low-size (goal.at.overflow_mul-codes c).After-event_number in record { fits = omega arith }

pub overflow_add-codes : goal.overflow_add-codes
overflow_add-codes c = let p = low-price (goal.at.overflow_add-codes c).After-event_number in let z = low-size (goal.at.overflow_add-codes c).After-event_number in record { fits = omega arith }

pub overflow_mul-buffer : goal.overflow_mul-buffer
overflow_mul-buffer c = let s = few-side (goal.at.overflow_mul-buffer c).After-event_number in let e = few-event (goal.at.overflow_mul-buffer c).After-event_number in record { fits = omega arith }

pub overflow_add-buffer-then-k-lt-MAX_BUFFERED : goal.overflow_add-buffer-then-k-lt-MAX_BUFFERED
overflow_add-buffer-then-k-lt-MAX_BUFFERED c =
    let s = few-side (goal.at.overflow_add-buffer-then-k-lt-MAX_BUFFERED c).After-event_number in
    let e = few-event (goal.at.overflow_add-buffer-then-k-lt-MAX_BUFFERED c).After-event_number in
    let p = low-price (goal.at.overflow_add-buffer-then-k-lt-MAX_BUFFERED c).After-event_number in
    let z = low-size (goal.at.overflow_add-buffer-then-k-lt-MAX_BUFFERED c).After-event_number in
    record { fits = omega arith }

pub returns-then-k-lt-MAX_BUFFERED : goal.returns-then-k-lt-MAX_BUFFERED
unfolding entries_in stored
returns-then-k-lt-MAX_BUFFERED c =
    let b = c in
    let a = b.args in
    let e : OrderEntry = order_entry a.entry in
    record {
      room = simp length-set b.requires.0;
      entries =
          rw (c.parts_of-p.ensures, c.parts_of-s.ensures, c.side_number.ensures, c.event_number.ensures)
          (sixes-set entry_of a.k a.buffer.now (digits_near e.price) (digits_near e.size) (packed e b.requires.1 b.requires.2) e.id.first e.id.second e.id.third (omega (arith, b.requires.0))
          ∙ ap (set (entries_in a.buffer.now) a.k) (entry-packed e b.requires.1 b.requires.2));
    }

pub returns-else-k-lt-MAX_BUFFERED : goal.returns-else-k-lt-MAX_BUFFERED
unfolding entries_in
returns-else-k-lt-MAX_BUFFERED c =
    let a = c.args in
    let room = c.requires.0 in
    record {
      room = room;
      entries = sym (set_past (entries_in a.buffer.now) a.k _ (let n = sixes-length entry_of max_buffered a.buffer.now room in omega arith));
    }
