-- The orders that a list of words holds: how many, and the one at a place; a side in words. Assumes nothing.
use Prim.Native.Nat.{ℕ, ◌*◌, ◌<◌, ◌≤◌}
use mathlib.Core.Path.{◌≡◌}
use mathlib.Core.List.{List}
use lib.ListN.{length, get_or}
use lib.Seq.{length-take-le, get_or-take}
use Rattle.order_edit.proofs.Sixes.{sixes-room}
use Rattle.orders.specs.Words.{six_words, orders_in, held, no_order}

pub orders-room : (n : ℕ) (words : List ℕ) → 6 * n ≤ length words → n ≤ length (orders_in words)
unfolding orders_in
orders-room n words h = sixes-room six_words n words h

pub held-length : (words : List ℕ) (n : ℕ) → 6 * n ≤ length words → length (held words n) ≡ n
unfolding held
held-length words n h = length-take-le n (orders_in words) (orders-room n words h)

pub held_at : (words : List ℕ) (n i : ℕ) → i < n → get_or (held words n) i no_order ≡ get_or (orders_in words) i no_order
unfolding held
held_at words n i h = get_or-take n (orders_in words) i no_order h
