-- The state after the pieces of orders is that of the text of their book. Assumes nothing.
use Prim.Native.Nat.{ℕ, zero, suc, ◌+◌, ◌*◌, ◌≤◌, ◌<◌}
use mathlib.Core.Path.{◌≡◌, refl, sym, ap, ◌∙◌, subst}
use mathlib.Core.List.{List, [], ◌∷◌, ◌++◌, map}
use native.Mathlib.Omega.{arith}
use lib.Bits.{bit_xor}
use lib.ListN.{length, get_or, take, drop, length-map}
use lib.Seq.{take-take}
use Rattle.text.specs.Text.{joined}
use Rattle.crc32_spec.specs.Crc.{bits, run, start, finish, crc}
use Rattle.settings.specs.declared.SumText.TheVariants.{Stripped}
use Rattle.level.specs.Words.{level_sum, level_length, no_level}
use Rattle.level.specs.Words as level·
use Rattle.level.specs.Ranked.{All}
use Rattle.level.specs.declared.Level.{Level}
use Rattle.level.proofs.All.{all_take, all_append}
use Rattle.piece.specs.Piece.{k_piece}
use Rattle.checksum.specs.Carried.{Carries, summed}
use Rattle.checksum.proofs.Pieces.{level-carries, shown_piece, summed-run, summed-append, summed_turn, summed-done, map-take, map_both}
use Rattle.orders.specs.declared.Order.{Order}
use Rattle.orders.specs.Orders.{SingleOrder, plain}
use Rattle.orders.specs.Orders as orders·
use Rattle.orders.specs.Words.{order_price, order_size, coded, shown, Sound, orders_in, held, no_order}
use Rattle.orders.specs.Kept.{SummedTo}
use Rattle.orders.proofs.Held.{orders-room, held-length}
use Rattle.orders.proofs.Mapping.{map-best}
use Rattle.order_checksum.specs.Text.{order_piece, levels_of}

-- ---- a turn of the loop that sums

level-at : (xs : List Order) (i : ℕ) → get_or (levels_of xs) i no_level ≡ (get_or xs i no_order).level
level-at [] i = refl
level-at (x ∷ xs) zero = refl
level-at (x ∷ xs) (suc i) = level-at xs i

module _ (words : List ℕ) (n : ℕ) (room : 6 * n ≤ length words) where
  abbrev levels : List Level
  levels = levels_of (orders_in words)

  enough : n ≤ length levels
  enough = let h = orders-room n words room in let e = length-map (orders_in words) (λ (x : Order). x.level) in omega arith

  pub held-levels : levels_of (held words n) ≡ take n levels
  unfolding held
  held-levels = map-take (λ (x : Order). x.level) n (orders_in words)

  pub order-turn : (i s r : ℕ) (x : Order) → i < n → x ≡ get_or (orders_in words) i no_order → r ≡ bit_xor (bits (8 * level_length x.level) s) (level_sum x.level)
      → summed r (drop (i + 1) (take n levels)) ≡ summed s (drop i (take n levels))
  order-turn i s r x l e f =
      summed_turn levels i n s r l enough
      (f ∙ ap (λ (y : Level). bit_xor (bits (8 * level_length y) s) (level_sum y)) (ap (λ (y : Order). y.level) e ∙ sym (level-at (orders_in words) i)))

  pub orders-done : (i s : ℕ) → n ≤ i → summed s (drop i (take n levels)) ≡ s
  orders-done i s l = summed-done levels i n s l enough

-- ---- the orders that are summed

sound-carries : (x : Order) → Sound x → Carries k_piece x.level
sound-carries x a =
    subst (Carries k_piece) (sym a.carries) (level-carries Stripped (order_price x) (order_size x) a.price a.size)

all-carry : (s : List Order) → All Sound s → All (Carries k_piece) (levels_of s)
unfolding All
all-carry [] a = tt
all-carry (x ∷ s) a = (sound-carries x a.0, all-carry s a.1)

pieces-shown : (s : List Order) → map (shown_piece k_piece) (map level·.shown (levels_of s)) ≡ map order_piece (map shown s)
unfolding k_piece order_piece shown level·.shown
pieces-shown [] = refl
pieces-shown (x ∷ s) = ap (λ (r : List (List ℕ)). order_piece (shown x) ∷ r) (pieces-shown s)

-- the first n orders of a side, which are those that are summed
module _ (words : List ℕ) (count n : ℕ) (room : 6 * count ≤ length words) (sound : All Sound (held words count)) (t : SummedTo (held words count) n) where
  pub summed-room : 6 * n ≤ length words
  summed-room = let h = held-length words count room in let w = t.within in omega arith

  front : held words n ≡ take n (held words count)
  unfolding held
  front = sym (take-take n count (orders_in words) (let h = held-length words count room in let w = t.within in omega arith))

  pub summed-sound : All Sound (held words n)
  summed-sound = subst (All Sound) (sym front) (all_take Sound n (held words count) sound)

  pub summed-shown : map shown (held words n) ≡ orders·.summed plain (map shown (held words count))
  unfolding orders·.summed shown
  summed-shown = ap (map shown) (front ∙ t.orders) ∙ map-best coded plain shown (λ x. refl) 10 (held words count)

-- ---- both sides

pub both-summed : (bids asks : List Order) → All Sound bids → All Sound asks
    → finish (summed (summed start (levels_of asks)) (levels_of bids)) ≡ crc (joined (map order_piece (map shown asks ++ map shown bids)))
unfolding crc
both-summed bids asks hb ha =
    ap finish
    (sym (summed-append (levels_of asks) (levels_of bids) start)
    ∙ ap (summed start) (sym (map_both (λ (x : Order). x.level) asks bids))
    ∙ summed-run k_piece (levels_of (asks ++ bids)) start (all-carry (asks ++ bids) (all_append Sound asks bids ha hb))
    ∙ ap (λ (l : List (List ℕ)). run start (joined l)) (pieces-shown (asks ++ bids) ∙ ap (map order_piece) (map_both shown asks bids)))
