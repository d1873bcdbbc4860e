-- A message's entries on one side: what the loop over them keeps, and what it has shown at the end. Assumes nothing.
use Prim.Native.Nat.{ℕ, suc, ◌+◌, ◌*◌, ◌≤◌, ◌<◌}
use mathlib.Core.Path.{◌≡◌, refl, sym, ap, ◌∙◌}
use mathlib.Core.Bool.{Bool, true, false, cond}
use mathlib.Core.List.{List, ◌∷◌}
use native.Mathlib.Numerals.{add-one}
use native.Mathlib.Omega.{arith}
use lib.ListN.{length, get_or, take, drop, drop_of_length-le}
use lib.Seq.{drop-cons, length-take-le, get_or-take}
use Rattle.edit.specs.Edit.{is_same, for_side}
use Rattle.edit.specs.declared.Side.{Side}
use Rattle.level.specs.Ranked.{All}
use Rattle.order_edit.specs.declared.Event.{Event}
use Rattle.order_edit.specs.declared.Event.TheVariants.{Add, Modify, Delete}
use Rattle.order_edit.specs.Buffer.{OrderEntry, entry_side, entries_in, no_entry, max_buffered, buffer_words}
use Rattle.order_edit.specs.Buffer as words
use Rattle.order_edit.proofs.Sixes.{sixes-length}
use Rattle.orders.specs.declared.Order.{Order}
use Rattle.std.specs.Prelude.{Some, None}
use Rattle.orders.specs.Orders.{Entry, adds, modifies, deletes, entry_of, Outcome, taken, clash, OfEntry, clashes, apply, apply_all, BestFirst}
use Rattle.orders.specs.Words.{coded, order_id, held, Sound, EntrySound, order_for, change_of, changes_for}
use Rattle.orders.specs.Kept.{Good, outcome, count_of, AfterOne}
use Rattle.orders.proofs.Places.{all-place, all_changed, all_without, sorted-place, sorted-changed, sorted-without}
use Rattle.orders.proofs.Sided.{all-sided, all-mapped}
use Rattle.orders.proofs.Sounds.{keeps-price, sound-resized, sound-entry}

-- ---- an entry leaves a side in order, and its orders with their sums

pub sorted-apply : (side : Side) (e : Entry Order) (s : List Order) → OfEntry Sound e → All Sound s → BestFirst coded side s → BestFirst coded side (apply coded side e s)
unfolding apply OfEntry
sorted-apply side (adds x) s p a o = sorted-place coded side x s o
sorted-apply side (modifies x) s p a o = sorted-changed coded Sound keeps-price side x p s a o
sorted-apply side (deletes x) s p a o = sorted-without coded side (order_id x) s o

pub sound-apply : (side : Side) (e : Entry Order) (s : List Order) → OfEntry Sound e → All Sound s → All Sound (apply coded side e s)
unfolding apply OfEntry
sound-apply side (adds x) s p a = all-place coded side Sound x s p a
sound-apply side (modifies x) s p a = all_changed coded Sound Sound x s (λ y q r. sound-resized y x q p) a a
sound-apply side (deletes x) s p a = all_without coded Sound (order_id x) s a

event-sound : (event : Event) (x : Order) → Sound x → OfEntry Sound (entry_of event x)
unfolding OfEntry entry_of
event-sound Add x p = p
event-sound Modify x p = p
event-sound Delete x p = p

pub sound-change : (listed : Bool) (e : OrderEntry) → EntrySound e → OfEntry Sound (change_of listed e)
unfolding change_of OfEntry
sound-change true e a = sound-entry e a
sound-change false e a = event-sound e.event (order_for e) (sound-entry e a)

pub sound-changes : (listed : Bool) (side : Side) (es : List OrderEntry) → All EntrySound es → All (OfEntry Sound) (changes_for listed side es)
unfolding changes_for
sound-changes listed side es a = all-mapped EntrySound (OfEntry Sound) (change_of listed) (sound-change listed) (for_side entry_side side es) (all-sided EntrySound side es a)

-- ---- the entries of a buffer

module _ (buffer : List ℕ) (count : ℕ) (wide : length buffer ≡ buffer_words) (few : count ≤ max_buffered) where
  pub entries-length : length (take count (entries_in buffer)) ≡ count
  unfolding entries_in
  entries-length = let l = sixes-length words.entry_of max_buffered buffer wide in length-take-le count (entries_in buffer) (omega (arith, l))

  pub entry_at : (k : ℕ) → k < count → get_or (take count (entries_in buffer)) k no_entry ≡ get_or (entries_in buffer) k no_entry
  entry_at k h = get_or-take count (entries_in buffer) k no_entry h

-- ---- what one entry answered

abbrev tried : Bool → List Order → Outcome Order
tried t s = cond t clash (taken s)

taken-not-clash : (x : List Order) → taken x ≡ clash → ⊥
taken-not-clash x e = let z : ◌≡◌ {A = ℕ} 0 1 = cc in omega arith

taken-clear : (t : Bool) (x s : List Order) → taken x ≡ tried t s → t ≡ false
taken-clear true x s e = absurd (taken-not-clash x e)
taken-clear false x s e = refl

taken-same : (t : Bool) (x s : List Order) → taken x ≡ tried t s → x ≡ s
taken-same true x s e = absurd (taken-not-clash x e)
taken-same false x s e = cc

clash-clear : (t : Bool) (s : List Order) → clash ≡ tried t s → t ≡ true
clash-clear true s e = refl
clash-clear false s e = absurd (taken-not-clash s (sym e))

-- ---- the loop

-- how many entries are for a side
abbrev pub own : Side → List OrderEntry → ℕ
own side es = length (for_side entry_side side es)

-- the side s, of n₀ orders in as many words as now, has had k entries, and is now the first n orders of the words
pub record Turn (listed : Bool) (side : Side) (other : List Order) (es : List OrderEntry) (s : List Order) (n₀ wide : ℕ) (words : List ℕ) (n k : ℕ) : Type 0 where
  pub room : length words ≡ wide
  pub within : k ≤ length es
  pub few : n + own side (drop k es) ≤ n₀ + own side es
  pub good : Good side words n
  pub sound : All EntrySound (drop k es)
  pub rest : apply_all coded side other (changes_for listed side (drop k es)) (held words n) ≡ apply_all coded side other (changes_for listed side es) s

module _ (listed : Bool) (side : Side) (e : OrderEntry) (es : List OrderEntry) where
  own-more : is_same (entry_side e) side ≡ true → own side (e ∷ es) ≡ suc (own side es)
  unfolding for_side
  own-more h = simp h

  own-none : is_same (entry_side e) side ≡ false → own side (e ∷ es) ≡ own side es
  unfolding for_side
  own-none h = simp h

  changes-more : is_same (entry_side e) side ≡ true → changes_for listed side (e ∷ es) ≡ change_of listed e ∷ changes_for listed side es
  unfolding changes_for for_side
  changes-more h = simp h

  changes-none : is_same (entry_side e) side ≡ false → changes_for listed side (e ∷ es) ≡ changes_for listed side es
  unfolding changes_for for_side
  changes-none h = simp h

module _ (listed : Bool) (side : Side) (other : List Order) (es : List OrderEntry) (s : List Order) (n₀ wide : ℕ) (wide_enough : 6 * (n₀ + own side es) ≤ wide)
    (words : List ℕ) (n k : ℕ) (t : Turn listed side other es s n₀ wide words n k) where
  abbrev this : OrderEntry
  this = get_or es k no_entry

  module _ (h : k < length es) where
    next : drop k es ≡ this ∷ drop (suc k) es
    next = drop-cons es k no_entry h

    pub sound-next : EntrySound this
    unfolding All
    sound-next = (rw next at t.sound).0

    sound_more : All EntrySound (drop (k + 1) es)
    unfolding All
    sound_more = rw add-one (rw next at t.sound).1

    -- the next entry is for the other side
    pub turn-skip : is_same (entry_side this) side ≡ false → Turn listed side other es s n₀ wide words n (k + 1)
    turn-skip d =
        let less : own side (drop k es) ≡ own side (drop (suc k) es) = ap (own side) next ∙ own-none listed side this (drop (suc k) es) d in
        let same : changes_for listed side (drop k es) ≡ changes_for listed side (drop (suc k) es) = ap (changes_for listed side) next ∙ changes-none listed side this (drop (suc k) es) d in
        record {
          room = t.room;
          within = omega arith;
          few = rw add-one (omega (arith, t.few, less));
          good = t.good;
          sound = sound_more;
          rest = rw add-one (rw same at t.rest);
        }

    -- the next entry is for this side
    module _ (d : is_same (entry_side this) side ≡ true) where
      more : own side (drop k es) ≡ suc (own side (drop (suc k) es))
      more = ap (own side) next ∙ own-more listed side this (drop (suc k) es) d

      changes : changes_for listed side (drop k es) ≡ change_of listed this ∷ changes_for listed side (drop (suc k) es)
      changes = ap (changes_for listed side) next ∙ changes-more listed side this (drop (suc k) es) d

      pub turn-room : 6 * (n + 1) ≤ length words
      turn-room = omega (arith, t.few, t.room, wide_enough, more)

      abbrev Met : Bool
      Met = clashes coded other (change_of listed this) (held words n)

      abbrev Then : List Order
      Then = apply coded side (change_of listed this) (held words n)

      pub turn_step : (after : List ℕ) (m : ℕ) → AfterOne Met Then words n after (Some m) → Turn listed side other es s n₀ wide after m (k + 1)
      unfolding outcome count_of apply_all
      turn_step after m a =
          let e : held after m ≡ Then = taken-same Met (held after m) Then a.outcome in
          let clear : Met ≡ false = taken-clear Met (held after m) Then a.outcome in
          record {
            room = a.room ∙ t.room;
            within = omega arith;
            few = rw add-one (omega (arith, t.few, a.few, more));
            good = record {
              room = omega (arith, t.few, t.room, a.room, a.few, wide_enough, more);
              sorted = rw e (sorted-apply side (change_of listed this) (held words n) (sound-change listed this sound-next) t.good.sound t.good.sorted);
              sound = rw e (sound-apply side (change_of listed this) (held words n) (sound-change listed this sound-next) t.good.sound);
            };
            sound = sound_more;
            rest = rw (add-one, e) (rw (changes, clear) at t.rest);
          }

      pub turn-clash : (after : List ℕ) → AfterOne Met Then words n after None → clash ≡ apply_all coded side other (changes_for listed side es) s
      unfolding outcome apply_all
      turn-clash after a =
          let met : Met ≡ true = clash-clear Met Then a.outcome in
          rw (changes, met) at t.rest

  pub turn_end : length es ≤ k → taken (held words n) ≡ apply_all coded side other (changes_for listed side es) s
  unfolding apply_all changes_for for_side
  turn_end h = rw (drop_of_length-le es h) at t.rest

-- of no order, everything holds
pub none-good : (side : Side) (words : List ℕ) → Good side words 0
unfolding held BestFirst All
none-good side words = record { room = omega arith; sorted = tt; sound = tt }
