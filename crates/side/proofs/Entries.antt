-- A message's entries on one side: what the loop over them keeps, and what it has shown at the end. An entry for the other side changes nothing.
-- Assumes nothing.
use Prim.Native.Nat.{ℕ, suc, ◌+◌, ◌*◌, ◌≤◌, ◌<◌, min}
use mathlib.Core.Path.{◌≡◌, refl, sym, ap, ap₂, ◌∙◌, subst}
use mathlib.Core.Bool.{Bool, true, false, ◌||◌, or_assoc, or-false}
use mathlib.Core.List.{List, [], ◌∷◌}
use native.Mathlib.Nat.{add_assoc, add-zero, zero-add, min_comm, min-le_right}
use Rattle.std.proofs.lemmas.List.{take_min}
use native.Mathlib.Numerals.{add-one}
use native.Mathlib.Omega.{arith}
use lib.Dec.{eqb, lit<, lit≤}
use lib.ListN.{length, get_or, take, drop, drop_of_length-le, length-map}
use lib.Seq.{drop-cons, take-take, length-take-le, get_or-take}
use Rattle.decimal.specs.Decimal.{number, value}
use Rattle.decimal.specs.Limits.{order, Within}
use Rattle.decimal.specs.declared.Decimal.{Decimal}
use Rattle.std.specs.declared.cmp.Ordering.{Ordering}
use Rattle.std.specs.Ordering.{is_eq}
use Rattle.edit.specs.declared.Side.{Side}
use Rattle.level.specs.declared.Level.{Level}
use Rattle.level.specs.Words.{level_price, level_size}
use Rattle.edit.specs.Edit.{Edit, sets, removes, Numbers, is_same, for_side, side_of}
use Rattle.edit.specs.Buffer.{entry_of, entries_in, no_numbers}
use Rattle.settings.specs.declared.SumText.{SumText}
use Rattle.level.specs.Side.{nearer, without, apply_all, ranked}
use Rattle.level.specs.Ranked.{All, after_message, replaces, replaced, Sorted, map_edit, IfSet}
use Rattle.level.specs.Moved.{moves, moved}
use Rattle.edit.specs.Edit.{named}
use Rattle.level.specs.Order.{ahead_of}
use Rattle.level.specs.Words.{no_level, level_plain, change_of}
use Rattle.checksum.specs.Carried.{level_for}
use Rattle.checksum.proofs.Pieces.{level-price}
use Rattle.side.specs.Applying.{EntryWithin, LevelWithin, with_sum, Given, changes_for}
use Rattle.level.proofs.Changes.{made-price, made-size, change-named, change-holds, change-map}
use Rattle.edit.proofs.Threes.{threes-length}
use Rattle.level.proofs.Order.{ahead-is, equal_is}
use Rattle.level.proofs.All.{all-at}
use Rattle.level.proofs.Ranking.{all_without, all-place, apply_ranked, all_ranked, commute-all, sorted-ranked, sorted-entry}
use Rattle.level.proofs.Lengths.{length-ranked}
use Rattle.level.proofs.Meeting.{met_ranked, met-ranked}
use Rattle.level.proofs.Moving.{moved_ranked, moved-ranked, moves-le}

-- a price that can be compared
abbrev pub Sound : Level → Type 0
Sound level = Within (level_price level)

abbrev pub SoundEdit : Edit Level → Type 0
SoundEdit e = Within (named level_price e)

sound-entry : (side : Side) (e : Edit Level) (s : List Level) → SoundEdit e → All Sound s → All Sound (apply_ranked level_price side e s)
unfolding apply_ranked named
sound-entry side (sets level) s p a =
    all-place level_price Sound side level (without level_price (value (level_price level)) s) p (all_without level_price Sound (value (level_price level)) s a)
sound-entry side (removes p) s t a = all_without level_price Sound (value p) s a

-- ---- the entries of a buffer

pub given-length : {side : Side} {buffer : List ℕ} {count : ℕ} → Given side buffer count → length (take count (entries_in buffer)) ≡ count
unfolding entries_in
given-length {side} {buffer} {count} g = length-take-le count (entries_in buffer) (omega (arith, g.few, threes-length entry_of 200 buffer g.room))

-- ---- what entries do to a side, one after the other

-- what an entry does
abbrev pub does : SumText → Numbers → Edit Level
does text e = change_of (level_for text) e

pub does-named : (text : SumText) (e : Numbers) → EntryWithin e → named level_price (does text e) ≡ e.price
does-named text e w = change-named (level_for text) e level_price (level-price text e.price e.size w.0 w.1)

-- the level without a sum has the entry's price and size
plain-price : (e : Numbers) → EntryWithin e → level_price (level_plain e.price e.size) ≡ e.price
plain-price e w = made-price e.price e.size 0 0 w.0 w.1 (lit< tt) (lit≤ tt)

plain_size : (e : Numbers) → EntryWithin e → level_size (level_plain e.price e.size) ≡ e.size
plain_size e w = made-size e.price e.size 0 0 w.0 w.1 (lit< tt) (lit≤ tt)

-- the code's entry does so, once its level has its sum
pub summed-does : (text : SumText) (e : Numbers) → EntryWithin e → map_edit (with_sum text) (change_of level_plain e) ≡ does text e
summed-does text e w = change-map level_plain (with_sum text) (level_for text) e (ap₂ (level_for text) (plain-price e w) (plain_size e w))

pub plain-within : (e : Numbers) → EntryWithin e → IfSet LevelWithin (change_of level_plain e)
plain-within e w =
    change-holds level_plain e LevelWithin
    (subst Within (sym (plain-price e w)) w.0, subst Within (sym (plain_size e w)) w.1)

module _ (text : SumText) (side : Side) where
  changes-none : changes_for text side [] ≡ []
  unfolding changes_for for_side
  changes-none = refl

  changes-own : (e : Numbers) (es : List Numbers) → is_same e.side side ≡ true → changes_for text side (e ∷ es) ≡ does text e ∷ changes_for text side es
  unfolding changes_for for_side
  changes-own e es h = rw h

  changes-other : (e : Numbers) (es : List Numbers) → is_same e.side side ≡ false → changes_for text side (e ∷ es) ≡ changes_for text side es
  unfolding changes_for for_side
  changes-other e es h = rw h

  length-changes : (es : List Numbers) → length (changes_for text side es) ≡ length (for_side side_of side es)
  unfolding changes_for
  length-changes es = length-map (for_side side_of side es) (does text)

-- the side s, of n₀ levels, has had k entries, and is now the n levels at the front of a; they moved `gone` levels; `seen`: one of them met a level
pub record Turn (text : SumText) (side : Side) (es : List Numbers) (s : List Level) (n₀ : ℕ) (a : List Level) (n gone : ℕ) (seen : Bool) (k : ℕ) : Type 0 where
  pub long : length a ≡ 200
  pub fits : n ≤ 200
  pub within : k ≤ length es
  pub few : n + length (changes_for text side (drop k es)) ≤ n₀ + length (changes_for text side es)
  pub sorted : Sorted level_price side (take n a)
  pub sound : All Sound (take n a)
  pub rest : all_ranked level_price side (changes_for text side (drop k es)) (take n a) ≡ all_ranked level_price side (changes_for text side es) s
  pub small : gone ≤ 200 * k
  pub moving : gone + moved_ranked level_price side (changes_for text side (drop k es)) (take n a) ≡ moved_ranked level_price side (changes_for text side es) s
  pub meeting : (seen || met_ranked level_price side (changes_for text side (drop k es)) (take n a)) ≡ met_ranked level_price side (changes_for text side es) s

module _ (text : SumText) (side : Side) (es : List Numbers) (s : List Level) (n₀ : ℕ) (stood : n₀ ≤ 100) (come : length (for_side side_of side es) ≤ 100) where
  pub turn-start : (a : List Level) → length a ≡ 200 → take n₀ a ≡ s → Sorted level_price side s → All Sound s → Turn text side es s n₀ a n₀ 0 false 0
  turn-start a l e o t = record {
    long = l;
    fits = omega arith;
    within = omega arith;
    few = omega arith;
    sorted = rw e o;
    sound = rw e t;
    rest = rw e;
    small = omega arith;
    moving = rw (e, zero-add);
    meeting = rw e;
  }

  module _ (a : List Level) (n gone k : ℕ) (seen : Bool) (t : Turn text side es s n₀ a n gone seen k) (h : k < length es) where
    -- the k-th entry
    abbrev pub entry : Numbers
    entry = get_or es k no_numbers

    next : drop k es ≡ entry ∷ drop (suc k) es
    next = drop-cons es k no_numbers h

    -- ---- it is for the other side
    pub turn-pass : is_same entry.side side ≡ false → Turn text side es s n₀ a n gone seen (k + 1)
    turn-pass other =
        let same : changes_for text side (drop k es) ≡ changes_for text side (drop (suc k) es)
        = ap (changes_for text side) next ∙ changes-other text side entry (drop (suc k) es) other in
        record {
          long = t.long;
          fits = t.fits;
          within = omega arith;
          few = rw (add-one, ← same) t.few;
          sorted = t.sorted;
          sound = t.sound;
          rest = rw (add-one, ← same) t.rest;
          small = let h = t.small in omega arith;
          moving = rw (add-one, ← same) t.moving;
          meeting = rw (add-one, ← same) t.meeting;
        }

    -- ---- it is for this side
    module _ (own : is_same entry.side side ≡ true) where
      next-own : changes_for text side (drop k es) ≡ does text entry ∷ changes_for text side (drop (suc k) es)
      next-own = ap (changes_for text side) next ∙ changes-own text side entry (drop (suc k) es) own

      -- there is room for one level more
      pub turn-room : n < 200
      turn-room = let l = rw next-own at t.few in omega (arith, length-changes text side es)

      pub turn_step : EntryWithin entry → (c : List Level) (m by : ℕ) (now : Bool) → length c ≡ 200 → m ≤ n + 1
          → take m c ≡ apply_ranked level_price side (does text entry) (take n a)
          → by ≡ moves level_price side (does text entry) (take n a)
          → now ≡ (seen || replaces level_price (does text entry) (take n a))
          → Turn text side es s n₀ c m (gone + by) now (k + 1)
      unfolding all_ranked met_ranked moved_ranked
      turn_step w c m by now l q e g f = record {
        long = l;
        fits = omega (arith, turn-room);
        within = omega arith;
        few = rw add-one (let f = rw next-own at t.few in omega arith);
        sorted = rw e (sorted-entry level_price side (does text entry) (take n a) t.sorted);
        sound = rw e (sound-entry side (does text entry) (take n a) (subst Within (sym (does-named text entry w)) w.0) t.sound);
        rest = rw (add-one, e) (rw next-own at t.rest);
        small =
            let h = moves-le level_price side (does text entry) (take n a) in
            let o = length-take-le n a (omega (arith, t.fits, t.long)) in
            omega (arith, t.small, t.fits);
        moving = rw (add-one, e, g) (add_assoc gone (moves level_price side (does text entry) (take n a)) _ ∙ (rw next-own at t.moving));
        meeting = rw (add-one, e, f) (or_assoc seen (replaces level_price (does text entry) (take n a)) _ ∙ (rw next-own at t.meeting));
      }

-- after the last entry
module _ (text : SumText) (side : Side) (es : List Numbers) (s : List Level) (n₀ : ℕ) (a : List Level) (n gone k : ℕ) (seen : Bool)
    (t : Turn text side es s n₀ a n gone seen k) (h : length es ≤ k) (o : Sorted level_price side s) where
  abbrev all : List (Edit Level)
  all = changes_for text side es

  none_left : changes_for text side (drop k es) ≡ []
  none_left = ap (changes_for text side) (drop_of_length-le es h) ∙ changes-none text side

  whole : ranked level_price side (apply_all level_price all s) ≡ all_ranked level_price side all s
  whole =
      commute-all level_price side all s
      ∙ ap (all_ranked level_price side all) (sorted-ranked level_price side s o)

  turn-done : take n a ≡ all_ranked level_price side all s
  unfolding all_ranked
  turn-done = rw none_left at t.rest

  pub turn-levels : (depth : ℕ) → take depth (take n a) ≡ after_message level_price side depth all s
  unfolding after_message
  turn-levels depth = ap (take depth) (turn-done ∙ sym whole)

  pub turn-count : n ≤ length a → n ≡ length (apply_all level_price all s)
  turn-count l =
      sym (length-take-le n a l) ∙ ap length (turn-done ∙ sym whole)
      ∙ length-ranked level_price side (apply_all level_price all s)

  pub turn_moved : gone ≡ moved level_price side all s
  unfolding moved_ranked
  turn_moved =
      sym (add-zero gone) ∙ (rw none_left at t.moving)
      ∙ sym (moved-ranked level_price side all s ∙ ap (moved_ranked level_price side all) (sorted-ranked level_price side s o))

  pub turn-met : seen ≡ replaced level_price all s
  unfolding met_ranked
  turn-met =
      sym (or-false seen) ∙ (rw none_left at t.meeting)
      ∙ sym (met-ranked level_price side all s ∙ ap (met_ranked level_price side all) (sorted-ranked level_price side s o))

-- ---- what a read of the array and the calls on it say of the side

abbrev pub key : Level → ℕ
key level = value (level_price level)

module _ (a : List Level) (n k : ℕ) (h : k < n) where
  key-at : key (get_or (take n a) k no_level) ≡ key (get_or a k no_level)
  key-at = ap key (get_or-take n a k no_level h)

  pub sound-at : n ≤ length a → All Sound (take n a) → Sound (get_or a k no_level)
  sound-at l s =
      subst Sound (get_or-take n a k no_level h)
      (all-at Sound (take n a) k no_level (omega (arith, length-take-le n a l)) s)

  module _ (read price : Decimal) (o : Ordering) (is : number read ≡ level_price (get_or a k no_level)) (compared : o ≡ order (number read) (number price)) where
    pub ahead-at : (side : Side) (t u : Bool) → t ≡ ahead_of side o → t ≡ u → nearer side (key (get_or (take n a) k no_level)) (value (number price)) ≡ u
    unfolding order
    ahead-at side t u e f =
        ap (λ (x : ℕ). nearer side x (value (number price))) (key-at ∙ ap value (sym is))
        ∙ sym (ahead-is side (value (number read)) (value (number price))) ∙ ap (ahead_of side) (sym compared) ∙ sym e ∙ f

    pub equal-at : (t u : Bool) → t ≡ is_eq o → t ≡ u → eqb (key (get_or (take n a) k no_level)) (value (number price)) ≡ u
    unfolding order
    equal-at t u e f =
        ap (λ (x : ℕ). eqb x (value (number price))) (key-at ∙ ap value (sym is))
        ∙ sym (equal_is (value (number read)) (value (number price))) ∙ ap is_eq (sym compared) ∙ sym e ∙ f

-- ---- the cut

pub cut-to : {A : Type 0} (a : List A) (n depth left : ℕ) → n ≤ length a → left ≡ min n depth → take left a ≡ take depth (take n a)
cut-to a n depth left l e =
    ap (λ (i : ℕ). take i a) (e ∙ min_comm n depth) ∙ sym (take-take (min depth n) n a (min-le_right depth n))
    ∙ (ap (λ (i : ℕ). take (min depth i) (take n a)) (sym (length-take-le n a l)) ∙ take_min depth (take n a))
