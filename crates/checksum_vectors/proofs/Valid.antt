-- Entries that were put into a buffer, and sides that entries were applied to. Assumes nothing.
use Prim.Native.Nat.{ℕ, suc, ◌+◌, ◌≤◌, ◌<◌}
use mathlib.Core.Path.{◌≡◌, sym, subst}
use mathlib.Core.Bool.{Bool, true, false, cond}
use mathlib.Core.List.{List, [], ◌∷◌}
use native.Mathlib.Omega.{arith}
use native.Mathlib.Numerals.{add-one}
use lib.ListN.{length, take}
use lib.Seq.{take-suc-set, length-take-le}
use Rattle.edit.specs.Edit.{Numbers, is_same, for_side, side_of}
use Rattle.edit.specs.Buffer.{entry_of, entries_in, Put}
use Rattle.edit.specs.declared.Side.{Side}
use Rattle.edit.proofs.Threes.{threes-length}
use Rattle.settings.specs.declared.SumText.{SumText}
use Rattle.level.specs.Words.{level_price}
use Rattle.level.specs.Ranked.{All}
use Rattle.level.specs.Kept.{kept_in, held}
use Rattle.level.specs.declared.Levels.{Levels}
use Rattle.level.proofs.All.{all_append}
use Rattle.level.proofs.Ranking.{all-after_message}
use Rattle.checksum.specs.Carried.{piece_of, Carries}
use Rattle.side.specs.Applying.{EntryWithin, Given, changes_for, AfterEntries}
use Rattle.side.specs.declared.Applied.{Applied}
use Rattle.side.proofs.Changes.{changes-carried}
use Rattle.checksum_vectors.specs.Book.{ValidSide, Filled}

pub none-carried : (text : SumText) (levels : Levels) → held levels ≡ [] → All (Carries (piece_of text)) (held levels)
unfolding All
none-carried text levels e = subst (All (Carries (piece_of text))) (sym e) tt

-- a side that entries were applied to is as fine as it was
pub applied-fine : (text : SumText) (side : Side) (depth : ℕ) (es : List Numbers) (levels : Levels) {words : List ℕ} {applied : Applied} →
    ValidSide text side levels → All EntryWithin es → AfterEntries side depth (changes_for text side es) levels words applied → ValidSide text side (kept_in words applied.left)
applied-fine text side depth es levels f w a = record {
  good = a.good;
  carried =
      subst (All (Carries (piece_of text))) (sym a.levels)
      (all-after_message level_price (Carries (piece_of text)) side depth (changes_for text side es) (held levels) (changes-carried text side es w) f.carried);
}

-- ---- entries in a buffer

pub filled_none : (buffer : List ℕ) → length buffer ≡ 600 → Filled buffer 0
unfolding All
filled_none buffer h = record { room = h; few = omega arith; within = tt }

-- one entry more
pub filled_more : {buffer after : List ℕ} {k : ℕ} {e : Numbers} → k < 100 → Filled buffer k → Put buffer k e after → EntryWithin e → Filled after (k + 1)
unfolding All entries_in
filled_more {buffer} {after} {k} {e} h f p w = record {
  room = p.room;
  few = omega arith;
  within =
      rw (p.entries, add-one k, take-suc-set (entries_in buffer) k e (omega (arith, threes-length entry_of 200 buffer f.room)))
      (all_append EntryWithin (take k (entries_in buffer)) (e ∷ []) f.within (w, tt));
}

-- no more are for one side than there are
cond-fewer : {A : Type 0} (b : Bool) (e : A) (r l : List A) → length r ≤ length l → length (cond b (e ∷ r) r) ≤ suc (length l)
cond-fewer true e r l h = omega arith
cond-fewer false e r l h = omega arith

own-fewer : (side : Side) (es : List Numbers) → length (for_side side_of side es) ≤ length es
unfolding for_side
own-fewer side [] = omega arith
own-fewer side (e ∷ es) = cond-fewer (is_same e.side side) e (for_side side_of side es) es (own-fewer side es)

pub filled-given : (side : Side) {buffer : List ℕ} {k : ℕ} → Filled buffer k → Given side buffer k
unfolding entries_in
filled-given side {buffer} {k} f = record {
  room = f.room;
  few = omega (arith, f.few);
  within = f.within;
  own =
      let n = threes-length entry_of 200 buffer f.room in
      omega (arith, f.few, own-fewer side (take k (entries_in buffer)), length-take-le k (entries_in buffer) (omega (arith, f.few)));
}
