-- A side after the entries of a message, from what the side's own entries give. Assumes nothing.
use mathlib.Core.Path.{◌≡◌, refl, sym, ap, ◌∙◌, subst}
use mathlib.Core.List.{List, [], ◌∷◌, map}
use mathlib.Core.Bool.{false}
use Prim.Native.Nat.{ℕ, ◌≤◌}
use native.Mathlib.Omega.{arith}
use lib.ListN.{length, take, length-map}
use lib.Seq.{take_all}
use Rattle.decimal.specs.Limits.{Within}
use Rattle.settings.specs.declared.SumText.{SumText}
use Rattle.edit.specs.Edit.{PriceLevel, shown_price, Edit, Numbers, edit_of, for_side, side_of}
use Rattle.edit.specs.declared.Side.{Side}
use Rattle.level.specs.Words.{level_price, level_size, shown}
use Rattle.level.specs.Side.{apply_all}
use Rattle.level.specs.Ranked.{All, after_message, replaced}
use Rattle.level.specs.Moved.{moved}
use Rattle.level.specs.Kept.{held, Good}
use Rattle.level.specs.declared.Level.{Level}
use Rattle.level.specs.declared.Levels.{Levels}
use Rattle.level.proofs.Held.{held-length}
use Rattle.level.proofs.Ranking.{all-after_message, sorted-ranked}
use Rattle.level.proofs.Mapping.{shown-after_message}
use Rattle.checksum.specs.Carried.{piece_of, Carries}
use Rattle.side.specs.Applying.{EntryWithin, changes_for, AfterEntries}
use Rattle.side.specs.declared.Applied.{Applied}
use Rattle.side.proofs.Changes.{changes-shown, changes-carried, changes-sized}
use Rattle.side.proofs.Mapped.{applied-levels, applied-count, applied-moved, applied-met}
use Rattle.sides.specs.Worked.{Sound, edits_for, side_after, Worked}

abbrev Sized : Level → Type 0
Sized level = Within (level_size level)

none-own : (side : Side) (es : List Numbers) → 0 ≡ length (for_side side_of side es) → edits_for side es ≡ []
unfolding edits_for
none-own side es h = at (for_side side_of side es) h
  where
    at : (l : List Numbers) → 0 ≡ length l → map edit_of l ≡ []
    at [] e = refl
    at (x ∷ l) e = absurd (omega arith)

module _ (text : SumText) (side : Side) (depth : ℕ) (kept : Levels) (es : List Numbers) where
  -- ---- no entries
  unchanged : Good side kept → length (held kept) ≤ depth → held kept ≡ after_message level_price side depth [] (held kept)
  unfolding after_message apply_all
  unchanged g few = sym (ap (take depth) (sorted-ranked level_price side (held kept) g.sorted) ∙ take_all depth (held kept) few)

  pub none-worked : 0 ≡ length (for_side side_of side es) → Sound text side kept → length (held kept) ≤ depth
      → Worked text side depth (edits_for side es) kept (record { levels = kept; count = kept.count; moved = 0; replaced = false })
  unfolding apply_all moved replaced
  none-worked h k few =
      let l = length-map (held kept) shown in
      rw (none-own side es h) (record {
        sound = k;
        levels = ap (map shown) (unchanged k.good few) ∙ shown-after_message side depth [] (held kept);
        count = sym (held-length kept k.good.few k.good.room) ∙ sym l;
        moved = refl;
        replaced = refl;
        past = refl;
      })

  -- ---- entries
  pub some-worked : {words : List ℕ} {r : Applied} → Sound text side kept → All EntryWithin es → AfterEntries side depth (changes_for text side es) kept words r
      → Worked text side depth (edits_for side es) kept (side_after words r)
  unfolding edits_for
  some-worked k w a =
      let all = changes_for text side es in
      let q = changes-shown text side es w in
      record {
        sound = record {
          good = a.good;
          carried = subst (All (Carries (piece_of text))) (sym a.levels) (all-after_message level_price (Carries (piece_of text)) side depth all (held kept) (changes-carried text side es w) k.carried);
          sized = subst (All Sized) (sym a.levels) (all-after_message level_price Sized side depth all (held kept) (changes-sized text side es w) k.sized);
        };
        levels = applied-levels a ∙ ap (λ (x : List (Edit PriceLevel)). after_message shown_price side depth x (map shown (held kept))) q;
        count = applied-count a ∙ ap (λ (x : List (Edit PriceLevel)). length (apply_all shown_price x (map shown (held kept)))) q;
        moved = applied-moved a ∙ ap (λ (x : List (Edit PriceLevel)). moved shown_price side x (map shown (held kept))) q;
        replaced = applied-met a ∙ ap (λ (x : List (Edit PriceLevel)). replaced shown_price x (map shown (held kept))) q;
        past = a.past;
      }
