-- What `apply` ensures, of the levels shown: the side of document 01's plain book. Assumes nothing.
use Prim.Native.Nat.{ℕ}
use mathlib.Core.Path.{◌≡◌, sym, ap, ◌∙◌}
use mathlib.Core.List.{List, map}
use lib.ListN.{length}
use Rattle.edit.specs.Edit.{shown_price}
use Rattle.edit.specs.Edit.{Edit}
use Rattle.level.specs.Side.{apply_all}
use Rattle.level.specs.Ranked.{after_message, replaced, map_edit}
use Rattle.level.specs.Moved.{moved}
use Rattle.level.specs.Words.{shown}
use Rattle.level.specs.Kept.{kept_in, held}
use Rattle.edit.specs.declared.Side.{Side}
use Rattle.level.specs.declared.Level.{Level}
use Rattle.level.specs.declared.Levels.{Levels}
use Rattle.level.proofs.Mapping.{shown-after_message, shown-count, shown-met}
use Rattle.level.proofs.Moving.{shown-moved}
use Rattle.side.specs.Applying.{AfterEntries}
use Rattle.side.specs.declared.Applied.{Applied}

module _ {side : Side} {depth : ℕ} {es : List (Edit Level)} {kept : Levels} {words : List ℕ} {applied : Applied} (r : AfterEntries side depth es kept words applied) where
  pub applied-levels : map shown (held (kept_in words applied.left)) ≡ after_message shown_price side depth (map (map_edit shown) es) (map shown (held kept))
  applied-levels = ap (map shown) r.levels ∙ shown-after_message side depth es (held kept)

  pub applied-count : applied.count ≡ length (apply_all shown_price (map (map_edit shown) es) (map shown (held kept)))
  applied-count = r.count ∙ sym (shown-count es (held kept))

  pub applied-met : applied.replaced ≡ replaced shown_price (map (map_edit shown) es) (map shown (held kept))
  applied-met = r.replaced ∙ sym (shown-met es (held kept))

  pub applied-moved : applied.moved ≡ moved shown_price side (map (map_edit shown) es) (map shown (held kept))
  applied-moved = r.moved ∙ sym (shown-moved side es (held kept))
