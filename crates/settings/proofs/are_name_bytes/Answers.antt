-- `are_name_bytes` meets its contract: its definition is that all bytes pass.
use Prim.Native.Nat.{ℕ}
use mathlib.Core.Path.{◌≡◌, refl, ap, ◌∙◌}
use mathlib.Core.Bool.{Bool, ◌&&◌}
use mathlib.Core.List.{List, [], ◌∷◌}
use Rattle.std.proofs.Common.{rules, tests}
use Rattle.std.proofs.lemmas.Iterator.{YieldsList-from_slice}
use Rattle.std.proofs.lemmas.Iterator.Search.{all_from_yields_List}
use Rattle.std.specs.List.{list_all}
use Rattle.settings.specs.Settings.{name_byte, name_bytes}
use Rattle.settings.proofs.are_name_bytes.Goals as goal

all_pass : (name : List ℕ) → list_all name_byte name ≡ name_bytes name
unfolding name_bytes
all_pass [] = refl
all_pass (c ∷ name) = ap (λ (b : Bool). name_byte c && b) (all_pass name)

pub returns : goal.returns
returns c =
    let name = c.args.name.now in
    let passes = all_from_yields_List name_byte _ _ c.all.result c.all.ensures.ran (YieldsList-from_slice name cc) (λ x b q k. search (rules, tests)) in
    passes ∙ all_pass name
