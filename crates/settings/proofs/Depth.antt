-- Good settings have a depth of at most 100, and of 100 in M; and no more than may stand on a side. Assumes nothing.
use mathlib.Core.Path.{◌≡◌, refl, sym}
use mathlib.Core.Bool.{Bool, true, false, true≢false, ◌&&◌}
use Prim.Native.Nat.{ℕ, ◌≤◌}
use native.Mathlib.Omega.{arith}
use borrow.Author.Tests.{leb-true, eqb-true}
use lib.Dec.{leb}
use Rattle.settings.specs.Settings.{Config, good, good_depth, good_name}
use Rattle.settings.specs.Rules.{rules_of}
use Rattle.settings.specs.declared.Dialect.{Dialect}
use Rattle.settings.specs.declared.Dialect.TheVariants.{K, M, Unknown}
use Rattle.settings.specs.declared.Edition.{Edition}

and_first : (a b : Bool) → (a && b) ≡ true → a ≡ true
and_first true b h = refl
and_first false b h = h

and_second : (a b : Bool) → (a && b) ≡ true → b ≡ true
and_second true b h = h
and_second false b h = absurd (true≢false (sym h))

depth-goes : (d : Dialect) (depth : ℕ) → good_depth d depth ≡ true → (depth ≤ 100) × ((e : Edition) → d ≡ M e → depth ≡ 100)
unfolding good_depth
depth-goes K depth h = (leb-true depth 100 (and_second (leb 10 depth) (leb depth 100) h), λ v e. let z : ◌≡◌ {A = ℕ} 0 1 = cc in absurd (omega arith))
depth-goes (M v) depth h = let e : depth ≡ 100 = eqb-true depth 100 h in (omega arith, λ w q. e)
depth-goes Unknown depth h = absurd (true≢false (sym h))

pub good-depth : (t : Config) → good t ≡ true → (t.depth ≤ 100) × ((e : Edition) → t.dialect ≡ M e → t.depth ≡ 100)
unfolding good
good-depth t h = depth-goes t.dialect t.depth (and_first (good_depth t.dialect t.depth) (good_name t.name) h)

rules-go : (d : Dialect) (depth : ℕ) → good_depth d depth ≡ true → (depth ≤ (rules_of d).levels) × ((rules_of d).cut ≡ false → depth ≡ (rules_of d).levels)
unfolding good_depth rules_of
rules-go K depth h = (leb-true depth 100 (and_second (leb 10 depth) (leb depth 100) h), λ e. absurd (true≢false e))
rules-go (M v) depth h = let e : depth ≡ 100 = eqb-true depth 100 h in (omega arith, λ q. e)
rules-go Unknown depth h = absurd (true≢false (sym h))

-- a side that is not cut has room for as many as may stand
pub good-rules : (t : Config) → good t ≡ true → (t.depth ≤ (rules_of t.dialect).levels) × ((rules_of t.dialect).cut ≡ false → t.depth ≡ (rules_of t.dialect).levels)
unfolding good
good-rules t h = rules-go t.dialect t.depth (and_first (good_depth t.dialect t.depth) (good_name t.name) h)
