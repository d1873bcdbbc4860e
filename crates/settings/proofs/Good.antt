-- Laws of good settings: each case of the tests. Assumes nothing.
use Prim.Native.Nat.{ℕ, ◌≤◌, ◌<◌}
use mathlib.Core.Path.{◌≡◌, refl, sym, ap, ◌∙◌}
use mathlib.Core.Bool.{Bool, true, false, ◌&&◌, not, and_assoc}
use mathlib.Core.List.{List}
use native.Mathlib.Omega.{arith}
use Rattle.std.specs.Char.{is_ascii_graphic}
use borrow.Author.Tests.{leb-true, leb-false, le-leb, lt-leb}
use lib.Dec.{leb, eqb}
use lib.ListN.{length}
use Rattle.settings.specs.Settings.{Config, good_depth, name_byte, name_bytes, good_name, good, kept, shut}
use Rattle.settings.specs.declared.Dialect.TheVariants.{K, M, Unknown}
use Rattle.settings.specs.declared.Edition.{Edition}

pub k-low : (depth : ℕ) → depth < 10 → good_depth K depth ≡ false
unfolding good_depth
k-low depth h = rw (lt-leb 10 depth h)

pub k-deep : (depth : ℕ) → 10 ≤ depth → good_depth K depth ≡ leb depth 100
unfolding good_depth
k-deep depth h = rw (le-leb 10 depth h)

pub m-depth : (e : Edition) (depth : ℕ) → good_depth (M e) depth ≡ eqb depth 100
unfolding good_depth
m-depth e depth = refl

pub no-depth : (depth : ℕ) → good_depth Unknown depth ≡ false
unfolding good_depth
no-depth depth = refl

-- ---- bytes of a name

pub graphic-byte : (c : ℕ) (r : Bool) → r ≡ is_ascii_graphic c → name_byte c ≡ r && (not (eqb c 34) && not (eqb c 92))
unfolding name_byte
graphic-byte c r e = sym (and_assoc (leb 33 c) (leb c 126) (not (eqb c 34) && not (eqb c 92))) ∙ ap (λ (b : Bool). b && (not (eqb c 34) && not (eqb c 92))) (sym e)

-- ---- a name

pub short-name : (name : List ℕ) → length name < 1 → good_name name ≡ false
unfolding good_name
short-name name h = rw (lt-leb 1 (length name) h)

pub long-name : (name : List ℕ) → 1 ≤ length name → 16 < length name → good_name name ≡ false
unfolding good_name
long-name name l h = rw (le-leb 1 (length name) l, lt-leb (length name) 16 h)

pub name-bytes : (name : List ℕ) → 1 ≤ length name → length name ≤ 16 → good_name name ≡ name_bytes name
unfolding good_name
name-bytes name l h = rw (le-leb 1 (length name) l, le-leb (length name) 16 h)

-- ---- settings

pub both-good : (t : Config) → good_depth t.dialect t.depth ≡ true → good t ≡ good_name t.name
unfolding good
both-good t h = rw h

pub bad-depth : (t : Config) → good_depth t.dialect t.depth ≡ false → good t ≡ false
unfolding good
bad-depth t h = rw h

pub kept-good : (t : Config) → good t ≡ true → kept t ≡ t
unfolding kept
kept-good t h = rw h

pub kept-none : (t : Config) → good t ≡ false → kept t ≡ shut
unfolding kept
kept-none t h = rw h

too_long : (name : List ℕ) → 16 < length name → good_name name ≡ false
too_long name h = long-name name (omega arith) h

pub good-short : (t : Config) → good t ≡ true → length t.name ≤ 16
good-short t h = at (leb (length t.name) 16) refl
  where
    at : (b : Bool) → leb (length t.name) 16 ≡ b → length t.name ≤ 16
    at true e = leb-true (length t.name) 16 e
    at false e = absurd (never (bad-name (good_depth t.dialect t.depth) refl))
      where
        wrong : good_name t.name ≡ false
        wrong = too_long t.name (leb-false (length t.name) 16 e)

        bad-name : (b : Bool) → good_depth t.dialect t.depth ≡ b → good t ≡ false
        bad-name true q = both-good t q ∙ wrong
        bad-name false q = bad-depth t q

        never : good t ≡ false → ⊥
        never q = let z : ◌≡◌ {A = ℕ} 0 1 = cc in omega arith
