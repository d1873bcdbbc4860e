-- What good settings say of the name and the depth. Assumes nothing.
use Prim.Native.Nat.{ℕ, ◌≤◌}
use mathlib.Core.Path.{◌≡◌, refl}
use mathlib.Core.Bool.{true, ◌&&◌, and-eq-true_iff}
use mathlib.Core.List.{List, [], ◌∷◌}
use native.Mathlib.Omega.{arith}
use borrow.Author.Tests.{leb-true, le-leb}
use lib.Dec.{leb}
use lib.ListN.{length}
use Rattle.decimal.specs.Digits.{written}
use Rattle.decimal.proofs.Digits.{length-written}
use Rattle.json_tokens.specs.Ends.{unescaped}
use Rattle.settings.specs.Settings.{Config, good_depth, name_byte, name_bytes, good_name, good}
use Rattle.settings.specs.declared.Dialect.TheVariants.{K}
use Rattle.round_trip.proofs.Tokens.{plain}

byte-plain : (c : ℕ) → name_byte c ≡ true → unescaped c ≡ true
unfolding name_byte unescaped
byte-plain c h =
    let p = (and-eq-true_iff (leb 33 c) _).0 h in
    let q = (and-eq-true_iff (leb c 126) _).0 p.1 in
    let l : 33 ≤ c = leb-true 33 c p.0 in
    rw (le-leb 32 c (omega arith)) q.1

bytes-plain : (name : List ℕ) → name_bytes name ≡ true → plain name ≡ true
unfolding name_bytes plain
bytes-plain [] h = refl
bytes-plain (c ∷ s) h =
    let p = (and-eq-true_iff (name_byte c) (name_bytes s)).0 h in
    rw (byte-plain c p.0) (bytes-plain s p.1)

module _ (t : Config) (h : good t ≡ true) where
  name-good : good_name t.name ≡ true
  unfolding good
  name-good = ((and-eq-true_iff (good_depth t.dialect t.depth) (good_name t.name)).0 h).1

  pub name-plain : plain t.name ≡ true
  unfolding good_name
  name-plain =
      let p = (and-eq-true_iff (leb 1 (length t.name)) _).0 name-good in
      bytes-plain t.name ((and-eq-true_iff (leb (length t.name) 16) (name_bytes t.name)).0 p.1).1

  pub name-short : length t.name ≤ 16
  unfolding good_name
  name-short =
      let p = (and-eq-true_iff (leb 1 (length t.name)) _).0 name-good in
      leb-true (length t.name) 16 ((and-eq-true_iff (leb (length t.name) 16) (name_bytes t.name)).0 p.1).0

-- a depth of K is written in three digits at the most
pub depth-short : (depth : ℕ) (name : List ℕ) → good (record { dialect = K; depth = depth; name = name }) ≡ true → length (written depth) ≤ 3
unfolding good good_depth
depth-short depth name h =
    let p = (and-eq-true_iff (leb 10 depth && leb depth 100) (good_name name)).0 h in
    let l : depth ≤ 100 = leb-true depth 100 ((and-eq-true_iff (leb 10 depth) (leb depth 100)).0 p.0).1 in
    length-written 2 depth (omega arith)
