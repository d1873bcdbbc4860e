-- Check values: of no bytes, of "123456789" and of "9:2:10:1". Assumes nothing.
use Rattle.std.specs.Prelude.{◌≡◌, refl, [], ◌∷◌}
use Rattle.crc32_spec.specs.Crc.{crc, run, step, bits, bit}

empty : crc [] ≡ 0
unfolding crc run
empty = refl

nine_digits : crc (49 ∷ 50 ∷ 51 ∷ 52 ∷ 53 ∷ 54 ∷ 55 ∷ 56 ∷ 57 ∷ []) ≡ 3421780262
unfolding crc run step bits bit
nine_digits = refl

two_levels : crc (57 ∷ 58 ∷ 50 ∷ 58 ∷ 49 ∷ 48 ∷ 58 ∷ 49 ∷ []) ≡ 1226559413
unfolding crc run step bits bit
two_levels = refl
