-- The claims fail with five places, with texts of two lengths, and with a polynomial that lacks its last term. Assumes nothing.
use Rattle.std.specs.Prelude.{ℕ, ◌*◌, ◌-◌, ◌/◌, ◌%◌, ◌^◌, ◌≡◌, refl, List, [], ◌∷◌}
use Rattle.std.specs.Int.Bits.{bit_xor}
use Rattle.crc32_spec.specs.Crc.{polynomial, crc, run, step, bits, bit}

-- five bytes, which differ from five zeros by the polynomial itself, with its highest term
abbrev pub zeros : List ℕ
zeros = 0 ∷ 0 ∷ 0 ∷ 0 ∷ 0 ∷ []

abbrev pub generator : List ℕ
generator = 65 ∷ 6 ∷ 113 ∷ 219 ∷ 1 ∷ []

pub of_zeros : crc zeros ≡ 3324180253
unfolding crc run step bits bit
of_zeros = refl

pub of_generator : crc generator ≡ 3324180253
unfolding crc run step bits bit
of_generator = refl

-- no bytes, and four: nothing differs from the fifth place on
lengths_alike : crc [] ≡ crc (157 ∷ 10 ∷ 217 ∷ 109 ∷ [])
unfolding crc run step bits bit
lengths_alike = refl

-- a state moved by one bit, with the polynomial less its last term: two states would move to one
without_last : ℕ → ℕ
without_last s = bit_xor (s / 2) (s % 2 * (polynomial - 2 ^ 31))

states_alike : without_last 1 ≡ without_last 3681617472
unfolding without_last
states_alike = refl
