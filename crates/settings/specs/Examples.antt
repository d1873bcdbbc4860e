-- Worked examples: depths at both ends, names at both ends. Assumes nothing.
use Rattle.std.specs.Prelude.{ℕ, ◌≡◌, refl, Bool, true, false, List, [], ◌∷◌}
use Prim.Native.String.{String}
use Rattle.text.specs.Text.{ascii}
use Rattle.settings.specs.declared.Dialect.{Dialect}
use Rattle.settings.specs.declared.Dialect.TheVariants.{K, M, Unknown}
use Rattle.settings.specs.declared.Edition.TheVariants.{M1, M2}
use Rattle.settings.specs.Settings.{good_depth, name_byte, name_bytes, good_name, good}

-- dialect, depth and name, and whether they are good
pub data Case : Type 0 where
  settings : Dialect → ℕ → String → Bool → Case

Holds : Case → Type 0
Holds (settings dialect depth name b) = good (record { dialect = dialect; depth = depth; name = ascii name }) ≡ b

Each : List Case → Type 0
Each [] = Unit
Each (c ∷ cs) = Holds c × Each cs

table : List Case
table =
    settings K 9 "XBT/USD" false ∷
    settings K 10 "XBT/USD" true ∷
    settings K 100 "XBT/USD" true ∷
    settings K 101 "XBT/USD" false ∷
    settings (M M1) 99 "BTC-VND" false ∷
    settings (M M1) 100 "BTC-VND" true ∷
    settings (M M2) 100 "BTC-VND" true ∷
    settings (M M2) 101 "BTC-VND" false ∷
    settings Unknown 100 "BTC-VND" false ∷
    settings K 10 "" false ∷
    settings K 10 "a" true ∷
    settings K 10 "0123456789abcdef" true ∷
    settings K 10 "0123456789abcdefg" false ∷
    settings K 10 "it's~!" true ∷
    settings K 10 "a b" false ∷
    settings K 10 "a\"b" false ∷
    settings K 10 "a\\b" false ∷
    settings K 10 "a\u{7f}" false ∷
    []

examples : Each table
unfolding table Each Holds good good_depth good_name name_bytes name_byte
examples = (refl, (refl, (refl, (refl, (refl, (refl, (refl, (refl, (refl, (refl, (refl, (refl, (refl, (refl, (refl, (refl, (refl, (refl, tt))))))))))))))))))
