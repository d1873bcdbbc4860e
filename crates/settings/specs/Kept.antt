-- The settings that the code's book keeps. Assumes nothing: these are definitions.
use Rattle.std.specs.Prelude.{ℕ, ◌-◌, ◌≤◌, ◌≡◌, List, ◌++◌, length, take, replicate}
use Rattle.settings.specs.Settings.{Config, kept}
use Rattle.settings.specs.declared.Settings.{Settings}

-- The settings that the code's struct holds.
unfoldable pub config_of : Settings → Config
config_of s = record { dialect = s.dialect; depth = s.depth; name = take s.length s.name }

-- A name at the front of 16 bytes, the others 0.
unfoldable pub padded : List ℕ → List ℕ
padded name = name ++ replicate (16 - length name) 0

-- The struct that holds settings.
unfoldable pub settings_of : Config → Settings
settings_of t = record { dialect = t.dialect; depth = t.depth; name = padded t.name; length = length t.name }

pub record Chosen (t : Config) (s : Settings) : Type 0 where
  pub is : s ≡ settings_of (kept t)
  pub config : config_of s ≡ kept t
  pub room : length s.name ≡ 16
  pub short : s.length ≤ 16

pub record Copied (name copy : List ℕ) : Type 0 where
  pub is : copy ≡ padded name
  pub room : length copy ≡ 16
  pub front : take (length name) copy ≡ name
