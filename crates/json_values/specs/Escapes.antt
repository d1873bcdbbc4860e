-- Where a character of a string ends, in terms of the code. Assumes nothing: these are definitions.
use Rattle.std.specs.Prelude.{ℕ, ◌+◌, ◌≤◌, ◌<◌, ◌≡◌, Bool, false, ◌&&◌, not, List, ◌∷◌, length, get_or, drop, eqb, None, Option, Some}
use Rattle.text.specs.Text.{byte_at}
use Rattle.json_tokens.specs.Bytes.{backslash}
use Rattle.json_values.specs.Names.{escape_length, meaning, same}

-- From r on stands what follows the escape whose backslash stands at i.
pub record PastEscape (t : List ℕ) (i r : ℕ) : Type 0 where
  pub later : i < r
  pub rest : meaning (escape_length (drop (i + 1) t)) (drop (i + 1) t) ≡ meaning 0 (drop r t)

-- The character at i means b, and r is where the next one begins; r is none where it does not.
abbrev pub Spelled : List ℕ → ℕ → ℕ → Option ℕ → Type 0
Spelled t i b None = (m : List ℕ) → same (meaning 0 (drop i t)) (b ∷ m) ≡ false
Spelled t i b (Some r) = (i < r) × ((m : List ℕ) → same (meaning 0 (drop i t)) (b ∷ m) ≡ same (meaning 0 (drop r t)) m)

-- A string that begins with c cannot mean the name: c is neither the name's first byte nor a backslash.
unfoldable pub begins_otherwise : ℕ → List ℕ → Bool
begins_otherwise c name = not (eqb (length name) 0) && (not (eqb c (get_or name 0 0)) && not (eqb c backslash))

-- The first k bytes stand for themselves and are the name's, and no more do.
pub record PlainEnd (t name : List ℕ) (k : ℕ) : Type 0 where
  pub inside : k ≤ length name
  pub left : same (meaning 0 (drop k t)) (drop k name) ≡ same (meaning 0 t) name
  pub stops : k < length t → (byte_at t k ≡ 92 → ⊥) → same (meaning 0 (drop k t)) (drop k name) ≡ false
