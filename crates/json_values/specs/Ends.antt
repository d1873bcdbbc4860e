-- What contracts say of members and of what holds items, in terms of the code. Assumes nothing: these are definitions.
use Rattle.std.specs.Prelude.{ℕ, List, Option, Some}
use Rattle.text.specs.Text.{colon}
use Rattle.json_tokens.specs.Bytes.{close_array, close_object}
use Rattle.json_tokens.specs.Tokens.{and_then, closing, separator, string}
use Rattle.json_values.specs.Json.{items_end, elements, members}
use Rattle.json_values.specs.declared.Container.{Container}
use Rattle.json_values.specs.declared.Container.TheVariants.{Array, Object}

-- a member of an object, where only its end is asked for
unfoldable pub member_end : (ℕ → Option ℕ) → List ℕ → ℕ → Option ℕ
member_end value s i = and_then (string s i) (λ k. and_then (separator colon s k) value)

-- where the value of an element or of a member begins
abbrev pub held_value : Container → List ℕ → ℕ → Option ℕ
held_value Array s i = Some i
held_value Object s i = and_then (string s i) (separator colon s)

-- an array or an object, from past its opening bracket
abbrev pub container_end : Container → (ℕ → Option ℕ) → List ℕ → ℕ → Option ℕ
container_end Array value s i = items_end (elements value s i)
container_end Object value s i = items_end (members value s i)

-- its closing bracket
abbrev pub close_end : Container → List ℕ → ℕ → Option ℕ
close_end Array s i = closing close_array s i
close_end Object s i = closing close_object s i
