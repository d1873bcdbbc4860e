-- The first bad text of a message, in numbers. Assumes nothing: these are definitions.
use Rattle.std.specs.Prelude.{ℕ, ◌≤◌, ◌≡◌, cond, List, eqb, length}
use Rattle.json_values.specs.Json.{Span}
use Rattle.settings.specs.declared.Dialect.{Dialect}
use Rattle.settings.specs.declared.Dialect.TheVariants.{K, M, Unknown}
use Rattle.entries.specs.Rows.{bad_price}
use Rattle.entries.specs.Found.{entry_depth, entry_place_at, price_span, size_span}
use Rattle.entries.specs.declared.EntryPlace.{EntryPlace}
use Rattle.entries.specs.declared.Form.{Form}
use Rattle.entries.specs.declared.Form.TheVariants.{Triple, Pair}
use Rattle.message.specs.declared.Part.{Part}

unfoldable pub part_of : Span → Part
part_of a = record { from = a.from; to = a.to }

-- The form of a dialect's entries.
unfoldable pub form_of : Dialect → Form
form_of K = Triple
form_of (M e) = Pair
form_of Unknown = Pair

-- The price of an entry if it is bad, and else the size.
unfoldable pub bad_of : List ℕ → EntryPlace → Part
bad_of s f = cond (bad_price s (price_span f)) (part_of (price_span f)) (part_of (size_span f))

-- That of the entry at a position; 0 says that there is none.
unfoldable pub bad_in : List ℕ → Form → ℕ → Part
bad_in s form at = cond (eqb at 0) (record { from = 0; to = 0 }) (bad_of s (entry_place_at form entry_depth s at))

-- It lies in the text.
pub record Within (s : List ℕ) (from to : ℕ) : Type 0 where
  pub order : from ≤ to
  pub inside : to ≤ length s

pub record PartIs (s : List ℕ) (p r : Part) : Type 0 where
  pub is : r ≡ p
  pub within : Within s r.from r.to
