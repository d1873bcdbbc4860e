-- How deep arrays and objects may nest in what lies in a message, in either dialect. Assumes nothing: these are definitions.
use Rattle.std.specs.Prelude.{ℕ, ◌-◌}
use Rattle.json_values.specs.Json.{max_depth}

-- In an item of the message: an element in K, a member in M.
abbrev pub item_depth : ℕ
item_depth = max_depth - 1

-- In an item of such an item, as a side's array of entries is one.
abbrev pub side_depth : ℕ
side_depth = item_depth - 1
