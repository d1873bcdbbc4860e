-- `is_whole` meets its contract: the value is read as one.
-- Assumes nothing.
use Rattle.std.specs.Prelude.{is_some}
use mathlib.Core.Path.{ap, ◌∙◌}
use native.Mathlib.Omega.{arith}
use Rattle.message_k.proofs.Numbers.{value_room, whole-read}
use Rattle.message_k.proofs.is_whole.Goals as goal

pub slice_bounds-parse_whole-count : goal.slice_bounds-parse_whole-count
slice_bounds-parse_whole-count c = let a = c.args in let q = value_room 15 a.s.now a.from a.to c.requires in omega arith

pub slice_bounds-parse_whole-start : goal.slice_bounds-parse_whole-start
slice_bounds-parse_whole-start c = let a = c.args in let q = value_room 15 a.s.now a.from a.to c.requires in omega arith

pub slice_bounds-parse_whole-end : goal.slice_bounds-parse_whole-end
slice_bounds-parse_whole-end c = let a = c.args in let q = value_room 15 a.s.now a.from a.to c.requires in omega arith

pub returns : goal.returns
returns c = let a = c.args in c.is_some.ensures ∙ ap is_some (c.parse_whole.ensures ∙ whole-read a.s.now a.from a.to)
