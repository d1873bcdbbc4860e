-- `lay_word` meets its contract: the bytes of a word, the lowest first.
use Prim.Native.Nat.{ℕ}
use mathlib.Core.Path.{ap, subst, ◌∙◌}
use mathlib.Core.List.{List}
use lib.ListN.{length}
use native.Mathlib.Omega.{arith}
use Rattle.writer.specs.Parts.{Put}
use Rattle.replay.proofs.Fields.{le-bytes}
use Rattle.replay.proofs.words.lay_word.Goals as goal

pub returns : goal.returns
returns c = subst (λ (x : List ℕ). Put c.args.part.now c.args.at x c.lay.new.buffer c.lay.result) (c.to_le_bytes.ensures ∙ le-bytes c.args.n) c.lay.ensures

pub lay-requires : goal.lay-requires
lay-requires c = let l = ap length c.to_le_bytes.ensures in let p = c.requires in omega arith
