-- `put_level` meets its contract: the three words from 3i on are the level's.
use native.Mathlib.Omega.{arith}
use lib.ListN.{length-set}
use Rattle.level.proofs.Stored.{put-words, put-past}
use Rattle.level.proofs.words.put_level.Goals as goal

pub returns : goal.returns
returns c =
    let a = c.args in
    record {
      room = simp length-set c.requires.1;
      levels = put-words a.i a.words.now a.level.price a.level.size a.level.rest (omega (arith, c.requires.0, c.requires.1));
      past = put-past a.i a.words.now a.level.price a.level.size a.level.rest;
    }
