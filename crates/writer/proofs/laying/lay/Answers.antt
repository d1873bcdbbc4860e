-- `lay` meets its contract: the part of the buffer that the text takes has the text, and the rest is as it was.
use Rattle.std.proofs.Common.{◌+◌, ◌-◌, length, refl, ◌∙◌, arith}
use Rattle.std.proofs.lemmas.Slice.{put_mid-paste}
use Rattle.std.proofs.lemmas.List.Edits.{paste_all}
use Rattle.decimal.specs.Buffer.{overlaid}
use Rattle.writer.proofs.laying.lay.Goals as goal

pub returns : goal.returns
unfolding overlaid
returns c =
    let b = c.args.buffer.now in
    let at = c.args.at in
    let bytes = c.args.bytes.now in
    record {
      bytes = put_mid-paste at (at + length bytes - at) b c.copy_from_slice.new.self bytes (length bytes) c.copy_from_slice.ensures.after (omega arith) refl ∙ paste_all b at bytes (length bytes) refl;
      end = refl;
    }
