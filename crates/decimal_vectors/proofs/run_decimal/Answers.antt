-- A decimal that was read is within the limits.
use Rattle.decimal.proofs.RoundTrip.{parsed-within}
use Rattle.decimal_vectors.proofs.run_decimal.Goals as goal

pub say_decimal-requires : goal.say_decimal-requires
say_decimal-requires g c = parsed-within c.args.s.now c.parse.ensures c.in-Some.is
