-- A decimal that was read is within the limits.
use Rattle.decimal.proofs.RoundTrip.{parsed-within}
use Rattle.decimal_vectors.proofs.run_order.Goals as goal

pub compare-requires : goal.compare-requires
compare-requires g c = (parsed-within _ c.parse.ensures c.in-Some-parse.is, parsed-within _ c.parse-2.ensures c.in-Some-parse-2.is)
