-- What the writer writes is read back: the claims of `specs/Claims`, each under its own name. Assumes nothing.
use Rattle.round_trip.specs.Claims.{KRoundTrip, MRoundTrip}
use Rattle.round_trip.proofs.SnapshotK.{said-k}
use Rattle.round_trip.proofs.SnapshotM.{said-m}

pub k-round-trip : KRoundTrip
k-round-trip = said-k

pub m-round-trip : MRoundTrip
m-round-trip = said-m
