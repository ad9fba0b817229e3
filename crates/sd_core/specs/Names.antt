-- The names of the reasons of a Nack, as a trace tells them.
use Rattle.std.specs.Prelude.{ℕ, List, codes}
use Rattle.sd_core.specs.declared.error.Cause.{Cause}
use Rattle.sd_core.specs.declared.error.Cause.TheVariants.{NotOffered, WrongMajor, UnknownEventgroup, NoEndpoint, Full}

-- the name of the cause of a Nack
abbrev pub cause_name : Cause → List ℕ
cause_name NotOffered = codes "NotOffered"
cause_name WrongMajor = codes "WrongMajor"
cause_name UnknownEventgroup = codes "UnknownEventgroup"
cause_name NoEndpoint = codes "NoEndpoint"
cause_name Full = codes "Full"
