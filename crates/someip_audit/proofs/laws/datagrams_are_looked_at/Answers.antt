use Rattle.std.proofs.Common.{refl}
use Rattle.std.specs.FinMap.{get-empty}
use Rattle.audit_sd.specs.offers.OfferExamples.{endpoint}
use Rattle.someip_tables.specs.Endpoints.{endpoint_cmp}
use Rattle.someip_audit.proofs.laws.datagrams_are_looked_at.Goals as goal

pub returns-clause-other_port : goal.returns-clause-other_port
returns-clause-other_port c = rw (get-empty endpoint_cmp (endpoint 1 40001), get-empty endpoint_cmp (endpoint 2 40002)) refl
