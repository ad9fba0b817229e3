use Rattle.std.proofs.Common.{refl}
use Rattle.std.specs.Fmt.{digits}
use Rattle.hex.specs.Hex.{encode_with}
use Rattle.json.specs.Print.{escape_byte}
use Rattle.audit_stats.specs.Examples.{event, method}
use Rattle.audit_stats.specs.KeyOrder.{flows, ways}
use Rattle.audit_stats.specs.Keys.{flow_cmp, way_cmp}
use Rattle.someipctl_stats.specs.Examples.{began_again, once, unanswered, way}
use Rattle.someipctl_stats.proofs.ExampleLemmas.{none_in, one_in}
use Rattle.someipctl_stats.proofs.laws.figures_have_an_order.Goals as goal

pub returns-clause-none : goal.returns-clause-none
returns-clause-none c = λ form limits. rw (none_in flow_cmp, none_in flow_cmp, none_in way_cmp) refl

pub returns-clause-each : goal.returns-clause-each
unfolding digits encode_with escape_byte
returns-clause-each c = λ limits. rw (one_in flow_cmp flows.total method unanswered, one_in flow_cmp flows.total event once, one_in way_cmp ways.total way began_again) refl
