use Rattle.std.proofs.Common.{refl}
use Rattle.recording.proofs.laws.what_packets_carry.Goals as goal

pub returns-clause-raw : goal.returns-clause-raw
returns-clause-raw c = refl

pub returns-clause-tagged : goal.returns-clause-tagged
returns-clause-tagged c = refl

pub returns-clause-outer : goal.returns-clause-outer
returns-clause-outer c = refl

pub returns-clause-inner : goal.returns-clause-inner
returns-clause-inner c = refl

pub returns-clause-no_tag : goal.returns-clause-no_tag
returns-clause-no_tag c = refl

pub returns-clause-fragment : goal.returns-clause-fragment
returns-clause-fragment c = refl

pub returns-clause-link : goal.returns-clause-link
returns-clause-link c = refl

pub returns-clause-not_ipv4 : goal.returns-clause-not_ipv4
returns-clause-not_ipv4 c = refl

pub returns-clause-not_udp : goal.returns-clause-not_udp
returns-clause-not_udp c = refl

pub returns-clause-cut : goal.returns-clause-cut
returns-clause-cut c = refl

pub returns-clause-room : goal.returns-clause-room
returns-clause-room c = refl
