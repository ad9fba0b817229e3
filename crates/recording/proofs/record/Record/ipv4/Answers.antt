use Rattle.std.proofs.lemmas.List.{take_rest}
use Rattle.recording.proofs.PacketLemmas.{ipv4_in-at}
use Rattle.recording.proofs.record.Record.ipv4.Goals as goal

pub returns-clause-ok : goal.returns-clause-ok
returns-clause-ok c = rw (ipv4_in-at c.args.self.now.link c.args.self.now.bytes.now c.in_ok-place.place c.in_ok-place.ensures.ok) (rw take_rest at c.ipv4_at.ensures.ok)

pub returns-clause-err : goal.returns-clause-err
returns-clause-err c = rw (ipv4_in-at c.args.self.now.link c.args.self.now.bytes.now c.in_ok-place.place c.in_ok-place.ensures.ok) (rw take_rest at c.ipv4_at.ensures.err)
