use Rattle.someip_wire.specs.View.{view}
use Rattle.someipctl_io.proofs.LinesLemmas.{line_behind-parts}
use Rattle.someipctl_io.proofs.lines.put_behind_ids.Goals as goal

pub returns-clause-ok : goal.returns-clause-ok
returns-clause-ok g c =
    let line = line_behind-parts c.args.k (view c.args.message.now) c.args.ids.now _ _ _ c.session_text-session.ensures c.interface_text-interface.ensures c.code_text-code.ensures in
    rw (← line, ← c.message_parts-parts.ensures) c.put_parts.ensures.ok

pub returns-clause-err : goal.returns-clause-err
returns-clause-err g c =
    let line = line_behind-parts c.args.k (view c.args.message.now) c.args.ids.now _ _ _ c.session_text-session.ensures c.interface_text-interface.ensures c.code_text-code.ensures in
    rw (← line, ← c.message_parts-parts.ensures) c.put_parts.ensures.err
