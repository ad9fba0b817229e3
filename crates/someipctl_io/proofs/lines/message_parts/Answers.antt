use Rattle.someipctl_io.proofs.lines.message_parts.Goals as goal

pub returns : goal.returns
returns c = rw (c.name_of_type.ensures, c.payload_part.ensures)
