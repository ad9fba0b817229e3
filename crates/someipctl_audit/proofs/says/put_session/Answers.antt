use Rattle.someipctl_audit.proofs.says.put_session.Goals as goal

pub returns-in-NotNext : goal.returns-in-NotNext
returns-in-NotNext g c = rw c.in-NotNext.is (rw (c.field_of.ensures, c.expected_field.ensures) at c.put_said-in-NotNext.ensures)
