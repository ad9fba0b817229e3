use Rattle.someipctl_recordings.proofs.lists.address_of.Goals as goal

pub returns-in-Err-clause-none : goal.returns-in-Err-clause-none
returns-in-Err-clause-none c = λ n is. c.in-Err.ensures.value is.0 is.1
