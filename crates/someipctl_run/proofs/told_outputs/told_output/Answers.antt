use Rattle.someipctl_run.proofs.told_outputs.told_output.Goals as goal

pub returns-in-Answered : goal.returns-in-Answered
returns-in-Answered c = rw c.in-Answered.is (rw c.as_slice-in-Answered.ensures at (c.answer.ensures c.args.number))

pub returns-in-Request : goal.returns-in-Request
returns-in-Request c = rw c.in-Request.is (rw c.as_slice-in-Request.ensures at (c.request.ensures c.args.number))

pub returns-in-Event : goal.returns-in-Event
returns-in-Event c = rw c.in-Event.is (rw c.as_slice-in-Event.ensures at (c.event_of.ensures c.args.number))

pub returns-in-Known : goal.returns-in-Known
returns-in-Known c = rw c.in-Known.is (c.known.ensures c.args.number)

pub returns-in-Subscribed : goal.returns-in-Subscribed
returns-in-Subscribed c = rw c.in-Subscribed.is (c.subscribed.ensures c.args.number)

pub returns-in-Accepted : goal.returns-in-Accepted
returns-in-Accepted c = rw c.in-Accepted.is (c.accepted.ensures c.args.number)

pub returns-in-Nacked : goal.returns-in-Nacked
returns-in-Nacked c = rw c.in-Nacked.is (c.nacked.ensures c.args.number)
