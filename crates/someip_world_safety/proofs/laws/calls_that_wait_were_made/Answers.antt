use Rattle.someip_world_safety.proofs.calls.WaitingCalls.{all_awaited}
use Rattle.someip_world_safety.proofs.laws.calls_that_wait_were_made.Goals as goal

pub returns : goal.returns
returns c nodes configs steps n w le led = all_awaited nodes configs steps n w le led
