use Rattle.someip_world_safety.proofs.calls.ServerRequests.{all_open}
use Rattle.someip_world_safety.proofs.laws.open_requests_were_handed_up.Goals as goal

pub returns : goal.returns
returns c nodes configs steps n w le led = all_open nodes configs steps n w le led
