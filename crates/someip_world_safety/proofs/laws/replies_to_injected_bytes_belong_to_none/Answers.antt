use Rattle.someip_world_safety.proofs.subscriptions.InjectedReplies.{injected_belong_to_none, replies_never_opened}
use Rattle.someip_world_safety.proofs.laws.replies_to_injected_bytes_belong_to_none.Goals as goal

pub returns-clause-bytes : goal.returns-clause-bytes
returns-clause-bytes c = injected_belong_to_none

pub returns-clause-replies : goal.returns-clause-replies
returns-clause-replies c nodes configs steps i since d e key own injected belongs = replies_never_opened nodes configs steps own since e injected i d key belongs
