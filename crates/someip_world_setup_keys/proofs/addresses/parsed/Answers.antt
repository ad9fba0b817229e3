use Rattle.someip_world_setup_keys.proofs.AddressLemmas.{reads_address, reads_none}
use Rattle.someip_world_setup_keys.proofs.addresses.parsed.Goals as goal

pub returns-in-Ok : goal.returns-in-Ok
returns-in-Ok c = reads_address c.args.text.now c.in-Ok.address (rw (c.as_bytes.ensures.value) at c.in-Ok.ensures)

pub returns-in-Err : goal.returns-in-Err
returns-in-Err c = reads_none c.args.text.now (rw (c.as_bytes.ensures.value) at c.in-Err.ensures)
