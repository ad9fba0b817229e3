use Rattle.std.proofs.Common.{refl}
use Rattle.std.specs.Net.Reader.{read_ipv4, read_octet, read_number}
use Rattle.toml.proofs.OnLiterals.{toml_on_literals}
use Rattle.someip_world_setup_keys.specs.Keys.{address_of}
use Rattle.someip_world_setup_keys.specs.Lists.{found_at_each}
use Rattle.someip_world_setup.proofs.laws.what_texts_say.Goals as goal

pub returns-clause-values : goal.returns-clause-values
unfolding toml_on_literals address_of read_ipv4 read_octet read_number found_at_each
returns-clause-values c = refl

pub returns-clause-range : goal.returns-clause-range
unfolding toml_on_literals address_of read_ipv4 read_octet read_number found_at_each
returns-clause-range c = refl

pub returns-clause-key : goal.returns-clause-key
unfolding toml_on_literals address_of read_ipv4 read_octet read_number found_at_each
returns-clause-key c = refl

pub returns-clause-clash : goal.returns-clause-clash
unfolding toml_on_literals address_of read_ipv4 read_octet read_number found_at_each
returns-clause-clash c = refl

pub returns-clause-toml : goal.returns-clause-toml
unfolding toml_on_literals address_of read_ipv4 read_octet read_number found_at_each
returns-clause-toml c = refl

pub returns-clause-two : goal.returns-clause-two
unfolding toml_on_literals address_of read_ipv4 read_octet read_number found_at_each
returns-clause-two c = refl
