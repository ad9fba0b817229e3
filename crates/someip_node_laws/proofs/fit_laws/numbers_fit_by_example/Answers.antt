use Rattle.std.proofs.Common.{arith}
use Rattle.someip_node_laws.proofs.fits.FitExamples.{no_bytes, none_announced, none_come, offer_fits}
use Rattle.someip_node_laws.proofs.fit_laws.numbers_fit_by_example.Goals as goal

pub returns-clause-offer : goal.returns-clause-offer
returns-clause-offer c = offer_fits

pub returns-clause-long_offer : goal.returns-clause-long_offer
returns-clause-long_offer c events fits = let ttl = fits.ttl in omega (arith, ttl)

pub returns-clause-input : goal.returns-clause-input
returns-clause-input c = (omega arith, omega arith)

pub returns-clause-wide_input : goal.returns-clause-wide_input
returns-clause-wide_input c fits = let event = fits.0 in omega (arith, event)

pub returns-clause-item : goal.returns-clause-item
returns-clause-item c call peer = omega arith

pub returns-clause-wide_item : goal.returns-clause-wide_item
returns-clause-wide_item c call peer fits = omega (arith, fits)

pub returns-clause-announced : goal.returns-clause-announced
returns-clause-announced c = none_announced

pub returns-clause-wide_session : goal.returns-clause-wide_session
returns-clause-wide_session c from to fits = let session = fits.0 in omega (arith, session)

pub returns-clause-no_message_of_discovery : goal.returns-clause-no_message_of_discovery
returns-clause-no_message_of_discovery c from to entries fits = let not = fits.1 in absurd cc

pub returns-clause-empty : goal.returns-clause-empty
returns-clause-empty c = none_come

pub returns-clause-no_bytes : goal.returns-clause-no_bytes
returns-clause-no_bytes c = no_bytes
