use Rattle.someip_world_safety.proofs.subscriptions.AckAlone.{acks_begin_none}
use Rattle.someip_world_safety.proofs.subscriptions.AckLemmas.{acks_say}
use Rattle.someip_world_safety.proofs.subscriptions.AcknowledgedLemmas.{acknowledged_are_safe}
use Rattle.someip_world_safety.proofs.networks.AddressLemmas.{off_group, own_addresses}
use Rattle.someip_world_safety.proofs.networks.OfferLemmas.{own_offers}
use Rattle.someip_world_safety.proofs.events.PublicationLemmas.{publishes_to_all, publishes_to_one}
use Rattle.someip_world_safety.proofs.runs.SafeRuns.{answers_are_safe, events_are_safe}
use Rattle.someip_world_safety.proofs.subscriptions.StandingLemmas.{subscriptions_are_safe}
use Rattle.someip_world_safety.proofs.safety.runs_are_safe.Goals as goal

pub returns-clause-answers : goal.returns-clause-answers
returns-clause-answers c configs n are clean =
    let network = c.args.setup.now in
    let fits = c.all_that_a_setup_gives_fits.ensures configs are in
    let good = c.nodes.ensures.good in
    answers_are_safe network.nodes configs c.args.steps.now fits n clean (own_addresses network good configs are) (own_offers network good configs are)

pub returns-clause-events : goal.returns-clause-events
returns-clause-events c configs n are clean =
    let fits = c.all_that_a_setup_gives_fits.ensures configs are in events_are_safe c.args.setup.now.nodes configs c.args.steps.now fits n clean

pub returns-clause-acknowledged : goal.returns-clause-acknowledged
returns-clause-acknowledged c configs n are clean =
    let network = c.args.setup.now in
    let steps = c.args.steps.now in
    let fits = c.all_that_a_setup_gives_fits.ensures configs are in
    let good = c.nodes.ensures.good in
    let own = own_addresses network good configs are in
    let apart = off_group network good configs are in
    acknowledged_are_safe network.nodes configs steps own (acks_say network.nodes configs steps fits apart own) (acks_begin_none network.nodes configs steps fits apart own) n clean

pub returns-clause-subscriptions : goal.returns-clause-subscriptions
returns-clause-subscriptions c configs n w are le led clean =
    let network = c.args.setup.now in
    let steps = c.args.steps.now in
    let fits = c.all_that_a_setup_gives_fits.ensures configs are in
    let good = c.nodes.ensures.good in
    let own = own_addresses network good configs are in
    let apart = off_group network good configs are in
    subscriptions_are_safe network.nodes configs steps own (acks_say network.nodes configs steps fits apart own) (acks_begin_none network.nodes configs steps fits apart own) n w le led clean

pub returns-clause-publications : goal.returns-clause-publications
returns-clause-publications c configs n = publishes_to_all c.args.setup.now.nodes configs c.args.steps.now n

pub returns-clause-publications_to_one : goal.returns-clause-publications_to_one
returns-clause-publications_to_one c configs n = publishes_to_one c.args.setup.now.nodes configs c.args.steps.now n

pub returns-clause-offers : goal.returns-clause-offers
returns-clause-offers c configs n are w le led = c.known_offers_are_of_the_setup.ensures.on_the_way configs n w are led
