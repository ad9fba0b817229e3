use Rattle.someip_world_safety.proofs.events.PublicationLemmas.{offers_are_configured, offers_without_liars, publishes_to_all, publishes_to_one}
use Rattle.someip_world_safety.proofs.laws.publications_go_to_subscribers.Goals as goal

pub returns-clause-to_all : goal.returns-clause-to_all
returns-clause-to_all c = publishes_to_all

pub returns-clause-to_one : goal.returns-clause-to_one
returns-clause-to_one c = publishes_to_one

pub returns-clause-offers : goal.returns-clause-offers
returns-clause-offers c nodes configs steps n fit all = offers_are_configured nodes configs steps fit all n

pub returns-clause-offers_without_liars : goal.returns-clause-offers_without_liars
returns-clause-offers_without_liars c nodes configs steps n none fit all = offers_without_liars nodes configs steps none fit all n
