use Rattle.recording_writing.specs.Blocks.{is_new, is_too_long, number_of}
use Rattle.recording_writing.proofs.LinkLemmas.{has_after, stays, once, most}
use Rattle.recording_writing.proofs.laws.link_types_have_interfaces.Goals as goal

pub returns-clause-has : goal.returns-clause-has
returns-clause-has c = has_after

pub returns-clause-stay : goal.returns-clause-stay
returns-clause-stay c = λ links k. stays (is_too_long (number_of links k.link) k) (is_new links k.link) links k.link

pub returns-clause-once : goal.returns-clause-once
returns-clause-once c = once

pub returns-clause-most : goal.returns-clause-most
returns-clause-most c = most
