use Rattle.std.proofs.Common.{ap, subst, ◌∙◌}
use Rattle.std.specs.Option.{is_some}
use Rattle.someip_reassembly.specs.Parts.{Part}
use Rattle.someip_reassembly.specs.SegmentOffers.{message_of}
use Rattle.someip_reassembly.specs.Slices.{bytes_in, IsFront}
use Rattle.someip_reassembly.proofs.PartialLemmas.{whole_is}
use Rattle.someip_reassembly.proofs.partial.Partial.is_whole.Goals as goal

pub returns-in-Some : goal.returns-in-Some
returns-in-Some c =
    let part : Part = record { bytes = bytes_in c.self.inside.slices.items; total = c.self.inside.total; last = c.self.inside.last } in
    let front : IsFront part.bytes c.covered.result = subst (λ ps. IsFront (bytes_in ps) c.covered.result) c.deref.ensures.value c.covered.ensures in
    whole_is part c.covered.result c.in-Some.total c.in-Some.is front c.self.invariant.below ∙ ap (λ e. is_some (message_of e.1)) c.self.view_is
