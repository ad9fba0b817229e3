use Rattle.std.proofs.Common.{◌≡◌, true, ap, ◌∙◌, [], ◌++◌, unwrap_or}
use Rattle.std.specs.Option.{is_some}
use Rattle.std.proofs.lemmas.Result.{on_ok_weaker}
use Rattle.someip_reassembly.specs.Parts.{Part}
use Rattle.someip_reassembly.specs.SegmentOffers.{message_of}
use Rattle.someip_reassembly.specs.Slices.{bytes_in}
use Rattle.someip_reassembly.proofs.PartialLemmas.{message_appended}
use Rattle.someip_reassembly.proofs.partial.Partial.append_message.Goals as goal

pub returns-clause-ok : goal.returns-clause-ok
returns-clause-ok c =
    let part : Part = record { bytes = bytes_in c.self.inside.slices.items; total = c.self.inside.total; last = c.self.inside.last } in
    let whole : is_some (message_of part) ≡ true = ap (λ e. is_some (message_of e.1)) c.self.view_is ∙ c.requires in
    on_ok_weaker c.append_front.result (λ h. message_appended part _ _ _ (ap bytes_in c.deref.ensures.value) whole c.self.invariant.below h ∙ ap (λ e. c.args.bytes.now.items ++ unwrap_or (message_of e.1) []) c.self.view_is) c.append_front.ensures.ok
