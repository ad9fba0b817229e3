use Rattle.std.proofs.Common.{take, sym, ap, ◌∙◌, Some, arith}
use Rattle.std.specs.Option.{is_some}
use Rattle.recording_packets.specs.fragments.Parts.{payload_of}
use Rattle.recording_packets.proofs.about_fragments.CellLemmas.{whole-payload}
use Rattle.recording_packets.proofs.fragments.partial.Partial.into_payload.Goals as goal

pub returns : goal.returns
returns c =
    let p = c.self.inside in
    let whole = whole-payload p.known.items p.bytes.items p.end c.self.invariant.long in
    ap payload_of (sym c.self.view_is) ∙ (whole (ap (λ p. is_some (payload_of p)) c.self.view_is ∙ c.requires) ∙ ap Some (ap (λ n. take n p.bytes.items) (omega arith) ∙ sym c.truncate.ensures.items))
