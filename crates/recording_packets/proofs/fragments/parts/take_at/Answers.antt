use Rattle.std.proofs.Common.{◌≡◌, sym, ap, ◌∙◌, get_or}
use Rattle.std.proofs.Math.ListN.{set}
use Rattle.std.specs.List.{remove}
use Rattle.std.proofs.lemmas.List.{get_or_default, get_or-set_same}
use Rattle.recording_packets.specs.fragments.Parts.{Part, differs, with_piece, payload_of}
use Rattle.recording_packets.specs.fragments.Views.{view_piece}
use Rattle.recording_packets.proofs.about_fragments.PartLemmas.{remove-set}
use Rattle.recording_packets.proofs.fragments.parts.take_at.Goals as goal

pub returns-clause-ok : goal.returns-clause-ok
returns-clause-ok c = λ d.
    let old = c.args.parts.now.items in
    let i = c.args.i in
    let piece = view_piece c.args.piece in
    let e : Part = get_or old i d in
    let changed : c.accept_at.new.parts.items ≡ set old i (with_piece e piece) = c.in_ok-accept_at.ensures.ok d in
    let same : e ≡ c.index.result.now = get_or_default old i d c.index.result.now c.requires.there ∙ sym c.index.ensures in
    let taken : c.remove-partial-2.result ≡ with_piece e piece =
    c.remove-partial-2.ensures.value
    ∙ (ap (λ xs. get_or xs i c.remove-partial-2.result) changed ∙ get_or-set_same old i (with_piece e piece) c.remove-partial-2.result c.requires.there) in (
      ap (λ (x : Part). differs x piece) same ∙ (sym c.differs.ensures ∙ c.if-differs.false),
      ap payload_of (sym taken) ∙ c.into_payload.ensures,
      c.remove-partial-2.ensures.items ∙ (ap (λ xs. remove xs i) changed ∙ remove-set old i (with_piece e piece)),
    )
