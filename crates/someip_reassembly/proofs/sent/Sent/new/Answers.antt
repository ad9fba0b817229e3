use Rattle.std.proofs.Common.{◌≤◌, ◌++◌, ◌∷◌, length, map, sym, ap, ◌∙◌, append-nil, arith}
use Rattle.std.specs.List.{flat_map}
use Rattle.someip_wire.specs.View.{view}
use Rattle.someip_reassembly.specs.Sent.{Alone, InSegment, slice_of}
use Rattle.someip_reassembly.proofs.SentLemmas.{sent-long, sent-short, no_others, no_segments, long_whole}
use Rattle.someip_reassembly.proofs.sent.Sent.new.Goals as goal

pub returns-then-message-gt-ALONE_LEN-clause-exact : goal.returns-then-message-gt-ALONE_LEN-clause-exact
returns-then-message-gt-ALONE_LEN-clause-exact c =
    ap (map InSegment) (no_others (view c.args.message.now) c.new.result c.new.ensures.segments)
    ∙ sym (sent-long (view c.args.message.now) c.if-message-gt-ALONE_LEN.true)

pub returns-then-message-gt-ALONE_LEN-clause-whole : goal.returns-then-message-gt-ALONE_LEN-clause-whole
returns-then-message-gt-ALONE_LEN-clause-whole c =
    ap (λ segments. flat_map slice_of (map InSegment segments)) (no_others (view c.args.message.now) c.new.result c.new.ensures.segments)
    ∙ long_whole (view c.args.message.now)

pub returns-clause-alone : goal.returns-clause-alone
returns-clause-alone c short =
    ap (λ segments. Alone (view c.args.message.now) ∷ map InSegment segments) (no_segments c.args.message.now.header c.new-2.result c.new-2.ensures.segments)

pub returns-clause-exact : goal.returns-clause-exact
returns-clause-exact c =
    let short : length c.args.message.now.payload.now ≤ 1400 = omega (arith, c.if-message-gt-ALONE_LEN.false) in
    returns-clause-alone c short ∙ sym (sent-short (view c.args.message.now) short)

pub returns-clause-whole : goal.returns-clause-whole
returns-clause-whole c =
    ap (λ segments. c.args.message.now.payload.now ++ flat_map slice_of (map InSegment segments)) (no_segments c.args.message.now.header c.new-2.result c.new-2.ensures.segments)
    ∙ append-nil c.args.message.now.payload.now
