use Rattle.std.proofs.Common.{◌≡◌, subst, Some, None, false, arith}
use Rattle.std.proofs.lemmas.Bool.Decides.{nat_tests}
use Rattle.recording_packets.specs.fragments.Pieces.{is_too_long}
use Rattle.recording_packets.specs.fragments.Takings.{StandsAt}
use Rattle.recording_packets.specs.fragments.Views.{view_piece}
use Rattle.recording_packets.proofs.about_fragments.TakeLemmas.{takes_some, gone_some, takes_none, gone_none}
use Rattle.recording_packets.proofs.fragments.parts.take_in.Goals as goal

pub returns-in-Some-clause-gone : goal.returns-in-Some-clause-gone
returns-in-Some-clause-gone c =
    gone_some c.args.key c.args.now (view_piece c.args.piece) c.args.parts.now.items c.take_at.new.parts.items c.in-Some.i c.take_at.result
    (subst (λ parts. StandsAt c.args.key c.args.now parts (Some c.in-Some.i)) c.deref.ensures.value c.in-Some.ensures) c.take_at.ensures.ok c.take_at.ensures.err

pub returns-in-Some-clause-ok : goal.returns-in-Some-clause-ok
returns-in-Some-clause-ok c =
    let short : is_too_long (view_piece c.args.piece) ≡ false = grind (arith, nat_tests, c.end.ensures, c.if-end-gt-LONGEST.false) in
    takes_some c.args.key c.args.now (view_piece c.args.piece) c.args.parts.now.items c.take_at.new.parts.items c.in-Some.i c.take_at.result short
    (subst (λ parts. StandsAt c.args.key c.args.now parts (Some c.in-Some.i)) c.deref.ensures.value c.in-Some.ensures) c.take_at.ensures.ok

pub returns-in-None-clause-gone : goal.returns-in-None-clause-gone
returns-in-None-clause-gone c =
    gone_none c.args.key c.args.now (view_piece c.args.piece) c.args.parts.now.items c.take_new.new.parts.items c.take_new.result
    (subst (λ parts. StandsAt c.args.key c.args.now parts None) c.deref.ensures.value c.in-None.ensures) c.take_new.ensures.ok c.take_new.ensures.err

pub returns-in-None-clause-ok : goal.returns-in-None-clause-ok
returns-in-None-clause-ok c =
    let short : is_too_long (view_piece c.args.piece) ≡ false = grind (arith, nat_tests, c.end.ensures, c.if-end-gt-LONGEST.false) in
    takes_none c.args.key c.args.now (view_piece c.args.piece) c.args.parts.now.items c.take_new.new.parts.items c.take_new.result short
    (subst (λ parts. StandsAt c.args.key c.args.now parts None) c.deref.ensures.value c.in-None.ensures) c.take_new.ensures.ok
