use Rattle.std.proofs.Common.{◌≡◌, true, eq-eqb}
use Rattle.recording_writing.specs.Blocks.{is_new}
use Rattle.someipctl_io.proofs.SendingLemmas.{OnErr-any, Sends-as, Stops-as}
use Rattle.recording_writing.proofs.WritingLemmas.{Stops-none, pushed_types, described_bytes}
use Rattle.recording_writing.proofs.writer.PacketWriter.describe.Goals as goal

pub returns-then-is_err-clause-err : goal.returns-then-is_err-clause-err
returns-then-is_err-clause-err g c = Stops-none _ _ _

pub invariant_of-self-in-Continue-1 : goal.invariant_of-self-in-Continue-1
invariant_of-self-in-Continue-1 g c = pushed_types _ _ _ c.args.link c.ranges.link.fits c.self.invariant (cc (c.requires, c.if-number-len.true, c.len.ensures, c.self.view_is)) c.push.ensures.items

pub invariant_of-self-in_err-put_interface : goal.invariant_of-self-in_err-put_interface
invariant_of-self-in_err-put_interface g c =
    pushed_types _ _ _ c.args.link c.ranges.link.fits c.self.invariant (cc (c.requires, c.if-number-len.true, c.len.ensures, c.self.view_is)) c.push.ensures.items

pub returns-in_err-put_interface-clause-err : goal.returns-in_err-put_interface-clause-err
returns-in_err-put_interface-clause-err g c =
    let new : is_new c.args.self.now c.args.link ≡ true = eq-eqb _ _ (cc (c.requires, c.if-number-len.true, c.len.ensures, c.self.view_is)) in
    OnErr-any c.from_residual.result (Stops-as _ _ _ _ _ (described_bytes _ _ new) c.in_err-put_interface.ensures.err)

pub returns-in_ok-put_interface-clause-ok : goal.returns-in_ok-put_interface-clause-ok
returns-in_ok-put_interface-clause-ok g c =
    let new : is_new c.args.self.now c.args.link ≡ true = eq-eqb _ _ (cc (c.requires, c.if-number-len.true, c.len.ensures, c.self.view_is)) in
    Sends-as _ _ _ _ _ _ (described_bytes _ _ new) c.in_ok-put_interface.ensures.ok
