use Rattle.std.proofs.Common.{None, Some, arith}
use Rattle.someip_world.proofs.PlaceLemmas.{got, none_got, none_placed, placed}
use Rattle.someip_world.proofs.log.Log.datagram.Goals as goal

pub returns-in_err-place : goal.returns-in_err-place
returns-in_err-place c =
    rw (c.from_residual.ensures, ← c.self.view_is)
    (none_placed c.self.inside.lines.items c.self.inside.datagrams.items c.args.number c.self.invariant (omega (arith, c.if-number-eq0.false))
    (none_got c.self.inside.datagrams.items _ _ c.deref.ensures.value c.in_err-place.ensures.lookup.0))

pub returns-in_err-get : goal.returns-in_err-get
returns-in_err-get c =
    rw (c.from_residual-in_err-get.ensures, ← c.self.view_is)
    (placed c.self.inside.lines.items c.self.inside.datagrams.items c.args.number c.self.invariant (omega (arith, c.if-number-eq0.false))
    c.in_ok-place.field-0.now None
    (got c.self.inside.datagrams.items _ _ _ c.deref.ensures.value c.in_ok-place.ensures.lookup.0 c.in_ok-place.ensures.lookup.1)
    (none_got c.self.inside.lines.items _ _ c.deref-2.ensures.value c.in_err-get.ensures.lookup.0))

pub returns : goal.returns
returns c =
    rw (
      ← c.self.view_is,
      placed c.self.inside.lines.items c.self.inside.datagrams.items c.args.number c.self.invariant (omega (arith, c.if-number-eq0.false))
          c.in_ok-place.field-0.now (Some c.in_ok-get.field-0.now)
          (got c.self.inside.datagrams.items _ _ _ c.deref.ensures.value c.in_ok-place.ensures.lookup.0 c.in_ok-place.ensures.lookup.1)
          (got c.self.inside.lines.items _ _ _ c.deref-2.ensures.value c.in_ok-get.ensures.lookup.0 c.in_ok-get.ensures.lookup.1),
    )
    c.datagram.ensures
