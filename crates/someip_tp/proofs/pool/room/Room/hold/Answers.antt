use Rattle.std.proofs.Common.{◌≡◌, ap, ◌∙◌, ◌+◌, ◌<◌, ◌/◌, ◌&&◌, ◌||◌, nat_le, nat_lt, length, ℕ, arith}
use Rattle.someip_tp.specs.Blocks.{is_held}
use Rattle.someip_tp.proofs.reserved_memory.RoomLemmas.{holds}
use Rattle.someip_tp.proofs.pool.room.Room.hold.Goals as goal

pub returns-clause-held : goal.returns-clause-held
returns-clause-held c =
    let room = c.args.self.now in
    let some : 0 < length c.args.bytes.now = grind (arith, c.is_empty.ensures, c.if-is_empty.false) in
    let last : (j : ℕ) → is_held room.message c.hold_blocks.new.blocks.items j ≡ ((nat_le (c.args.offset / 16) j && nat_lt j ((c.args.offset + length c.args.bytes.now + 15) / 16)) || is_held room.message room.blocks.items j) =
    λ j. c.hold_blocks.ensures.held j ∙ ap (λ n. (nat_le (c.args.offset / 16) j && nat_lt j n) || is_held room.message room.blocks.items j) (grind (arith, c.div_ceil.ensures)) in
    holds room (record { bytes = c.write_at.new.items; blocks = c.hold_blocks.new.blocks; message = room.message; end = c.max-self.result; limit = room.limit }) c.args.offset c.args.bytes.now
    c.requires.consistent c.requires.aligned some c.requires.agrees c.requires.last (c.requires.before some) last c.write_at.ensures.written c.write_at.ensures.before c.write_at.ensures.after
    (λ none. absurd (omega (arith, none, some)), λ filled. (omega (arith, c.max-self.ensures), omega (arith, c.max-self.ensures), λ le. omega (arith, le, c.max-self.ensures), λ le. omega (arith, le, c.max-self.ensures)))
