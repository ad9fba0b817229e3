use Rattle.std.proofs.Common.{◌≡◌, true, sym, ap, ◌∙◌, arith}
use Rattle.someip_tp.specs.Blocks.{is_held, other_end}
use Rattle.someip_tp.proofs.reserved_memory.BlockLemmas.{told_as, held_within}
use Rattle.someip_tp.proofs.reserved_memory.RoomLemmas.{front_is, no_front}
use Rattle.someip_tp.proofs.pool.room.Room.front.Goals as goal

pub returns-then-is_held : goal.returns-then-is_held
returns-then-is_held c =
    let room = c.args.self.now in
    let first : is_held room.message room.blocks.items 0 ≡ true = ap (λ bs. is_held room.message bs 0) (sym c.deref.ensures.value) ∙ (sym c.is_held.ensures ∙ c.if-is_held.true) in
    let told : other_end room.blocks.items 0 ≡ c.index.result.now.other = told_as room.blocks.items 0 c.index.result.now (held_within room.message room.blocks.items 0 first) ∙ ap (λ b. b.other) (sym c.index.ensures) in
    front_is room c.min.result c.requires first (omega (arith, c.min.ensures)) (omega (arith, c.min.ensures, told)) (λ apart. omega (arith, c.min.ensures, told, apart))

pub returns-else-is_held : goal.returns-else-is_held
returns-else-is_held c =
    let room = c.args.self.now in
    no_front room (ap (λ bs. is_held room.message bs 0) (sym c.deref.ensures.value) ∙ (sym c.is_held.ensures ∙ c.if-is_held.false))
