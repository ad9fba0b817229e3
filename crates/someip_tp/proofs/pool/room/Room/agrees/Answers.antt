use Rattle.std.proofs.Common.{sym, ap, ◌∙◌, ◌/◌, ◌-◌, ◌+◌, refl, arith, take, drop}
use Rattle.std.specs.List.{slice_get}
use Rattle.someip_tp.specs.Blocks.{is_held}
use Rattle.someip_tp.proofs.reserved_memory.RoomLemmas.{agrees_with_none, agrees_with, part_get, part_past}
use Rattle.someip_tp.proofs.pool.room.Room.agrees.Goals as goal
use Rattle.someip_tp.proofs.pool.room.Room.agrees.Goals.{then-start-self-via-then-start-self, then-start-self-via-else-start-self+then-not-is_held}

pub returns-then-start-self : goal.returns-then-start-self
returns-then-start-self c = elim c.then-start-self.branch [
  | then-start-self-via-then-start-self w ↦ (λ _. agrees_with_none c.args.self.now c.args.start c.args.bytes.now c.requires.aligned c.requires.short (λ _. w.if-start-self.true), λ _. refl)
  | then-start-self-via-else-start-self+then-not-is_held w ↦ (
    λ _. agrees_with_none c.args.self.now c.args.start c.args.bytes.now c.requires.aligned c.requires.short (λ block. absurd (
        let off = ap (λ bs. is_held c.args.self.now.message bs (c.args.start / 16)) w.deref.ensures.value in
        let found = w.is_held.ensures in
        let none = w.if-not-is_held.true in cc)),
    λ _. refl,
  )
]

pub returns : goal.returns
returns c =
    let behind = take (c.args.self.now.end - c.args.start) (drop c.args.start c.deref-2.result.now) in
    let bytes = c.deref-2.ensures.value in
    agrees_with c.args.self.now c.args.start c.args.bytes.now behind c.begin_alike.result c.requires.aligned c.requires.short
    (ap (λ bs. is_held c.args.self.now.message bs (c.args.start / 16)) (sym c.deref.ensures.value) ∙ (sym c.is_held.ensures ∙ c.if-not-is_held.false))
    (λ i lt. part_get (c.args.self.now.end - c.args.start) c.args.start c.deref-2.result.now i (omega (arith, lt)) ∙ ap (λ bs. slice_get bs (c.args.start + i)) bytes)
    (λ i le. part_past (c.args.self.now.end - c.args.start) c.args.start c.deref-2.result.now i (omega (arith, le)))
    c.begin_alike.ensures.0 c.begin_alike.ensures.1
