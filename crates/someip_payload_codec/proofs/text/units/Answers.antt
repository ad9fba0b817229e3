use Rattle.std.proofs.Common.{rules, ◌≡◌, ◌+◌, ◌++◌, ◌∷◌, [], ◌∙◌, sym, drop, get_or, append_assoc, append-nil, arith}
use Rattle.std.proofs.lemmas.List.{length-drop}
use Rattle.someip_payload_codec.specs.Reading.{unit_of, units_of}
use Rattle.someip_payload_codec.proofs.texts.Strings.{units_more, units_none}
use Rattle.someip_payload_codec.proofs.text.units.Goals as goal

pub loop-at-preserved : goal.loop-at-preserved
loop-at-preserved c =
    let (within, so_far) = c.loop-at.invariant in
    let more = units_more c.args.is_big c.args.bytes.now c.loop-at.at (omega arith) in
    let pushed : c.push.new.self.items ≡ c.loop-at.units.items ++ unit_of c.args.is_big (get_or c.args.bytes.now c.loop-at.at 0) (get_or c.args.bytes.now (c.loop-at.at + 1) 0) ∷ [] = search rules in
    (omega arith, rw pushed (append_assoc c.loop-at.units.items (unit_of c.args.is_big (get_or c.args.bytes.now c.loop-at.at 0) (get_or c.args.bytes.now (c.loop-at.at + 1) 0) ∷ []) (units_of c.args.is_big (drop (c.loop-at.at + 2) c.args.bytes.now)) ∙ rw more at so_far))

pub returns : goal.returns
returns c =
    let (within, so_far) = c.loop-at.invariant in
    let none : units_of c.args.is_big (drop c.loop-at.at c.args.bytes.now) ≡ [] = units_none c.args.is_big c.args.bytes.now c.loop-at.at (omega (arith, length-drop c.loop-at.at c.args.bytes.now)) in
    sym (append-nil c.loop-at.units.items) ∙ rw none at so_far
