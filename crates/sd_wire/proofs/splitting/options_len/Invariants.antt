use Rattle.std.proofs.Common.{◌≡◌, ◌≤◌, ◌*◌, length, take}
use Rattle.sd_wire.specs.encoding.Writing.{pool_bytes}
use Rattle.sd_wire.proofs.splitting.options_len.Given as goal

abbrev pub invariant-loop-option : goal.invariant-loop-option
invariant-loop-option l = (l.len ≡ length (pool_bytes (take l.option-index l.options))) × (l.len ≤ 65538 * l.option-index)
