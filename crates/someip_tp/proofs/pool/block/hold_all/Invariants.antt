use Rattle.std.proofs.Common.{◌≡◌, ◌≤◌, ◌<◌, ◌&&◌, ◌||◌, ℕ, nat_lt, nat_le, length}
use Rattle.someip_tp.specs.Blocks.{is_held, other_end, AreTied, AreUpTo}
use Rattle.someip_tp.proofs.pool.block.hold_all.Given as goal

-- the blocks so far are held, and the others as before
abbrev pub invariant-loop-k : goal.invariant-loop-k
invariant-loop-k l =
    record {
      above : l.from ≤ l.k;
      until : l.from ≤ l.to → l.k ≤ l.to;
      none : l.to < l.from → l.k ≤ l.from;
      held : (j : ℕ) → is_held l.message l.blocks j ≡ ((nat_le l.from j && nat_lt j l.k) || is_held l.message l.initial.blocks j);
      tied : AreTied (is_held l.message l.blocks) (other_end l.blocks);
      numbers : (top : ℕ) → l.message ≤ top → AreUpTo top l.initial.blocks → AreUpTo top l.blocks;
      len : length l.blocks ≡ length l.initial.blocks;
    }
