-- What a place owns.
use Rattle.std.specs.Prelude.{Option, Some, None}
use base.Fml.{Fml, ftrue}
use denote.RawPtr.{Ptr}
use Rattle.std_alloc.specs.Box.Ownership.{box_owns}
use Rattle.std_heap.specs.contracts.GlobalAllocator.TheImpl.{ghosts}
use Rattle.std_heap.specs.declared.Global.{Global}
use Rattle.someip_c_node.specs.contracts.node.CNode as node
use Rattle.someip_c_node.specs.Calls.{CNodeView}

-- the heap of the C library, whose blocks it frees
abbrev heap : Global
heap = record { memory = record { seal = tt } }

-- a node at a pointer, and the right to free its block
abbrev pub owned_node : Ptr → CNodeView → Fml
owned_node at value = box_owns (ghosts.dealloc_token heap) node.the_row at value

-- that, or nothing
abbrev pub owned : Ptr → Option CNodeView → Fml
owned at None = ftrue
owned at (Some value) = owned_node at value
