-- How what a place owns is stored behind a reference.
use Rattle.std.specs.Prelude.{Option}
use Rattle.std.specs.Coded.{Coded, coded_option}
use Rattle.someip_c_node.specs.Calls.{CNodeView}
use Rattle.someip_c_node.specs.Views.{coded_view}

abbrev pub coded_place : Coded (Option CNodeView)
coded_place = coded_option coded_view
