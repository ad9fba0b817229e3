-- Which of the Subscribes that a node sends begin a subscription: those whose counter is not the last one.
use Rattle.std.specs.Prelude.{ℕ, zero, suc, ◌%◌, ◌==◌, false, if◌then◌else◌, List, [], ◌∷◌, filter, Option, None, Some}
use Rattle.std.specs.List.{flat_map}
use Rattle.std.specs.Option.{option_map_or}
use Rattle.std.specs.Net.Socket.{v4_ip}
use Rattle.std.specs.declared.net.ipv4_addr.Ipv4Addr.{Ipv4Addr}
use Rattle.sd_wire.specs.declared.entry.EntryHead.{EntryHead}
use Rattle.sd_wire.specs.declared.entry.EntryHead.TheVariants as heads
use Rattle.sd_wire.specs.declared.entry.EventgroupEntry.{EventgroupEntry}
use Rattle.sd_wire.specs.contents.Kinds.{is_subscribe}
use Rattle.sd_wire.specs.contents.Values.{EntryValue}
use Rattle.sd_core.specs.declared.eventgroup.Eventgroup.{Eventgroup}
use Rattle.someip_node_rules.specs.rules.Learning.{eventgroup_in}
use Rattle.someip_node_rules.specs.forms.Outputs.{Given, Announces, Sends, Tells}
use Rattle.someip_node_rules.specs.histories.WishQuestions.{same_eventgroup}

-- a Subscribe that is sent: to which server, about which eventgroup, and with which counter
pub record SentSubscribe : Type 0 where
  pub server : Ipv4Addr
  pub eventgroup : Eventgroup
  pub counter : ℕ

abbrev pub subscribe_of : Ipv4Addr → EventgroupEntry → SentSubscribe
subscribe_of to e = record { server = to; eventgroup = eventgroup_in e; counter = e.counter }

-- an entry that is one, with a TTL above 0
abbrev pub subscribe_in_head : Ipv4Addr → EntryHead → List SentSubscribe
subscribe_in_head to (heads.Service head) = []
subscribe_in_head to (heads.Eventgroup head) = if is_subscribe head then subscribe_of to head ∷ [] else []

-- those of some entries that are sent to an address, in order
abbrev pub subscribes_among : Ipv4Addr → List EntryValue → List SentSubscribe
subscribes_among to entries = flat_map (λ e. subscribe_in_head to e.head) entries

-- those of what a node gives
abbrev pub subscribes_in : Given → List SentSubscribe
subscribes_in (Sends from to m) = []
subscribes_in (Announces from to stamp entries) = subscribes_among (v4_ip to) entries
subscribes_in (Tells output) = []

-- those that are about an eventgroup
abbrev pub about : Eventgroup → List SentSubscribe → List SentSubscribe
about q subscribes = filter (λ s. same_eventgroup q s.eventgroup) subscribes

-- the counter of the last of so many beginnings: each is numbered by those before it, in four bits
abbrev pub last_counter : ℕ → Option ℕ
last_counter zero = None
last_counter (suc n) = Some (n % 16)

-- those that begin a subscription of their eventgroup, after a last counter: one with the last counter renews what stands
abbrev pub begun_after : Option ℕ → List SentSubscribe → List SentSubscribe
begun_after last [] = []
begun_after last (s ∷ subscribes) =
    if option_map_or (λ counter. counter == s.counter) last false then begun_after last subscribes
    else s ∷ begun_after (Some s.counter) subscribes

-- the last counter after them
abbrev pub counter_after : Option ℕ → List SentSubscribe → Option ℕ
counter_after last [] = last
counter_after last (s ∷ subscribes) = counter_after (Some s.counter) subscribes
