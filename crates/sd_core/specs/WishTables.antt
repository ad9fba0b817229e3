-- The table of the wishes of a client (SOME/IP Service Discovery Protocol, "Publish/Subscribe"), and where those of an
-- instance stand in it.
use Rattle.std.specs.Prelude.{ℕ, Bool, ◌&&◌, List}
use Rattle.std.specs.Coded.{Coded}
use Rattle.std.specs.FinMap as finite
use Rattle.std.specs.FinMap.{FinMap}
use Rattle.std.specs.List.{filter_map, list_any}
use Rattle.std.specs.Ordering.{eq_by_cmp}
use Rattle.std.specs.declared.net.ipv4_addr.Ipv4Addr.{Ipv4Addr}
use Rattle.someip_tables.specs.Changed.{each_changed}
use Rattle.someip_tables.specs.Retained.{retain}
use Rattle.sd_core.specs.declared.keys.InstanceId.{InstanceId}
use Rattle.sd_core.specs.declared.eventgroup.Eventgroup.{Eventgroup}
use Rattle.sd_core.specs.Keys.{instance_cmp}
use Rattle.sd_core.specs.Eventgroups.{eventgroup_cmp, coded_eventgroup}
use Rattle.sd_core.specs.declared.wish.Beginning.{Beginning}
use Rattle.sd_core.specs.declared.wish.OutgoingSubscribe.{OutgoingSubscribe}
use Rattle.sd_core.specs.declared.wish.Wish.{Wish}
use Rattle.sd_core.specs.Wishes.{coded_wish, ended_wish, has_begun, is_over, is_renewed_by, offered_wish, subscribe_of}

-- the eventgroups that were wished, and how far each wish is
abbrev pub Wishes : Type 0
Wishes = FinMap eventgroup_cmp Wish

-- its code, by which a proof tells tables apart
abbrev pub coded_wishes : Coded Wishes
coded_wishes = finite.code coded_eventgroup coded_wish

-- each wished eventgroup of the instance sends a Subscribe to the peer that offers it
abbrev pub offered : ℕ → InstanceId → Ipv4Addr → Wishes → Wishes
offered now instance peer wishes = each_changed (offered_wish now instance peer) wishes

-- the Subscribes that go out to that peer, by rising eventgroup
abbrev pub subscribes : ℕ → InstanceId → Ipv4Addr → Wishes → List OutgoingSubscribe
subscribes now instance peer wishes = filter_map (λ e. subscribe_of now instance peer e.0 e.1) (finite.entries wishes)

-- the eventgroups whose subscriptions pass a test
abbrev pub begun_where : (Eventgroup → Beginning → Bool) → Wishes → Wishes
begun_where test wishes = retain wishes (λ eventgroup wish. has_begun (test eventgroup) wish.stage)

-- the subscriptions that pass a test end; the wishes stand
abbrev pub ended_where : (Eventgroup → Beginning → Bool) → Wishes → Wishes
ended_where test wishes = each_changed (λ eventgroup wish. ended_wish (test eventgroup) wish) wishes

-- an eventgroup is of an instance
abbrev pub is_of : InstanceId → Eventgroup → Bool
is_of instance eventgroup = eq_by_cmp instance_cmp eventgroup.instance instance

-- an eventgroup is of one of several instances
abbrev pub is_of_any : List InstanceId → Eventgroup → Bool
is_of_any instances eventgroup = list_any (eq_by_cmp instance_cmp eventgroup.instance) instances

-- what no eventgroup of an instance comes before
abbrev pub least_of : InstanceId → Eventgroup
least_of instance = record { instance = instance; id = 0 }

-- the eventgroups of an instance whose wishes pass a test
abbrev pub passing_of : InstanceId → (Wish → Bool) → Wishes → Wishes
passing_of instance test wishes = retain wishes (λ eventgroup wish. is_of instance eventgroup && test wish)

-- the wished eventgroups of an instance
abbrev pub wished_of : InstanceId → Wishes → Wishes
wished_of instance wishes = retain wishes (is_renewed_by instance)

-- an eventgroup of an instance is wished
abbrev pub any_wished : InstanceId → Wishes → Bool
any_wished instance wishes = list_any (λ e. is_renewed_by instance e.0 e.1) (finite.entries wishes)

-- the eventgroups of an instance whose subscriptions were begun
abbrev pub begun_of : InstanceId → Wishes → Wishes
begun_of instance wishes = begun_where (λ eventgroup beginning. is_of instance eventgroup) wishes

-- and those of several instances
abbrev pub begun_of_any : List InstanceId → Wishes → Wishes
begun_of_any instances wishes = begun_where (λ eventgroup beginning. is_of_any instances eventgroup) wishes

-- the eventgroups whose subscriptions were begun and the time of whose Acks has passed
abbrev pub over_at : ℕ → Wishes → Wishes
over_at now wishes = begun_where (λ eventgroup beginning. is_over now beginning) wishes

-- a subscription was begun that passes a test
abbrev pub any_begun : (Eventgroup → Beginning → Bool) → Wishes → Bool
any_begun test wishes = list_any (λ e. has_begun (test e.0) e.1.stage) (finite.entries wishes)
