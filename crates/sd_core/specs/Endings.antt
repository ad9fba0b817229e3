-- Why subscriptions that were begun end.
use Rattle.std.specs.Prelude.{ℕ, Bool, ◌||◌, List}
use Rattle.std.specs.List.{list_any}
use Rattle.std.specs.Ordering.{eq_by_cmp}
use Rattle.sd_core.specs.declared.ending.Ending.{Ending}
use Rattle.sd_core.specs.declared.ending.Ending.TheVariants.{Offer, Reboot, Time}
use Rattle.sd_core.specs.declared.keys.InstanceId.{InstanceId}
use Rattle.sd_core.specs.declared.eventgroup.Eventgroup.{Eventgroup}
use Rattle.sd_core.specs.declared.wish.Beginning.{Beginning}
use Rattle.sd_core.specs.Keys.{instance_cmp}
use Rattle.sd_core.specs.Wishes.{is_over, is_with}

-- a moment ends the subscription of an eventgroup: the time of its Ack has passed, or its instance is one of these, whose
-- known offers passed
abbrev pub ends_at : ℕ → List InstanceId → Eventgroup → Beginning → Bool
ends_at now instances eventgroup beginning = is_over now beginning || list_any (eq_by_cmp instance_cmp eventgroup.instance) instances

-- the subscription of an eventgroup ends, where the known offers of these instances passed
abbrev pub ends_by : Ending → List InstanceId → Eventgroup → Beginning → Bool
ends_by (Offer instance) passed = λ eventgroup beginning. eq_by_cmp instance_cmp eventgroup.instance instance
ends_by (Reboot peer) passed = λ eventgroup beginning. is_with peer beginning
ends_by (Time now) passed = ends_at now passed
