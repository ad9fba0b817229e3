use Rattle.sd_wire.proofs.fronts.FrontLemmas.{fronts_fit}
use Rattle.sd_wire.proofs.fronts.AloneLemmas.{short_alone, endpoint_alone, endpoint_fronts}
use Rattle.sd_wire.proofs.laws.small_entries_fit_alone.Goals as goal

pub returns-clause-short : goal.returns-clause-short
returns-clause-short c = short_alone

pub returns-clause-endpoint : goal.returns-clause-endpoint
returns-clause-endpoint c = endpoint_alone

pub returns-clause-alone : goal.returns-clause-alone
returns-clause-alone c = fronts_fit

pub returns-clause-fronts : goal.returns-clause-fronts
returns-clause-fronts c = endpoint_fronts
