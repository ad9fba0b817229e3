use Rattle.someip_node_laws.proofs.fits.FitPlans.{done_fits, started_fits}
use Rattle.someip_node_laws.proofs.fit_laws.what_is_met_fits.Goals as goal

pub returns-clause-started : goal.returns-clause-started
returns-clause-started c = started_fits

pub returns-clause-step : goal.returns-clause-step
returns-clause-step c h input done fits own is = done_fits h input fits own done is
