use Rattle.someip_node_laws.proofs.fits.FitPlans.{given_fits}
use Rattle.someip_node_laws.proofs.fit_laws.what_is_given_fits.Goals as goal

pub returns : goal.returns
returns c h input given fits own by = given_fits h input fits own given by
