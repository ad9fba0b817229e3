use Rattle.someip_node_laws.proofs.fits.FitPackets.{bytes_fit}
use Rattle.someip_node_laws.proofs.fit_laws.what_comes_fits.Goals as goal

pub returns : goal.returns
returns c = bytes_fit
