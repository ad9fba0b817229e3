use Rattle.someip_world_rules.proofs.LineLemmas.{line_of_step}
use Rattle.someip_world_rules.proofs.run_laws.each_line_tells_of_its_step.Goals as goal

pub returns : goal.returns
returns c nodes configs steps lines line is among = line_of_step nodes configs steps lines line is among
