use Rattle.lg_base.proofs.CostLaws.{is_read_back, has_one_cost}
use Rattle.lg_base.proofs.CostFunction.{cost_is_read, has_one_reading}
use Rattle.lg_base.proofs.cost.cost_number_laws.Goals as goal

pub returns : goal.returns
returns c = record { read_back = is_read_back; once = has_one_cost; reads = cost_is_read; one_reading = has_one_reading }
