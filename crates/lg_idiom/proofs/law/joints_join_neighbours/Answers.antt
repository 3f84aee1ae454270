use Rattle.lg_idiom.proofs.Joints.{joints_join}
use Rattle.lg_idiom.proofs.law.joints_join_neighbours.Goals as goal

pub returns : goal.returns
returns c = joints_join
