use Rattle.lg_run.proofs.Joints.{have_no_joints}
use Rattle.lg_run.proofs.law.dictionaries_have_no_joints.Goals as goal

pub returns : goal.returns
returns c = have_no_joints c.read_dictionaries_are_exportable.ensures c.edited_dictionaries_are_exportable.ensures
