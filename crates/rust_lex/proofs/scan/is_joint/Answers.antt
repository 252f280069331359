use Rattle.rust_lex.proofs.Joints.{joint_says}
use Rattle.rust_lex.proofs.scan.is_joint.Goals as goal

pub returns : goal.returns
returns c = joint_says _ c.joint.result c.joint.ensures
