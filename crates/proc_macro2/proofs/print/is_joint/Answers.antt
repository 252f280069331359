use Rattle.proc_macro2.proofs.Texts.{group_joint}
use Rattle.proc_macro2.proofs.print.is_joint.Goals as goal

pub returns-in-Group : goal.returns-in-Group
returns-in-Group c = rw c.in-Group.is (group_joint c.in-Group.field-0)
