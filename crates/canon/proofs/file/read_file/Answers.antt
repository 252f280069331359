use Rattle.std.proofs.lemmas.Result.{err_from_is_err_and}
use Rattle.canon.proofs.Files.{file_read, file_unread}
use Rattle.canon.proofs.file.read_file.Goals as goal

pub returns-in_err-tree-clause-refused : goal.returns-in_err-tree-clause-refused
returns-in_err-tree-clause-refused c =
    let p = err_from_is_err_and c.from_residual.result c.from_residual.ensures.1 in
    rw (p.1, p.2) (file_unread c.args.entries.now _ c.in_err-tree.ensures.refused)

pub returns-clause-file : goal.returns-clause-file
returns-clause-file c = file_read c.args.entries.now c.in_ok-tree.tree _ c.in_ok-tree.ensures.found
