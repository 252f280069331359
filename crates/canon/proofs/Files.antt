-- From what was read of entries to the file that their tokens are.
use Rattle.std.proofs.Common.{List, sym, subst}
use Rattle.proc_macro2.specs.Token.{Token, plain}
use Rattle.syn_buffer.specs.Entries.{spanned_entries}
use Rattle.syn_buffer.specs.declared.entry.Entry.{Entry}
use Rattle.syn_grammar.specs.Kind.{AFile}
use Rattle.syn_grammar.specs.Read.{IsDerived, NoneRead}
use Rattle.syn_grammar.specs.Tree.{Tree}
use Rattle.reader_rust.proofs.Behind.{plain_entries}
use Rattle.reader_steps.specs.Answers.{tokens}
use Rattle.laws_programs.proofs.Files.{none_read, whole_file}
use Rattle.laws_programs.specs.Program.{IsFile, NoFile}
use Rattle.canon.specs.Unread.{IsUnread, IsUnreadAs}
use Rattle.canon.specs.declared.file.Unread.{Unread}
use Rattle.canon.specs.declared.file.Unread.TheVariants.{Memory, Syntax}

-- what is read of all entries is a file of their tokens
pub file_read : (es : List Entry) (tree : Tree) (rest : List Token) → IsDerived AFile (tokens es) tree rest →
    IsFile (plain (spanned_entries es)) tree
file_read es tree rest d =
    (whole_file (plain (spanned_entries es)) tree rest
    (subst (λ ts. IsDerived AFile ts tree rest) (sym (plain_entries es)) d)).0

no_file : (es : List Entry) → NoneRead AFile (tokens es) → NoFile (plain (spanned_entries es))
no_file es n = none_read (plain (spanned_entries es)) (subst (NoneRead AFile) (sym (plain_entries es)) n)

pub file_unread : (es : List Entry) (u : Unread) → IsUnreadAs AFile (tokens es) u
    → IsUnread (plain (spanned_entries es)) u
file_unread es Memory n = tt
file_unread es (Syntax w) n = no_file es n
