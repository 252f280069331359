use Rattle.std.proofs.Common.{◌∙◌, ◌-◌, ◌++◌, List, ap, arith, drop, length, length-drop, sym, take}
use Rattle.std.proofs.lemmas.List.{take-append-drop, take_all}
use Rattle.syn_buffer.specs.declared.entry.Entry.{Entry}
use Rattle.syn_read.proofs.reader.Reader.before_last.Goals as goal

pub past-requires-clause-last : goal.past-requires-clause-last
past-requires-clause-last c =
    let es : List Entry = c.args.self.entries.now in
    let n = length es - c.args.count in (
      take n es,
      sym (take-append-drop n es)
          ∙ ap (λ xs. take n es ++ xs) (sym (take_all (length es - n) (drop n es) (omega (arith, length-drop n es)))),
    )
