use Rattle.std.proofs.Common.{◌++◌, List, map, take}
use Rattle.proc_macro2.specs.Token.{Token}
use Rattle.writer_print.specs.Pieces.{piece_token}
use Rattle.writer_print.specs.Sheets.{Shows}
use Rattle.writer_print.proofs.sheet.Sheet.put.Given as goal

-- the pieces so far are printed
abbrev pub invariant-loop-piece : goal.invariant-loop-piece
invariant-loop-piece l =
    (ts : List Token) → Shows l.initial.self ts → Shows l.self (ts ++ map piece_token (take l.piece-index l.pieces))
