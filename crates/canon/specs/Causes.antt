-- What the faults of a run's parts are to the run.
use Rattle.rust_map.specs.declared.fault.LexFault.{LexFault}
use Rattle.rust_map.specs.declared.fault.LexFault.TheVariants as lex
use Rattle.canon_io.specs.declared.reading.ReadFault.{ReadFault}
use Rattle.canon_io.specs.declared.reading.ReadFault.TheVariants as reading
use Rattle.canon.specs.declared.fault.Fault.{Fault}
use Rattle.canon.specs.declared.fault.Fault.TheVariants.{Lexical, MapFull, Memory, Reading}

abbrev pub lex_fault : LexFault → Fault
lex_fault (lex.Lex error) = Lexical error.place
lex_fault lex.MapFull = MapFull
lex_fault lex.Memory = Memory

abbrev pub read_fault : ReadFault → Fault
read_fault reading.Memory = Memory
read_fault reading.Failed = Reading
read_fault reading.TooLong = MapFull
