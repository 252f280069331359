-- The messages of an error.
use Rattle.std.specs.Prelude.{List, ◌∷◌, map, string_bytes}
use Rattle.syn_error.specs.Notes.{Note}
use Rattle.syn_error.specs.declared.error.Message.{Message}
use Rattle.syn_error.specs.declared.error.Error.TheInside.{Inside}

abbrev pub note : Message → Note
note m = record { start = m.start; end = m.end; text = string_bytes m.words }

-- the first one, and the others in their order
abbrev pub notes : Inside → List Note
notes e = note e.first ∷ map note e.others.items
