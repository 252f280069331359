use Rattle.rust_leaf.proofs.WrittenLiterals.{byte_literal, byte_string_literal, c_string_literal, character_literal}
use Rattle.rust_leaf.proofs.WrittenLiterals.{string_literal}
use Rattle.rust_leaf.proofs.laws.written_in_quotes.Goals as goal

pub returns-clause-string : goal.returns-clause-string
returns-clause-string c = string_literal

pub returns-clause-character : goal.returns-clause-character
returns-clause-character c = character_literal

pub returns-clause-byte : goal.returns-clause-byte
returns-clause-byte c = byte_literal

pub returns-clause-byte_string : goal.returns-clause-byte_string
returns-clause-byte_string c = byte_string_literal

pub returns-clause-c_string : goal.returns-clause-c_string
returns-clause-c_string c = c_string_literal
