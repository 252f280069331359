-- What becomes of the map that a text is put into.
use Rattle.std.specs.Prelude.{◌≡◌, ℕ, List, ◌⊎◌}
use Rattle.rust_map.specs.Sources.{Sources, with_text}
use Rattle.canon.specs.declared.fault.Fault.{Fault}
use Rattle.canon.specs.declared.fault.Fault.TheVariants.{NotUtf8, Lexical, Syntax, NotFirst, MapFull, Memory}
use Rattle.canon.specs.declared.fault.Fault.TheVariants.{Reading, Writing}

-- what a fault leaves of the map: a syntax fault, and a text that must come first, the map with the text; a lexical
-- fault and a full map the map as it was; and refused memory the one or the other
abbrev pub IsLeft : List ℕ → Sources → Sources → Fault → Type 0
IsLeft text old new (Lexical place) = new ≡ old
IsLeft text old new (Syntax error place) = new ≡ with_text old text
IsLeft text old new (NotFirst index) = new ≡ with_text old text
IsLeft text old new MapFull = new ≡ old
IsLeft text old new Memory = (new ≡ old) ⊎ (new ≡ with_text old text)
IsLeft text old new NotUtf8 = ⊥
IsLeft text old new Reading = ⊥
IsLeft text old new Writing = ⊥
