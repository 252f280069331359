-- What reading a unit, or seeking the closing quote, says of a literal's end.
use Rattle.std.proofs.Common.{◌≡◌, ℕ, ◌<◌, List, [], ◌∷◌, length, refl, sym, ap, ◌∙◌, ⊎_elim}
use Rattle.std.specs.Prelude.{true, false, Option, Some, None}
use Rattle.std.proofs.lemmas.Bool.{cases_lt, eqb-true, false≢true}
use Rattle.rust_escape.specs.Chars.{begins}
use Rattle.rust_escape.specs.declared.mode.Mode.{Mode}
use Rattle.rust_escape.specs.Mode.{in_double_quotes, is_raw}
use Rattle.rust_escape.specs.Reads.{Closes, IsUnitAt, is_quote}
use Rattle.rust_escape.specs.Unit.{Lexical, NoUnit, plain, is_plain}
use Rattle.rust_escape.specs.declared.value.Value.{Value}
use Rattle.rust_escape.specs.declared.value.Value.TheVariants.{Character}
use Rattle.rust_lex.specs.Places.{rest_at}
use Rattle.rust_lex.specs.QuotedScan.{past_unit, past_units}
use Rattle.rust_lex.proofs.PlacesLemmas.{rest_end}
use Rattle.rust_lex.proofs.Taken.{option_cases}
use Rattle.rust_lex.proofs.Units.{unit_past, unit_at, inside_past, inside_closed, no_unit_past, char_none_one}
use Rattle.rust_lex.proofs.Units.{char_none_two, char_from}

-- a unit
pub unit_none_end : (mode : Mode) → past_unit mode [] ≡ None
unit_none_end mode = no_unit_past mode

pub unit_there : (mode : Mode) (bytes : List ℕ) (start at : ℕ) (v : Option Value)
    → IsUnitAt Lexical mode bytes start at v → past_unit mode (rest_at bytes start) ≡ Some (rest_at bytes at)
unit_there mode bytes start at v u = ap (past_unit mode) u.joined ∙ unit_past mode _ (rest_at bytes at) v u.is

pub unit_plain : (mode : Mode) (c : ℕ) (cs : List ℕ) → is_plain Lexical mode c ≡ true → past_unit mode (c ∷ cs)
    ≡ Some cs
unit_plain mode c cs h = unit_past mode (c ∷ []) cs (Some (Character c)) (plain h)

pub unit_not : (mode : Mode) (text : List ℕ) → NoUnit Lexical mode text → past_unit mode text ≡ None
unit_not mode text n =
    ⊎_elim
    (λ o. o)
    (λ (rest, o). let u = unit_at mode text rest o in absurd (n u.chars rest u.value u.joined u.is))
    (option_cases (past_unit mode text))

pub ruleset units = (rest_end, unit_none_end, unit_plain, unit_there, unit_not)

pub ruleset characters = (rest_end, char_none_one, char_none_two, char_from)

-- the closing quote
begun : (text : List ℕ) (c : ℕ) (cs : List ℕ) → text ≡ c ∷ cs → begins is_quote text ≡ true → text ≡ 34 ∷ cs
begun text c cs e q = let h : begins is_quote (c ∷ cs) ≡ true =
    ap (begins is_quote) (sym e) ∙ q in e ∙ ap (λ x. x ∷ cs) (eqb-true c 34 h)

pub closes_past : (mode : Mode) (bytes : List ℕ) (start at c next : ℕ) → in_double_quotes mode ≡ true → is_raw mode
    ≡ false → Closes mode (rest_at bytes start) (rest_at bytes at) → rest_at bytes at ≡ c ∷ rest_at bytes next
    → past_units mode 0 (rest_at bytes start) ≡ Some (rest_at bytes next)
closes_past mode bytes start at c next d r k e =
    ap (past_units mode 0) k.joined ∙ inside_past mode k.inside (rest_at bytes at) (rest_at bytes next) k.values d r
    (begun (rest_at bytes at) c (rest_at bytes next) e k.quote) k.is

pub closes_not : (mode : Mode) (text : List ℕ) → ((rest : List ℕ) → Closes mode text rest → ⊥) → past_units mode 0 text
    ≡ None
closes_not mode text n =
    ⊎_elim
    (λ o. o)
    (λ (rest, o). let f = inside_closed mode text rest o in absurd
    (n (34 ∷ rest) (record { inside = f.inside; values = f.values; joined = f.joined; is = f.is; quote = refl })))
    (option_cases (past_units mode 0 text))

pub closes_within : (mode : Mode) (bytes : List ℕ) (start at : ℕ) → Closes mode (rest_at bytes start) (rest_at bytes at)
    → at < length bytes
closes_within mode bytes start at k =
    ⊎_elim
    (λ l. l)
    (λ l. absurd (false≢true (sym (ap (begins is_quote) (rest_end bytes at l)) ∙ k.quote)))
    (cases_lt at (length bytes))

pub ruleset strings = (closes_past, closes_not, closes_within)
