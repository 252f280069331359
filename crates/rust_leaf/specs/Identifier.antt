-- Identifiers, and what refuses a text as one.
use Rattle.std.specs.Prelude.{ℕ, Bool, false, cond, not, ◌&&◌, ◌||◌, ◌==◌, List, [], ◌∷◌, length, Option, Some}
use Rattle.std.specs.Prelude.{None, codes}
use Rattle.std.specs.List.{list_all, list_any}
use Rattle.std.specs.Char.{is_ascii_digit}
use Rattle.std.specs.Str.{bytes_eq}
use Rattle.unicode_ident.specs.Ident.{is_xid_start, is_xid_continue}
use Rattle.rust_leaf.specs.declared.ident.IdentFault.{IdentFault}
use Rattle.rust_leaf.specs.declared.ident.IdentFault.TheVariants.{Empty, Number, Invalid, Reserved, Memory}

-- an identifier begins with _ or a character of XID_Start
abbrev pub begins_identifier : ℕ → Bool
begins_identifier c = is_xid_start c || c == 95

-- and goes on with characters of XID_Continue
abbrev pub is_identifier : List ℕ → Bool
is_identifier [] = false
is_identifier (c ∷ cs) = begins_identifier c && list_all is_xid_continue cs

-- a number has ASCII digits alone
abbrev pub is_number : List ℕ → Bool
is_number cs = list_all is_ascii_digit cs

-- _ super self Self crate, before which no r# stands
abbrev pub never_raw : List (List ℕ)
never_raw = codes "_" ∷ codes "super" ∷ codes "self" ∷ codes "Self" ∷ codes "crate" ∷ []

abbrev pub is_never_raw : List ℕ → Bool
is_never_raw cs = list_any (λ word. bytes_eq cs word) never_raw

-- r# and then an identifier that may stand behind it
abbrev pub is_raw_identifier : List ℕ → Bool
is_raw_identifier (c ∷ d ∷ cs) = (c == 114 && d == 35) && (is_identifier cs && not (is_never_raw cs))
is_raw_identifier _ = false

-- the text of an identifier as it is printed
abbrev pub is_ident_text : List ℕ → Bool
is_ident_text cs = is_identifier cs || is_raw_identifier cs

-- what refuses a text as an identifier: the first of these that applies
abbrev pub refusal : List ℕ → Option IdentFault
refusal cs = cond (length cs == 0) (Some Empty)
    (cond (is_number cs) (Some Number) (cond (is_identifier cs) None (Some Invalid)))

-- the first of two refusals
abbrev pub or_else : Option IdentFault → Option IdentFault → Option IdentFault
or_else (Some fault) other = Some fault
or_else None other = other

-- and what refuses it behind r#
abbrev pub refusal_of_raw : List ℕ → Option IdentFault
refusal_of_raw cs = or_else (refusal cs) (cond (is_never_raw cs) (Some Reserved) None)

-- the fault of a call that fails: what refuses the text, or else that there is no memory
abbrev pub fault_of : Option IdentFault → IdentFault
fault_of (Some fault) = fault
fault_of None = Memory
