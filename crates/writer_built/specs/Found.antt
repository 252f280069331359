-- What is found of the own part of a form behind its left operand.
use Rattle.std.specs.Prelude.{◌≡◌, ◌⊎◌, Bool, false, cond, List, None}
use Rattle.proc_macro2.specs.Token.{Token}
use Rattle.laws_binding.specs.Written as w
use Rattle.syn_grammar.specs.Kind.{Kind}
use Rattle.syn_grammar.specs.Tree.{Tree, flat}
use Rattle.writer_rules.specs.Said.{own_said}
use Rattle.writer_rules.specs.Way.{dotted_of, is_dotted}
use Rattle.writer_built.specs.Begins.{front2, front3}
use Rattle.writer_built.specs.Heads.{head_tokens}
use Rattle.writer_built.specs.Behind.{first_own, last_behind}
use Rattle.writer_built.specs.Facts.{last_of}
use Rattle.writer_built.specs.Kept.{own_tokens}
use Rattle.writer_built.specs.declared.dots.Behind.{Behind}

-- its tokens, the first of its first form's, and what the last one ends with
abbrev pub IsBehind : Kind → Tree → Behind → Type 0
IsBehind k y b =
    (own_tokens b.own ≡ own_said k y) × (head_tokens b.first ≡ front3 (flat (first_own k y)))
    × (last_of b.last ≡ last_behind k y)

-- The same of these tokens: of fields by numbers the first form's are two.
abbrev pub IsFound : List Token → Bool → w.Last → Behind → Type 0
IsFound ts numbered l b =
    (own_tokens b.own ≡ ts) × (head_tokens b.first ≡ cond numbered (front2 (front3 ts)) (front3 ts))
    × (last_of b.last ≡ l)

-- an own part in which no number stands behind a dot, as it has none
abbrev pub HasNoDot : Kind → Tree → Type 0
HasNoDot k y = (is_dotted k ≡ false) ⊎ (None ≡ dotted_of y)
