-- What is said of a text's forest or fault is said of its stream.
use Rattle.std.proofs.Common.{◌≡◌, ◌∙◌, ℕ, List, ap, subst}
use Rattle.std.specs.Prelude.{◌↔◌, IfOk, IfErr, Result, Ok, Err}
use Rattle.std.specs.Str.{chars}
use Rattle.std.proofs.lemmas.Str.{chars-encodes}
use Rattle.proc_macro2.specs.Forest.{IsForest, IsFault, IsErrorOf, IsFaultBehind}
use Rattle.proc_macro2.specs.Groups.{IsMatched}
use Rattle.proc_macro2.specs.Printed.{printed, text}
use Rattle.proc_macro2.specs.Stream.{IsStream}
use Rattle.proc_macro2.proofs.Characters.{text_characters}
use Rattle.proc_macro2.specs.Spacing.{IsWellSpaced}
use Rattle.proc_macro2.specs.Token.{Spanned, plain}
use Rattle.rust_map.specs.declared.fault.LexError.{LexError}
use Rattle.rust_map.specs.declared.fault.LexFault.{LexFault}
use Rattle.rust_map.specs.declared.fault.LexFault.TheVariants.{Lex}
use Rattle.proc_macro2.specs.Leaf.{AreLeaves}
use Rattle.rust_leaf.specs.Leaf.{AreCharacters}
use Rattle.laws_lexer.proofs.Forests.{forest_spaced, same_forest, spaced_no_fault}

pub spaced : (base : ℕ) (cs : List ℕ) (result : Result (List Spanned) LexFault) → AreCharacters cs →
    IfOk result (λ s. IsForest base cs s) → IfOk result (λ s. AreLeaves (plain s) × IsWellSpaced (plain s))
spaced base cs (Ok s) c f = forest_spaced base cs s c f
spaced base cs (Err e) c f = f

pub same : (base : ℕ) (cs : List ℕ) (result : Result (List Spanned) LexFault) (stream : List Spanned) →
    IfOk result (λ s. IsForest base cs s) → cs ≡ text (plain stream) → AreLeaves (plain stream) →
    IfOk result (λ s. IsWellSpaced (plain stream) ↔ (plain s ≡ plain stream))
same base cs (Ok s) stream f e a = same_forest base stream s a (subst (λ x. IsForest base x s) e f)
same base cs (Err x) stream f e a = f

pub without_fault : (base : ℕ) (cs : List ℕ) (result : Result (List Spanned) LexFault) (stream : List Spanned)
    (error : LexError) → IfErr result (λ x. IsFault base cs x) → cs ≡ text (plain stream) → AreLeaves (plain stream) →
    IsMatched stream → IsWellSpaced (plain stream) → result ≡ Err (Lex error) → ⊥
without_fault base cs result stream error f e a m w r =
    let fault : IsErrorOf base cs error = subst (λ x. IfErr x (λ y. IsFault base cs y)) r f in
    spaced_no_fault stream fault.behind a m w (subst (λ x. IsFaultBehind x fault.behind) e fault.fault)

-- what a stream is printed as are the bytes of its text
pub printed_text : (bytes : List ℕ) (stream : List Spanned) → IsStream stream → bytes ≡ printed stream →
    chars bytes ≡ text (plain stream)
printed_text bytes stream s e = ap chars e
    ∙ chars-encodes (text (plain stream)) (text_characters (plain stream) s.characters)
