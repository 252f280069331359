-- What holds of a text's forest in a map that has the text is said of a stream and its map.
use Rattle.std.proofs.Common.{◌≡◌, ℕ, ◌≤◌, List, sym, ap, subst, arith, All, Ok, Err, IfOk, OnOk, OnErr}
use Rattle.std.specs.Prelude.{Result}
use Rattle.std.specs.List.{AllPairs}
use Rattle.rust_map.specs.Sources.{KeepsSpots, Sources, next_position, spot, with_text}
use Rattle.rust_map.proofs.SpotLemmas.{inserted_kept}
use Rattle.proc_macro2.specs.Forest.{IsForest}
use Rattle.proc_macro2.specs.Token.{Spanned}
use Rattle.rust_map.specs.declared.fault.LexFault.{LexFault}
use Rattle.laws_lexer.specs.Place.{IsBehind, IsFound}
use Rattle.laws_lexer.proofs.Standing.{tokens_found, tokens_ordered}

pub printed : (old new : Sources) (text : List ℕ) (first : ℕ) (result : Result (List Spanned) LexFault) →
    first ≡ old.start → 1 ≤ first → IfOk result (λ s. IsForest (next_position old) text s) →
    OnOk result (new ≡ with_text old text) → IfOk result (λ s. All (IsFound new) s)
printed old new text first (Ok s) e positive f m = subst (λ n. All (IsFound n) s) (sym m)
    (tokens_found old text s (omega arith) f)
printed old new text first (Err x) e positive f m = f

pub ordered : (old new : Sources) (text : List ℕ) (first : ℕ) (result : Result (List Spanned) LexFault) →
    first ≡ old.start → 1 ≤ first → IfOk result (λ s. IsForest (next_position old) text s) →
    OnOk result (new ≡ with_text old text) → IfOk result (λ s. AllPairs (IsBehind new) s)
ordered old new text first (Ok s) e positive f m = subst (λ n. AllPairs (IsBehind n) s) (sym m)
    (tokens_ordered old text s (omega arith) f)
ordered old new text first (Err x) e positive f m = f

pub kept : (old new : Sources) (text : List ℕ) (result : Result (List Spanned) LexFault) →
    OnOk result (new ≡ with_text old text) → OnErr result (new ≡ old) → KeepsSpots old new
kept old new text (Ok s) m e = inserted_kept old new text m
kept old new text (Err x) m e = λ span h. ap (λ n. spot n span) e
