-- The piece at a place, in the bytes of a text.
use Rattle.std.proofs.Common.{◌≡◌, ℕ, zero, suc, List, [], ◌∷◌, ◌++◌, sym, ap, ◌∙◌, subst}
use Rattle.std.specs.Prelude.{true, Option, Some, None}
use Rattle.std.proofs.lemmas.Bool.{and_parts}
use Rattle.std.proofs.lemmas.List.{append_cancel_right}
use Rattle.rust_lex.specs.Chars.{is_narrow_white}
use Rattle.rust_lex.specs.Piece.{PieceKind, White, FitsAt}
use Rattle.rust_lex.specs.Cover.{NoPieceAt}
use Rattle.rust_lex.specs.Ended.{IsScanned}
use Rattle.rust_lex.specs.Places.{rest_at, between_places, IsPlace, IsBehind, IsPieceAt}
use Rattle.rust_lex.specs.Scan.{Nowhere, Ends, scan_at}
pub use Rattle.rust_escape.proofs.Ranges.{between_joined}
use Rattle.rust_lex.proofs.Sound.{sound_at}
use Rattle.rust_lex.proofs.Complete.{complete_at}

-- and so those of what was scanned
pub chars_between : (bytes cs : List ℕ) (at end : ℕ) → IsPlace bytes at → IsBehind bytes at end → rest_at bytes at
    ≡ cs ++ rest_at bytes end → cs ≡ between_places bytes at end
chars_between bytes cs at end p b e =
    append_cancel_right cs (between_places bytes at end) (rest_at bytes end) (sym e ∙ between_joined bytes at end p b)

no_piece : (at : ℕ) (text : List ℕ) → scan_at at text ≡ Nowhere → NoPieceAt at text
no_piece at text e = λ k cs rest s f.
    (let h = complete_at at k cs rest f in let g : Nowhere ≡ Ends k rest = sym e ∙ ap (scan_at at) s ∙ h in cc)

pub some_piece : (bytes : List ℕ) (at end : ℕ) (k : PieceKind) → IsPlace bytes at → scan_at at (rest_at bytes at)
    ≡ Ends k (rest_at bytes end) → IsBehind bytes at end → FitsAt at k (between_places bytes at end) (rest_at bytes end)
some_piece bytes at end k p e b =
    let f = sound_at at (rest_at bytes at) (rest_at bytes end) k e in
    subst (λ x. FitsAt at k x (rest_at bytes end)) (chars_between bytes f.chars at end p b f.joined) f.fits

pub piece_at : (bytes : List ℕ) (at : ℕ) (result : Option (PieceKind × ℕ)) → IsPlace bytes at
    → IsScanned bytes at result (scan_at at (rest_at bytes at)) → IsPieceAt bytes at result
piece_at bytes at None p h = no_piece at (rest_at bytes at) h
piece_at bytes at (Some q) p h = (some_piece bytes at q.1 q.0 p h.0 h.1, h.1)

-- a white character of ASCII is a piece wherever it stands
white_fits : (at c : ℕ) (rest : List ℕ) → is_narrow_white c ≡ true → FitsAt at White (c ∷ []) rest
white_fits zero c rest h = (and_parts _ _ h).0
white_fits (suc n) c rest h = (and_parts _ _ h).0

pub white_piece : (bytes : List ℕ) (at end c : ℕ) → IsPlace bytes at → rest_at bytes at ≡ c ∷ rest_at bytes end
    → IsBehind bytes at end → is_narrow_white c ≡ true
    → FitsAt at White (between_places bytes at end) (rest_at bytes end)
white_piece bytes at end c p e b h =
    subst (λ x. FitsAt at White x (rest_at bytes end)) (chars_between bytes (c ∷ []) at end p b e)
    (white_fits at c (rest_at bytes end) h)
