-- A cover of a text up to a place, one piece longer.
use Rattle.std.proofs.Common.{◌≡◌, ℕ, zero, suc, ◌≤◌, arith, List, [], ◌∷◌, ◌++◌, refl, sym, ap, ◌∙◌, subst, length}
use Rattle.std.proofs.Common.{zero-le}
use Rattle.std.specs.Str.{chars, IsUtf8}
use Rattle.rust_lex.specs.Piece.{PieceKind, Piece, Fits, FitsFront, FitsAt}
use Rattle.rust_lex.specs.Cover.{onto, AreFit, AreFitFront, Covers, IsCover}
use Rattle.rust_lex.specs.Places.{rest_at, between_places, IsPlace, IsBehind}
use Rattle.rust_lex.proofs.PlacesLemmas.{rest_end}
use Rattle.rust_lex.proofs.Sound.{front_fits}
use Rattle.rust_lex.proofs.Pieces.{between_joined}

abbrev pub piece : PieceKind → List ℕ → Piece
piece k cs = record { kind = k; chars = cs }

-- pieces cover the text up to a place; at its front there are none
pub record CoversTo (bytes : List ℕ) (pieces : List Piece) (at : ℕ) : Type 0 where
  pub covers : Covers (chars bytes) pieces (rest_at bytes at)
  pub place : IsPlace bytes at
  pub front : at ≡ 0 → pieces ≡ []

onto_more : (ps : List Piece) (p : Piece) (rest : List ℕ) → onto (ps ++ (p ∷ [])) rest ≡ onto ps (p.chars ++ rest)
onto_more [] p rest = refl
onto_more (q ∷ ps) p rest = ap (λ r. q.chars ++ r) (onto_more ps p rest)

fit_more : (ps : List Piece) (p : Piece) (rest : List ℕ) → AreFit ps (p.chars ++ rest) → Fits p.kind p.chars rest
    → AreFit (ps ++ (p ∷ [])) rest
fit_more [] p rest a f = (f, tt)
fit_more (q ∷ ps) p rest a f =
    (subst (λ r. Fits q.kind q.chars r) (sym (onto_more ps p rest)) a.0, fit_more ps p rest a.1 f)

at_front : (at : ℕ) (k : PieceKind) (cs rest : List ℕ) → FitsAt at k cs rest → FitsFront k cs rest
at_front zero k cs rest f = f
at_front (suc n) k cs rest f = front_fits k cs rest f

within : (at : ℕ) (k : PieceKind) (cs rest : List ℕ) → (at ≡ 0 → ⊥) → FitsAt at k cs rest → Fits k cs rest
within zero k cs rest h f = absurd (h refl)
within (suc n) k cs rest h f = f

fit_front : (ps : List Piece) (at : ℕ) (p : Piece) (rest : List ℕ) → (at ≡ 0 → ps ≡ [])
    → AreFitFront ps (p.chars ++ rest) → FitsAt at p.kind p.chars rest → AreFitFront (ps ++ (p ∷ [])) rest
fit_front [] at p rest h a f = (at_front at p.kind p.chars rest f, tt)
fit_front (q ∷ ps) at p rest h a f = (
  subst (λ r. FitsFront q.kind q.chars r) (sym (onto_more ps p rest)) a.0,
  fit_more ps p rest a.1 (within at p.kind p.chars rest (λ e. let n = h e in cc) f),
)

pub covers_none : (bytes : List ℕ) → IsUtf8 bytes → CoversTo bytes [] 0
covers_none bytes u = record
    { covers = record { joined = refl; fit = tt }; place = record { within = zero-le; cut = u }; front = λ e. refl }

pub covers_on : (bytes : List ℕ) (ps : List Piece) (at end : ℕ) (k : PieceKind) → CoversTo bytes ps at
    → FitsAt at k (between_places bytes at end) (rest_at bytes end) → IsBehind bytes at end
    → CoversTo bytes (ps ++ (piece k (between_places bytes at end) ∷ [])) end
covers_on bytes ps at end k c f b =
    let p = piece k (between_places bytes at end) in
    let joined = between_joined bytes at end c.place b in
    record {
      covers = record {
        joined = c.covers.joined ∙ ap (onto ps) joined ∙ sym (onto_more ps p (rest_at bytes end));
        fit = fit_front ps at p (rest_at bytes end) c.front (subst (λ r. AreFitFront ps r) joined c.covers.fit) f;
      };
      place = b.place;
      front = λ e. absurd (let h = b.on in omega arith);
    }

pub covers_all : (bytes : List ℕ) (ps : List Piece) (at : ℕ) → CoversTo bytes ps at → length bytes ≤ at
    → IsCover (chars bytes) ps
covers_all bytes ps at c h = subst (λ r. Covers (chars bytes) ps r) (rest_end bytes at h) c.covers
