-- What ends in a name.
use Rattle.std.proofs.Common.{◌≡◌, ℕ, suc, List, [], ◌∷◌, refl, sym, length, map, arith}
use Rattle.std.proofs.lemmas.Bool.Decides.{nat_tests}
use Rattle.std.specs.Prelude.{true, false, codes, ◌==◌}
use Rattle.proc_macro2.specs.Token.{Token, Ident}
use Rattle.writer_print.specs.Pieces.{piece_token}
use Rattle.writer_print.specs.declared.piece.Piece.{Piece}
use Rattle.syn_grammar.specs.Words.{is_name, is_path_keyword}
use Rattle.rust_leaf.specs.Keywords.{is_reserved}
use Rattle.syn_grammar.specs.Parens.{ends_in_name}

ends_step : (t u : Token) (us : List Token) → ends_in_name (t ∷ u ∷ us) ≡ ends_in_name (u ∷ us)
ends_step (Ident cs) u us = refl
ends_step _ u us = refl

none_more : (n : ℕ) → (suc n == 0) ≡ true → ⊥
none_more n e = grind (arith, nat_tests)

pub ends_one : (t : Token) (ps : List Piece) → (length ps == 0) ≡ true → ends_in_name (t ∷ [])
    ≡ ends_in_name (t ∷ map piece_token ps)
ends_one t [] e = refl
ends_one t (p ∷ ps) e = absurd (none_more (length ps) e)

pub ends_rest : (t : Token) (ps : List Piece) → (length ps == 0) ≡ false → ends_in_name (map piece_token ps)
    ≡ ends_in_name (t ∷ map piece_token ps)
ends_rest t [] e = cc
ends_rest t (p ∷ ps) e = sym (ends_step t (piece_token p) (map piece_token ps))

pub lone_underscore : false ≡ ends_in_name (Ident (codes "_") ∷ [])
unfolding is_name is_path_keyword is_reserved
lone_underscore = refl

pub ruleset names = (lone_underscore, ends_one, ends_rest)
