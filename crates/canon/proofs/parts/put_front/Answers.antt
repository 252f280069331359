use Rattle.std.proofs.Common.{◌≡◌, ◌∙◌, ◌++◌, List, ap, map, subst}
use Rattle.proc_macro2.specs.Token.{Token}
use Rattle.writer_print.specs.Pieces.{piece_token}
use Rattle.writer_print.specs.Sheets.{Shows}
use Rattle.writer_print.specs.declared.piece.Piece.{Piece}
use Rattle.writer_rules.specs.Said.{said}
use Rattle.writer_read.proofs.Read.{formed_read}
use Rattle.syn_grammar.specs.Kind.{InnerAttributes, Plain}
use Rattle.canon.proofs.Parted.{front_put}
use Rattle.canon.specs.Parts.{written_as}
use Rattle.canon.proofs.parts.put_front.Goals as goal

pub returns-clause-put : goal.returns-clause-put
unfolding said
returns-clause-put c =
    let formed = formed_read InnerAttributes c.in_ok-tree.tree _ c.in_ok-tree.ensures.found.0 (λ e. cc) in
    let same : map piece_token c.as_slice.result.now ≡ written_as c.in_ok-tree.tree =
    ap (map piece_token) c.as_slice.ensures.value ∙ c.in_ok-write.ensures.put Plain formed
    ∙ ap (λ (ps : List Piece). map piece_token ps ++ said Plain c.in_ok-tree.tree) c.new-pieces.ensures.items in
    front_put c.args.entries.now c.in_ok-tree.rest.now c.args.sheet.now c.put.new.self c.in_ok-tree.tree c.requires
    c.in_ok-tree.ensures.whole c.in_ok-tree.ensures.found
    (λ ts q. subst (λ (us : List Token). Shows c.put.new.self (ts ++ us)) same (c.in_ok-put.ensures ts q))
