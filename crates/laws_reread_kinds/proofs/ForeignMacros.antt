-- Macros in extern blocks: behind the first word of their path stands a mark, so none is seen as a function or as a
-- static behind its safety, though safe is a name too.
use Rattle.std.proofs.Common.{◌≡◌, ℕ, List, [], ◌∷◌, refl, sym, subst, ⊎_elim}
use Rattle.std.specs.Prelude.{Bool, true, false, cond, codes, Some, None}
use Rattle.std.proofs.lemmas.Bool.{false≢true}
use Prim.Native.String.{String}
use Rattle.proc_macro2.specs.Token.{Token, Ident}
use Rattle.syn_grammar.specs.Kind.{InForeign}
use Rattle.syn_grammar.specs.Words.{is_ident, is_string}
use Rattle.rust_leaf.specs.Keywords.{is_reserved, same_text}
use Rattle.syn_grammar.specs.Look.{Look, a_quoted, behind, first_seen, maybe, seen, ◌or◌, ◌then◌}
use Rattle.syn_grammar.specs.Say.{at}
use Rattle.syn_grammar.specs.Items.{maybe_safety, signature_stands}
use Rattle.laws_items.proofs.Places.{none_then}
use Rattle.laws_reread_kinds.specs.Sees.{Lacks, LacksAll}
use Rattle.laws_reread_kinds.proofs.Classes.{IsAmong}
use Rattle.laws_reread_kinds.proofs.MacroItems.{a_word_lacked, abi_fn, front_is, is_marked, key_classes, macro_classes}
use Rattle.laws_reread_kinds.proofs.MacroItems.{maybe_none}
use Rattle.laws_reread_kinds.proofs.Parts.{unseen_all}
use Rattle.laws_reread_kinds.proofs.Sights.{ident_not}

-- what is looked for before a macro there
abbrev pub foreign_looks : List Look
foreign_looks = signature_stands InForeign ∷ (maybe_safety InForeign then at "static") ∷ []

past_either : (a b : Bool) (l : Look) (ts us : List Token) → Lacks l ts → Lacks l us
    → seen (behind (first_seen (first_seen (cond a (Some us) None) (cond b (Some us) None)) (Some ts)) l) ≡ false
past_either true b l ts us e f = f
past_either false true l ts us e f = f
past_either false false l ts us e f = e

no_function : (us : List Token) → is_marked us ≡ true → Lacks abi_fn us
no_function (Ident cs ∷ us) h = absurd (false≢true h)
no_function _ h = refl

no_static : (us : List Token) → is_marked us ≡ true → Lacks (at "static") us
no_static (Ident cs ∷ us) h = absurd (false≢true h)
no_static _ h = refl

word_lacks : (cs : List ℕ) (us : List Token) → is_ident cs ≡ true → is_marked us ≡ true
    → LacksAll foreign_looks (Ident cs ∷ us)
unfolding is_reserved
word_lacks cs us e m = (no_signature, (past_safety (at "static") (at_no "static" refl) (no_static us m), tt))
  where
    ts : List Token
    ts = Ident cs ∷ us

    at_no : (w : String) → is_reserved (codes w) ≡ true → Lacks (at w) ts
    at_no w r =
        a_word_lacked (same_text (codes w) cs) us
        (ident_not (codes w) cs r e)

    past_safety : (l : Look) → Lacks l ts → Lacks l us → Lacks (maybe (at "unsafe" or at "safe") then l) ts
    past_safety l e f = past_either (same_text (codes "unsafe") cs) (same_text (codes "safe") cs) l ts us e f

    no_abi : Lacks abi_fn ts
    no_abi =
        maybe_none (at "extern" then maybe (a_quoted is_string)) (at "fn") ts
        (none_then (at "extern") (maybe (a_quoted is_string)) ts (at_no "extern" refl)) (at_no "fn" refl)

    no_signature : Lacks (signature_stands InForeign) ts
    no_signature =
        maybe_none (at "const") (maybe (at "async") then maybe (at "unsafe" or at "safe") then abi_fn) ts
        (at_no "const" refl)
        (maybe_none (at "async") (maybe (at "unsafe" or at "safe") then abi_fn) ts (at_no "async" refl)
        (past_safety abi_fn no_abi (no_function us m)))

keys_lack : (ts : List Token) → IsAmong key_classes ts → LacksAll foreign_looks ts
keys_lack ts i =
    unseen_all foreign_looks key_classes ts (
      (λ us. refl, (λ us. refl, (λ us. refl, (λ us. refl, tt)))),
      ((λ us. refl, (λ us. refl, (λ us. refl, (λ us. refl, tt)))), tt),
    ) i

pub foreign_lacks : (ts : List Token) → IsAmong (macro_classes InForeign) ts → LacksAll foreign_looks ts
foreign_lacks ts i =
    ⊎_elim (λ h. let f = front_is InForeign h.0 h.1 h.2 in
    subst (LacksAll foreign_looks) (sym h.3) (word_lacks h.0 h.1 f.0 f.1)) (λ h. keys_lack ts h) i
