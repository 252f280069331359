-- A name is a path, behind whatever may stand behind an operand.
use Rattle.std.proofs.Common.{◌≡◌, ℕ, List, [], ◌∷◌, refl, sym, ap, ◌∙◌}
use Rattle.std.specs.Prelude.{zero, suc, Bool, true, false, ◌||◌, cond, ◌==◌, length, Option, Some, None, codes}
use Rattle.std.proofs.lemmas.Slice.Eq.{bytes_eq-Decides}
use Rattle.std.proofs.lemmas.Bool.{false≢true}
use Rattle.proc_macro2.specs.Token.{Token, Opens, Closes, Ident, Literal, Punct}
use Rattle.rust_leaf.specs.declared.punct.Spacing.TheVariants.{Alone as Apart, Joint}
use Rattle.syn_grammar.specs.Kind.{Position, Plain, InCondition, InArm, InStatement, ExprPath}
use Rattle.syn_grammar.specs.Words.{is_bool, is_name, is_plain_name, is_path_keyword, is_ident}
use Rattle.rust_leaf.specs.Keywords.{same_text, is_reserved}
use Rattle.syn_grammar.specs.Tree.{flat}
use Rattle.syn_grammar.specs.Look.{a_lifetime, Look, seen, sees, behind, first_seen, the_mark}
use Rattle.syn_grammar.specs.Look.{a_name, a_path, repeatedly, as_far, ◌then◌, ◌or◌, no}
use Rattle.syn_grammar.specs.Say.{at, marks}
use Rattle.syn_grammar.specs.Forms.{Case, form, first_form, fronts, front, closure_stands, typed_closure_stands}
use Rattle.syn_grammar.specs.Forms.{macro_call_stands, let_stands}
use Rattle.syn_grammar.specs.Table.{table}
use Rattle.syn_grammar.specs.Derives.{Derives}
use Rattle.syn_grammar.specs.Kept.{held, kept}
use Rattle.syn_grammar.specs.Normal.{passed, normal}
use Rattle.laws_reread_expressions.specs.Behind.{no_operand, AtEnd}
use Rattle.laws_reread_expressions.specs.Formed.{IsFront}
use Rattle.laws_reread_expressions.specs.Simple.{lone_name}
use Rattle.laws_reread_expressions.proofs.Bools.{or_none, or_parts}

-- no keyword is a name
off : (w : List ℕ) → is_plain_name w ≡ false → (cs : List ℕ) → is_plain_name cs ≡ true → same_text w cs ≡ false
off w e cs h = go (same_text w cs) refl
  where
    go : (b : Bool) → same_text w cs ≡ b → b ≡ false
    go false f = refl
    go true f = sym h ∙ ap is_plain_name (sym ((bytes_eq-Decides w cs).0 f)) ∙ e

-- what is not seen at an end
pub record End (ts : List Token) : Type 0 where
  pub colon : sees (marks ":") ts ≡ false
  pub lifetime : sees a_lifetime ts ≡ false
  pub bang : sees (no (marks "!=") then marks "!") ts ≡ false
  pub const : sees (at "const") ts ≡ false
  pub mut : sees (at "mut") ts ≡ false

pub end : (ts : List Token) → AtEnd ts → End ts
end ts e =
    let a = or_parts (marks ":" ts) _ e in
    let b = or_parts ((no (marks "!=") then marks "!") ts) _ a.1 in
    let c = or_parts (marks "->" ts) _ b.1 in
    let d = or_parts (a_lifetime ts) _ c.1 in
    let f = or_parts (at "else" ts) _ d.1 in
    let g = or_parts (at "const" ts) (at "mut" ts) f.1 in
    record { colon = a.0; lifetime = d.0; bang = b.0; const = g.0; mut = g.1 }

not_seen : (b : Bool) (ts : List Token) (o : Option (List Token)) → seen (cond b (Some ts) None) ≡ false
    → cond b o None ≡ None
not_seen true ts o e = absurd (false≢true (sym e))
not_seen false ts o e = refl

pub colons : (ts : List Token) → sees (marks ":") ts ≡ false → marks "::" ts ≡ None
colons [] e = refl
colons (Punct d Joint ∷ ts) e = not_seen (d == 58) ts (marks ":" ts) e
colons (Punct d Apart ∷ ts) e = refl
colons (Ident cs ∷ ts) e = refl
colons (Literal cs ∷ ts) e = refl
colons (Opens d ∷ ts) e = refl
colons (Closes d ∷ ts) e = refl

pub no_more : (n : ℕ) (a : Look) (ts : List Token) → a ts ≡ None → as_far n a ts ≡ Some ts
no_more zero a ts e = refl
no_more (suc n) a ts e = ap (λ o. first_seen (behind o (as_far n a)) (Some ts)) e

-- forms of which none is seen
others : ℕ → List Case → List Case
others zero cases = cases
others (suc n) [] = []
others (suc n) (c ∷ cases) = others n cases

Unseen : ℕ → List Case → List Token → Type 0
Unseen zero cases ts = Unit {0}
Unseen (suc n) [] ts = Unit {0}
Unseen (suc n) (form k l ∷ cases) ts = (seen (l ts) ≡ false) × Unseen n cases ts

skip : (n : ℕ) (cases : List Case) (ts : List Token) → Unseen n cases ts → first_form cases ts
    ≡ first_form (others n cases) ts
unfolding others Unseen
skip zero cases ts u = refl
skip (suc n) [] ts u = refl
skip (suc n) (form k l ∷ cases) ts u =
    ap (λ b. cond b (Some k) (first_form cases ts)) u.0 ∙ skip n cases ts u.1

at_off : (b : Bool) (ts : List Token) → b ≡ false → seen (cond b (Some ts) None) ≡ false
at_off b ts e = ap (λ c. seen (cond c (Some ts) None)) e

or_both : (a b c : Bool) → (a || c) ≡ true → (a || b || c) ≡ true
or_both true b c e = refl
or_both false true c e = refl
or_both false false c e = e

or_no : (b : Bool) (ts : List Token) → seen (first_seen (at "const" ts) (at "mut" ts)) ≡ false
    → seen (behind (cond b (Some ts) None) (at "const" or at "mut")) ≡ false
or_no true ts e = e
or_no false ts e = refl

module _ (cs : List ℕ) (h : is_plain_name cs ≡ true) (ts : List Token) where
  bool_off : is_bool cs ≡ false
  unfolding is_bool is_plain_name is_reserved
  bool_off = rw (off (codes "true") refl cs h, off (codes "false") refl cs h) refl

  keyword_off : is_path_keyword cs ≡ false
  unfolding is_path_keyword is_plain_name is_reserved
  keyword_off = rw (off (codes "self") refl cs h, off (codes "super") refl cs h, off (codes "crate") refl cs h) refl

  closure_off : closure_stands (Ident cs ∷ ts) ≡ None
  unfolding is_plain_name is_reserved
  closure_off =
      rw (
        off (codes "static") refl cs h,
        off (codes "move") refl cs h,
        off (codes "const") refl cs h,
        off (codes "async") refl cs h,
        off (codes "async") refl cs h,
        off (codes "for") refl cs h,
      ) refl

  name_on : is_name cs ≡ true
  unfolding is_name is_plain_name
  name_on = or_both (is_ident cs) (is_path_keyword cs) (same_text (codes "Self") cs) h

  at_word : (w : List ℕ) → is_plain_name w ≡ false → seen (cond (same_text w cs) (Some ts) None) ≡ false
  at_word w e = at_off (same_text w cs) ts (off w e cs h)

  let_off : (p : Position) → seen (let_stands p (Ident cs ∷ ts)) ≡ false
  unfolding is_plain_name is_reserved
  let_off Plain = at_word (codes "let") refl
  let_off InCondition = at_word (codes "let") refl
  let_off InArm = at_word (codes "let") refl
  let_off InStatement = refl

  typed_off : seen (typed_closure_stands (Ident cs ∷ ts)) ≡ false
  typed_off = rw closure_off refl

  path_seen : AtEnd ts → a_path (Ident cs ∷ ts) ≡ Some ts
  path_seen e =
      ap (λ b. behind (cond b (Some ts) None) (repeatedly (the_mark (codes "::") then a_name))) name_on
      ∙ no_more (length ts) (the_mark (codes "::") then a_name) ts
      (ap (λ o. behind o a_name) (colons ts (end ts e).colon))

  macro_off : AtEnd ts → seen (macro_call_stands (Ident cs ∷ ts)) ≡ false
  macro_off e = ap (λ o. seen (behind o (no (marks "!=") then marks "!"))) (path_seen e) ∙ (end ts e).bang

  path_last : first_form (form ExprPath (a_name or marks "::" or marks "<") ∷ []) (Ident cs ∷ ts) ≡ Some ExprPath
  path_last = ap (λ b. cond (seen (first_seen (cond b (Some ts) None) None)) (Some ExprPath) None) name_on

  pub path_front : (p : Position) → seen (macro_call_stands (Ident cs ∷ ts)) ≡ false
      → front p (Ident cs ∷ ts) ≡ Some ExprPath
  unfolding front is_plain_name is_reserved others Unseen
  path_front p e =
      skip 30 (fronts p) (Ident cs ∷ ts) (
        refl,
        (
          at_off (is_bool cs) ts bool_off,
          (
            refl,
            (
              at_word (codes "loop") refl,
              (
                at_word (codes "while") refl,
                (
                  typed_off,
                  (
                    ap seen closure_off,
                    (
                      at_word (codes "for") refl,
                      (
                        refl,
                        (
                          refl,
                          (
                            refl,
                            (
                              refl,
                              (
                                at_word (codes "_") refl,
                                (
                                  at_word (codes "unsafe") refl,
                                  (
                                    at_word (codes "async") refl,
                                    (
                                      at_word (codes "const") refl,
                                      (
                                        at_word (codes "try") refl,
                                        (
                                          at_word (codes "if") refl,
                                          (
                                            at_word (codes "match") refl,
                                            (
                                              at_word (codes "continue") refl,
                                              (
                                                at_word (codes "break") refl,
                                                (
                                                  at_word (codes "return") refl,
                                                  (
                                                    at_word (codes "yield") refl,
                                                    (
                                                      let_off p,
                                                      (refl, (refl, (refl, (refl, (refl, (e, tt)))))),
                                                    ),
                                                  ),
                                                ),
                                              ),
                                            ),
                                          ),
                                        ),
                                      ),
                                    ),
                                  ),
                                ),
                              ),
                            ),
                          ),
                        ),
                      ),
                    ),
                  ),
                ),
              ),
            ),
          ),
        ),
      ) ∙ path_last

  pub raw_off : sees (at "const") ts ≡ false → sees (at "mut") ts ≡ false → sees no_operand (Ident cs ∷ ts) ≡ false
  unfolding is_plain_name is_reserved
  raw_off e f =
      ap (λ b. seen (first_seen (cond b (Some ts) None)
      (behind (cond (same_text (codes "raw") cs) (Some ts) None) (at "const" or at "mut"))))
      (off (codes "mut") refl cs h)
      ∙ or_no (same_text (codes "raw") cs) ts (or_none (at "const" ts) (at "mut" ts) e f)

  name_read : AtEnd ts → Derives (lone_name cs) (table ExprPath) ts
  unfolding table
  name_read e = (
    refl,
    (
      refl,
      (
        refl,
        (
          (refl, tt),
          (
            refl,
            (
              at_off (is_path_keyword cs) ts keyword_off,
              (
                h,
                (
                  ap (λ o. seen (behind o (marks "<"))) (colons ts (end ts e).colon),
                  (ap seen (colons ts (end ts e).colon), (refl, tt)),
                ),
              ),
            ),
          ),
        ),
      ),
    ),
  )

name_held : (cs : List ℕ) → flat (normal (kept (lone_name cs))) ≡ flat (lone_name cs)
unfolding held passed
name_held cs = refl

pub name_front : (cs : List ℕ) → is_plain_name cs ≡ true → IsFront AtEnd ExprPath (lone_name cs)
name_front cs h = record {
  begins = λ p ts s e. path_front cs h ts p (macro_off cs h ts e);
  read = λ ts e. name_read cs h ts e;
  held = name_held cs;
  single = λ ts e. raw_off cs h ts (end ts e).const (end ts e).mut;
}
