-- The first form that is seen.
use Rattle.std.proofs.Common.{◌≡◌, List, ◌∷◌, sym, ap, ◌∙◌}
use Rattle.std.specs.Prelude.{true, false, cond, Some}
use Rattle.proc_macro2.specs.Token.{Token}
use Rattle.syn_grammar.specs.Forms as f
use Rattle.syn_grammar.specs.Kind as k
use Rattle.syn_grammar.specs.Look.{sees}
use Rattle.reader_table.specs.Cases.{cases_of}
use Rattle.reader_table.specs.Kinds.{kind_of}
use Rattle.reader_table.specs.Looks.{look_of}
use Rattle.reader_table.specs.declared.op.Case.{Case}

pub form_here : (c : Case) (cs ds : List Case) (ts : List Token) → cs ≡ c ∷ ds → true ≡ sees (look_of c.look) ts
    → f.first_form (cases_of cs) ts ≡ Some (kind_of c.kind)
form_here c cs ds ts e h =
    ap (λ x. f.first_form (cases_of x) ts) e
    ∙ ap (λ b. cond b (Some (kind_of c.kind)) (f.first_form (cases_of ds) ts)) (sym h)

pub form_behind : (c : Case) (cs ds : List Case) (ts : List Token) → cs ≡ c ∷ ds → false ≡ sees (look_of c.look) ts
    → f.first_form (cases_of cs) ts ≡ f.first_form (cases_of ds) ts
form_behind c cs ds ts e h =
    ap (λ x. f.first_form (cases_of x) ts) e
    ∙ ap (λ b. cond b (Some (kind_of c.kind)) (f.first_form (cases_of ds) ts)) (sym h)

pub front_is : (p : k.Position) (cs : List Case) (ts : List Token) → cases_of cs ≡ f.fronts p
    → f.front p ts ≡ f.first_form (cases_of cs) ts
unfolding f.front
front_is p cs ts e = sym (ap (λ x. f.first_form x ts) e)

pub back_is : (p : k.Position) (cs : List Case) (ts : List Token) → cases_of cs ≡ f.backs p
    → f.back p ts ≡ f.first_form (cases_of cs) ts
unfolding f.back
back_is p cs ts e = sym (ap (λ x. f.first_form x ts) e)
