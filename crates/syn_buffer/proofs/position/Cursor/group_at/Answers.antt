use Rattle.std.proofs.Common.{◌≡◌, suc, ap, sym, ◌∙◌, subst, List, ◌∷◌, ◌++◌, take, drop, IsTrue, arith, length}
use Rattle.std.proofs.Common.{length-drop, length-take, ◌-◌}
use Rattle.proc_macro2.specs.Flat.{spanned}
use Rattle.proc_macro2.specs.Groups.{IsMatched}
use Rattle.proc_macro2.specs.Token.{Opens, Closes, Spanned}
use Rattle.syn_buffer.specs.Entries.{is_laid, spanned_entries}
use Rattle.syn_buffer.specs.Seen.{seen}
use Rattle.syn_buffer.specs.declared.entry.Entry.{Entry}
use Rattle.syn_buffer.proofs.AllSeen.{seen_drop, seen_take}
use Rattle.syn_buffer.specs.Seen.{all_seen}
use Rattle.syn_buffer.proofs.Laid.{Opened, opened, borrowed_behind, group_seen, matched_seen, whole_is_laid}
use Rattle.syn_buffer.proofs.position.Cursor.group_at.Goals as goal

pub inside-inside-requires-clause-laid : goal.inside-inside-requires-clause-laid
inside-inside-requires-clause-laid c =
    let o = opened c.args.delimiter c.args.span c.args.count c.args.behind.now c.requires.laid in
    whole_is_laid (take c.args.count c.args.behind.now) o.inside

pub past-after-requires-clause-laid : goal.past-after-requires-clause-laid
past-after-requires-clause-laid c =
    let P : List Entry → Type 0 = λ es. IsTrue (is_laid es) in
    subst P (sym (borrowed_behind c.args.behind.now c.args.count))
    (opened c.args.delimiter c.args.span c.args.count c.args.behind.now c.requires.laid).behind

pub inside-inside-requires-clause-visible : goal.inside-inside-requires-clause-visible
inside-inside-requires-clause-visible c = λ v. seen_take c.args.count c.args.behind.now (c.requires.seen v)

pub past-after-requires-clause-visible : goal.past-after-requires-clause-visible
past-after-requires-clause-visible c = λ v.
    let P : List Entry → Type 0 = λ es. IsTrue (all_seen (spanned_entries es)) in
    subst P (sym (borrowed_behind c.args.behind.now c.args.count))
    (seen_drop (suc c.args.count) c.args.behind.now (c.requires.seen v))

pub returns : goal.returns
returns c =
    let d = c.args.delimiter in
    let s = c.args.span in
    let n = c.args.count in
    let t : List Entry = c.args.behind.now in
    let o : Opened d s n t = opened d s n t c.requires.laid in
    let f : List Entry → List Spanned = λ es. seen (spanned_entries es) in
    let inside : f c.inside-inside.result.entries.now ≡ f (take n t) = ap f c.inside-inside.ensures.entries in
    let behind : f c.past-after.result.entries.now ≡ f (drop (suc n) t) =
    ap f (c.past-after.ensures.entries ∙ borrowed_behind t n) in
    let ends = ap (λ x. x.end) c.inside-inside.ensures.scope in
    let list = ap (λ x. x.end) c.past-after.ensures.scope in
    let held : length c.inside-inside.result.entries.now ≡ n =
    ap (λ (x : List Entry). length x) c.inside-inside.ensures.entries ∙ omega (arith, length-take n t, o.within) in
    let left : length c.past-after.result.entries.now ≡ length t - suc n =
    ap (λ (x : List Entry). length x) (c.past-after.ensures.entries ∙ borrowed_behind t n)
    ∙ length-drop (suc n) t in
    record {
      group = record {
        reads = c.requires.stands ∙ group_seen d s n t c.requires.visible o
            ∙ ap (λ (x : List Spanned). spanned (Opens d) s ∷ x ++ spanned (Closes d) s ∷ f (drop (suc n) t))
            (sym inside)
            ∙ ap (λ (x : List Spanned). spanned (Opens d) s ∷ f c.inside-inside.result.entries.now
            ++ spanned (Closes d) s ∷ x) (sym behind);
        whole =
            let P : List Spanned → Type 0 = λ x. IsMatched x in
            subst P (sym inside) (matched_seen (take n t) (whole_is_laid (take n t) o.inside));
      };
      same_buffer = ap (λ x. x.number) c.inside-inside.ensures.scope;
      same_groups = ap (λ x. x.all_visible) c.inside-inside.ensures.scope;
      closer = ap (λ x. x.closer) c.inside-inside.ensures.scope;
      closing = ap (λ x. x.closing) c.inside-inside.ensures.scope;
      entered = c.inside-inside.ensures.before;
      past = record {
        same_list = c.past-after.ensures.scope;
        further = omega (arith, left, c.requires.further);
      };
      passed = c.past-after.ensures.before ∙ c.last_character.ensures;
      within = omega (arith, c.requires.further, c.args.self.is_within, o.within, ends, held);
      ends = omega (arith, c.requires.further, c.args.self.is_within, o.within, ends, left, list);
    }
