use Rattle.std.proofs.Common.{◌≡◌, ◌∙◌, ◌-◌, ◌++◌, List, IsTrue, ap, subst, sym, arith, length, take, drop, length-drop}
use Rattle.proc_macro2.specs.Token.{Spanned}
use Rattle.syn_buffer.specs.Entries.{is_laid, spanned_entries}
use Rattle.syn_buffer.specs.Position.{rest}
use Rattle.syn_buffer.specs.Seen.{all_seen, seen}
use Rattle.syn_buffer.specs.declared.entry.Entry.{Entry}
use Rattle.syn_buffer.proofs.AllSeen.{ends_behind, parted, seen_drop}
use Rattle.syn_buffer.proofs.Laid.{borrowed, whole_is_laid}
use Rattle.syn_buffer.proofs.position.Cursor.behind.Goals as goal

pub past-requires-clause-laid : goal.past-requires-clause-laid
past-requires-clause-laid c =
    let P : List Entry → Type 0 = λ es. IsTrue (is_laid es) in
    subst P (sym (borrowed c.args.self.entries.now c.args.count))
    (whole_is_laid (drop c.args.count c.args.self.entries.now) c.requires.whole)

pub past-requires-clause-visible : goal.past-requires-clause-visible
past-requires-clause-visible c = λ v.
    let P : List Entry → Type 0 = λ es. IsTrue (all_seen (spanned_entries es)) in
    subst P (sym (borrowed c.args.self.entries.now c.args.count))
    (seen_drop c.args.count c.args.self.entries.now (c.args.self.is_visible v))

pub returns-clause-passed : goal.returns-clause-passed
returns-clause-passed c =
    let es : List Entry = c.args.self.entries.now in
    let n = c.args.count in
    let v : IsTrue (all_seen (spanned_entries es)) = c.args.self.is_visible c.requires.visible in
    let same : c.past.result.entries.now ≡ drop n es = c.past.ensures.entries ∙ borrowed es n in
    let left : length c.past.result.entries.now ≡ length es - n =
    ap (λ (x : List Entry). length x) same ∙ length-drop n es in
    record {
      reads = parted n es v
          ∙ ap (λ (x : List Entry). take n (rest c.args.self) ++ seen (spanned_entries x)) (sym same);
      past = record { same_list = c.past.ensures.scope; further = omega (arith, left) };
      taken = c.past.ensures.before ∙ c.end_of_last-before.ensures ∙ ends_behind c.args.self.before n es v;
    }
