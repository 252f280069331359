use Rattle.std.proofs.Common.{◌∙◌, ◌-◌, ◌++◌, ◌∷◌, [], List, length, ap, sym, refl, append_assoc}
use Rattle.std.proofs.Math.ListN.{set}
use Rattle.std.proofs.lemmas.Result.{on_ok_weaker}
use Rattle.rust_map.specs.declared.span.Span.{Span}
use Rattle.proc_macro2.specs.declared.delimiter.Delimiter.{Delimiter}
use Rattle.proc_macro2.specs.Flat.{spanned}
use Rattle.proc_macro2.specs.Token.{Closes, Opens, Spanned}
use Rattle.syn_buffer.specs.Behind.{Passes}
use Rattle.syn_buffer.specs.Groups.{Enters}
use Rattle.syn_buffer.specs.Leaves.{ident_token, literal_token, punct_token}
use Rattle.syn_buffer.specs.Position.{Takes, rest}
use Rattle.syn_buffer.specs.declared.entry.Entry.{Entry}
use Rattle.syn_buffer.specs.declared.entry.Entry.TheVariants as entry
use Rattle.syn_buffer.proofs.Laid.{both_true}
use Rattle.syn_buffer.proofs.Putting.{put_group, put_more, put_one}
use Rattle.node_seen.proofs.Literals.{unsigned}
use Rattle.node_seen.proofs.Passing.{passes_group}
use Rattle.node_seen.proofs.+walking.Goals as goal

pub put_group-returns : goal.put_group-returns
put_group-returns t c =
    let filled : List Entry = c.put_seen.new.entries.items in
    let d : Delimiter = c.args.delimiter in
    let s : Span = c.args.span in
    on_ok_weaker c.close.result
    (λ e. put_group d s c.args.entries.now.items c.push.new.self.items filled c.close.new.entries.items
    (rest c.args.inside) c.in_ok-push.ensures.items c.in_ok-put_seen.ensures
    (e ∙ ap (λ k. set filled k (entry.Open d s (length filled - k - 1)) ++ entry.Close d s ∷ [])
    (c.len-at.ensures ∙ c.args.entries.now.ok.0)))
    c.close.ensures

pub put_seen-loop-ident-preserved-in_ok-push-in-Ident : goal.put_seen-loop-ident-preserved-in_ok-push-in-Ident
put_seen-loop-ident-preserved-in_ok-push-in-Ident t c =
    let before : List Entry = c.loop-ident.entries.items in
    let token : Spanned = ident_token c.in-Ident.ident.now in
    let takes : Takes c.loop-ident.at token c.in-Ident.behind = c.in-Ident.ensures in
    let passed : List Spanned = c.loop-ident.invariant.0 in (
      passed ++ token ∷ [],
      put_more c.args.entries.now.items before c.push.new.self.items passed (token ∷ []) c.loop-ident.invariant.1
          (put_one before c.push.new.self.items (entry.Ident c.in-Ident.ident)
          c.in_ok-push-in-Ident.ensures.items refl),
      c.loop-ident.invariant.2 ∙ ap (λ ts. passed ++ ts) takes.reads
          ∙ sym (append_assoc passed (token ∷ []) (rest c.in-Ident.behind)),
    )

pub put_seen-loop-ident-preserved-in_ok-push-in-Punct : goal.put_seen-loop-ident-preserved-in_ok-push-in-Punct
put_seen-loop-ident-preserved-in_ok-push-in-Punct t c =
    let before : List Entry = c.loop-ident.entries.items in
    let token : Spanned = punct_token c.in-Punct.punct.now in
    let takes : Takes c.loop-ident.at token c.in-Punct.behind = c.in-Punct.ensures in
    let passed : List Spanned = c.loop-ident.invariant.0 in (
      passed ++ token ∷ [],
      put_more c.args.entries.now.items before c.push-in-Punct.new.self.items passed (token ∷ [])
          c.loop-ident.invariant.1
          (put_one before c.push-in-Punct.new.self.items (entry.Punct c.in-Punct.punct)
          c.in_ok-push-in-Punct.ensures.items refl),
      c.loop-ident.invariant.2 ∙ ap (λ ts. passed ++ ts) takes.reads
          ∙ sym (append_assoc passed (token ∷ []) (rest c.in-Punct.behind)),
    )

pub put_seen-loop-ident-preserved-in_ok-push-in-Literal : goal.put_seen-loop-ident-preserved-in_ok-push-in-Literal
put_seen-loop-ident-preserved-in_ok-push-in-Literal t c =
    let before : List Entry = c.loop-ident.entries.items in
    let token : Spanned = literal_token c.in-Literal.literal.now in
    let takes : Takes c.loop-ident.at token c.in-Literal.behind = c.in-Literal.ensures in
    let passed : List Spanned = c.loop-ident.invariant.0 in (
      passed ++ token ∷ [],
      put_more c.args.entries.now.items before c.push-in-Literal.new.self.items passed (token ∷ [])
          c.loop-ident.invariant.1
          (put_one before c.push-in-Literal.new.self.items (entry.Literal c.in-Literal.literal)
          c.in_ok-push-in-Literal.ensures.items
          (both_true _ _ (unsigned c.loop-ident.at.entries.now c.in-Literal.literal.now (rest c.in-Literal.behind)
          c.loop-ident.at.is_laid takes.reads) refl)),
      c.loop-ident.invariant.2 ∙ ap (λ ts. passed ++ ts) takes.reads
          ∙ sym (append_assoc passed (token ∷ []) (rest c.in-Literal.behind)),
    )

pub put_seen-loop-ident-preserved : goal.put_seen-loop-ident-preserved
put_seen-loop-ident-preserved t c =
    let enters : Enters c.loop-ident.at c.in-Group.delimiter c.in-Group.span c.in-Group.inside c.in-Group.behind =
    c.in-Group.ensures in
    let group : List Spanned =
    spanned (Opens c.in-Group.delimiter) c.in-Group.span ∷ rest c.in-Group.inside
    ++ spanned (Closes c.in-Group.delimiter) c.in-Group.span ∷ [] in
    let passes : Passes c.loop-ident.at group c.in-Group.behind =
    passes_group c.loop-ident.at c.in-Group.inside c.in-Group.behind c.in-Group.delimiter c.in-Group.span enters in
    let passed : List Spanned = c.loop-ident.invariant.0 in (
      passed ++ group,
      put_more c.args.entries.now.items c.loop-ident.entries.items c.put_group.new.entries.items passed group
          c.loop-ident.invariant.1 c.in_ok-put_group-in-Group.ensures,
      c.loop-ident.invariant.2 ∙ ap (λ ts. passed ++ ts) passes.reads
          ∙ sym (append_assoc passed group (rest c.in-Group.behind)),
    )
