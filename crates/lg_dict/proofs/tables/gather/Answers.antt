use Rattle.std.proofs.Common.{◌≡◌, ◌++◌, ◌∷◌, [], List, length, ap, sym, subst, ◌∙◌, append_assoc, arith, rules}
use Rattle.std.specs.Vec.Iter.{into_iter_items}
use Rattle.lg_gram.specs.declared.entry.Entry.{Entry}
use Rattle.lg_dict.specs.Dictionary.{AreEntries}
use Rattle.lg_dict.proofs.Gathered.{HasGathered, nothing_gathered, words_apart, macros_apart, entry-more, all_gathered, none_left}
use Rattle.lg_dict.proofs.tables.gather.Goals as goal

pub loop-entry-init : goal.loop-entry-init
loop-entry-init c = record {
  counted = search rules;
  gathered = (
    [],
    sym c.into_iter-entry-iterator.ensures.into_iter_gives.0,
    nothing_gathered c.args.entries.items c.in_ok-formulas.formulas.items c.in_ok-words.words c.with_hasher-macros.result c.in_ok-formulas.ensures.items c.in_ok-words.ensures.empty
        c.with_hasher-macros.ensures.empty,
  );
}

pub loop-entry-preserved : goal.loop-entry-preserved
loop-entry-preserved c =
    let at = c.loop-entry in
    let done : List Entry = at.invariant.gathered.0 in
    let entry : Entry = c.in-Some.entry in
    let rest : List Entry = into_iter_items c.next.new.self in
    let steps : into_iter_items at.entry-iterator ≡ entry ∷ rest = c.in-Some.ensures.steps.0 in
    let are : c.args.entries.items ≡ done ++ entry ∷ rest = at.invariant.gathered.1 ∙ ap (λ l. done ++ l) steps in
    let number : c.len-in-loop-entry.result ≡ length at.formulas.items = search rules in
    let short = ap length steps in
    let gone = c.in-Some.ensures.steps.1 in
    record {
      counted = omega (arith, at.invariant.counted);
      gathered = (
        done ++ entry ∷ [],
        are ∙ sym (append_assoc done (entry ∷ []) rest),
        subst (λ es. HasGathered es (done ++ entry ∷ []) c.push.new.self.items c.add_names.new.table c.add_names-in-loop-entry.new.table) (sym are)
            (entry-more done entry rest at.formulas.items at.words at.macros (subst AreEntries are c.requires)
            (subst (λ es. HasGathered es done at.formulas.items at.words at.macros) are at.invariant.gathered.2) c.push.new.self.items c.add_names.new.table c.add_names-in-loop-entry.new.table
            c.len-in-loop-entry.result number c.in_ok-push.ensures.items c.in_ok-add_names.ensures c.in_ok-add_names-2.ensures c.expr-expr.ensures.limits.prices),
      );
    }

pub add_names-requires : goal.add_names-requires
add_names-requires c =
    let at = c.loop-entry in
    let done : List Entry = at.invariant.gathered.0 in
    let entry : Entry = c.in-Some.entry in
    let rest : List Entry = into_iter_items c.next.new.self in
    let are : c.args.entries.items ≡ done ++ entry ∷ rest = at.invariant.gathered.1 ∙ ap (λ l. done ++ l) c.in-Some.ensures.steps.0 in
    words_apart done entry rest at.formulas.items at.words at.macros (subst AreEntries are c.requires) (subst (λ es. HasGathered es done at.formulas.items at.words at.macros) are at.invariant.gathered.2)

pub add_names-requires-in-loop-entry : goal.add_names-requires-in-loop-entry
add_names-requires-in-loop-entry c =
    let at = c.loop-entry in
    let done : List Entry = at.invariant.gathered.0 in
    let entry : Entry = c.in-Some.entry in
    let rest : List Entry = into_iter_items c.next.new.self in
    let are : c.args.entries.items ≡ done ++ entry ∷ rest = at.invariant.gathered.1 ∙ ap (λ l. done ++ l) c.in-Some.ensures.steps.0 in
    macros_apart done entry rest at.formulas.items at.words at.macros (subst AreEntries are c.requires) (subst (λ es. HasGathered es done at.formulas.items at.words at.macros) are at.invariant.gathered.2)

pub returns : goal.returns
returns c =
    let at = c.loop-entry in
    all_gathered c.args.entries.items at.invariant.gathered.0 (into_iter_items at.entry-iterator) at.formulas.items at.words at.macros at.invariant.gathered.1 (none_left (into_iter_items at.entry-iterator) (omega (arith, at.invariant.counted, c.in-None.ensures.steps.0))) at.invariant.gathered.2
