use Rattle.std.proofs.Common.{◌≡◌, ◌++◌, ◌∷◌, ap, subst, sym, ◌∙◌, map}
use Rattle.std.specs.List.{IsDistinct}
use Rattle.std.specs.Vec.Iter.{into_iter_items}
use Rattle.lg_dict.specs.Tables.{text_entries, text_keys, same_text}
use Rattle.lg_dict.proofs.Gathered.{named-more}
use Rattle.lg_dict.proofs.tables.add_names.Goals as goal

pub loop-name-init : goal.loop-name-init
loop-name-init g c =
    let start : into_iter_items c.into_iter-name-iterator.result ≡ c.args.names = c.into_iter-name-iterator.ensures.into_iter_gives.0 ∙ c.into_items-name-items.ensures in
    record {
      apart = subst (λ names. IsDistinct same_text (text_keys c.args.table.now ++ names)) (sym start) c.requires;
      named = ap (λ names. text_entries c.args.table.now ++ map (λ name. (name, c.args.value)) names) start;
    }

pub loop-name-preserved : goal.loop-name-preserved
loop-name-preserved g c =
    let at = c.loop-name in
    let rest = into_iter_items c.next.new.self in
    let steps : into_iter_items at.name-iterator ≡ c.into_bytes.result.items ∷ rest = c.in-Some.ensures.steps.0 ∙ ap (λ name. name ∷ rest) (sym c.into_bytes.ensures) in
    let more = named-more at.table c.insert.new.self c.args.value c.into_bytes.result (into_iter_items at.name-iterator) rest steps c.in_ok-insert.ensures.entries at.invariant.apart in
    record { apart = more.0; named = more.1 ∙ at.invariant.named }
