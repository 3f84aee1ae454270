use Rattle.std.proofs.Common.{◌≡◌, ◌∷◌, ◌∙◌, ℕ, List, refl, sym, ap, subst, Option, arith}
use Rattle.std.proofs.lemmas.Result.{err_from_is_err_and}
use Rattle.std.specs.Iterator.Adapters.{zip_first, zip_second}
use Rattle.std.specs.List.{AllByRecursion, zip}
use Rattle.std.specs.Slice.Iter.{iter_rest}
use Rattle.lg_gram.specs.declared.entry.Item.{Item}
use Rattle.lg_lex.specs.declared.run.Separators.TheVariants.{WhiteSpace}
use Rattle.lg_base.specs.Contents.{Contents}
use Rattle.lg_base.specs.Files.{AsksWithin}
use Rattle.lg_dictread.specs.Definitions.{define, refuse_items}
use Rattle.lg_dictread.specs.Telling.{Answers, ErrorTells}
use Rattle.lg_dictread.specs.Defining.{HasUtf8Name, Listed, defined_in, listed_in, none_listed, ItemIs, asked_by}
use Rattle.lg_dictread.proofs.ItemAnswers.{Laws}
use Rattle.lg_dictread.proofs.ItemsTold.{SoFar, so_far_none, so_far_more, so_far_all, so_far_error, one_pair, no_pair, one_first}
use Rattle.lg_dictread.proofs.define.define_items.Goals as goal

pub loop-item-init : goal.loop-item-init
loop-item-init g c =
    let it = c.into_iter-item-iterator.result in
    let firsts : iter_rest (zip_first it) ≡ c.args.items.now = ap (λ z. iter_rest (zip_first z)) c.into_iter-item-iterator.ensures.into_iter_gives ∙ ap iter_rest c.zip-item-items.ensures.first ∙ c.iter.ensures.rest in
    let seconds : iter_rest (zip_second it) ≡ c.args.lines.now = ap (λ z. iter_rest (zip_second z)) c.into_iter-item-iterator.ensures.into_iter_gives ∙ c.zip-item-items.ensures.second.0 in
    let none : listed_in (record { words = c.new.result; macros = c.new-2.result }) ≡ none_listed = λ i. record { words = c.new.ensures.items i; macros = c.new-2.ensures.items i } in
    let known = g.F.Files.contents c.args.files.now in
    let asked = g.F.Files.asked c.args.files.now in
    let old = defined_in c.args.tables.now in
    let all = zip c.args.items.now c.args.lines.now in
    let rest : all ≡ zip (iter_rest (zip_first it)) (iter_rest (zip_second it)) = λ i. zip (sym firsts i) (sym seconds i) in
    record {
      can_next = (tt, tt);
      is_finite = tt;
      unchanged = refl;
      later = omega arith;
      names = subst (AllByRecursion HasUtf8Name) (sym firsts) c.requires;
      so_far = subst (λ (l : List (Item × ℕ)). SoFar known asked asked old old (listed_in (record { words = c.new.result; macros = c.new-2.result })) all l) rest
          (subst (λ (l : Listed). SoFar known asked asked old old l all all) (sym none) (so_far_none known asked old all));
    }

pub loop-item-preserved : goal.loop-item-preserved
loop-item-preserved g c =
    let before = c.loop-item.item-iterator in
    let after = c.next.new.self in
    let told = c.in_ok-define_item.ensures.told in
    let item_is : iter_rest (zip_first before) ≡ c.in-Some.item.now ∷ iter_rest (zip_first after) = one_first before after c.next.result (c.in-Some.item, c.in-Some.line) c.in-Some.is c.next.ensures.steps in
    let names = subst (AllByRecursion HasUtf8Name) item_is c.loop-item.invariant.names in
    let known = g.F.Files.contents c.args.files.now in
    let now_known = subst (λ (k : Option Contents). Answers k (ItemIs (defined_in c.loop-item.tables) (c.in-Some.item.now, c.in-Some.line.now)) (g.F.Files.asked c.loop-item.files) (g.F.Files.asked c.define_item.new.files) (define told.0)) c.loop-item.invariant.unchanged told.2 in
    record {
      can_next = (tt, tt);
      is_finite = tt;
      unchanged = c.define_item.ensures.unchanged ∙ c.loop-item.invariant.unchanged;
      later = omega (arith, c.define_item.ensures.cause.later, c.loop-item.invariant.later);
      names = names.1;
      so_far = so_far_more known (g.F.Files.asked c.args.files.now) (g.F.Files.asked c.loop-item.files) (defined_in c.args.tables.now) (defined_in c.loop-item.tables) (listed_in c.loop-item.names)
          (zip c.args.items.now c.args.lines.now) (zip (iter_rest (zip_first before)) (iter_rest (zip_second before))) c.loop-item.invariant.so_far
          (g.F.Files.asked c.define_item.new.files) (defined_in c.define_item.new.tables) (listed_in c.define_item.new.names) (zip (iter_rest (zip_first after)) (iter_rest (zip_second after)))
          (c.in-Some.item.now, c.in-Some.line.now) told.0 (one_pair before after c.next.result (c.in-Some.item, c.in-Some.line) c.in-Some.is c.next.ensures.steps) told.1 now_known;
    }

-- the error of the item is that of all
pub returns-in_err-define_item-clause-told : goal.returns-in_err-define_item-clause-told
returns-in_err-define_item-clause-told g c =
    let p = err_from_is_err_and c.from_residual.result c.from_residual.ensures.1 in
    let before = c.loop-item.item-iterator in
    let after = c.next.new.self in
    let i : Item × ℕ = (c.in-Some.item.now, c.in-Some.line.now) in
    let known = g.F.Files.contents c.args.files.now in
    let laws : Laws = record {
      cut = c.runs_are_one_list.ensures.cut WhiteSpace 0;
      one_cut = λ rs bytes. c.runs_are_one_list.ensures.one WhiteSpace rs 0 bytes;
      utf8_or_fault = c.bytes_are_utf8_or_at_fault.ensures.some;
      one_fault = c.bytes_are_utf8_or_at_fault.ensures.one;
      fault_apart = c.bytes_are_utf8_or_at_fault.ensures.apart;
    } in
    let told = subst (λ (k : Option Contents). ErrorTells (AsksWithin (g.F.Files.asked c.loop-item.files) (g.F.Files.asked c.define_item.new.files) (asked_by i.0.kind i.0.text)) k (ItemIs (defined_in c.loop-item.tables) i) refuse_items (g.F.Files.asked c.loop-item.files) (g.F.Files.asked c.define_item.new.files) c.in_err-define_item.field-0.0) c.loop-item.invariant.unchanged c.in_err-define_item.ensures.told in
    rw (p.1, p.2) (so_far_error known (g.F.Files.asked c.args.files.now) (g.F.Files.asked c.loop-item.files) (defined_in c.args.tables.now) (defined_in c.loop-item.tables) (listed_in c.loop-item.names)
    (zip c.args.items.now c.args.lines.now) (zip (iter_rest (zip_first before)) (iter_rest (zip_second before))) c.loop-item.invariant.so_far laws
    (g.F.Files.asked c.define_item.new.files) (zip (iter_rest (zip_first after)) (iter_rest (zip_second after))) i c.in_err-define_item.field-0.0
    (one_pair before after c.next.result (c.in-Some.item, c.in-Some.line) c.in-Some.is c.next.ensures.steps) told)

-- no item is left
pub returns-clause-told : goal.returns-clause-told
returns-clause-told g c =
    let before = c.loop-item.item-iterator in
    so_far_all (g.F.Files.contents c.args.files.now) (g.F.Files.asked c.args.files.now) (g.F.Files.asked c.loop-item.files) (defined_in c.args.tables.now) (defined_in c.loop-item.tables) (listed_in c.loop-item.names)
    (zip c.args.items.now c.args.lines.now) (zip (iter_rest (zip_first before)) (iter_rest (zip_second before))) c.loop-item.invariant.so_far
    (no_pair before c.next.new.self c.next.result c.in-None.is c.next.ensures.steps)
