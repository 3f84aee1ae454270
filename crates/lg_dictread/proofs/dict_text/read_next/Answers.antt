use Rattle.std.proofs.Common.{ℕ, refl, sym, subst, ◌∙◌, arith}
use Rattle.std.proofs.lemmas.List.{get_or_read}
use Rattle.std.proofs.lemmas.Result.{err_from_is_err_and}
use Rattle.std.specs.List.{AllByRecursion, zip}
use Rattle.lg_gram.specs.Filled.{filled}
use Rattle.lg_gram.specs.Fits.{Fits}
use Rattle.lg_gram.specs.Limits.{LEVEL}
use Rattle.lg_gram.specs.Trees.{Tree, tree_of}
use Rattle.lg_lex.specs.declared.marks.Marks.TheVariants.{Dictionary}
use Rattle.lg_lex.specs.declared.run.Separators.TheVariants.{WhiteSpace}
use Rattle.lg_lex.specs.Lexing.{tokens_from}
use Rattle.lg_dictread.specs.declared.define.Tables.{Tables}
use Rattle.lg_dictread.specs.Entries.{Written}
use Rattle.lg_dictread.specs.Texts.{rules_after, meaning_of, means}
use Rattle.lg_dictread.specs.Defining.{HasUtf8Name, defined_in, listed_in, none_listed, AddsDefined}
use Rattle.lg_dictread.specs.Reading.{earlier_of, formulas_of, named_meaning, NextIs}
use Rattle.lg_dictread.specs.Telling.{out_of_memory}
use Rattle.lg_dictread.proofs.Found.{all_front}
use Rattle.lg_dictread.proofs.Formulas.{all_fit}
use Rattle.lg_dictread.proofs.ItemAnswers.{Laws}
use Rattle.lg_dictread.proofs.TextAnswers.{EntryLaws, shorter}
use Rattle.lg_dictread.proofs.NextEntry.{items_zip, stands_utf8, items_stop_gives, refused_gives, has_head, line_told, entry_stands, whole_gives, items_error, meaning_told, adds_entry, lists_all}
use Rattle.lg_dictread.proofs.dict_text.read_next.Goals as goal

-- a token before the colon is at fault
pub returns-in-Err-clause-told : goal.returns-in-Err-clause-told
returns-in-Err-clause-told g c =
    let ts = tokens_from Dictionary c.args.text.now c.args.from.at in
    let laws : Laws = record {
      cut = c.runs_are_one_list.ensures.cut WhiteSpace 0;
      one_cut = λ rs bytes. c.runs_are_one_list.ensures.one WhiteSpace rs 0 bytes;
      utf8_or_fault = c.bytes_are_utf8_or_at_fault.ensures.some;
      one_fault = c.bytes_are_utf8_or_at_fault.ensures.one;
      fault_apart = c.bytes_are_utf8_or_at_fault.ensures.apart;
    } in
    let entry_laws : EntryLaws = record { some = c.exactly_one_entry.ensures.some; one = c.exactly_one_entry.ensures.one } in
    items_stop_gives (g.F.Files.contents c.args.files.now) (g.F.Files.asked c.args.files.now) c.args.text.now (earlier_of c.args.earlier.now) ts laws entry_laws c.in-Err.stop _ c.in-Err.ensures.told c.fault_error.ensures.told

-- the expression is at fault, or passes a measure
pub returns-in_err-read-clause-told : goal.returns-in_err-read-clause-told
returns-in_err-read-clause-told g c =
    let p = err_from_is_err_and c.from_residual.result c.from_residual.ensures.1 in
    let text = c.args.text.now in
    let earlier = earlier_of c.args.earlier.now in
    let ts = tokens_from Dictionary text c.args.from.at in
    let x = c.in-Ok.head in
    let head = has_head text ts x c.in-Ok.ensures.told in
    let line = line_told text ts x head c.index-line.result.now (get_or_read x.lines.items _ _ (omega (arith, x.lines.ok.0, c.in-Ok.ensures.some)) c.index-line.ensures 0) in
    let laws : Laws = record {
      cut = c.runs_are_one_list.ensures.cut WhiteSpace 0;
      one_cut = λ rs bytes. c.runs_are_one_list.ensures.one WhiteSpace rs 0 bytes;
      utf8_or_fault = c.bytes_are_utf8_or_at_fault.ensures.some;
      one_fault = c.bytes_are_utf8_or_at_fault.ensures.one;
      fault_apart = c.bytes_are_utf8_or_at_fault.ensures.apart;
    } in
    let entry_laws : EntryLaws = record { some = c.exactly_one_entry.ensures.some; one = c.exactly_one_entry.ensures.one } in
    rw (p.1, p.2) (refused_gives (g.F.Files.contents c.args.files.now) (g.F.Files.asked c.args.files.now) text earlier ts laws entry_laws x head c.index-line.result.now c.in_err-read.field-0.0 line c.in_err-read.ensures.told)

-- the names of word files are UTF-8, as all tokens are
pub define_items-requires : goal.define_items-requires
define_items-requires g c =
    let text = c.args.text.now in
    let earlier = earlier_of c.args.earlier.now in
    let ts = tokens_from Dictionary text c.args.from.at in
    let x = c.in-Ok.head in
    let head = has_head text ts x c.in-Ok.ensures.told in
    let read = c.in_ok-read.read in
    let rest = tokens_from Dictionary text read.end.at in
    let m = c.in_ok-read.ensures.told.means in
    let e : Written = record { items = head.items; expr = m.expr; level = m.written } in
    let stands = entry_stands earlier text ts rest x head _ read.level m in
    subst (AllByRecursion HasUtf8Name) (sym (c.as_slice.ensures.value ∙ head.keeps.items_are)) (stands_utf8 (rules_after earlier) ts e rest stands c.requires.utf8).0

-- an item is at fault
pub returns-in_err-names-clause-told : goal.returns-in_err-names-clause-told
returns-in_err-names-clause-told g c =
    let p = err_from_is_err_and c.from_residual-in_err-names.result c.from_residual-in_err-names.ensures.1 in
    let known = g.F.Files.contents c.args.files.now in
    let asked = g.F.Files.asked c.args.files.now in
    let text = c.args.text.now in
    let earlier = earlier_of c.args.earlier.now in
    let ts = tokens_from Dictionary text c.args.from.at in
    let x = c.in-Ok.head in
    let head = has_head text ts x c.in-Ok.ensures.told in
    let read = c.in_ok-read.read in
    let rest = tokens_from Dictionary text read.end.at in
    let m = c.in_ok-read.ensures.told.means in
    let e : Written = record { items = head.items; expr = m.expr; level = m.written } in
    let stands = entry_stands earlier text ts rest x head _ read.level m in
    let lined = zip c.as_slice.result.now c.as_slice-2.result.now in
    let are = (λ i. zip (c.as_slice.ensures.value i) (c.as_slice-2.ensures.value i)) ∙ items_zip text head.items x.items.items x.lines.items head.keeps in
    rw (p.1, p.2) (items_error known asked text earlier ts e rest stands m.small lined are (g.F.Files.asked c.define_items.new.files) c.in_err-names.field-0.0 c.in_err-names.ensures.told)

-- the formula keeps to its level
pub push-requires-clause-fits : goal.push-requires-clause-fits
push-requires-clause-fits g c =
    let formulas = formulas_of c.args.earlier.now in
    let read = c.in_ok-read.read in
    let m = c.in_ok-read.ensures.told.means in
    let fits = c.expressions_fit.ensures formulas LEVEL (tokens_from Dictionary c.args.text.now c.in-Ok.head.end.at) m.expr m.written (tokens_from Dictionary c.args.text.now read.end.at) (all_fit c.args.earlier.now c.requires.kept) (omega arith) m.stands in
    subst (λ (t : Tree). Fits read.level t) (sym m.formula_is) (subst (λ (n : ℕ). Fits n (filled formulas m.expr)) (sym m.level_is) fits)

-- memory runs out, where all is asked
pub returns-in_err-push-clause-told : goal.returns-in_err-push-clause-told
returns-in_err-push-clause-told g c =
    let p = err_from_is_err_and c.from_residual-in_err-push.result c.from_residual-in_err-push.ensures.1 in
    let known = g.F.Files.contents c.args.files.now in
    let asked = g.F.Files.asked c.args.files.now in
    let now = g.F.Files.asked c.define_items.new.files in
    let text = c.args.text.now in
    let earlier = earlier_of c.args.earlier.now in
    let ts = tokens_from Dictionary text c.args.from.at in
    let x = c.in-Ok.head in
    let head = has_head text ts x c.in-Ok.ensures.told in
    let read = c.in_ok-read.read in
    let rest = tokens_from Dictionary text read.end.at in
    let m = c.in_ok-read.ensures.told.means in
    let e : Written = record { items = head.items; expr = m.expr; level = m.written } in
    let stands = entry_stands earlier text ts rest x head _ read.level m in
    let lined = zip c.as_slice.result.now c.as_slice-2.result.now in
    let are = (λ i. zip (c.as_slice.ensures.value i) (c.as_slice-2.ensures.value i)) ∙ items_zip text head.items x.items.items x.lines.items head.keeps in
    let told = c.in_ok-names.ensures.told in
    let given = whole_gives known asked text earlier ts e rest stands m.small lined are now told.0 told.2 in
    let o = means (meaning_of text earlier e told.0) told.0 rest in
    rw (p.1, p.2) (out_of_memory (all_front known (NextIs text earlier ts) asked now o given))

pub returns-clause-told : goal.returns-clause-told
returns-clause-told g c =
    let known = g.F.Files.contents c.args.files.now in
    let asked = g.F.Files.asked c.args.files.now in
    let now = g.F.Files.asked c.define_items.new.files in
    let text = c.args.text.now in
    let earlier = earlier_of c.args.earlier.now in
    let ts = tokens_from Dictionary text c.args.from.at in
    let x = c.in-Ok.head in
    let head = has_head text ts x c.in-Ok.ensures.told in
    let line = line_told text ts x head c.index-line.result.now (get_or_read x.lines.items _ _ (omega (arith, x.lines.ok.0, c.in-Ok.ensures.some)) c.index-line.ensures 0) in
    let read = c.in_ok-read.read in
    let rest = tokens_from Dictionary text read.end.at in
    let m = c.in_ok-read.ensures.told.means in
    let e : Written = record { items = head.items; expr = m.expr; level = m.written } in
    let stands = entry_stands earlier text ts rest x head _ read.level m in
    let lined = zip c.as_slice.result.now c.as_slice-2.result.now in
    let are = (λ i. zip (c.as_slice.ensures.value i) (c.as_slice-2.ensures.value i)) ∙ items_zip text head.items x.items.items x.lines.items head.keeps in
    let told = c.in_ok-names.ensures.told in
    let body = tokens_from Dictionary text x.end.at in
    let same = meaning_told text earlier body rest head.items c.in_ok-names.names _ read.level c.index-line.result.now m earlier.defined (defined_in c.define_items.new.tables) told.0 line told.1 in (
      meaning_of text earlier e told.0,
      told.0,
      adds_entry c.args.earlier.now c.push.new.self c.define_items.new.tables (meaning_of text earlier e told.0) _ (listed_in c.in_ok-names.names) told.0 same c.in_ok-push.ensures.tables told.1 c.in_ok-push.ensures.meanings c.in_ok-push.ensures.formulas,
      whole_gives known asked text earlier ts e rest stands m.small lined are now told.0 told.2,
    )

pub returns-clause-fewer : goal.returns-clause-fewer
returns-clause-fewer g c =
    let text = c.args.text.now in
    let earlier = earlier_of c.args.earlier.now in
    let ts = tokens_from Dictionary text c.args.from.at in
    let x = c.in-Ok.head in
    let head = has_head text ts x c.in-Ok.ensures.told in
    let read = c.in_ok-read.read in
    let rest = tokens_from Dictionary text read.end.at in
    let m = c.in_ok-read.ensures.told.means in
    let e : Written = record { items = head.items; expr = m.expr; level = m.written } in
    let stands = entry_stands earlier text ts rest x head _ read.level m in
    shorter (rules_after earlier) ts e rest stands

pub returns-clause-utf8 : goal.returns-clause-utf8
returns-clause-utf8 g c =
    let text = c.args.text.now in
    let earlier = earlier_of c.args.earlier.now in
    let ts = tokens_from Dictionary text c.args.from.at in
    let x = c.in-Ok.head in
    let head = has_head text ts x c.in-Ok.ensures.told in
    let read = c.in_ok-read.read in
    let rest = tokens_from Dictionary text read.end.at in
    let m = c.in_ok-read.ensures.told.means in
    let e : Written = record { items = head.items; expr = m.expr; level = m.written } in
    let stands = entry_stands earlier text ts rest x head _ read.level m in
    (stands_utf8 (rules_after earlier) ts e rest stands c.requires.utf8).1

pub returns-clause-listed : goal.returns-clause-listed
returns-clause-listed g c =
    let old = c.args.earlier.now in
    let told = c.in_ok-names.ensures.told in
    let names = c.in_ok-names.names in
    let adds = subst (λ (t : Tables). AddsDefined (defined_in old.tables) (defined_in t) none_listed (listed_in names) told.0) (sym c.in_ok-push.ensures.tables) told.1 in
    lists_all old c.push.new.self (named_meaning names (tree_of c.in_ok-read.read.formula) c.in_ok-read.read.level c.index-line.result.now) (listed_in names) told.0 c.requires.listed adds refl refl c.in_ok-push.ensures.meanings
