use Rattle.std.proofs.Common.{map, ℕ, List, IfOk, IfErr, refl, sym, subst}
use Rattle.std.proofs.lemmas.Result.{IfOk-weaker, IfErr-weaker}
use Rattle.std.specs.Str.{IsUtf8}
use Rattle.lg_lex.specs.declared.marks.Marks.TheVariants.{Dictionary}
use Rattle.lg_lex.specs.Lexing.{tokens_from}
use Rattle.lg_lex.specs.Marked.{without_mark}
use Rattle.lg_lex.specs.Tokens.{IsText}
use Rattle.lg_dictread.specs.Telling.{Answers, AsksFront, ErrorTells, first_fault}
use Rattle.lg_dictread.specs.declared.dict_error.DictError.TheVariants.{NotUtf8}
use Rattle.lg_dictread.specs.Texts.{nothing, stands, refuse}
use Rattle.lg_dictread.specs.DictTexts.{entry_meaning, TextOf}
use Rattle.lg_dictread.proofs.TextsTold.{file_told, file_error, fault_told}
use Rattle.lg_dictread.proofs.Asked.{answered_asks, told_asks}
use Rattle.lg_dictread.proofs.dict_text.read_dict.Goals as goal

-- what follows the mark is UTF-8
pub read_text-requires : goal.read_text-requires
read_text-requires g c = subst IsUtf8 (sym c.without_mark.ensures) (c.parts_are_utf8.ensures.after_mark c.args.bytes.now (c.in-None.ensures.none.0 refl))

pub returns-in-Some-clause-fault : goal.returns-in-Some-clause-fault
returns-in-Some-clause-fault g c = first_fault (NotUtf8 c.in-Some.byte) (fault_told (g.F.Files.contents c.args.files.now) c.args.bytes.now (g.F.Files.asked c.args.files.now) c.in-Some.byte c.in-Some.ensures.fault)

-- the answer is known, and asks for nothing
pub returns-in-Some-clause-asks : goal.returns-in-Some-clause-asks
returns-in-Some-clause-asks g c =
    let known = g.F.Files.contents c.args.files.now in
    let asked = g.F.Files.asked c.args.files.now in
    answered_asks c.exactly_one_dictionary.ensures.one c.args.bytes.now asked asked known (refuse (NotUtf8 c.in-Some.byte)) (fault_told known c.args.bytes.now asked c.in-Some.byte c.in-Some.ensures.fault)

pub returns-in-None-clause-value : goal.returns-in-None-clause-value
returns-in-None-clause-value g c =
    let known = g.F.Files.contents c.args.files.now in
    let bytes = c.args.bytes.now in
    let old = g.F.Files.asked c.args.files.now in
    let new = g.F.Files.asked c.read_text.new.files in
    let ts = tokens_from Dictionary (without_mark bytes) 0 in
    let is : IsText Dictionary bytes ts = record { utf8 = c.in-None.ensures.none.0 refl; tokens = c.tokens_are_one_list.ensures.lexed Dictionary 0 (without_mark bytes) } in
    let Tells : List ℕ → Type 0 = λ text. IfOk c.read_text.result (λ entries. Answers known (TextOf text nothing (tokens_from Dictionary text 0)) old new (stands (map entry_meaning entries.items))) in
    IfOk-weaker c.read_text.result _ _ (λ entries h. file_told known bytes ts old new is (stands (map entry_meaning entries.items)) h) (subst Tells c.without_mark.ensures c.read_text.ensures.value)

pub returns-in-None-clause-fault : goal.returns-in-None-clause-fault
returns-in-None-clause-fault g c =
    let known = g.F.Files.contents c.args.files.now in
    let bytes = c.args.bytes.now in
    let old = g.F.Files.asked c.args.files.now in
    let new = g.F.Files.asked c.read_text.new.files in
    let ts = tokens_from Dictionary (without_mark bytes) 0 in
    let is : IsText Dictionary bytes ts = record { utf8 = c.in-None.ensures.none.0 refl; tokens = c.tokens_are_one_list.ensures.lexed Dictionary 0 (without_mark bytes) } in
    let Tells : List ℕ → Type 0 = λ text. IfErr c.read_text.result (let of = TextOf text nothing (tokens_from Dictionary text 0) in ErrorTells (AsksFront known of old new) known of refuse old new) in
    IfErr-weaker c.read_text.result _ _
    (λ error h. file_error known bytes ts old new is error h)
    (subst Tells c.without_mark.ensures c.read_text.ensures.fault)

pub returns-in-None-clause-asks : goal.returns-in-None-clause-asks
returns-in-None-clause-asks g c =
    told_asks c.exactly_one_dictionary.ensures.one c.args.bytes.now (g.F.Files.asked c.args.files.now) (g.F.Files.asked c.read_text.new.files) (g.F.Files.contents c.args.files.now)
    (λ entries. stands (map entry_meaning entries.items)) c.read_text.result (returns-in-None-clause-value g c) (returns-in-None-clause-fault g c)
