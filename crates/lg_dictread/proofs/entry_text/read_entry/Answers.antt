use Rattle.std.proofs.Common.{refl}
use Rattle.lg_lex.specs.declared.marks.Marks.TheVariants.{Dictionary}
use Rattle.lg_lex.specs.Lexing.{tokens_from}
use Rattle.lg_dictread.specs.EntryTexts.{free_rules, not_utf8}
use Rattle.lg_dictread.specs.Scanning.{answer_of}
use Rattle.lg_dictread.proofs.EntryTexts.{told_text}
use Rattle.lg_dictread.proofs.entry_text.read_entry.Goals as goal

pub returns-in-Some : goal.returns-in-Some
returns-in-Some c = not_utf8 c.in-Some.byte c.in-Some.ensures.fault

-- the text is UTF-8, and what its tokens are is told
pub returns-in-None : goal.returns-in-None
returns-in-None c =
    let text = c.args.bytes.now in
    let ts = tokens_from Dictionary text 0 in
    told_text c.args.bytes.now ts (answer_of free_rules ts) c.read_alone.result
    (record { utf8 = c.in-None.ensures.none.0 refl; tokens = c.tokens_are_one_list.ensures.lexed Dictionary 0 text })
    (c.exactly_one_entry.ensures.some free_rules ts)
    c.read_alone.ensures
