use Rattle.lg_lex.specs.declared.marks.Marks.TheVariants.{Dictionary}
use Rattle.lg_lex.specs.Lexing.{tokens_from}
use Rattle.lg_dictread.specs.EntryTexts.{free_rules}
use Rattle.lg_dictread.specs.Scanning.{answer_of}
use Rattle.lg_dictread.proofs.EntryTexts.{knows_macros}
use Rattle.lg_dictread.proofs.entry_text.read_alone.Goals as goal

-- every macro is free, so that none is unknown
pub entry_error-requires : goal.entry_error-requires
entry_error-requires c =
    let ts = tokens_from Dictionary c.args.text.now 0 in
    knows_macros c.args.text.now ts (answer_of free_rules ts) c.in-Err.stop (c.exactly_one_entry.ensures.some free_rules ts) c.in-Err.ensures
