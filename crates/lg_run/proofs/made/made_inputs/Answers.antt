use Rattle.std.proofs.Common.{◌∙◌, ◌≤◌, ℕ, List, [], Ok, length, sym, subst, arith}
use Rattle.std.specs.FinMap.{empty}
use Rattle.lg_dictread.specs.Limits.{FILE}
use Rattle.lg_dictread.specs.Texts.{Meaning, DictionaryGives, stands}
use Rattle.lg_script.specs.Commands.{CommandView, script_views}
use Rattle.lg_script.specs.Scripts.{ScriptIs}
use Rattle.lg_run.proofs.MadeInputs.{entries_made, short_script, commands_made, are_made}
use Rattle.lg_run.proofs.made.made_inputs.Goals as goal

-- the made dictionary stands for entries
pub accepted_dictionary-requires : goal.accepted_dictionary-requires
accepted_dictionary-requires c =
    subst (λ (text : List ℕ). (entries : List Meaning) × DictionaryGives text [] (stands entries)) (sym (c.bytes.ensures ∙ c.in_ok-made.ensures.dict))
    (entries_made c.made_input_is_accepted.ensures.dictionaries c.made_input_is_accepted.ensures.scripts c.args.seed c.args.words c.args.sentences c.requires.words c.requires.sentences empty)

-- and the made script for commands
pub accepted_script-requires-clause-short : goal.accepted_script-requires-clause-short
accepted_script-requires-clause-short c =
    subst (λ (text : List ℕ). length text ≤ FILE) (sym (c.bytes-2.ensures ∙ c.in_ok-made.ensures.script))
    (short_script c.made_input_is_accepted.ensures.dictionaries c.made_input_is_accepted.ensures.scripts c.args.seed c.args.words c.args.sentences c.requires.words c.requires.sentences (omega arith))

pub accepted_script-requires-clause-accepted : goal.accepted_script-requires-clause-accepted
accepted_script-requires-clause-accepted c =
    let made = commands_made c.made_input_is_accepted.ensures.dictionaries c.made_input_is_accepted.ensures.scripts c.args.seed c.args.words c.args.sentences c.requires.words c.requires.sentences (omega arith) in
    subst (λ (text : List ℕ). (commands : List CommandView) × ScriptIs text (Ok commands)) (sym (c.bytes-2.ensures ∙ c.in_ok-made.ensures.script)) (made.0, made.1)

-- both as they are read
pub returns : goal.returns
returns c =
    are_made c.made_input_is_accepted.ensures.dictionaries c.made_input_is_accepted.ensures.scripts c.args.seed c.args.words c.args.sentences c.requires.words c.requires.sentences (omega arith)
    c.scripts_keep_bounds.ensures empty c.in_ok-dict.dict (script_views c.in_ok-scripts.scripts)
    (λ entries gives. c.in_ok-dict.ensures entries (subst (λ (text : List ℕ). DictionaryGives text [] (stands entries)) (sym (c.bytes.ensures ∙ c.in_ok-made.ensures.dict)) gives))
    (λ commands is. c.in_ok-scripts.ensures commands (subst (λ (text : List ℕ). ScriptIs text (Ok commands)) (sym (c.bytes-2.ensures ∙ c.in_ok-made.ensures.script)) is))
