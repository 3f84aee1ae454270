use Rattle.std.proofs.Common.{◌≡◌, ap, ap₂, ◌∙◌, map, string_bytes}
use Rattle.std.proofs.lemmas.Result.{IfErr-weaker, IfOk-weaker}
use Rattle.clap.specs.Words.{App, app_of, takes, with_rule}
use Rattle.lg_run.proofs.ClapWords.{app, bare_is, reads, matches_tell}
use Rattle.lg_run.proofs.matched.matches_of.Goals as goal

-- the command is the one that the lemmas speak of
command_is : (c : goal.After-try_get_matches_from) → app_of c.in_ok-command.command ≡ app
command_is c =
    let named = bare_is c.new.result c.no_binary_name.result c.disable_help_flag.result c.new.ensures.app c.no_binary_name.ensures c.disable_help_flag.ensures in
    let wants = c.in_ok-arg.ensures.shape c.option.ensures.local ∙ ap₂ with_rule named c.option.ensures.rule in
    let examines = c.in_ok-arg-2.ensures.shape c.option-2.ensures.local ∙ ap₂ with_rule wants c.option-2.ensures.rule in
    let linked = c.in_ok-arg-3.ensures.shape c.option-3.ensures.local ∙ ap₂ with_rule examines c.option-3.ensures.rule in
    let prunes = c.in_ok-arg-4.ensures.shape c.option-4.ensures.local ∙ ap₂ with_rule linked c.option-4.ensures.rule in
    let counts = c.in_ok-arg-5.ensures.shape c.option-5.ensures.local ∙ ap₂ with_rule prunes c.option-5.ensures.rule in
    let drawn = c.in_ok-arg-6.ensures.shape c.option-6.ensures.local ∙ ap₂ with_rule counts c.option-6.ensures.rule in
    let works = c.in_ok-arg-7.ensures.shape c.option-7.ensures.local ∙ ap₂ with_rule drawn c.option-7.ensures.rule in
    let joins = c.in_ok-arg-8.ensures.shape c.option-8.ensures.local ∙ ap₂ with_rule works c.option-8.ensures.rule in
    c.in_ok-command.ensures.shape c.option-9.ensures.local ∙ ap₂ with_rule joins c.option-9.ensures.rule

pub returns-clause-ok : goal.returns-clause-ok
returns-clause-ok c = λ settings are.
    let parse = c.try_get_matches_from in
    IfOk-weaker parse.result _ _ (λ m h. matches_tell _ _ settings m (command_is c) are h) parse.ensures.matches

pub returns-clause-err : goal.returns-clause-err
returns-clause-err c =
    let parse = c.try_get_matches_from in
    let r = reads _ c.requires.0 c.requires.1 in
    IfErr-weaker parse.result _ _ (λ e h. h (ap (λ (a : App). takes a (map string_bytes c.args.words.now)) (command_is c) ∙ r.taken)) parse.ensures.passes
