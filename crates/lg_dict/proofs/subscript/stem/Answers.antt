use Rattle.std.proofs.Common.{sym, ap, ◌∙◌, ◌+◌}
use Rattle.lg_dict.specs.Subscripts.{is_subscript}
use Rattle.lg_dict.proofs.Points.{stem_of-at, stem_of-no_subscript, stem_of-first, stem_of-none, rest_range}
use Rattle.lg_dict.proofs.subscript.stem.Goals as goal

pub returns-in-Some : goal.returns-in-Some
returns-in-Some c = stem_of-at c.args.word.now c.in-Some.at c.in-Some.ensures.0 c.in-Some.ensures.1 c.if-at-gt0.true (sym (c.if-is_subscript_text.ensures ∙ ap is_subscript (rest_range c.args.word.now (c.in-Some.at + 1))))

pub returns-in_default : goal.returns-in_default
returns-in_default c = stem_of-no_subscript c.args.word.now c.in-Some.at c.in-Some.ensures.0 c.in-Some.ensures.1 (sym (c.if-is_subscript_text.ensures ∙ ap is_subscript (rest_range c.args.word.now (c.in-Some.at + 1))))

pub returns-in_default-2 : goal.returns-in_default-2
returns-in_default-2 c = stem_of-first c.args.word.now c.in-Some.at c.in-Some.ensures.0 c.in-Some.ensures.1 c.if-at-gt0.false

pub returns-in_default-3 : goal.returns-in_default-3
returns-in_default-3 c = stem_of-none c.args.word.now c.in_default.ensures
