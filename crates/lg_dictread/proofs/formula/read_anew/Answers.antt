use Rattle.std.proofs.Common.{◌≡◌, ◌≤◌, subst, arith}
use Rattle.std.proofs.lemmas.Result.{err_from_is_err_and}
use Rattle.lg_gram.specs.Filled.{filled, filled_level}
use Rattle.lg_gram.specs.Fits.{FilledFits}
use Rattle.lg_gram.specs.Limits.{LEVEL}
use Rattle.lg_gram.specs.RawTrees.{raw_tree_of}
use Rattle.lg_lex.specs.declared.marks.Marks.TheVariants.{Dictionary}
use Rattle.lg_lex.specs.Lexing.{tokens_from}
use Rattle.lg_lex.specs.Tokens.{Token}
use Rattle.lg_expr.specs.Automaton.{start, run, stopped}
use Rattle.lg_expr.specs.Fits.{rules_of}
use Rattle.lg_expr.specs.Reading.{AnswerIs, StandFor}
use Rattle.lg_dictread.specs.Entries.{part}
use Rattle.lg_dictread.specs.Recalling.{IsRefused, at_fault, large, Means}
use Rattle.lg_dictread.specs.Reading.{formulas_of}
use Rattle.lg_dictread.proofs.Formulas.{all_fit}
use Rattle.lg_dictread.proofs.NextEntry.{stop_told}
use Rattle.lg_dictread.proofs.Recalling.{large_unless, writes_up_to}
use Rattle.lg_dictread.proofs.formula.read_anew.Goals as goal

-- a fault of the tokens
pub returns-in-Err-clause-told : goal.returns-in-Err-clause-told
returns-in-Err-clause-told c =
    let formulas = formulas_of c.args.earlier.now in
    let ts = tokens_from Dictionary c.args.text.now c.args.from.at in
    let r = rules_of formulas LEVEL in
    let a = run Token part r start ts in
    stop_told c.args.text.now (λ f left. a ≡ stopped f left) (IsRefused c.args.text.now formulas c.args.line ts)
    (λ f left error is at. at_fault f left (subst (AnswerIs Token part r ts) is (c.exactly_one.ensures.some part r ts)) at)
    c.in-Err.stop _ c.in-Err.ensures c.fault_error.ensures.told

-- a measure is passed
pub returns-in_err-measure-clause-told : goal.returns-in_err-measure-clause-told
returns-in_err-measure-clause-told c =
    let p = err_from_is_err_and c.from_residual.result c.from_residual.ensures.1 in
    let formulas = formulas_of c.args.earlier.now in
    let ts = tokens_from Dictionary c.args.text.now c.args.from.at in
    let r = rules_of formulas LEVEL in
    let e = raw_tree_of c.in-Ok.read.expr in
    let stands : StandFor Token part r ts e c.in-Ok.read.level (tokens_from Dictionary c.args.text.now c.in-Ok.read.end.at) = subst (AnswerIs Token part r ts) c.in-Ok.ensures.0 (c.exactly_one.ensures.some part r ts) in
    rw (p.1, p.2) (large_unless (filled formulas e) c.args.line c.in_err-measure.field-0.0 (IsRefused c.args.text.now formulas c.args.line ts) c.in_err-measure.ensures
    (large e c.in-Ok.read.level (tokens_from Dictionary c.args.text.now c.in-Ok.read.end.at) stands c.in_err-measure.ensures))

-- the formula keeps to its level, and so to the depth and the prices
pub filled_formula-requires : goal.filled_formula-requires
filled_formula-requires c =
    let formulas = formulas_of c.args.earlier.now in
    let ts = tokens_from Dictionary c.args.text.now c.args.from.at in
    let r = rules_of formulas LEVEL in
    let e = raw_tree_of c.in-Ok.read.expr in
    let rest = tokens_from Dictionary c.args.text.now c.in-Ok.read.end.at in
    let stands : StandFor Token part r ts e c.in-Ok.read.level rest = subst (AnswerIs Token part r ts) c.in-Ok.ensures.0 (c.exactly_one.ensures.some part r ts) in
    let fits : FilledFits formulas c.in-Ok.read.level e = c.expressions_fit.ensures formulas LEVEL ts e c.in-Ok.read.level rest (all_fit c.args.earlier.now c.requires.kept) (omega arith) stands in
    let few = fits.level_fits.few in
    let deep = fits.level_fits.depth in
    let small = c.in_ok-measure.ensures in
    let side = small.side in
    record {
      nodes = small.nodes;
      choices = small.choices;
      left_side = omega (arith, side);
      right_side = omega (arith, side);
      depth = omega (arith, few, deep);
      prices = fits.prices;
    }

pub returns-clause-told : goal.returns-clause-told
returns-clause-told c =
    let formulas = formulas_of c.args.earlier.now in
    let text = c.args.text.now in
    let ts = tokens_from Dictionary text c.args.from.at in
    let r = rules_of formulas LEVEL in
    let read = c.in-Ok.read in
    let e = raw_tree_of read.expr in
    let rest = tokens_from Dictionary text read.end.at in
    let stands : StandFor Token part r ts e read.level rest = subst (AnswerIs Token part r ts) c.in-Ok.ensures.0 (c.exactly_one.ensures.some part r ts) in
    let fits : FilledFits formulas read.level e = c.expressions_fit.ensures formulas LEVEL ts e read.level rest (all_fit c.args.earlier.now c.requires.kept) (omega arith) stands in
    let few : filled_level formulas read.level e ≤ LEVEL = fits.level_fits.few in
    let means : Means formulas ts _ c.filled_level.result rest = record {
      expr = e;
      written = read.level;
      stands = stands;
      small = c.in_ok-measure.ensures;
      formula_is = c.in_ok-formula.ensures;
      level_is = omega (arith, few, c.filled_level.ensures);
    } in
    record {
      means = means;
      spot = c.in-Ok.ensures.1;
      section = writes_up_to formulas text c.args.from.at read.end.at _ c.filled_level.result (λ section. c.sections_keep_their_tokens.ensures Dictionary text section c.args.from.at) means
          c.args.section c.section_up_to.result c.requires.closed c.requires.stands c.section_up_to.ensures;
    }
