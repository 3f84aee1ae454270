use Rattle.std.proofs.Common.{ℕ, Option, IfSome, ap, sym, subst}
use Rattle.lg_gram.specs.Trees.{Tree, tree_of}
use Rattle.lg_lex.specs.declared.marks.Marks.TheVariants.{Dictionary}
use Rattle.lg_lex.specs.Lexing.{tokens_from}
use Rattle.lg_dictread.specs.Reading.{formulas_of}
use Rattle.lg_dictread.specs.Recalling.{Means, Writes}
use Rattle.lg_dictread.proofs.Recalling.{means_within}
use Rattle.lg_dictread.proofs.formula.recall.Goals as goal

-- the section writes the formula of the entry, wherever it stands
pub returns-in_ok-copied-in-Some : goal.returns-in_ok-copied-in-Some
returns-in_ok-copied-in-Some c =
    let earlier = c.args.earlier.now in
    let formulas = formulas_of earlier in
    let text = c.args.text.now in
    let from = c.args.from.at in
    let section = c.args.section.now in
    let entry = c.in-Some.entry.now in
    let writes : Writes formulas section (tree_of entry.formula) entry.level =
    subst (λ (o : Option (Tree × ℕ)). IfSome o (λ m. Writes formulas section m.0 m.1)) (sym c.in-Some.ensures) (c.requires.kept.written section) in
    let stands = c.sections_keep_their_tokens.ensures Dictionary text section from writes.closed c.requires.stands in
    let ends = ap (λ (n : ℕ). tokens_from Dictionary text n) c.on_to.ensures.at in
    record {
      means = subst (λ (t : Tree). Means formulas (tokens_from Dictionary text from) t entry.level (tokens_from Dictionary text c.on_to.result.at)) (sym c.in_ok-copied-in-Some.ensures)
          (subst (Means formulas (tokens_from Dictionary text from) (tree_of entry.formula) entry.level) (sym ends)
          (means_within formulas from (tokens_from Dictionary section 0) (tokens_from Dictionary text from) _ (tree_of entry.formula) entry.level stands writes.means));
      spot = c.on_to.ensures.spot;
      section = tt;
    }
