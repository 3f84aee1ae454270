use Rattle.std.proofs.Common.{refl, sym, ap, ◌∙◌, slice_index, arith}
use Rattle.std.proofs.lemmas.List.{get_or_read}
use Rattle.lg_gram.specs.RawTrees.{raw_tree_of}
use Rattle.lg_expr.specs.Grammar.{Rules}
use Rattle.lg_dictread.specs.Scanning.{with_items, with_expression}
use Rattle.lg_dictread.proofs.entry.read_one.Goals as goal

-- the items and the expression are those of the entry
pub returns : goal.returns
returns g c =
    let r : Rules = record { known = g.M.Macros.known c.args.macros.now; limit = c.args.limit } in
    let read = c.in_ok-read.ensures.told in
    let expression = c.in_ok-expression.ensures in (
      record { items = read.0; expr = raw_tree_of c.in_ok-expression.expression.expr; level = c.in_ok-expression.expression.level },
      ap (with_items r) read.1 ∙ ap (with_expression read.0) expression.0,
      record {
        items = record { items_are = c.of.ensures ∙ read.2.items_are; lines_are = c.of-2.ensures ∙ read.2.lines_are };
        expr = refl;
        level = refl;
        line = get_or_read c.in_ok-read.read.lines.items _ _ (omega (arith, c.in_ok-read.read.lines.ok.0, c.in_ok-read.ensures.some)) c.index-line.ensures 0 ∙ ap (λ (l : _). slice_index l 0) (sym c.of-2.ensures);
      },
      expression.1,
    )
