-- What a listing holds may go to another thread, part by part.
use denote.Param.Send.{IsSend, IsSync, sendable}
use denote.Param.SendFields.{as_row_send, as_row_sync, declared_send, variants_send}
use Rattle.std.proofs.Crossing.{crosses}
use Rattle.lg_rank.proofs.tree.Tree.TheLaws.TheKnot.{both_send-Tree, both_sync-Tree}
use Rattle.lg_rank.specs.contracts.tree.Tree as tree
use Rattle.lg_gram.specs.contracts.problem.Problem as problem
use Rattle.lg_rank.specs.contracts.part.Part as part
use Rattle.lg_rank.specs.contracts.ready.Ready as ready
use Rattle.lg_rank.specs.contracts.ready.Ready.TheInside as ready_inside
use Rattle.lg_rank.specs.contracts.ranked.Ranked.TheInside as ranked_inside
use Rattle.lg_rank.specs.contracts.queue.Waiting as waiting
use Rattle.lg_rank.specs.contracts.node.Node as node
use Rattle.lg_rank.specs.contracts.table.Table as table
use Rattle.lg_rank.specs.contracts.ranked.Ranked as ranked
use Rattle.lg_gram.proofs.expr.Expr.TheLaws.TheKnot.{both_send-Expr, both_sync-Expr}
use Rattle.lg_gram.specs.contracts.expr.Expr as expr
use Rattle.lg_gram.specs.contracts.formula.Body as body
use Rattle.lg_gram.specs.contracts.formula.Formula as formula
use Rattle.lg_gram.specs.contracts.formula.Formula.TheInside as formula_inside
use Rattle.lg_eprune.specs.contracts.words.WordExpr as word
use Rattle.lg_eprune.specs.contracts.words.WordExpr.TheInside as word_inside
use Rattle.lg_answer.specs.contracts.wide.Wide as wide

pub problem_sends : IsSend problem.the_row
problem_sends = search (sendable, crosses) depth 80

tree_field_sends : IsSend (tree.the_field).row
tree_field_sends = search (sendable, crosses, both_send-Tree) depth 40 fits 20000

tree_field_syncs : IsSync (tree.the_field).row
tree_field_syncs = search (sendable, crosses, both_sync-Tree) depth 40 fits 20000

tree_sends : IsSend tree.the_row
tree_sends = as_row_send tree.the_field tree_field_sends

tree_syncs : IsSync tree.the_row
tree_syncs = as_row_sync tree.the_field tree_field_syncs

pub part_sends : IsSend part.the_row
part_sends = search (sendable, crosses, tree_sends, tree_syncs) depth 40 fits 20000

ready_inside_sends : IsSend ready_inside.the_row
ready_inside_sends = declared_send ready_inside.the_type (part_sends, (search (sendable, crosses) depth 40 fits 20000, (search (sendable, crosses) depth 40 fits 20000, tt)))

pub ready_sends : IsSend ready.the_row
ready_sends = search (sendable, crosses, ready_inside_sends) depth 40 fits 20000

pub waiting_sends : IsSend waiting.the_row
waiting_sends = search (sendable, crosses, ready_sends) depth 40 fits 20000

pub node_sends : IsSend node.the_row
node_sends = search (sendable, crosses, part_sends, waiting_sends) depth 40 fits 20000

pub table_sends : IsSend table.the_row
table_sends = search (sendable, crosses, node_sends) depth 40 fits 20000

ranked_inside_sends : IsSend ranked_inside.the_row
ranked_inside_sends = declared_send ranked_inside.the_type (problem_sends, (table_sends, (search (sendable, crosses) depth 40 fits 20000, (search (sendable, crosses) depth 40 fits 20000, (search (sendable, crosses) depth 40 fits 20000, tt)))))

pub ranked_sends : IsSend ranked.the_row
ranked_sends = search (sendable, crosses, ranked_inside_sends) depth 40 fits 20000

expr_field_sends : IsSend (expr.the_field).row
expr_field_sends = search (sendable, crosses, both_send-Expr) depth 40 fits 20000

expr_field_syncs : IsSync (expr.the_field).row
expr_field_syncs = search (sendable, crosses, both_sync-Expr) depth 40 fits 20000

expr_sends : IsSend expr.the_row
expr_sends = as_row_send expr.the_field expr_field_sends

expr_syncs : IsSync expr.the_row
expr_syncs = as_row_sync expr.the_field expr_field_syncs

body_sends : IsSend body.the_row
body_sends = variants_send body.enum ((expr_sends, tt), ((search (sendable, crosses, expr_sends, expr_syncs) depth 40 fits 20000, tt), tt))

formula_inside_sends : IsSend formula_inside.the_row
formula_inside_sends = declared_send formula_inside.the_type (body_sends, (search (sendable, crosses) depth 40 fits 20000, tt))

formula_sends : IsSend formula.the_row
formula_sends = search (sendable, crosses, formula_inside_sends) depth 40 fits 20000

word_inside_sends : IsSend word_inside.the_row
word_inside_sends = declared_send word_inside.the_type (search (sendable, crosses) depth 40 fits 20000, (formula_sends, tt))

word_sends : IsSend word.the_row
word_sends = search (sendable, crosses, word_inside_sends) depth 40 fits 20000

pub wide_sends : IsSend wide.the_row
wide_sends = variants_send wide.enum ((problem_sends, tt), ((search (sendable, crosses, word_sends) depth 40 fits 20000, tt), tt))
