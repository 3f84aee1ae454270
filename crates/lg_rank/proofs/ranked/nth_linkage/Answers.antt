use Rattle.std.proofs.Common.{ℕ, Bool, false, get_or, slice_get, sym, ◌∙◌, subst}
use Rattle.std.proofs.lemmas.Option.{slice_get-get_or}
use Rattle.lg_rank.specs.Tables.{forest_of, parts, IsNth}
use Rattle.lg_rank.specs.Values.{value_of}
use Rattle.lg_rank.proofs.Listing.{level_none, level_some, still_listing}
use Rattle.lg_rank.proofs.Following.{front_none, front_some}
use Rattle.lg_rank.proofs.ranked.nth_linkage.Goals as goal

pub has_part-requires-clause-forest : goal.has_part-requires-clause-forest
has_part-requires-clause-forest c =
    let is = c.requires.listing in
    c.values_are_linkages.ensures.forest c.args.problem.now (value_of c.args.nothing.now) (forest_of c.args.table.now.nodes.items) is.1.subjects is.1.forest

pub returns-then-not-branch-clause-listed : goal.returns-then-not-branch-clause-listed
returns-then-not-branch-clause-listed c = λ nulls level is lev.
    let z = value_of c.args.nothing.now in
    let forest = c.values_are_linkages.ensures.forest c.args.problem.now z (forest_of c.args.table.now.nodes.items) is.subjects is.forest in
    level_none (record { stand = c.values_are_linkages.ensures; sentences = c.sentences_are_cut_once.ensures }) c.args.problem.now z c.args.table.now.nodes.items c.has_part.new.self.nodes.items nulls c.args.root level c.args.i is lev c.has_part.ensures.table (forest.laws 0).total
    (λ all list. c.in_ok-has_part.ensures.listed all list) (subst (λ (b : Bool). IsNth z c.has_part.new.self.nodes.items c.args.root c.args.i b) c.if-not-branch.true c.in_ok-has_part.ensures.value)

pub returns-clause-listed : goal.returns-clause-listed
returns-clause-listed c = λ nulls level is lev.
    let z = value_of c.args.nothing.now in
    let values = parts z c.has_part.new.self.nodes.items c.args.root in
    let less = subst (λ (b : Bool). IsNth z c.has_part.new.self.nodes.items c.args.root c.args.i b) c.if-not-branch.false c.in_ok-has_part.ensures.value in
    let at = slice_get-get_or values c.args.i z less in
    level_some (record { stand = c.values_are_linkages.ensures; sentences = c.sentences_are_cut_once.ensures }) c.args.problem.now z c.args.table.now.nodes.items c.has_part.new.self.nodes.items nulls c.args.root level c.args.i (get_or values c.args.i z) c.in_ok-linkage.linkage is lev
    (λ all list. c.in_ok-has_part.ensures.listed all list) at (λ g p long. c.in_ok-linkage.ensures (get_or values c.args.i z) at g p long)

pub returns-then-not-branch-clause-next : goal.returns-then-not-branch-clause-next
returns-then-not-branch-clause-next c = λ nulls gs is front long.
    let z = value_of c.args.nothing.now in
    let nodes = c.has_part.new.self.nodes.items in
    front_none (record { stand = c.values_are_linkages.ensures; sentences = c.sentences_are_cut_once.ensures }) c.args.problem.now z nodes nulls c.args.root gs
    (still_listing c.args.problem.now z c.args.table.now.nodes.items nodes nulls c.args.root c.has_part.ensures.table c.has_part.ensures.same is) front
    (subst (λ (i : ℕ). IsNth z nodes c.args.root i false) (sym long) (subst (λ (b : Bool). IsNth z nodes c.args.root c.args.i b) c.if-not-branch.true c.in_ok-has_part.ensures.value))

pub returns-clause-next : goal.returns-clause-next
returns-clause-next c = λ nulls gs is front long.
    let z = value_of c.args.nothing.now in
    let nodes = c.has_part.new.self.nodes.items in
    let values = parts z nodes c.args.root in
    let at = slice_get-get_or values c.args.i z (subst (λ (b : Bool). IsNth z nodes c.args.root c.args.i b) c.if-not-branch.false c.in_ok-has_part.ensures.value) in
    front_some (record { stand = c.values_are_linkages.ensures; sentences = c.sentences_are_cut_once.ensures }) c.args.problem.now z nodes nulls c.args.root gs (get_or values c.args.i z) c.in_ok-linkage.linkage
    (still_listing c.args.problem.now z c.args.table.now.nodes.items nodes nulls c.args.root c.has_part.ensures.table c.has_part.ensures.same is) front
    ((λ k. slice_get values (long k)) ∙ at) (λ g p l. c.in_ok-linkage.ensures (get_or values c.args.i z) at g p l)
