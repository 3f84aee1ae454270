use Rattle.std.proofs.Common.{ℕ, List, ◌++◌, ap, sym, ◌∙◌, subst}
use Rattle.std.specs.Borrow.{Bor}
use Rattle.std.specs.List.{AllByRecursion, flat_map, join_with_byte}
use Rattle.lg_audit.specs.Pieces.{Lacks}
use Rattle.lg_audit.proofs.PieceLists.{behind_commas, joined_last, one_more}
use Rattle.lg_audit.proofs.Singles.{all_push, pushed}
use Rattle.lg_audit.specs.Views.{texts}
use Rattle.lg_audit.proofs.linkages.sides.pieces.Goals as goal

pub loop-piece-preserved : goal.loop-piece-preserved
loop-piece-preserved c =
    let at = c.loop-piece.invariant in
    let cut = c.in-Some.ensures in
    let items = pushed (λ (l : Bor (List ℕ)). l.now) c.push.new.self.items c.loop-piece.pieces.items c.in-Some.piece c.in_ok-push.ensures.items in
    record {
      cut = subst (AllByRecursion (Lacks 44)) (sym items) (all_push (Lacks 44) (texts c.loop-piece.pieces.items) c.in-Some.piece.now at.cut cut.0);
      read = at.read ∙ sym (ap (λ (ps : List (List ℕ)). flat_map behind_commas ps ++ c.in-Some.rest.now) items ∙ one_more (texts c.loop-piece.pieces.items) c.in-Some.piece.now c.loop-piece.left.now c.in-Some.rest.now cut.1);
    }

pub returns : goal.returns
returns c =
    let at = c.loop-piece.invariant in
    let items = pushed (λ (l : Bor (List ℕ)). l.now) c.push-2.new.self.items c.loop-piece.pieces.items c.loop-piece.left c.in_ok-push-2.ensures.items in
    record {
      joined = at.read ∙ joined_last (texts c.loop-piece.pieces.items) c.loop-piece.left.now ∙ sym (ap (join_with_byte 44) items);
      cut = subst (AllByRecursion (Lacks 44)) (sym items) (all_push (Lacks 44) (texts c.loop-piece.pieces.items) c.loop-piece.left.now at.cut c.in_default.ensures);
    }
