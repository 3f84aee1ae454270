-- Each candidate leaves the pages that go on behind it.
use Rattle.std.proofs.Common.{◌≡◌, ◌++◌, List, map, sym, subst}
use Rattle.std.specs.List.{AllByRecursion, flat_map}
use Rattle.lg_text.specs.Shown.{closed}
use Rattle.lg_audit.specs.Lines.{ShownItem, IsItemInForm}
use Rattle.lg_audit.specs.Documents.{item_lines}
use Rattle.lg_audit.specs.Views.{item_of}
use Rattle.lg_audit.proofs.Singles.{when_some, when_none, all_push, pushed}
use Rattle.lg_audit.proofs.Items.{next_pages, one_item_more, cut_off, no_end, ended}
use Rattle.lg_audit.proofs.page.read_page.Goals as goal

pub loop-items-preserved : goal.loop-items-preserved
loop-items-preserved c =
    let at = c.loop-items.invariant in
    let read = when_some _ _ c.in_ok-item.field-0 _ c.in-Some.is c.in_ok-item.ensures in
    let items = pushed item_of c.push.new.self.items c.loop-items.items.items c.in-Some.item c.in_ok-push.ensures.items in
    let so_far = one_item_more c.args.text.now c.loop-items.left.now c.in-Some.rest.now (map item_of c.loop-items.items.items) (item_of c.in-Some.item) at.read read.is in
    record {
      form = subst (AllByRecursion IsItemInForm) (sym items) (all_push IsItemInForm (map item_of c.loop-items.items.items) (item_of c.in-Some.item) at.form read.form);
      read = subst (λ (xs : List ShownItem). c.args.text.now ≡ flat_map closed (flat_map item_lines xs) ++ c.in-Some.rest.now) (sym items) so_far;
      gives = next_pages c.args.text.now c.loop-items.left.now c.in-Some.rest.now (item_of c.in-Some.item) at.gives read;
    }

pub returns-in_default-first_line : goal.returns-in_default-first_line
returns-in_default-first_line c =
    let none = when_none _ _ c.in_ok-item.field-0 c.in_default.is c.in_ok-item.ensures in
    cut_off c.args.text.now c.loop-items.left.now none c.loop-items.invariant.gives c.in_default-first_line.ensures

pub returns-in_default-page_end : goal.returns-in_default-page_end
returns-in_default-page_end c =
    let none = when_none _ _ c.in_ok-item.field-0 c.in_default.is c.in_ok-item.ensures in
    let cut = c.in-Some-first_line.ensures in
    no_end c.args.text.now c.loop-items.left.now none c.loop-items.invariant.gives c.in-Some-first_line.line.now c.in-Some-first_line.rest.now cut.0 cut.1 c.in_default-page_end.ensures

pub returns : goal.returns
returns c =
    let none = when_none _ _ c.in_ok-item.field-0 c.in_default.is c.in_ok-item.ensures in
    let cut = c.in-Some-first_line.ensures in
    let at = c.loop-items.invariant in
    ended c.args.text.now c.loop-items.left.now none at.gives c.in-Some-first_line.line.now c.in-Some-first_line.rest.now cut.0 cut.1
    (map item_of c.loop-items.items.items) c.in-Some-page_end.last at.form at.read c.in-Some-page_end.ensures
