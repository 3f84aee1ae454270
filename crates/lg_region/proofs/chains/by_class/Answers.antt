use Rattle.std.proofs.Common.{◌++◌, ◌∷◌, [], map, get_or, take, ap, ◌∙◌, sym, subst, arith, Vec, Global}
use Rattle.std.specs.List.{AllZip}
use Rattle.std.proofs.lemmas.List.{length-map, take_more}
use Rattle.lg_region.specs.Chains.{IsByClass}
use Rattle.lg_region.specs.Numbered.{HasSides}
use Rattle.lg_region.specs.declared.numbering.Sides.{Sides}
use Rattle.lg_region.proofs.Elements.{zip_at, zip_length}
use Rattle.lg_region.proofs.Ends.{map_at}
use Rattle.lg_region.proofs.Growing.{zip_push}
use Rattle.lg_region.proofs.chains.by_class.Goals as goal

pub bounds-sides-index : goal.bounds-sides-index
bounds-sides-index c =
    let lists = c.requires.sides.0 in
    let a = zip_length (AllZip (HasSides lists)) c.args.positions.now (map (λ (v : Vec Sides Global). v.items) c.args.sides.now) c.requires.sides.3 in
    let b = length-map c.args.sides.now (λ (v : Vec Sides Global). v.items) in
    let l = c.loop-index-test.true in
    omega arith

pub word_by_class-requires-clause-sides : goal.word_by_class-requires-clause-sides
word_by_class-requires-clause-sides c =
    let lists = c.requires.sides.0 in
    let positions = c.args.positions.now in
    let i = c.loop-index.index in
    let l = c.loop-index-test.true in
    let rows = map (λ (v : Vec Sides Global). v.items) c.args.sides.now in
    let a = zip_length (AllZip (HasSides lists)) positions rows c.requires.sides.3 in
    let b = length-map c.args.sides.now (λ (v : Vec Sides Global). v.items) in
    let row = map_at {X = Vec Sides Global} (λ v. v.items) c.args.sides.now i c.index-sides-index.result [] (omega arith) c.index-sides-index.is in
    let at = zip_at (AllZip (HasSides lists)) positions rows i c.index-positions-index.result [] c.requires.sides.3 l in
    let at' = subst (λ z. AllZip (HasSides lists) (get_or positions i c.index-positions-index.result) z) (row ∙ sym c.deref.ensures.value) at in
    (lists, c.requires.sides.1, c.requires.sides.2, subst (λ z. AllZip (HasSides lists) z c.deref.result.now) (sym c.index-positions-index.is ∙ sym c.items.ensures) at')

pub loop-index-preserved : goal.loop-index-preserved
loop-index-preserved c =
    let R = IsByClass c.args.side in
    let positions = c.args.positions.now in
    let i = c.loop-index.index in
    let ds = c.index-positions-index.result in
    let t = c.in_ok-word.word in
    let all = take_more positions i ds c.loop-index-test.true ∙ ap (λ z. take i positions ++ z ∷ []) (sym c.index-positions-index.is) in
    let is = subst (λ z. R z t) c.items.ensures c.in_ok-word.ensures in
    subst (λ z. AllZip R z c.push.new.self.items) (sym all) (subst (λ z. AllZip R (take i positions ++ ds ∷ []) z) (sym c.in_ok-push.ensures.items) (zip_push R (take i positions) c.loop-index.words.items ds t c.loop-index.invariant is))
