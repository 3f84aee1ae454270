-- Lists of connectors, as connectors come behind those that are there.
use Rattle.std.proofs.Common.{◌≡◌, List, [], ◌∷◌, ◌++◌, map, length, sym, ap, ap₂, ◌∙◌, append-nil, refl}
use Rattle.std.specs.List.{All}
use Rattle.std.proofs.lemmas.List.{map-append}
use Rattle.std.proofs.lemmas.List.Elements.{All-head, All-tail}
use Rattle.lg_gram.specs.Connectors.{Connector}
use Rattle.lg_disj.specs.Lists.{list_in, StandsIn}
use Rattle.lg_disj.specs.declared.lists.Span.{Span}
use Rattle.lg_disj.proofs.Rows.{part_grown, part_at}

spans_grown : (cs more : List Connector) (spans : List Span) → All (StandsIn cs) spans → map (list_in (cs ++ more)) spans ≡ map (list_in cs) spans
spans_grown cs more [] stand = refl
spans_grown cs more (s ∷ spans) stand =
    let one = All-head (StandsIn cs) s spans stand in
    λ i. part_grown s.from s.end cs more one.order one.within i ∷ spans_grown cs more spans (All-tail (StandsIn cs) s spans stand) i

-- a list more
pub list_pushed : (cs list new : List Connector) (spans : List Span) (s : Span) → All (StandsIn cs) spans → new ≡ cs ++ list → s.from ≡ length cs → s.end ≡ length new →
    map (list_in new) (spans ++ s ∷ []) ≡ map (list_in cs) spans ++ list ∷ []
list_pushed cs list new spans s stand is from end =
    ap (λ all. map (list_in all) (spans ++ s ∷ [])) is
    ∙ map-append (list_in (cs ++ list)) spans (s ∷ [])
    ∙ ap₂ (λ old one. old ++ one ∷ []) (spans_grown cs list spans stand)
    (ap (λ (all : List Connector). list_in all s) (sym (append-nil (cs ++ list))) ∙ part_at s.from s.end cs list [] from (end ∙ ap length is))
