-- The two connectors of a link, and its label.
use Rattle.std.specs.Prelude.{List, Option, Some, None, slice_get, slice_index_or}
use Rattle.std.specs.Option.{option_zip}
use Rattle.lg_gram.specs.Names.{Name}
use Rattle.lg_gram.specs.Connectors.{Connector, label_of}
use Rattle.lg_gram.specs.Linkages.{Linkage}
use Rattle.lg_gram.specs.Rules.{left_list, right_list}
use Rattle.lg_gram.specs.declared.disjunct.Disjunct.{Disjunct}
use Rattle.lg_gram.specs.declared.linkage.Link.{Link}

-- the connectors at the link's two places, at its left word and at its right word; none where one of the places is empty
abbrev pub ends_of : List (Option Disjunct) → Link → Option (Connector × Connector)
ends_of chosen l =
    option_zip (slice_get (right_list (slice_index_or chosen l.left None)) l.lplace) (slice_get (left_list (slice_index_or chosen l.right None)) l.rplace)

abbrev pub label_between : Option (Connector × Connector) → Option Name
label_between None = None
label_between (Some (a, b)) = Some (label_of a b)

-- the label of a link, by its two connectors
abbrev pub label_at : Linkage → Link → Option Name
label_at g l = label_between (ends_of g.chosen l)
