-- A few linkages that show what the rules and the order mean.
use Rattle.std.specs.Prelude.{ℕ, List, [], ◌∷◌, Some, None, true, false, pos, codes}
use Rattle.lg_gram.specs.Connectors.{Connector}
use Rattle.lg_gram.specs.Linkages.{Linkage}
use Rattle.lg_gram.specs.declared.disjunct.Disjunct.{Disjunct}
use Rattle.lg_gram.specs.declared.linkage.Link.{Link}

-- connectors that join a word to the right, and to the left
abbrev pub to_right : List ℕ → Connector
to_right caps = record { caps = caps; subs = []; multi = false; right = true }

abbrev pub to_left : List ℕ → Connector
to_left caps = record { caps = caps; subs = []; multi = false; right = false }

-- a word that is used with these connectors, at no cost
abbrev pub used : List ℕ → List Connector → List Connector → Disjunct
used word left right = record { word = word; left = left; right = right; cost = pos 0 }

-- a link from a place of a word to a place of a word
abbrev pub link : ℕ → ℕ → ℕ → ℕ → Link
link left lplace right rplace = record { left = left; lplace = lplace; right = right; rplace = rplace }

-- Mary with `S+`, and ran with `S-`
abbrev pub mary : Disjunct
mary = used (codes "Mary") [] (to_right (codes "S") ∷ [])

abbrev pub ran : Disjunct
ran = used (codes "ran") (to_left (codes "S") ∷ []) []

-- the sentence `Mary ran`, where Mary is `O- or S+` and ran is `S-`
abbrev pub mary_ran : List (List Disjunct)
mary_ran = (mary ∷ used (codes "Mary") (to_left (codes "O") ∷ []) [] ∷ []) ∷ (ran ∷ []) ∷ []

-- its two words linked
abbrev pub mary_ran_linked : Linkage
mary_ran_linked = record { chosen = Some mary ∷ Some ran ∷ []; links = link 0 0 1 0 ∷ [] }

-- and both unlinked
abbrev pub mary_ran_unlinked : Linkage
mary_ran_unlinked = record { chosen = None ∷ None ∷ []; links = [] }

-- two links between the same two words, each of which joins connectors that match
abbrev pub linked_twice : Linkage
linked_twice = record {
  chosen = Some (used (codes "x") [] (to_right (codes "A") ∷ to_right (codes "B") ∷ [])) ∷ Some (used (codes "y") (to_left (codes "A") ∷ to_left (codes "B") ∷ []) []) ∷ [];
  links = link 0 0 1 0 ∷ link 0 1 1 1 ∷ [];
}

-- four words of which the second link crosses the third
abbrev pub crossed : Linkage
crossed = record {
  chosen =
      Some (used (codes "x") [] (to_right (codes "A") ∷ to_right (codes "B") ∷ [])) ∷ Some (used (codes "y") (to_left (codes "A") ∷ []) (to_right (codes "C") ∷ []))
      ∷ Some (used (codes "z") (to_left (codes "B") ∷ []) []) ∷ Some (used (codes "w") (to_left (codes "C") ∷ []) []) ∷ [];
  links = link 0 0 1 0 ∷ link 0 1 2 0 ∷ link 1 0 3 0 ∷ [];
}
