-- What idioms do in the linkages that a listing shows.
use Rattle.std.specs.Prelude.{◌≡◌, ◌↔◌, ◌⊎◌, ◌+◌, ◌≤◌, List, length, Contains}
use Rattle.lg_gram.specs.Limits.{POSITIONS}
use Rattle.lg_gram.specs.Linkages.{Linkage}
use Rattle.lg_gram.specs.Rules.{Good, HasLink}
use Rattle.lg_gram.specs.declared.disjunct.Disjunct.{Disjunct}
use Rattle.lg_gram.specs.declared.linkage.Link.{Link}
use Rattle.lg_gram.specs.declared.listing.Token.{Token}
use Rattle.lg_dict.specs.Dictionary.{Dictionary}
use Rattle.lg_idiom.specs.Idioms.{Chain}
use Rattle.lg_idiom.specs.Overlays.{HasNoJoints}
use Rattle.lg_idiom.specs.Sentences.{AreTakenOf}
use Rattle.lg_idiom.specs.Wholes.{UsesAll, UsesNone, IsJointLink}
use Rattle.lg_answer.specs.Pages.{HasLinkagesOf}
use Rattle.lg_token.specs.Problems.{IsProblemOf}
use Rattle.lg_answer.specs.Problems.{IsIdiomProblem}

-- each chain that is taken of the sentence is used at all of its positions or at none
abbrev pub UsesChainsWhole : Dictionary → List Token → List (List Disjunct) → Type 0
UsesChainsWhole dict tokens positions =
    (taken : List Chain) → AreTakenOf dict tokens taken → (g : Linkage) → Good positions g → (c : Chain) → Contains taken c → UsesAll g c ⊎ UsesNone g c

-- links of joints join neighbours
abbrev pub JoinsNeighbours : List (List Disjunct) → Type 0
JoinsNeighbours positions = (g : Linkage) → Good positions g → (l : Link) → HasLink g l → IsJointLink g l → l.right ≡ l.left + 1

-- the good linkages that use no chain are exactly those of the sentence without idioms
abbrev pub KeepsPlainLinkages : Dictionary → List Token → List (List Disjunct) → Type 0
KeepsPlainLinkages dict tokens positions =
    (taken : List Chain) → AreTakenOf dict tokens taken → (plain : List (List Disjunct)) → IsProblemOf dict tokens plain
    → (g : Linkage) → (Good positions g × ((c : Chain) → Contains taken c → UsesNone g c)) ↔ Good plain g

-- ---- a law

-- So it is in each problem with the good linkages of a sentence's with idioms, where the dictionary's own formulas have no joint.
abbrev pub IdiomsStayWhole : Type 0
IdiomsStayWhole = (dict : Dictionary) (tokens : List Token) (plain positions kept : List (List Disjunct)) → HasNoJoints dict → length tokens ≤ POSITIONS
    → IsProblemOf dict tokens plain → IsIdiomProblem dict tokens positions → HasLinkagesOf positions kept
    → UsesChainsWhole dict tokens kept × JoinsNeighbours kept × KeepsPlainLinkages dict tokens kept
