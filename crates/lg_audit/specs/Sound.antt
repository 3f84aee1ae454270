-- What a yes promises of what a document shows: of its journal, of its versions and edits, and of its linkages.
use Rattle.std.specs.Prelude.{◌≡◌, ℕ, List, [], ◌∷◌, length, map, All, Some, None}
use Rattle.std.specs.List.{flat_map}
use Rattle.std.specs.List.Sorted.{IsStrictlySortedBy}
use Rattle.lg_gram.specs.Linkages.{Linkage, linkage_cmp}
use Rattle.lg_gram.specs.Rules.{Good}
use Rattle.lg_gram.specs.declared.disjunct.Disjunct.{Disjunct}
use Rattle.lg_gram.specs.declared.listing.Token.{Token}
use Rattle.lg_dict.specs.Dictionary.{Dictionary}
use Rattle.lg_edit.specs.Edits.{EditView}
use Rattle.lg_knowread.specs.declared.knowledge.Knowledge.{Knowledge}
use Rattle.lg_pp.specs.Breaks.{Judges}
use Rattle.lg_token.specs.Bounds.{AreListed}
use Rattle.lg_token.specs.Problems.{IsProblemOf}
use Rattle.lg_script.specs.Commands.{CommandView, parses, lists, goes_on, makes}
use Rattle.lg_script.specs.Histories.{numbered, AreInTime}
use Rattle.lg_audit.specs.Lines.{ShownPage, ShownReply, listed}
use Rattle.lg_audit.specs.Documents.{ShownDocument, Shows}
use Rattle.lg_audit.specs.Replies.{Basis, dictionary_at, outline, shown_linkage, linkages_on}
use Rattle.lg_audit.specs.Tests.{EditHolds}
use Rattle.lg_audit.specs.Audits.{Inputs, basis_of, JournalHolds, IsAudit}
use Rattle.lg_audit.specs.declared.answer.AuditAnswer.TheVariants.{Yes}

-- ---- linkages

-- a linkage of these tokens by the dictionary that passes all rules
pub record IsRightLinkage (know : Knowledge) (dict : Dictionary) (tokens : List Token) (g : Linkage) : Type 0 where
  pub problem : List (List Disjunct)
  pub of_tokens : IsProblemOf dict tokens problem
  pub good : Good problem g
  pub passes : Judges know g None

-- what a session shows of one listing: its version, its sentence, and its pages, the first one and those of `more`
pub record ShownListing : Type 0 where
  pub version : ℕ
  pub text : List ℕ
  pub pages : List ShownPage

-- All linkages that its pages show are right by the dictionary of its version, and they rise strictly in their order.
pub record IsRightListing (basis : Basis) (l : ShownListing) : Type 0 where
  pub tokens : List Token
  pub of_text : AreListed (dictionary_at basis l.version) l.text tokens
  pub linkages : List Linkage
  pub are : flat_map linkages_on l.pages ≡ map (shown_linkage tokens) linkages
  pub right : All (IsRightLinkage basis.know (dictionary_at basis l.version) tokens) linkages
  pub rise : IsStrictlySortedBy linkage_cmp linkages

-- ---- the listings of a session

-- the pages of `more`, up to the next sentence that is asked for
abbrev pub pages_on : List CommandView → List ShownReply → List ShownPage
pages_on (goes_on ∷ commands) (listed version stats page ∷ rs) = page ∷ pages_on commands rs
pages_on (parses text ∷ commands) (r ∷ rs) = []
pages_on (lists first want text ∷ commands) (r ∷ rs) = []
pages_on (command ∷ commands) (r ∷ rs) = pages_on commands rs
pages_on [] rs = []
pages_on (command ∷ commands) [] = []

-- each sentence that was listed, with all its pages
abbrev pub listings_of : List CommandView → List ShownReply → List ShownListing
listings_of (parses text ∷ commands) (listed version stats page ∷ rs) = record { version = version; text = text; pages = page ∷ pages_on commands rs } ∷ listings_of commands rs
listings_of (lists first want text ∷ commands) (listed version stats page ∷ rs) = record { version = version; text = text; pages = page ∷ pages_on commands rs } ∷ listings_of commands rs
listings_of (command ∷ commands) (r ∷ rs) = listings_of commands rs
listings_of [] rs = []
listings_of (command ∷ commands) [] = []

-- the pages that an answer or a listing shows, each with its version
abbrev pub pages_in : ShownReply → List (ℕ × ShownPage)
pages_in (listed version stats page) = (version, page) ∷ []
pages_in _ = []

abbrev pub pages_at : ShownListing → List (ℕ × ShownPage)
pages_at l = map (λ page. (l.version, page)) l.pages

-- ---- documents

-- Each command is answered. The versions that answers name are there, and none falls; each edit stands in the journal where it says, and
-- was accepted, or was refused for that cause; and each page that is shown is of a right listing, at its version.
pub record IsRightSession (basis : Basis) (session : ℕ) (commands : List CommandView) (rs : List ShownReply) : Type 0 where
  pub same_length : length rs ≡ length commands
  pub in_time : AreInTime basis.journal commands (map outline rs)
  pub edits : (n : ℕ) (edit : EditView) (r : ShownReply) → numbered commands n ≡ Some (makes edit) → numbered rs n ≡ Some r → EditHolds basis (record { session = session; command = n }) edit r
  pub listings : All (IsRightListing basis) (listings_of commands rs)
  pub pages : flat_map pages_in rs ≡ flat_map pages_at (listings_of commands rs)

-- The journal has the edits that were published, in order, each once, and each session is right by it.
pub record IsRightDocument (inputs : Inputs) (d : ShownDocument) : Type 0 where
  pub journal : JournalHolds inputs d
  pub same_length : length d.replies ≡ length inputs.scripts
  pub sessions : (session : ℕ) (commands : List CommandView) (rs : List ShownReply) → numbered inputs.scripts session ≡ Some commands → numbered d.replies session ≡ Some rs
      → IsRightSession (basis_of inputs d) session commands rs

-- After a yes the bytes are a right document.
abbrev pub AuditsAreSound : Type 0
AuditsAreSound = (inputs : Inputs) (bytes : List ℕ) (shown : ℕ) → IsAudit inputs bytes (Yes shown) → (d : ShownDocument) × Shows inputs.scripts bytes d × IsRightDocument inputs d
