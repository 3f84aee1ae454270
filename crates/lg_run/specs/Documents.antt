-- What is written for one sentence, and for a session.
use Rattle.std.specs.Prelude.{◌≡◌, ℕ, ◌+◌, Bool, true, false, List, [], ◌∷◌, ◌++◌, All, Option, Some, None, is_none, codes, length, if◌then◌else◌}
use Rattle.std.specs.Fmt.{decimal}
use Rattle.std.specs.List.{flat_map, enumerate_from}
use Rattle.lg_gram.specs.Linkages.{Linkage}
use Rattle.lg_gram.specs.declared.disjunct.Disjunct.{Disjunct}
use Rattle.lg_gram.specs.declared.listing.Bound.{Bound}
use Rattle.lg_gram.specs.declared.listing.Page.{Page}
use Rattle.lg_gram.specs.declared.listing.PageItem.{PageItem}
use Rattle.lg_gram.specs.declared.listing.Stats.{Stats}
use Rattle.lg_gram.specs.declared.listing.Token.{Token}
use Rattle.lg_gram.specs.declared.reply.CommandKind.{CommandKind}
use Rattle.lg_gram.specs.declared.reply.CommandKind.TheVariants as kinds
use Rattle.lg_gram.specs.declared.reply.Place.{Place}
use Rattle.lg_gram.specs.declared.reply.Reply.{Reply}
use Rattle.lg_gram.specs.declared.reply.Reply.TheVariants.{Listed}
use Rattle.lg_dict.specs.Dictionary.{Dictionary}
use Rattle.lg_knowread.specs.declared.knowledge.Knowledge.{Knowledge}
use Rattle.lg_token.specs.Bounds.{IsBeyond}
use Rattle.lg_answer.specs.Candidates.{IsBehind}
use Rattle.lg_answer.specs.Pages.{IsSentenceOf, IsPage, IsLinkageFor, AreStats}
use Rattle.lg_answer.specs.declared.options.Options.{Options}
use Rattle.lg_script.specs.Commands.{CommandView}
use Rattle.lg_script.specs.Kinds.{kind_of}
use Rattle.lg_session.specs.Engines.{Meaning, Progress}
use Rattle.lg_session.specs.Legal.{IsLegal, AnswersAll}
use Rattle.lg_text.specs.Pages.{listing_text}
use Rattle.lg_text.specs.Replies.{reply_text, edit_line}
use Rattle.lg_text.specs.Texts.{bound_line, line_of}
use Rattle.lg_text.specs.declared.look.Look.{Look}
use Rattle.lg_usage.specs.Totals.{Totals, AreTotals, usage_text}
use Rattle.lg_run.specs.Lines.{joined}
use Rattle.lg_run.specs.declared.setup.Setup.{Setup}

-- ---- one sentence

-- no rules, so that every candidate passes
abbrev pub no_knowledge : Knowledge
no_knowledge = record { starts = []; ignored = []; rules = [] }

-- the first page of the sentence's candidates, behind the numbers of its disjuncts where they are asked for, or the line that says why they
-- are not listed
pub data DocumentIs (setup : Setup) (dict : Dictionary) (sentence document : List ℕ) : Type 0 where
  listed : (tokens : List Token) (problem : List (List Disjunct)) (page : Page) (stats : Stats) → IsSentenceOf setup.listing.idioms dict sentence tokens problem
      → IsPage problem no_knowledge setup.listing.nulls 0 setup.listing.want setup.listing.examine page → (setup.listing.count ≡ true → AreStats problem setup.listing.prune stats)
      → document ≡ listing_text setup.look tokens page (Some stats) → DocumentIs setup dict sentence document
  beyond : (bound : Bound) → IsBeyond dict sentence bound → document ≡ bound_line bound → DocumentIs setup dict sentence document

-- ---- what sessions are answered

-- how many candidates that pass are wanted, where nothing else is asked
abbrev pub wanted : Options → Option ℕ → ℕ
wanted options None = options.want
wanted options (Some want) = want

-- The page of a sentence's candidates that begins behind so many of them, or behind all where they are fewer. Each may be
-- printed beside the sentence's tokens.
pub record IsShown (know : Knowledge) (options : Options) (dict : Dictionary) (progress : Progress) (page : Page) : Type 0 where
  pub problem : List (List Disjunct)
  pub sentence : IsSentenceOf options.idioms dict progress.text progress.tokens problem
  pub place : ℕ
  pub behind : IsBehind problem know options.nulls progress.position place
  pub shown : IsPage problem know options.nulls place (wanted options progress.want) options.examine page
  pub printable : All (λ item. IsLinkageFor progress.tokens item.linkage) page.items

-- how many disjuncts the sentence's problem has, and how many are kept, where they are counted
pub record AreCounted (options : Options) (dict : Dictionary) (text : List ℕ) (stats : Stats) : Type 0 where
  pub tokens : List Token
  pub problem : List (List Disjunct)
  pub sentence : IsSentenceOf options.idioms dict text tokens problem
  pub counted : options.count ≡ true → AreStats problem options.prune stats

-- the meaning of sentences: listings of their candidates
abbrev pub listings : Knowledge → Options → Meaning
listings know options = record { shows = IsShown know options; counts = AreCounted options }

-- ---- the document of sessions

-- the texts of a session's answers, from the command of that number on
abbrev pub reply_texts : Look → ℕ → ℕ → List CommandView → List Reply → List (List ℕ)
reply_texts look session n (command ∷ commands) (r ∷ rs) = reply_text look (record { session = session; command = n }) (kind_of command) r ∷ reply_texts look session (n + 1) commands rs
reply_texts look session n commands [] = []
reply_texts look session n [] rs = []

-- the texts of all answers, by sessions and commands
abbrev pub session_texts : Look → ℕ → List (List CommandView) → List (List Reply) → List (List ℕ)
session_texts look session (commands ∷ scripts) (rs ∷ replies) = reply_texts look session 1 commands rs ++ session_texts look (session + 1) scripts replies
session_texts look session scripts [] = []
session_texts look session [] replies = []

-- the journal, with these lines before its last one
abbrev pub journal_with : List ℕ → List Place → List ℕ
journal_with lines journal =
    line_of (codes "journal" ∷ decimal (length journal) ∷ []) ++ (flat_map edit_line (enumerate_from 1 journal) ++ (lines ++ line_of (codes "done" ∷ [])))

-- and then the journal, with the lines of usage
abbrev pub outcome_text : Look → List (List CommandView) → List (List Reply) → List Place → List ℕ → List ℕ
outcome_text look scripts replies journal lines = joined (session_texts look 1 scripts replies) ++ journal_with lines journal

-- ---- usage

-- the linkage of the first candidate that passes, if there is one
abbrev pub first_passing : List PageItem → List Linkage
first_passing [] = []
first_passing (item ∷ items) = if is_none item.broken then item.linkage ∷ [] else first_passing items

-- the candidates that a page shows, where the answer is a page
abbrev pub items_of : Reply → List PageItem
items_of (Listed version tokens page stats) = page.items
items_of _ = []

-- the first linkage of an answer to `parse` or `list`; pages of `more` do not count
abbrev pub first_linkage : CommandKind → Reply → List Linkage
first_linkage kinds.Parse r = first_passing (items_of r)
first_linkage kinds.List r = first_passing (items_of r)
first_linkage _ r = []

-- the first linkages of a session's answers
abbrev pub first_linkages : List CommandView → List Reply → List Linkage
first_linkages (command ∷ commands) (r ∷ rs) = first_linkage (kind_of command) r ++ first_linkages commands rs
first_linkages commands [] = []
first_linkages [] rs = []

-- and those of all sessions
abbrev pub all_first_linkages : List (List CommandView) → List (List Reply) → List Linkage
all_first_linkages (commands ∷ scripts) (rs ∷ replies) = first_linkages commands rs ++ all_first_linkages scripts replies
all_first_linkages scripts [] = []
all_first_linkages [] replies = []

-- the lines of the totals of these linkages, if they are asked for
abbrev pub AreUsageLines : Bool → List Linkage → List ℕ → Type 0
AreUsageLines false gs lines = lines ≡ []
AreUsageLines true gs lines = (totals : Totals) × AreTotals gs totals × (lines ≡ usage_text totals)

-- The document of a run: the text of a journal and of answers to all commands that are legal, with the totals of the first linkages of
-- those answers if they are asked for. Its lines show the journal and the version of each answer.
pub record IsOutcome (setup : Setup) (dict : Dictionary) (know : Knowledge) (scripts : List (List CommandView)) (document : List ℕ) : Type 0 where
  pub journal : List Place
  pub replies : List (List Reply)
  pub lines : List ℕ
  pub legal : IsLegal (record { meaning = listings know setup.listing; scripts = scripts; base = dict; journal = journal }) replies
  pub whole : AnswersAll scripts replies
  pub counted : AreUsageLines setup.usage (all_first_linkages scripts replies) lines
  pub is : document ≡ outcome_text setup.look scripts replies journal lines
