-- What a journal makes of a dictionary, and what has to hold of the journal and of the answers to edits.
use Rattle.std.specs.Prelude.{◌≡◌, ◌≤◌, ◌<◌, ℕ, zero, suc, ◌-◌, ◌==◌, Bool, true, false, List, [], ◌∷◌, length, map, take, All, AllPairs, filter, Option, Some, None, slice_get, slice_index_or}
use Rattle.std.specs.List.{enumerate_from}
use Rattle.std.specs.Option.{is_some}
use Rattle.lg_gram.specs.Filled.{macro_names}
use Rattle.lg_gram.specs.declared.edit.EditRefusal.{EditRefusal}
use Rattle.lg_gram.specs.declared.edit.EditRefusal.TheVariants.{UnknownMacro}
use Rattle.lg_gram.specs.declared.reply.Place.{Place}
use Rattle.lg_gram.specs.declared.reply.Reply.{Reply}
use Rattle.lg_gram.specs.declared.reply.Reply.TheVariants.{Listed, Beyond, Published, Refused, At, NoListing}
use Rattle.lg_dict.specs.Dictionary.{Dictionary}
use Rattle.lg_edit.specs.Edits.{EditView, puts, sets, removes, accept, after_edit}
use Rattle.lg_script.specs.Commands.{CommandView, goes_on, makes}

-- ---- places

-- the element of that number, from 1
abbrev pub numbered : {A : Type 0} → List A → ℕ → Option A
numbered xs zero = None
numbered xs (suc n) = slice_get xs n

-- the command at a place: sessions and their commands are numbered from 1
abbrev pub command_in : Option (List CommandView) → ℕ → Option CommandView
command_in None n = None
command_in (Some commands) n = numbered commands n

abbrev pub command_at : List (List CommandView) → Place → Option CommandView
command_at scripts p = command_in (numbered scripts p.session) p.command

-- ---- versions

abbrev pub after_command : Dictionary → Option CommandView → Dictionary
after_command dict (Some (makes edit)) = after_edit dict edit
after_command dict _ = dict

-- the dictionary after these edits of the scripts, one after another
abbrev pub dictionary_after : List (List CommandView) → Dictionary → List Place → Dictionary
dictionary_after scripts dict [] = dict
dictionary_after scripts dict (p ∷ ps) = dictionary_after scripts (after_command dict (command_at scripts p)) ps

-- the dictionary of a version: after so many edits of the journal
abbrev pub version_of : List (List CommandView) → Dictionary → List Place → ℕ → Dictionary
version_of scripts base journal version = dictionary_after scripts base (take version journal)

-- ---- the journal has the edits that were published

abbrev pub is_published : Reply → Bool
is_published (Published version) = true
is_published _ = false

-- the places of a session's commands that were answered so
abbrev pub published_by : ℕ → List Reply → List Place
published_by session replies = map (λ n. record { session = session; command = n.0 }) (filter (λ n. is_published n.1) (enumerate_from 1 replies))

-- The journal has the edits of each session that were published, in the order of its script, each once. It has no others.
pub record HasPublished (journal : List Place) (replies : List (List Reply)) : Type 0 where
  pub each : (session : ℕ) (rs : List Reply) → numbered replies session ≡ Some rs → filter (λ p. p.session == session) journal ≡ published_by session rs
  pub no_other : All (λ p. is_some (numbered replies p.session) ≡ true) journal

-- ---- versions never fall

-- the version that an answer names; where there is no listing that could go on, none is named
abbrev pub reply_version : Reply → ℕ
reply_version (Listed version tokens page stats) = version
reply_version (Beyond version bound) = version
reply_version (Published version) = version
reply_version (Refused version cause name) = version
reply_version (At version) = version
reply_version NoListing = 0

-- the answers that name what the session has come to: those to all commands but `more`, which goes on with an old version
abbrev pub fresh : List CommandView → List Reply → List Reply
fresh (goes_on ∷ commands) (r ∷ rs) = fresh commands rs
fresh (command ∷ commands) (r ∷ rs) = r ∷ fresh commands rs
fresh commands [] = []
fresh [] rs = []

-- the version of a later answer is no lower, and that which an edit made is higher
abbrev pub Precedes : Reply → Reply → Type 0
Precedes earlier (Published version) = reply_version earlier < version
Precedes earlier later = reply_version earlier ≤ reply_version later

-- no answer of a session names a version that is not there, and versions never fall
pub record AreInTime (journal : List Place) (commands : List CommandView) (replies : List Reply) : Type 0 where
  pub there : All (λ r. reply_version r ≤ length journal) replies
  pub rise : AllPairs Precedes (fresh commands replies)

-- ---- answers to edits

-- The edit at this place made this version: it stands there in the journal, and the version before accepts it.
pub record IsPublishedAt (scripts : List (List CommandView)) (base : Dictionary) (journal : List Place) (p : Place) (edit : EditView) (version : ℕ) : Type 0 where
  pub stands : numbered journal version ≡ Some p
  pub accepted : accept (version_of scripts base journal (version - 1)) edit ≡ None

-- the names of the macros that an edit's expression names
abbrev pub names_in : EditView → List (List ℕ)
names_in (puts e) = macro_names e.expr
names_in (sets e) = macro_names e.expr
names_in (removes word) = []

-- the name of the macro that is not known
abbrev pub unknown_name : EditView → EditRefusal → List ℕ
unknown_name edit (UnknownMacro number) = slice_index_or (names_in edit) number []
unknown_name edit _ = []

-- This version refuses the edit, for this cause.
pub record IsRefusedAt (scripts : List (List CommandView)) (base : Dictionary) (journal : List Place) (edit : EditView) (version : ℕ) (cause : EditRefusal) (name : List ℕ) : Type 0 where
  pub refused : accept (version_of scripts base journal version) edit ≡ Some cause
  pub named : name ≡ unknown_name edit cause
