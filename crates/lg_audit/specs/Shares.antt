-- What the journal has of each session.
use Rattle.std.specs.Prelude.{◌≡◌, ℕ, ◌≤◌, ◌==◌, true, false, List, All, filter, Some}
use Rattle.std.specs.Option.{option_map_or}
use Rattle.lg_gram.specs.declared.reply.Place.{Place}
use Rattle.lg_gram.specs.declared.reply.Reply.{Reply}
use Rattle.lg_script.specs.Commands.{CommandView, is_edit}
use Rattle.lg_script.specs.Histories.{numbered, command_at, published_by}

-- each line of the journal names a command that edits
abbrev pub NamesEdits : List (List CommandView) → List Place → Type 0
NamesEdits scripts journal = All (λ p. option_map_or is_edit (command_at scripts p) false ≡ true) journal

-- the journal has just the edits of the session that were published, in their order
abbrev pub IsShare : List Place → ℕ → List Reply → Type 0
IsShare journal session replies = filter (λ p. p.session == session) journal ≡ published_by session replies

-- the same of the first n sessions
abbrev pub HasShares : List Place → List (List Reply) → ℕ → Type 0
HasShares journal replies n = (session : ℕ) (rs : List Reply) → session ≤ n → numbered replies session ≡ Some rs → IsShare journal session rs
