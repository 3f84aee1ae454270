-- The kinds of commands.
use Rattle.lg_gram.specs.declared.reply.CommandKind.{CommandKind}
use Rattle.lg_gram.specs.declared.reply.CommandKind.TheVariants as kinds
use Rattle.lg_edit.specs.Edits.{puts, sets, removes}
use Rattle.lg_script.specs.Commands.{CommandView, parses, lists, goes_on, makes, asks}

abbrev pub kind_of : CommandView → CommandKind
kind_of (parses sentence) = kinds.Parse
kind_of (lists from want sentence) = kinds.List
kind_of goes_on = kinds.More
kind_of (makes (puts e)) = kinds.Set
kind_of (makes (sets e)) = kinds.Macro
kind_of (makes (removes word)) = kinds.Del
kind_of asks = kinds.Version
