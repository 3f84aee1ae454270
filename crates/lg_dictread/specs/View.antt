-- What the reader of an entry keeps, and what it tells of a fault.
use Rattle.std.specs.Prelude.{◌≡◌, ℕ, List, [], ◌∷◌, map, slice_index, Result, Ok, Err}
use Rattle.lg_gram.specs.declared.entry.Item.{Item}
use Rattle.lg_gram.specs.RawTrees.{raw_tree_of}
use Rattle.lg_lex.specs.declared.marks.Marks.TheVariants.{Dictionary}
use Rattle.lg_lex.specs.declared.location.Location.{Location}
use Rattle.lg_lex.specs.Lexing.{tokens_from}
use Rattle.lg_lex.specs.Tokens.{Token}
use Rattle.lg_lex.specs.Spots.{location_left, IsSpot}
use Rattle.lg_expr.specs.declared.fault.Fault.{Fault}
use Rattle.lg_expr.specs.declared.fault.Fault.TheVariants.{Syntax, CostForm, UnknownMacro, TooDeep}
use Rattle.lg_expr.specs.Parts.{Part, names}
use Rattle.lg_expr.specs.Automaton.{Answer, read, stopped}
use Rattle.lg_dictread.specs.declared.stop.Stop.{Stop}
use Rattle.lg_dictread.specs.declared.stop.Stop.TheVariants as stops
use Rattle.lg_dictread.specs.declared.items.Head as code_head
use Rattle.lg_dictread.specs.declared.items.Head.TheVariants as heads
use Rattle.lg_dictread.specs.declared.items.PlacedItems.{PlacedItems}
use Rattle.lg_dictread.specs.declared.entry.Expression.{Expression}
use Rattle.lg_dictread.specs.declared.entry.One.{One}
use Rattle.lg_dictread.specs.Items.{Head, item, colon, other}
use Rattle.lg_dictread.specs.Entries.{Written, EntryAnswer, entry, fault}
use Rattle.lg_dictread.specs.Scanning.{Scanned, items_end, items_stop}
use Rattle.lg_dictread.specs.Lines.{part_left, line_of}
use Rattle.lg_gram.specs.EntryViews.{EntryView, entry_view}
use Rattle.lg_dictread.specs.EntryTexts.{written_view, IsErrorAt}
use Rattle.lg_dictread.specs.declared.entry_text.EntryError.{EntryError}
use Rattle.lg_dictread.specs.declared.entry_text.EntryError.TheVariants as errors
use Rattle.lg_gram.specs.declared.entry.RawEntry.{RawEntry}

abbrev pub head_view : code_head.Head → Head
head_view (heads.Item kind name) = item (record { kind = kind; text = name.now })
head_view heads.Colon = colon
head_view heads.Other = other

-- a fault is told with the location of the token at fault, which has this part
abbrev pub TellsFault : Fault → Location → Part → Stop → Type 0
TellsFault f p q stops.NoMemory = ⊥
TellsFault f p q (stops.Syntax location) = (f ≡ Syntax) × (location ≡ p)
TellsFault f p q (stops.CostForm line) = (f ≡ CostForm) × (line ≡ p.line)
TellsFault f p q (stops.UnknownMacro line name) = (f ≡ UnknownMacro) × (line ≡ p.line) × (q ≡ names name.now)
TellsFault f p q (stops.TooDeep line) = (f ≡ TooDeep) × (line ≡ p.line)

-- memory ran out, or a fault of which this holds is told at the tokens that are left
abbrev pub TellsStop : List ℕ → (Fault → List Token → Type 0) → Stop → Type 0
TellsStop text P stops.NoMemory = Unit {0}
TellsStop text P stop = (f : Fault) × (left : List Token) × P f left × TellsFault f (location_left text left) (part_left left) stop

-- items are kept, with their lines
pub record KeepsItems (text : List ℕ) (is : List (Item × ℕ)) (items : List Item) (lines : List ℕ) : Type 0 where
  pub items_are : items ≡ map (λ i. i.0) is
  pub lines_are : lines ≡ map (line_of text) is

abbrev pub TellsItems : List ℕ → Scanned → Result PlacedItems Stop → Type 0
TellsItems text s (Ok x) = (is : List (Item × ℕ)) × (s ≡ items_end is (tokens_from Dictionary text x.end.at))
    × KeepsItems text is x.items.items x.lines.items × IsSpot text x.end
TellsItems text s (Err stop) = TellsStop text (λ f left. (f ≡ Syntax) × (s ≡ items_stop left)) stop

abbrev pub TellsExpression : List ℕ → Answer Token → Result Expression Stop → Type 0
TellsExpression text a (Ok x) = (a ≡ read (raw_tree_of x.expr) x.level (tokens_from Dictionary text x.end.at)) × IsSpot text x.end
TellsExpression text a (Err stop) = TellsStop text (λ f left. a ≡ stopped f left) stop

-- an entry is kept, with the line of each of its items; its own line is that of the first
pub record Keeps (text : List ℕ) (e : Written) (o : One) : Type 0 where
  pub items : KeepsItems text e.items o.entry.items o.lines
  pub expr : raw_tree_of o.entry.expr ≡ e.expr
  pub level : o.entry.level ≡ e.level
  pub line : o.entry.line ≡ slice_index o.lines 0

abbrev pub TellsEntry : List ℕ → EntryAnswer → Result One Stop → Type 0
TellsEntry text a (Ok o) = (e : Written) × (a ≡ entry e (tokens_from Dictionary text o.end.at)) × Keeps text e o × IsSpot text o.end
TellsEntry text a (Err stop) = TellsStop text (λ f left. a ≡ fault f left) stop

-- the stop is at no unknown macro
abbrev pub KnowsMacros : Stop → Type 0
KnowsMacros stops.NoMemory = Unit {0}
KnowsMacros (stops.Syntax location) = Unit {0}
KnowsMacros (stops.CostForm line) = Unit {0}
KnowsMacros (stops.UnknownMacro line name) = ⊥
KnowsMacros (stops.TooDeep line) = Unit {0}

-- the error that a stop is told by
abbrev pub IsErrorOf : Stop → EntryError → Type 0
IsErrorOf stops.NoMemory error = error ≡ errors.NoMemory
IsErrorOf (stops.Syntax location) error = error ≡ errors.Syntax location.line location.column
IsErrorOf (stops.CostForm line) error = error ≡ errors.CostForm line
IsErrorOf (stops.UnknownMacro line name) error = ⊥
IsErrorOf (stops.TooDeep line) error = error ≡ errors.TooDeep line

-- the result that an answer of a text's tokens leads to, where the text is to be one entry
abbrev pub LeadsTo : List ℕ → EntryAnswer → Result EntryView EntryError → Type 0
LeadsTo text (entry e []) x = x ≡ Ok (written_view text e)
LeadsTo text (entry e (t ∷ rest)) x = (error : EntryError) × IsErrorAt (location_left text (t ∷ rest)) Syntax error × (x ≡ Err error)
LeadsTo text (fault f left) x = (error : EntryError) × IsErrorAt (location_left text left) f error × (x ≡ Err error)

-- what the reader answers, unless memory ran out
abbrev pub TellsAlone : List ℕ → EntryAnswer → Result RawEntry EntryError → Type 0
TellsAlone text a (Ok e) = LeadsTo text a (Ok (entry_view e))
TellsAlone text a (Err errors.NoMemory) = Unit {0}
TellsAlone text a (Err error) = LeadsTo text a (Err error)
