-- One entry at the front of some tokens, or the first token at fault:
--   entry := item+ ":" expr ";"
use Rattle.std.specs.Prelude.{◌≡◌, ◌≢◌, ℕ, List, [], ◌∷◌}
use Rattle.lg_gram.specs.declared.entry.Item.{Item}
use Rattle.lg_gram.specs.RawTrees.{RawTree}
use Rattle.lg_lex.specs.Tokens.{Token}
use Rattle.lg_expr.specs.declared.fault.Fault.{Fault}
use Rattle.lg_expr.specs.declared.fault.Fault.TheVariants.{Syntax}
use Rattle.lg_expr.specs.Parts.{Part}
use Rattle.lg_expr.specs.Classes.{part_of_lexeme}
use Rattle.lg_expr.specs.Grammar.{Rules}
use Rattle.lg_expr.specs.Reading.{StandFor, FirstFault}
use Rattle.lg_dictread.specs.Items.{Head, item, colon, other, head_of}

abbrev pub head : Token → Head
head t = head_of t.0

abbrev pub part : Token → Part
part t = part_of_lexeme t.0

-- what an entry writes: its items, each with the number of bytes before it, its expression, and the greatest number of
-- brackets open at once
pub record Written : Type 0 where
  pub items : List (Item × ℕ)
  pub expr : RawTree
  pub level : ℕ

-- these items, and then the rest
abbrev pub AreItems : List (Item × ℕ) → List Token → List Token → Type 0
AreItems [] ts rest = ts ≡ rest
AreItems (i ∷ is) [] rest = ⊥
AreItems (i ∷ is) (t ∷ ts) rest = (head t ≡ item i.0) × (t.1 ≡ i.1) × AreItems is ts rest

-- one item or more, a colon, and an expression with its end
pub record EntryStands (r : Rules) (ts : List Token) (e : Written) (rest : List Token) : Type 0 where
  pub mark : Token
  pub body : List Token
  pub some : e.items ≢ []
  pub are_items : AreItems e.items ts (mark ∷ body)
  pub is_colon : head mark ≡ colon
  pub stands : StandFor Token part r body e.expr e.level rest

-- after these items the tokens end, or there stands neither an item nor, after one item or more, a colon
abbrev pub HeadStops : List (Item × ℕ) → List Token → Type 0
HeadStops items [] = Unit {0}
HeadStops [] (t ∷ ts) = (i : Item) → head t ≢ item i
HeadStops (i ∷ is) (t ∷ ts) = head t ≡ other

-- The first token at fault is at the head of the rest, or it is the end where there is no rest.
pub data EntryFault (r : Rules) (ts : List Token) : Fault → List Token → Type 0 where
  in_items : {rest : List Token} → (items : List (Item × ℕ)) → AreItems items ts rest → HeadStops items rest → EntryFault r ts Syntax rest
  in_expression : {fault : Fault} {rest : List Token} → (items : List (Item × ℕ)) (mark : Token) (body : List Token) → items ≢ [] → AreItems items ts (mark ∷ body) → head mark ≡ colon
      → FirstFault Token part r body fault rest → EntryFault r ts fault rest

-- an entry and what follows it, or a fault and what is left from it on
pub data EntryAnswer : Type 0 where
  entry : Written → List Token → EntryAnswer
  fault : Fault → List Token → EntryAnswer

-- what an answer says of the tokens
abbrev pub EntryIs : Rules → List Token → EntryAnswer → Type 0
EntryIs r ts (entry e rest) = EntryStands r ts e rest
EntryIs r ts (fault f rest) = EntryFault r ts f rest
