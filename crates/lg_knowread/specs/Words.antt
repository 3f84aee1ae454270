-- What a plain token writes, as a function.
use Rattle.std.specs.Prelude.{ℕ, List, [], ◌∷◌, take, drop, codes, if◌then◌else◌, Result, Ok, Err}
use Rattle.std.specs.List.{prefix_len}
use Rattle.lg_gram.specs.Names.{is_capital, is_written}
use Rattle.lg_lex.specs.Tokens.{is_text}
use Rattle.lg_knowread.specs.declared.fault.Fault.{Fault}
use Rattle.lg_knowread.specs.declared.fault.Fault.TheVariants.{UnknownSection, BadPattern, BadType}
use Rattle.lg_knowread.specs.declared.knowledge.Pattern.{Pattern}
use Rattle.lg_knowread.specs.declared.words.Test.TheVariants.{NoneOf, OneOf, NoneInGroup, OneInGroup}
use Rattle.lg_knowread.specs.declared.words.Section.{Section}
use Rattle.lg_knowread.specs.declared.words.Section.TheVariants.{Start, Ignore, Test, Bounded, Cycle}
use Rattle.lg_knowread.specs.Statements.{is_kind}

-- the section of this name
abbrev pub section_of : List ℕ → Result Section Fault
section_of w =
    if is_text (codes "start") w then Ok Start
    else (if is_text (codes "ignore") w then Ok Ignore
    else (if is_text (codes "none") w then Ok (Test NoneOf)
    else (if is_text (codes "one") w then Ok (Test OneOf)
    else (if is_text (codes "none-in-group") w then Ok (Test NoneInGroup)
    else (if is_text (codes "one-in-group") w then Ok (Test OneInGroup)
    else (if is_text (codes "bounded") w then Ok Bounded
    else (if is_text (codes "cycle") w then Ok Cycle
    else Err UnknownSection)))))))

abbrev pub kind_of : List ℕ → Result ℕ Fault
kind_of [] = Err BadType
kind_of (b ∷ []) = if is_kind b then Ok b else Err BadType
kind_of (b ∷ c ∷ w) = Err BadType

-- capital letters as far as they go, and then subscripts
abbrev pub pattern_of : List ℕ → Result Pattern Fault
pattern_of w =
    let caps = take (prefix_len is_capital w) w in
    let subs = drop (prefix_len is_capital w) w in
    if is_written caps subs then Ok (record { caps = caps; subs = subs }) else Err BadPattern
