-- Exactly one: a text is one entry, or has one first fault.
use Rattle.std.proofs.Common.{◌≡◌, ℕ, List, [], ◌∷◌, ◌⊎◌, inl, inr, Result, Ok, Err, refl, sym, ap, subst, ◌∙◌}
use Rattle.std.specs.Str.{IsUtf8, IsValidUpTo}
use Rattle.lg_lex.specs.declared.marks.Marks.TheVariants.{Dictionary}
use Rattle.lg_lex.specs.declared.location.Location.{Location}
use Rattle.lg_lex.specs.Lexing.{between, lex}
use Rattle.lg_lex.specs.Tokens.{AreTokens, Token}
use Rattle.lg_lex.specs.Spots.{location_left}
use Rattle.lg_expr.specs.declared.fault.Fault as expr_fault
use Rattle.lg_expr.specs.declared.fault.Fault.TheVariants as faults
use Rattle.lg_expr.specs.declared.macros.Known.TheVariants.{Unknown, Free}
use Rattle.lg_expr.specs.Reading.{FirstFault}
use Rattle.lg_dictread.specs.declared.entry_text.EntryError.{EntryError}
use Rattle.lg_dictread.specs.declared.entry_text.EntryError.TheVariants.{NoMemory, NotUtf8, Syntax, CostForm, TooDeep}
use Rattle.lg_dictread.specs.Entries.{part, EntryFault, in_items, in_expression, EntryAnswer, entry, fault, EntryIs}
use Rattle.lg_dictread.specs.Scanning.{answer_of}
use Rattle.lg_dictread.specs.declared.stop.Stop.{Stop}
use Rattle.lg_dictread.specs.declared.stop.Stop.TheVariants as stops
use Rattle.lg_dictread.specs.View.{TellsStop, KnowsMacros, LeadsTo, TellsAlone}
use Rattle.lg_gram.specs.declared.entry.RawEntry.{RawEntry}
use Rattle.lg_gram.specs.EntryViews.{EntryView, entry_view}
use Rattle.lg_dictread.specs.EntryTexts.{AreTokensOf, free_rules, written_view, IsErrorAt, EntryTextIs, not_utf8, one, goes_on, faulty, TellsEntryText}

no_unknown_part : (body rest : List Token) → FirstFault Token part free_rules body faults.UnknownMacro rest → ⊥
no_unknown_part body [] h = h.stops
no_unknown_part body (t ∷ rest) h = let free : Free ≡ Unknown = h.stops.2 in cc

-- where every macro is free, none is unknown
pub no_unknown : (ts : List Token) (f : expr_fault.Fault) (rest : List Token) → EntryFault free_rules ts f rest → f ≡ faults.UnknownMacro → ⊥
no_unknown ts f rest (in_items is are stops) e = cc
no_unknown ts f rest (in_expression is mark body any are c h) e = no_unknown_part body rest (subst (λ (x : expr_fault.Fault). FirstFault Token part free_rules body x rest) e h)

-- the error of a fault
error_at : (p : Location) (f : expr_fault.Fault) → (f ≡ faults.UnknownMacro → ⊥) → (error : EntryError) × IsErrorAt p f error
error_at p faults.Syntax known = (Syntax p.line p.column, refl)
error_at p faults.CostForm known = (CostForm p.line, refl)
error_at p faults.UnknownMacro known = absurd (known refl)
error_at p faults.TooDeep known = (TooDeep p.line, refl)

same_error : (p : Location) (f : expr_fault.Fault) (d e : EntryError) → IsErrorAt p f d → IsErrorAt p f e → d ≡ e
same_error p faults.Syntax d e h k = h ∙ sym k
same_error p faults.CostForm d e h k = h ∙ sym k
same_error p faults.UnknownMacro d e h k = absurd h
same_error p faults.TooDeep d e h k = h ∙ sym k

-- ---- what an answer of the tokens makes of the text

pub text_is : (bytes : List ℕ) (ts : List Token) (a : EntryAnswer) (x : Result EntryView EntryError) → AreTokensOf bytes ts → EntryIs free_rules ts a → LeadsTo bytes a x → EntryTextIs bytes x
text_is bytes ts (entry e []) x is h leads = subst (EntryTextIs bytes) (sym leads) (one ts e is h)
text_is bytes ts (entry e (t ∷ rest)) x is h (d, error, leads) = subst (EntryTextIs bytes) (sym leads) (goes_on ts e t rest d is h error)
text_is bytes ts (fault f left) x is h (d, error, leads) = subst (EntryTextIs bytes) (sym leads) (faulty ts f left d is h error)

some_result : (text : List ℕ) (ts : List Token) (a : EntryAnswer) → EntryIs free_rules ts a → (x : Result EntryView EntryError) × LeadsTo text a x
some_result text ts (entry e []) h = (Ok (written_view text e), refl)
some_result text ts (entry e (t ∷ rest)) h = let d = error_at (location_left text (t ∷ rest)) faults.Syntax (λ q. cc) in (Err d.0, (d.0, d.1, refl))
some_result text ts (fault f left) h = let d = error_at (location_left text left) f (no_unknown ts f left h) in (Err d.0, (d.0, d.1, refl))

same_result : (text : List ℕ) (a : EntryAnswer) (x y : Result EntryView EntryError) → LeadsTo text a x → LeadsTo text a y → x ≡ y
same_result text (entry e []) x y h k = h ∙ sym k
same_result text (entry e (t ∷ rest)) x y (d, h, xd) (f, k, yf) = xd ∙ ap Err (same_error (location_left text (t ∷ rest)) faults.Syntax d f h k) ∙ sym yf
same_result text (fault f left) x y (d, h, xd) (e, k, ye) = xd ∙ ap Err (same_error (location_left text left) f d e h k) ∙ sym ye

-- the text is at fault before all else, or an answer of its tokens leads to the result
abbrev Reached : List ℕ → Result EntryView EntryError → Type 0
Reached bytes x = ((n : ℕ) × IsValidUpTo bytes n × (x ≡ Err (NotUtf8 n)))
    ⊎ ((ts : List Token) × (a : EntryAnswer) × AreTokensOf bytes ts × EntryIs free_rules ts a × LeadsTo bytes a x)

reached : (bytes : List ℕ) (x : Result EntryView EntryError) → EntryTextIs bytes x → Reached bytes x
reached bytes x (not_utf8 n h) = inl (n, h, refl)
reached bytes x (one ts e is h) = inr (ts, entry e [], is, h, refl)
reached bytes x (goes_on ts e t rest error is h at) = inr (ts, entry e (t ∷ rest), is, h, (error, at, refl))
reached bytes x (faulty ts f left error is h at) = inr (ts, fault f left, is, h, (error, at, refl))

-- ---- what the reader tells

-- a fault that is told is none of a macro
pub knows_macros : (text : List ℕ) (ts : List Token) (a : EntryAnswer) (stop : Stop) → EntryIs free_rules ts a → TellsStop text (λ f left. a ≡ fault f left) stop → KnowsMacros stop
knows_macros text ts a stops.NoMemory is h = tt
knows_macros text ts a (stops.Syntax location) is h = tt
knows_macros text ts a (stops.CostForm line) is h = tt
knows_macros text ts a (stops.UnknownMacro line name) is h = no_unknown ts h.0 h.1 (subst (EntryIs free_rules ts) h.2 is) h.3.0
knows_macros text ts a (stops.TooDeep line) is h = tt

pub told_text : (bytes : List ℕ) (ts : List Token) (a : EntryAnswer) (x : Result RawEntry EntryError) → AreTokensOf bytes ts → EntryIs free_rules ts a → TellsAlone bytes a x → TellsEntryText bytes x
told_text bytes ts a (Ok e) is h leads = text_is bytes ts a (Ok (entry_view e)) is h leads
told_text bytes ts a (Err NoMemory) is h leads = tt
told_text bytes ts a (Err (NotUtf8 n)) is h leads = text_is bytes ts a (Err (NotUtf8 n)) is h leads
told_text bytes ts a (Err (Syntax line column)) is h leads = text_is bytes ts a (Err (Syntax line column)) is h leads
told_text bytes ts a (Err (CostForm line)) is h leads = text_is bytes ts a (Err (CostForm line)) is h leads
told_text bytes ts a (Err (TooDeep line)) is h leads = text_is bytes ts a (Err (TooDeep line)) is h leads

-- ---- exactly one, where a text has one list of tokens and these one answer

module _ (lexed : (bytes : List ℕ) → AreTokens Dictionary (lex Dictionary between 0 bytes) 0 bytes)
    (one_list : (ts : List Token) (bytes : List ℕ) → AreTokens Dictionary ts 0 bytes → lex Dictionary between 0 bytes ≡ ts)
    (some_answer : (ts : List Token) → EntryIs free_rules ts (answer_of free_rules ts))
    (one_answer : (ts : List Token) (a b : EntryAnswer) → EntryIs free_rules ts a → EntryIs free_rules ts b → a ≡ b)
    (utf8_or_fault : (bytes : List ℕ) → IsUtf8 bytes ⊎ ((n : ℕ) × IsValidUpTo bytes n))
    (one_fault : (bytes : List ℕ) (n m : ℕ) → IsValidUpTo bytes n → IsValidUpTo bytes m → n ≡ m)
    (fault_apart : (bytes : List ℕ) (n : ℕ) → IsValidUpTo bytes n → IsUtf8 bytes → ⊥) where
  some_of : (bytes : List ℕ) → IsUtf8 bytes ⊎ ((n : ℕ) × IsValidUpTo bytes n) → (x : Result EntryView EntryError) × EntryTextIs bytes x
  some_of bytes (inl utf8) =
      let text = bytes in
      let ts = lex Dictionary between 0 text in
      let h = some_answer ts in
      let x = some_result text ts (answer_of free_rules ts) h in
      (x.0, text_is bytes ts (answer_of free_rules ts) x.0 (record { utf8 = utf8; tokens = lexed text }) h x.1)
  some_of bytes (inr (n, h)) = (Err (NotUtf8 n), not_utf8 n h)

  pub some_text : (bytes : List ℕ) → (x : Result EntryView EntryError) × EntryTextIs bytes x
  some_text bytes = some_of bytes (utf8_or_fault bytes)

  one_reached : (bytes : List ℕ) (x y : Result EntryView EntryError) → Reached bytes x → Reached bytes y → x ≡ y
  one_reached bytes x y (inl (n, h, xn)) (inl (m, k, ym)) = xn ∙ ap (λ (i : ℕ). Err (NotUtf8 i)) (one_fault bytes n m h k) ∙ sym ym
  one_reached bytes x y (inl (n, h, xn)) (inr (us, b, is, k, leads)) = absurd (fault_apart bytes n h is.utf8)
  one_reached bytes x y (inr (ts, a, is, h, leads)) (inl (m, k, ym)) = absurd (fault_apart bytes m k is.utf8)
  one_reached bytes x y (inr (ts, a, is, h, x_leads)) (inr (us, b, are, k, y_leads)) =
      let same : us ≡ ts = sym (one_list us bytes are.tokens) ∙ one_list ts bytes is.tokens in
      let answers : b ≡ a = one_answer ts b a (subst (λ (l : List Token). EntryIs free_rules l b) same k) h in
      same_result bytes a x y x_leads (subst (λ (c : EntryAnswer). LeadsTo bytes c y) answers y_leads)

  pub one_text : (bytes : List ℕ) (x y : Result EntryView EntryError) → EntryTextIs bytes x → EntryTextIs bytes y → x ≡ y
  one_text bytes x y h k = one_reached bytes x y (reached bytes x h) (reached bytes y k)
