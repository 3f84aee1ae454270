-- What is scanned stands at the front of the tokens, or is their first fault, and nothing else is.
use Rattle.std.proofs.Common.{◌≡◌, ◌≢◌, ℕ, List, [], ◌∷◌, ◌++◌, refl, sym, ap, subst, ◌∙◌, append_assoc}
use Rattle.std.proofs.lemmas.List.{append-nil}
use Rattle.lg_lex.specs.Tokens.{Token}
use Rattle.lg_gram.specs.declared.entry.Item.{Item}
use Rattle.lg_expr.specs.declared.fault.Fault.{Fault}
use Rattle.lg_expr.specs.Grammar.{Rules}
use Rattle.lg_expr.specs.Automaton.{Answer, read, stopped, start, run}
use Rattle.lg_expr.specs.Reading.{AnswerIs}
use Rattle.lg_dictread.specs.Items.{Head, item, colon, other}
use Rattle.lg_dictread.specs.Entries.{head, part, AreItems, HeadStops, EntryFault, in_items, in_expression, EntryAnswer, entry, fault, EntryIs}
use Rattle.lg_dictread.specs.Scanning.{Scanned, items_end, items_stop, scan_step, scan, with_expression, with_items, answer_of}

-- ---- what is scanned is so

-- what a scan of these tokens after some items gives: more items and a colon after one or more, or a token at fault
abbrev pub ScanIs : List (Item × ℕ) → List Token → Scanned → Type 0
ScanIs is ts (items_end js body) = (more : List (Item × ℕ)) × (mark : Token) × (js ≡ is ++ more) × (js ≢ []) × AreItems more ts (mark ∷ body) × (head mark ≡ colon)
ScanIs is ts (items_stop rest) = (more : List (Item × ℕ)) × AreItems more ts rest × HeadStops (is ++ more) rest

one_more : (is : List (Item × ℕ)) (x : Item × ℕ) (t : Token) (ts : List Token) (a : Scanned) → head t ≡ item x.0 → t.1 ≡ x.1 → ScanIs (is ++ x ∷ []) ts a → ScanIs is (t ∷ ts) a
one_more is x t ts (items_end js body) e at (more, mark, split, some, are, c) = (x ∷ more, mark, split ∙ append_assoc is (x ∷ []) more, some, (e, at, are), c)
one_more is x t ts (items_stop rest) e at (more, are, stops) = (x ∷ more, (e, at, are), subst (λ (l : List (Item × ℕ)). HeadStops l rest) (append_assoc is (x ∷ []) more) stops)

step_is : (h : Head) (is : List (Item × ℕ)) (t : Token) (ts : List Token) → head t ≡ h → ((js : List (Item × ℕ)) → ScanIs js ts (scan js ts)) → ScanIs is (t ∷ ts) (scan_step h (λ more. scan more ts) is t ts)
step_is (item i) is t ts e next = one_more is (i, t.1) t ts (scan (is ++ (i, t.1) ∷ []) ts) e refl (next (is ++ (i, t.1) ∷ []))
step_is colon [] t ts e next = ([], refl, λ i q. cc)
step_is colon (i ∷ is) t ts e next = ([], t, sym (append-nil (i ∷ is)), (λ q. cc), refl, e)
step_is other [] t ts e next = ([], refl, λ i q. cc)
step_is other (i ∷ is) t ts e next = ([], refl, e)

pub scan_is : (ts : List Token) (is : List (Item × ℕ)) → ScanIs is ts (scan is ts)
scan_is [] is = ([], refl, tt)
scan_is (t ∷ ts) is = step_is (head t) is t ts refl (λ js. scan_is ts js)

-- ---- what is so is scanned

scan_items : (is before : List (Item × ℕ)) (ts rest : List Token) → AreItems is ts rest → scan before ts ≡ scan (before ++ is) rest
scan_items [] before ts rest are = ap (scan before) are ∙ ap (λ (l : List (Item × ℕ)). scan l rest) (sym (append-nil before))
scan_items (i ∷ is) before [] rest are = absurd are
scan_items (i ∷ is) before (t ∷ ts) rest (e, at, are) =
    ap (λ (h : Head). scan_step h (λ more. scan more ts) before t ts) e
    ∙ ap (λ (n : ℕ). scan (before ++ (i.0, n) ∷ []) ts) at
    ∙ scan_items is (before ++ i ∷ []) ts rest are
    ∙ ap (λ (l : List (Item × ℕ)). scan l rest) (append_assoc before (i ∷ []) is)

scan_colon : (is : List (Item × ℕ)) (mark : Token) (body : List Token) → is ≢ [] → head mark ≡ colon → scan is (mark ∷ body) ≡ items_end is body
scan_colon [] mark body some e = absurd (some refl)
scan_colon (i ∷ is) mark body some e = ap (λ (h : Head). scan_step h (λ more. scan more body) (i ∷ is) mark body) e

no_item : (h : Head) (t : Token) (ts : List Token) → head t ≡ h → ((i : Item) → head t ≢ item i) → scan_step h (λ more. scan more ts) [] t ts ≡ items_stop (t ∷ ts)
no_item (item i) t ts e none = absurd (none i e)
no_item colon t ts e none = refl
no_item other t ts e none = refl

scan_stops : (is : List (Item × ℕ)) (rest : List Token) → HeadStops is rest → scan is rest ≡ items_stop rest
scan_stops is [] stops = refl
scan_stops [] (t ∷ ts) stops = no_item (head t) t ts refl stops
scan_stops (i ∷ is) (t ∷ ts) stops = ap (λ (h : Head). scan_step h (λ more. scan more ts) (i ∷ is) t ts) stops

-- ---- over whole entries, where expressions have one answer

module _ (r : Rules) (some : (ts : List Token) → AnswerIs Token part r ts (run Token part r start ts))
    (one : (ts : List Token) (x y : Answer Token) → AnswerIs Token part r ts x → AnswerIs Token part r ts y → x ≡ y) where
  body_is : (ts : List Token) (is : List (Item × ℕ)) (mark : Token) (body : List Token) (a : Answer Token) → is ≢ [] → AreItems is ts (mark ∷ body) → head mark ≡ colon → AnswerIs Token part r body a → EntryIs r ts (with_expression is a)
  body_is ts is mark body (read e n rest) any are c h = record { mark = mark; body = body; some = any; are_items = are; is_colon = c; stands = h }
  body_is ts is mark body (stopped f rest) any are c h = in_expression is mark body any are c h

  scanned_is : (ts : List Token) (s : Scanned) → ScanIs [] ts s → EntryIs r ts (with_items r s)
  scanned_is ts (items_end js body) (more, mark, split, any, are, c) =
      body_is ts js mark body (run Token part r start body) any (subst (λ (l : List (Item × ℕ)). AreItems l ts (mark ∷ body)) (sym split) are) c (some body)
  scanned_is ts (items_stop rest) (more, are, stops) = in_items more are stops

  pub answer_is : (ts : List Token) → EntryIs r ts (answer_of r ts)
  answer_is ts = scanned_is ts (scan [] ts) (scan_is ts [])

  -- the items and the colon are scanned
  with_body : (ts : List Token) (is : List (Item × ℕ)) (mark : Token) (body : List Token) (a : Answer Token) → is ≢ [] → AreItems is ts (mark ∷ body) → head mark ≡ colon → AnswerIs Token part r body a → answer_of r ts ≡ with_expression is a
  with_body ts is mark body a any are c h =
      ap (with_items r) (scan_items is [] ts (mark ∷ body) are ∙ scan_colon is mark body any c)
      ∙ ap (with_expression is) (one body (run Token part r start body) a (some body) h)

  fault_answer : (ts : List Token) (f : Fault) (rest : List Token) → EntryFault r ts f rest → answer_of r ts ≡ fault f rest
  fault_answer ts f rest (in_items is are stops) = ap (with_items r) (scan_items is [] ts rest are ∙ scan_stops is rest stops)
  fault_answer ts f rest (in_expression is mark body any are c h) = with_body ts is mark body (stopped f rest) any are c h

  is_answer : (ts : List Token) (x : EntryAnswer) → EntryIs r ts x → answer_of r ts ≡ x
  is_answer ts (entry e rest) h = with_body ts e.items h.mark h.body (read e.expr e.level rest) h.some h.are_items h.is_colon h.stands
  is_answer ts (fault f rest) h = fault_answer ts f rest h

  pub one_entry : (ts : List Token) (x y : EntryAnswer) → EntryIs r ts x → EntryIs r ts y → x ≡ y
  one_entry ts x y h k = sym (is_answer ts x h) ∙ is_answer ts y k
