-- Things with numbers: what each is, and all of them.
use Rattle.std.proofs.Common.{◌≡◌, ℕ, zero, suc, ◌+◌, ◌-◌, ◌<◌, List, [], ◌∷◌, ◌++◌, length, map, Option, Some, None, refl, ap, sym, ◌∙◌, subst, arith, true≢false}
use Rattle.std.specs.List.{enumerate_from}
use Rattle.std.specs.Option.{is_some}
use Rattle.lg_gram.specs.declared.reply.Place.{Place}
use Rattle.lg_text.specs.Shown.{IsPlace}
use Rattle.lg_script.specs.Commands.{CommandView}
use Rattle.lg_script.specs.Histories.{numbered}
use Rattle.lg_audit.specs.Lines.{ShownReply}
use Rattle.lg_audit.specs.Documents.{session_lines, sessions_lines, edit_line, AreRepliesInForm}
use Rattle.lg_audit.specs.Fronts.{AreFormed, numbered_lines}
use Rattle.lg_audit.specs.Answers.{IsReplyTo, AreRepliesTo, command_lines, script_lines}
use Rattle.lg_audit.specs.Journals.{edit_lines, AreEdits}

none_some : {A : Type 0} (x : A) → None ≡ Some x → ⊥
none_some {A} x e = true≢false (sym (ap (λ (o : Option A). is_some o) e))

some_same : {A : Type 0} (x y : A) → Some x ≡ Some y → x ≡ y
some_same {A} x y e = ap (λ (o : Option A). or_else o) e
  where
    or_else : Option A → A
    or_else None = x
    or_else (Some z) = z

module _ {C X : Type 0} (Form : C → X → Type 0) where
  pub at_number : (cs : List C) (xs : List X) → AreFormed Form cs xs → (n : ℕ) (c : C) (x : X) → numbered cs n ≡ Some c → numbered xs n ≡ Some x → Form c x
  at_number [] [] form zero c x e f = absurd (none_some c e)
  at_number [] [] form (suc n) c x e f = absurd (none_some c e)
  at_number [] (y ∷ xs) form n c x e f = absurd form
  at_number (d ∷ cs) [] form n c x e f = absurd form
  at_number (d ∷ cs) (y ∷ xs) form zero c x e f = absurd (none_some c e)
  at_number (d ∷ cs) (y ∷ xs) form (suc zero) c x e f = subst (λ (z : X). Form c z) (some_same y x f) (subst (λ (z : C). Form z y) (some_same d c e) form.0)
  at_number (d ∷ cs) (y ∷ xs) form (suc (suc n)) c x e f = at_number cs xs form.1 (suc n) c x e f

  pub same_length : (cs : List C) (xs : List X) → AreFormed Form cs xs → length xs ≡ length cs
  same_length [] [] form = refl
  same_length [] (x ∷ xs) form = absurd form
  same_length (c ∷ cs) [] form = absurd form
  same_length (c ∷ cs) (x ∷ xs) form = ap suc (same_length cs xs form.1)

  pub formed_by : (cs : List C) (xs : List X) → length xs ≡ length cs → ((n : ℕ) (c : C) (x : X) → numbered cs n ≡ Some c → numbered xs n ≡ Some x → Form c x) → AreFormed Form cs xs
  formed_by [] [] long each = tt
  formed_by [] (x ∷ xs) long each = absurd (omega (arith, long))
  formed_by (c ∷ cs) [] long each = absurd (omega (arith, long))
  formed_by (c ∷ cs) (x ∷ xs) long each = (each 1 c x refl refl, formed_by cs xs (omega (arith, long)) (λ n d y e f. each (suc n) d y (up c cs n d e) (up x xs n y f)))
    where
      up : {A : Type 0} (a : A) (list : List A) (n : ℕ) (b : A) → numbered list n ≡ Some b → numbered (a ∷ list) (suc n) ≡ Some b
      up a list zero b e = absurd (none_some b e)
      up a list (suc n) b e = e

-- ---- the answers of sessions

pub are_formed : (scripts : List (List CommandView)) (replies : List (List ShownReply)) → AreRepliesInForm scripts replies → AreFormed AreRepliesTo scripts replies
are_formed scripts replies form =
    formed_by AreRepliesTo scripts replies form.sessions
    (λ session commands rs e f. formed_by IsReplyTo commands rs (form.each session commands rs e f) (λ n command r g h. form.form session n commands rs command r e f g h))

pub are_in_form : (scripts : List (List CommandView)) (replies : List (List ShownReply)) → AreFormed AreRepliesTo scripts replies → AreRepliesInForm scripts replies
are_in_form scripts replies form = record {
  sessions = same_length AreRepliesTo scripts replies form;
  each = λ session commands rs e f. same_length IsReplyTo commands rs (at_number AreRepliesTo scripts replies form session commands rs e f);
  form = λ session n commands rs command r e f g h. at_number IsReplyTo commands rs (at_number AreRepliesTo scripts replies form session commands rs e f) n command r g h;
}

session_same : (session n : ℕ) (commands : List CommandView) (rs : List ShownReply) → session_lines session n commands rs ≡ numbered_lines (command_lines session) n commands rs
session_same session n [] [] = refl
session_same session n [] (r ∷ rs) = refl
session_same session n (c ∷ cs) [] = refl
session_same session n (c ∷ cs) (r ∷ rs) = ap (λ (ls : List (List ℕ)). command_lines session n c r ++ ls) (session_same session (n + 1) cs rs)

pub sessions_same : (session : ℕ) (scripts : List (List CommandView)) (replies : List (List ShownReply)) → sessions_lines session scripts replies ≡ numbered_lines script_lines session scripts replies
sessions_same session [] [] = refl
sessions_same session [] (rs ∷ replies) = refl
sessions_same session (cs ∷ scripts) [] = refl
sessions_same session (cs ∷ scripts) (rs ∷ replies) =
    ap (λ (ls : List (List ℕ)). ls ++ sessions_lines (session + 1) scripts replies) (session_same session 1 cs rs)
    ∙ ap (λ (ls : List (List ℕ)). script_lines session cs rs ++ ls) (sessions_same (session + 1) scripts replies)

-- ---- the edits of the journal

-- a key for each edit
abbrev pub keys : ℕ → List (Unit {0})
keys zero = []
keys (suc n) = tt ∷ keys n

abbrev pub IsEdit : Unit {0} → Place → Type 0
IsEdit key p = IsPlace p

abbrev pub lines_at : ℕ → Unit {0} → Place → List (List ℕ)
lines_at n key p = edit_lines n p

pub edits_formed : (n : ℕ) (ps : List Place) → AreEdits n ps → AreFormed IsEdit (keys n) ps
edits_formed zero [] form = tt
edits_formed zero (p ∷ ps) form = absurd (omega (arith, form.0))
edits_formed (suc n) [] form = absurd (omega (arith, form.0))
edits_formed (suc n) (p ∷ ps) form = (form.1.0, edits_formed n ps (omega (arith, form.0), form.1.1))

pub formed_edits : (n : ℕ) (ps : List Place) → AreFormed IsEdit (keys n) ps → AreEdits n ps
formed_edits zero [] form = (refl, tt)
formed_edits zero (p ∷ ps) form = absurd form
formed_edits (suc n) [] form = absurd form
formed_edits (suc n) (p ∷ ps) form = let rest = formed_edits n ps form.1 in (ap suc rest.0, (form.0, rest.1))

pub edits_same : (n k : ℕ) (ps : List Place) → length ps ≡ n → numbered_lines lines_at k (keys n) ps ≡ map edit_line (enumerate_from k ps)
edits_same zero k [] long = refl
edits_same zero k (p ∷ ps) long = absurd (omega (arith, long))
edits_same (suc n) k [] long = refl
edits_same (suc n) k (p ∷ ps) long = ap (λ (ls : List (List ℕ)). edit_line (k, p) ∷ ls) (edits_same n (k + 1) ps (omega (arith, long)))

pub keys_left : (count index : ℕ) → index < count → keys (count - index) ≡ tt ∷ keys (count - (index + 1))
keys_left count index within = let one_less : count - index ≡ suc (count - (index + 1)) = omega (arith, within) in ap keys one_less
