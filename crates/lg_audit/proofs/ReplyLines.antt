-- The lines of an answer.
use Rattle.std.proofs.Common.{◌≡◌, ℕ, List, [], ◌∷◌, ◌++◌, decimal, codes, Option, Some, None, MatchOption, refl, ap, sym, ◌∙◌, subst, eqb}
use Rattle.std.specs.List.{list_any, flat_map}
use Rattle.std.proofs.lemmas.Bool.{or_from}
use Rattle.std.proofs.lemmas.List.{append_assoc}
use Rattle.std.proofs.lemmas.List.Folds.{list_any-append}
use Rattle.lg_gram.specs.declared.edit.EditRefusal.{EditRefusal}
use Rattle.lg_gram.specs.declared.edit.EditRefusal.TheVariants.{UnknownMacro, TooDeep, TooManyNodes, TooManyChoices, SideTooLong, NoSuchWord}
use Rattle.lg_gram.specs.declared.listing.Bound.{Bound}
use Rattle.lg_gram.specs.declared.listing.Bound.TheVariants.{TooManyWords, TooWide}
use Rattle.lg_gram.specs.declared.reply.CommandKind.{CommandKind}
use Rattle.lg_gram.specs.declared.reply.CommandKind.TheVariants as kinds
use Rattle.lg_gram.specs.declared.reply.Place.{Place}
use Rattle.lg_text.specs.Replies.{kind_word, place_text, cause_pieces}
use Rattle.lg_text.specs.Shown.{IsOneLine, closed}
use Rattle.lg_text.specs.Texts.{bound_pieces}
use Rattle.lg_audit.specs.Pieces.{IsNumber}
use Rattle.lg_audit.specs.Lines.{ShownReply, listed, beyond, published, refused, at, nothing_held, line, head_line}
use Rattle.lg_audit.specs.Documents.{IsCauseInForm, IsCause, IsBoundInForm, IsReplyInForm, more_lines}
use Rattle.lg_audit.specs.Fronts.{Leaves, HasNone, IsRead, Anything}
use Rattle.lg_audit.specs.Answers.{told_text, HasNoAnswer, IsAnswer, answer_lines}
use Rattle.lg_audit.proofs.Heads.{behind_piece}
use Rattle.lg_audit.proofs.Rows.{spaced_single, small_single}
use Rattle.lg_audit.proofs.Singles.{number_single, cut_front}

head_is : (p : Place) (kind : CommandKind) (r : ShownReply) → head_line p kind r ≡ place_text p ++ 32 ∷ (kind_word kind ++ 32 ∷ told_text r)
head_is p kind (listed v stats page) = refl
head_is p kind (beyond v (TooManyWords n)) = refl
head_is p kind (beyond v (TooWide n)) = refl
head_is p kind (published v) = refl
head_is p kind (refused v cause) = ap (λ (l : List ℕ). place_text p ++ 32 ∷ (kind_word kind ++ 32 ∷ (codes "refused at " ++ l))) (append_assoc (decimal v) (58 ∷ []) (32 ∷ cause))
head_is p kind (at v) = refl
head_is p kind nothing_held = refl

-- ---- the first line has no line feed

abbrev ToldInForm : ShownReply → Type 0
ToldInForm (listed v stats page) = IsNumber v
ToldInForm (beyond v bound) = IsNumber v × IsBoundInForm bound
ToldInForm (published v) = IsNumber v
ToldInForm (refused v cause) = IsNumber v × IsCause cause
ToldInForm (at v) = IsNumber v
ToldInForm nothing_held = Unit {0}

told_fits : (kind : CommandKind) (r : ShownReply) → IsReplyInForm kind r → ToldInForm r
told_fits kinds.Parse (listed v stats page) form = form.0
told_fits kinds.Parse (beyond v bound) form = form
told_fits kinds.List (listed v stats page) form = form.0
told_fits kinds.List (beyond v bound) form = form
told_fits kinds.More (listed v stats page) form = form.0
told_fits kinds.More nothing_held form = tt
told_fits kinds.Set (published v) form = form
told_fits kinds.Set (refused v cause) form = form
told_fits kinds.Macro (published v) form = form
told_fits kinds.Macro (refused v cause) form = form
told_fits kinds.Del (published v) form = form
told_fits kinds.Del (refused v cause) form = form
told_fits kinds.Version (at v) form = form
told_fits _ _ form = absurd form

bound_single : (b : Bound) → IsBoundInForm b → IsOneLine (line (bound_pieces b))
bound_single (TooManyWords n) form = number_single n form
bound_single (TooWide n) form = number_single n form

cause_single : (cause : EditRefusal) (name : List ℕ) → IsCauseInForm cause → IsOneLine name → IsOneLine (line (cause_pieces cause name))
cause_single (UnknownMacro n) name form single = single
cause_single (TooDeep n) name form single = small_single n form
cause_single (TooManyNodes n) name form single = number_single n form
cause_single (TooManyChoices n) name form single = number_single n form
cause_single (SideTooLong n) name form single = small_single n form
cause_single NoSuchWord name form single = refl

pub both_single : (a b : List ℕ) → IsOneLine a → IsOneLine b → IsOneLine (a ++ b)
both_single a b p q = list_any-append (eqb 10) a b ∙ or_from (list_any (eqb 10) a) (list_any (eqb 10) b) p q

told_single : (r : ShownReply) → ToldInForm r → IsOneLine (told_text r)
told_single (listed v stats page) form = number_single v form
told_single (beyond v b) form = spaced_single (decimal v) (line (bound_pieces b)) (number_single v form.0) (bound_single b form.1)
told_single (published v) form = number_single v form
told_single (refused v cause) form =
    let c = form.1 in
    both_single (decimal v) (58 ∷ 32 ∷ cause) (number_single v form.0) (subst IsOneLine (sym c.is) (cause_single c.cause c.name c.form c.single))
told_single (at v) form = number_single v form
told_single nothing_held form = refl

kind_single : (kind : CommandKind) → IsOneLine (kind_word kind)
kind_single kinds.Parse = refl
kind_single kinds.List = refl
kind_single kinds.More = refl
kind_single kinds.Set = refl
kind_single kinds.Macro = refl
kind_single kinds.Del = refl
kind_single kinds.Version = refl

-- ---- an answer to a command

module _ (session command : ℕ) (fits : IsNumber session) (fits' : IsNumber command) (kind : CommandKind) where
  abbrev the_place : Place
  the_place = record { session = session; command = command }

  head_single : (r : ShownReply) → IsReplyInForm kind r → IsOneLine (head_line the_place kind r)
  head_single r form =
      subst IsOneLine (sym (head_is the_place kind r))
      (spaced_single (place_text the_place) (kind_word kind ++ 32 ∷ told_text r) (both_single (decimal session) (46 ∷ decimal command) (number_single session fits) (number_single command fits'))
      (spaced_single (kind_word kind) (told_text r) (kind_single kind) (told_single r (told_fits kind r form))))

  module _ (text first rest : List ℕ) (single : IsOneLine first) (cut : text ≡ closed first ++ rest) where
    parts : (y : ShownReply) (s : List ℕ) → IsReplyInForm kind y → Leaves (answer_lines session command kind y) text s
        → (first ≡ place_text the_place ++ 32 ∷ (kind_word kind ++ 32 ∷ told_text y)) × (rest ≡ flat_map closed (more_lines y) ++ s)
    parts y s form is =
        let both = cut_front text first rest (head_line the_place kind y) s (more_lines y) single (head_single y form) cut is in
        (both.0 ∙ head_is the_place kind y, both.1)

    pub no_head : ((r : List ℕ) → first ≡ place_text the_place ++ 32 ∷ (kind_word kind ++ 32 ∷ r) → ⊥) → HasNone (IsReplyInForm kind) (answer_lines session command kind) text
    no_head none = record { none = λ y s form is. none (told_text y) (parts y s form is).0 }

    module _ (told : List ℕ) (found : first ≡ place_text the_place ++ 32 ∷ (kind_word kind ++ 32 ∷ told)) where
      tells : (y : ShownReply) → first ≡ place_text the_place ++ 32 ∷ (kind_word kind ++ 32 ∷ told_text y) → told ≡ told_text y
      tells y is =
          let behind = behind_piece first (place_text the_place) (kind_word kind ++ 32 ∷ told) (kind_word kind ++ 32 ∷ told_text y) found is in
          behind_piece (kind_word kind ++ 32 ∷ told) (kind_word kind) told (told_text y) refl behind

      pub replied : {A : Type 0} (v : A → ShownReply) (left : A → List ℕ) (r : Option A) → MatchOption r (HasNoAnswer kind told rest) (λ f. IsAnswer kind told rest (v f) (left f))
          → MatchOption r (HasNone (IsReplyInForm kind) (answer_lines session command kind) text) (λ f. IsRead (IsReplyInForm kind) (answer_lines session command kind) Anything text (v f) (left f))
      replied v left None lacks = record { none = λ y s form is. let both = parts y s form is in lacks.none y s form (tells y both.0) both.1 }
      replied v left (Some f) a = record {
        form = a.form;
        is =
            cut ∙ ap (λ (l : List ℕ). closed l ++ rest) (found ∙ ap (λ (t : List ℕ). place_text the_place ++ 32 ∷ (kind_word kind ++ 32 ∷ t)) a.tells ∙ sym (head_is the_place kind (v f)))
            ∙ ap (λ (t : List ℕ). closed (head_line the_place kind (v f)) ++ t) a.is ∙ sym (append_assoc (closed (head_line the_place kind (v f))) (flat_map closed (more_lines (v f))) (left f));
        only = λ y s form end is. let both = parts y s form is in a.only y s form (tells y both.0) both.1;
      }
