-- What the answer to an edit says, by the dictionary of the version that tested it.
use Rattle.std.proofs.Common.{◌≡◌, ℕ, ◌-◌, ◌≤◌, ◌↔◌, Bool, true, List, length, get_or, Some, None, Result, Ok, Err, is_ok, Decides, IsTrue, refl, ap, sym, ◌∙◌, arith}
use Rattle.std.specs.Result.{result_err}
use Rattle.std.proofs.lemmas.Bool.{false≢true}
use Rattle.std.proofs.lemmas.Option.{none-some, same_Some, slice_get-get_or}
use Rattle.lg_gram.specs.declared.edit.EditRefusal.{EditRefusal}
use Rattle.lg_gram.specs.declared.reply.Place.{Place}
use Rattle.lg_dict.specs.Dictionary.{Dictionary}
use Rattle.lg_edit.specs.Edits.{EditView, accept}
use Rattle.lg_text.specs.Replies.{cause_pieces}
use Rattle.lg_script.specs.Histories.{numbered, unknown_name, IsPublishedAt}
use Rattle.lg_audit.specs.Lines.{line}
use Rattle.lg_audit.specs.Replies.{Basis, dictionary_at}
use Rattle.lg_audit.specs.Tests.{TellsRefusal}
use Rattle.lg_audit.proofs.Found.{by_index}

-- ---- the place of a version

pub stands_is : (journal : List Place) (version : ℕ) (p d : Place) (r : Bool) → 1 ≤ version → version ≤ length journal → Decides r (get_or journal (version - 1) d ≡ p) → IsTrue r ↔ (numbered journal version ≡ Some p)
stands_is journal version p d r least there same =
    let is = by_index journal version (λ e. omega (arith, e, least)) ∙ slice_get-get_or journal (version - 1) d (omega (arith, least, there)) in
    (λ e. is ∙ ap (λ (q : Place). Some q) (same.0 e), λ stands. same.1 (same_Some (get_or journal (version - 1) d) p (sym is ∙ stands)))

-- ---- edits

accepted_is : {T : Type 0} (r : Result T EditRefusal) → Decides (is_ok r) (result_err r ≡ None)
accepted_is (Ok x) = (λ e. refl, λ e. refl)
accepted_is (Err x) = (λ e. absurd (false≢true e), λ e. absurd (none-some x (sym e)))

module _ (basis : Basis) (edit : EditView) (version : ℕ) where
  module _ (dict : Dictionary) (dict_is : dict ≡ dictionary_at basis (version - 1)) where
    pub made_so : {T : Type 0} (p : Place) (r : Result T EditRefusal) (b : Bool) → numbered basis.journal version ≡ Some p → result_err r ≡ accept dict edit → b ≡ is_ok r
        → IsTrue b ↔ IsPublishedAt basis.scripts basis.base basis.journal p edit version
    made_so p r b stands tested is = (
      λ e. record { stands = stands; accepted = sym (ap (λ (d : Dictionary). accept d edit) dict_is) ∙ sym tested ∙ (accepted_is r).0 (sym is ∙ e) },
      λ made. is ∙ (accepted_is r).1 (tested ∙ ap (λ (d : Dictionary). accept d edit) dict_is ∙ made.accepted),
    )

  module _ (dict : Dictionary) (dict_is : dict ≡ dictionary_at basis version) (text : List ℕ) where
    pub not_refused : accept dict edit ≡ None → TellsRefusal basis edit version text → ⊥
    not_refused none tells = none-some tells.cause (sym none ∙ ap (λ (d : Dictionary). accept d edit) dict_is ∙ tells.refused.refused)

    pub refused_so : (cause : EditRefusal) (b : Bool) → accept dict edit ≡ Some cause → (IsTrue b ↔ (text ≡ line (cause_pieces cause (unknown_name edit cause)))) → IsTrue b ↔ TellsRefusal basis edit version text
    refused_so cause b some told = (
      λ e. record {
        cause = cause;
        name = unknown_name edit cause;
        refused = record { refused = sym (ap (λ (d : Dictionary). accept d edit) dict_is) ∙ some; named = refl };
        is = told.0 e;
      },
      λ tells.
          let same : cause ≡ tells.cause = same_Some cause tells.cause (sym some ∙ ap (λ (d : Dictionary). accept d edit) dict_is ∙ tells.refused.refused) in
          told.1 (tells.is ∙ ap (λ (name : List ℕ). line (cause_pieces tells.cause name)) tells.refused.named ∙ ap (λ (c : EditRefusal). line (cause_pieces c (unknown_name edit c))) (sym same)),
    )
