-- The first line of an answer, read back.
use Rattle.std.proofs.Common.{◌≡◌, ℕ, ◌<◌, ◌≤◌, ◌^◌, cond, eqb, leb, List, [], ◌∷◌, ◌++◌, length, Option, Some, None, IfSome, refl, ap, sym, ◌∙◌, arith, codes, append_assoc, ne_eqb, leb-true}
use Rattle.std.specs.List.{list_all, flat_map, join_with_byte}
use Rattle.std.specs.Fmt.{decimal}
use Rattle.std.proofs.lemmas.Bool.{and_parts, cond-false}
use Rattle.std.proofs.lemmas.Fmt.{decimal_nonempty, decimal_injective}
use Rattle.lg_gram.specs.declared.listing.Bound.TheVariants.{TooManyWords, TooWide}
use Rattle.lg_gram.specs.declared.reply.CommandKind.{CommandKind}
use Rattle.lg_gram.specs.declared.reply.CommandKind.TheVariants as kinds
use Rattle.lg_gram.specs.declared.reply.Place.{Place}
use Rattle.lg_gram.specs.declared.reply.Reply.{Reply}
use Rattle.lg_gram.specs.declared.reply.Reply.TheVariants.{Listed, Beyond, Published, Refused, At, NoListing}
use Rattle.lg_text.specs.Replies.{kind_word, place_text, cause_pieces}
use Rattle.lg_text.specs.Shown.{IsPlain, IsPlace, Answered, shown_of, shown_version, is_digit}
use Rattle.lg_text.proofs.Bytes.{Lacks, lacks_both, decimal_lacks, decimal_digits, AreDigits, until, after, until_is, until_all, after_is}
use Rattle.lg_text.proofs.Joined.{join_with_byte-cons}
use Rattle.lg_text.proofs.TextLines.{told_line, head_line}

-- ---- the place

place_lacks : (p : Place) → Lacks 32 (place_text p)
place_lacks p = lacks_both 32 (decimal p.session) (46 ∷ decimal p.command) (decimal_lacks 32 p.session refl) (decimal_lacks 32 p.command refl)

pub same_place : (p q : Place) → IsPlace p → IsPlace q → place_text p ≡ place_text q → p ≡ q
same_place p q small small' e =
    let sessions : decimal p.session ≡ decimal q.session = sym (until_is 46 (decimal p.session) (decimal p.command) (decimal_lacks 46 p.session refl))
    ∙ ap (until 46) e ∙ until_is 46 (decimal q.session) (decimal q.command) (decimal_lacks 46 q.session refl) in
    let commands : decimal p.command ≡ decimal q.command = sym (after_is 46 (decimal p.session) (decimal p.command) (decimal_lacks 46 p.session refl))
    ∙ ap (after 46) e ∙ after_is 46 (decimal q.session) (decimal q.command) (decimal_lacks 46 q.session refl) in
    let a = small.0 in
    let b = small.1 in
    let c = small'.0 in
    let d = small'.1 in
    let session : p.session ≡ q.session = decimal_injective p.session q.session (omega arith) (omega arith) sessions in
    let command : p.command ≡ q.command = decimal_injective p.command q.command (omega arith) (omega arith) commands in
    λ i. record { session = session i; command = command i }

-- ---- the kind

abbrev kind_of_word : List ℕ → CommandKind
kind_of_word (c ∷ d ∷ word) =
    cond (eqb c 112) kinds.Parse (cond (eqb c 108) kinds.List (cond (eqb c 115) kinds.Set (cond (eqb c 100) kinds.Del (cond (eqb c 118) kinds.Version (cond (eqb d 111) kinds.More kinds.Macro)))))
kind_of_word _ = kinds.Parse

kind_is : (kind : CommandKind) → kind_of_word (kind_word kind) ≡ kind
kind_is kinds.Parse = refl
kind_is kinds.List = refl
kind_is kinds.More = refl
kind_is kinds.Set = refl
kind_is kinds.Macro = refl
kind_is kinds.Del = refl
kind_is kinds.Version = refl

kind_lacks : (kind : CommandKind) → Lacks 32 (kind_word kind)
kind_lacks kinds.Parse = refl
kind_lacks kinds.List = refl
kind_lacks kinds.More = refl
kind_lacks kinds.Set = refl
kind_lacks kinds.Macro = refl
kind_lacks kinds.Del = refl
kind_lacks kinds.Version = refl

-- ---- the version

abbrev version_text : Option ℕ → List ℕ
version_text None = []
version_text (Some v) = decimal v

-- of what stands behind the kind: behind `version `, between `refused at ` and a colon, nothing behind `nothing `, or else all of it
abbrev told_version : List ℕ → List ℕ
told_version [] = []
told_version (c ∷ cs) =
    cond (eqb c 118) (until 32 (after 32 (c ∷ cs))) (cond (eqb c 114) (until 58 (after 32 (after 32 (c ∷ cs)))) (cond (eqb c 110) [] (c ∷ cs)))

digits_told : (digits : List ℕ) → AreDigits digits → told_version digits ≡ digits
digits_told [] all = refl
digits_told (c ∷ cs) all =
    let below : c ≤ 57 = leb-true c 57 (and_parts (leb 48 c) (leb c 57) (and_parts (is_digit c) (list_all is_digit cs) all).0).1 in
    cond-false (eqb c 118) _ _ (ne_eqb c 118 (omega arith)) ∙ cond-false (eqb c 114) _ _ (ne_eqb c 114 (omega arith)) ∙ cond-false (eqb c 110) [] (c ∷ cs) (ne_eqb c 110 (omega arith))

before_colon : (v : ℕ) (parts : List (List ℕ)) → until 58 (join_with_byte 32 ((decimal v ++ codes ":") ∷ parts)) ≡ decimal v
before_colon v parts =
    ap (until 58) (join_with_byte-cons 32 (decimal v ++ codes ":") parts ∙ append_assoc (decimal v) (codes ":") (flat_map (λ part. 32 ∷ part) parts))
    ∙ until_is 58 (decimal v) (flat_map (λ part. 32 ∷ part) parts) (decimal_lacks 58 v refl)

told_is : (r : Reply) → told_version (told_line r) ≡ version_text (shown_version r)
told_is (Listed version tokens page stats) = until_all 32 (decimal version) (decimal_lacks 32 version refl)
told_is (Beyond version (TooManyWords count)) = until_is 32 (decimal version) _ (decimal_lacks 32 version refl)
told_is (Beyond version (TooWide count)) = until_is 32 (decimal version) _ (decimal_lacks 32 version refl)
told_is (Published version) = until_all 32 (decimal version) (decimal_lacks 32 version refl)
told_is (Refused version cause name) = before_colon version (cause_pieces cause name)
told_is (At version) = digits_told (decimal version) (decimal_digits version)
told_is NoListing = refl

no_text : (v : ℕ) → v < 2 ^ 64 → [] ≡ decimal v → ⊥
no_text v small e = let some = decimal_nonempty v small in let none : 0 ≡ length (decimal v) = ap length e in omega arith

same_version : (x y : Option ℕ) → IfSome x (λ v. v < 2 ^ 64) → IfSome y (λ v. v < 2 ^ 64) → version_text x ≡ version_text y → x ≡ y
same_version None None small small' e = refl
same_version None (Some v) small small' e = absurd (no_text v small' e)
same_version (Some v) None small small' e = absurd (no_text v small (sym e))
same_version (Some v) (Some w) small small' e = ap (λ n. Some n) (decimal_injective v w small small' e)

-- ---- the line

module _ (a : Answered) where
  place_read : until 32 (head_line a) ≡ place_text a.place
  place_read = until_is 32 (place_text a.place) (kind_word a.kind ++ 32 ∷ told_line a.reply) (place_lacks a.place)

  behind_place : after 32 (head_line a) ≡ kind_word a.kind ++ 32 ∷ told_line a.reply
  behind_place = after_is 32 (place_text a.place) (kind_word a.kind ++ 32 ∷ told_line a.reply) (place_lacks a.place)

  kind_read : kind_of_word (until 32 (after 32 (head_line a))) ≡ a.kind
  kind_read = ap (λ l. kind_of_word (until 32 l)) behind_place ∙ ap kind_of_word (until_is 32 (kind_word a.kind) (told_line a.reply) (kind_lacks a.kind)) ∙ kind_is a.kind

  version_read : told_version (after 32 (after 32 (head_line a))) ≡ version_text (shown_version a.reply)
  version_read = ap (λ l. told_version (after 32 l)) behind_place ∙ ap told_version (after_is 32 (kind_word a.kind) (told_line a.reply) (kind_lacks a.kind)) ∙ told_is a.reply

pub same_shown : (a b : Answered) → IsPlain a → IsPlain b → head_line a ≡ head_line b → shown_of a ≡ shown_of b
same_shown a b plain plain' e =
    let place : a.place ≡ b.place = same_place a.place b.place plain.place plain'.place (sym (place_read a) ∙ ap (until 32) e ∙ place_read b) in
    let kind : a.kind ≡ b.kind = sym (kind_read a) ∙ ap (λ l. kind_of_word (until 32 (after 32 l))) e ∙ kind_read b in
    let version : shown_version a.reply ≡ shown_version b.reply = same_version (shown_version a.reply) (shown_version b.reply) plain.version plain'.version
    (sym (version_read a) ∙ ap (λ l. told_version (after 32 (after 32 l))) e ∙ version_read b) in
    λ i. record { place = place i; kind = kind i; version = version i }
