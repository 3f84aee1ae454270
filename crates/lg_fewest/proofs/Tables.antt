-- What a table tells of its entries, where `==` at the spans tells whether they are the same.
use Rattle.std.proofs.Common.{◌≡◌, refl, sym, ap, ◌∙◌, Bool, true, false, List, Option, Some, None, IfSome, ◌⊎◌, inl, inr, cond, Contains, Bor, rules}
use Rattle.std.specs.Cmp.{IsEquivalence}
use Rattle.std.specs.Bool.{Decides}
use Rattle.std.specs.Map.{lookup}
use Rattle.std.specs.Option.{option_copied}
use Rattle.std.proofs.lemmas.Map.Views.{Contains-from_lookup, lookup-from_Contains}
use Rattle.indexmap.specs.IndexMap.{IndexMap, IsUnique, get}
use Rattle.lg_fewest.specs.declared.span.Span.{Span}
use Rattle.lg_fewest.specs.contracts.span.SpanPartialEq.TheImpl.{eq-value}

-- the test of `==` at spans
abbrev pub span_eq : Span → Span → Bool
span_eq = eq-value.it

pub spans_same : (x y : Span) → Decides (span_eq x y) (x ≡ y)
spans_same x y = search rules

spans_laws : IsEquivalence span_eq
spans_laws = search rules

module _ {X : Type 0} where
  -- what a look-up finds
  pub found : (es : List (Span × X)) (s : Span) (r : Option (Bor X)) → option_copied r ≡ lookup (span_eq s) es → IfSome r (λ v. Contains es (s, v.now))
  found es s (Some v) at = Contains-from_lookup (λ x y. (spans_same x y).0) s v.now es (sym at)
  found es s None at = tt

  -- what is in a table when a value was put in
  pub put : {S : Type 0} (old new : IndexMap Span X S) (s : Span) (w : X) → IsUnique span_eq new → ((q : Span) → get span_eq new q ≡ cond (span_eq s q) (Some w) (get span_eq old q)) → (q : Span) (v : X) → Contains new.entries (q, v) → Contains old.entries (q, v) ⊎ ((q ≡ s) × (v ≡ w))
  put old new s w unique after q v has = by (span_eq s q) refl
    where
      now : get span_eq new q ≡ Some v
      now = lookup-from_Contains spans_laws q v new.entries unique has

      by : (b : Bool) → span_eq s q ≡ b → Contains old.entries (q, v) ⊎ ((q ≡ s) × (v ≡ w))
      by true e = (let there : ◌≡◌ {A = Option X} (Some w) (Some v) = sym (after q ∙ ap (λ z. cond z (Some w) (get span_eq old q)) e) ∙ now in let same : v ≡ w = cc in inr (sym ((spans_same s q).0 e), same))
      by false e = inl (Contains-from_lookup (λ x y. (spans_same x y).0) q v old.entries (sym (after q ∙ ap (λ z. cond z (Some w) (get span_eq old q)) e) ∙ now))
