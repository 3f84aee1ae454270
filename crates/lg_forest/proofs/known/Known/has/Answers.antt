use Rattle.std.proofs.Common.{◌≡◌, ◌↔◌, IsTrue, Contains, is_some, true≢false, sym, subst}
use Rattle.std.specs.Map.{keys_of, lookup}
use Rattle.lg_forest.proofs.Tables.{has_key, key_eq, no_keys}
use Rattle.lg_forest.proofs.known.Known.has.Goals as goal

pub returns-then-is_empty : goal.returns-then-is_empty
returns-then-is_empty c =
    let none = c.is_empty.ensures.0 c.if-is_empty.true in
    ((λ t. absurd (true≢false (sym t))), λ has. absurd (no_keys c.self.inside.found.entries c.args.key.now none (subst (λ z. Contains (keys_of z) c.args.key.now) (sym c.self.view_is) has)))

pub returns : goal.returns
returns c =
    let entries = c.self.inside.found.entries in
    let value : c.contains_key.result ≡ is_some (lookup (key_eq c.args.key.now) entries) = c.contains_key.ensures in
    subst (λ z. IsTrue c.contains_key.result ↔ Contains (keys_of z) c.args.key.now) c.self.view_is
    (subst (λ z. IsTrue z ↔ Contains (keys_of entries) c.args.key.now) (sym value) (has_key entries c.args.key.now))
