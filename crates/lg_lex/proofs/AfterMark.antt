-- What follows a byte order mark.
use Rattle.std.proofs.Common.{◌≡◌, ℕ, Bool, true, false, cond, List, length, drop, nat_eq, refl, sym}
use Rattle.std.proofs.lemmas.Bool.Decides.{Decides-eqb}
use Rattle.std.proofs.lemmas.Slice.Eq.{starts_is}
use Rattle.std.proofs.lemmas.Str.{IsUtf8-past_char}
use Rattle.std.specs.List.{starts_with}
use Rattle.std.specs.Str.{IsUtf8}
use Rattle.lg_lex.specs.Marked.{byte_order_mark, without_mark}

by_mark : (text : List ℕ) (marked : Bool) → starts_with nat_eq text byte_order_mark ≡ marked → IsUtf8 text → IsUtf8 (cond marked (drop (length byte_order_mark) text) text)
unfolding lib.Utf8.encode
by_mark text true e utf8 = IsUtf8-past_char text (drop (length byte_order_mark) text) 0xFEFF utf8 ((starts_is Decides-eqb text byte_order_mark true (sym e)).0 refl)
by_mark text false e utf8 = utf8

-- it is UTF-8 where the text is
pub after_mark : (text : List ℕ) → IsUtf8 text → IsUtf8 (without_mark text)
after_mark text utf8 = by_mark text (starts_with nat_eq text byte_order_mark) refl utf8
