use Rattle.std.proofs.Common.{◌≡◌, ◌++◌, take}
use Rattle.std.specs.List.{flat_map}
use Rattle.lg_text.specs.Texts.{link_line}
use Rattle.lg_text.proofs.linkage.write_links.Given as goal

-- the lines of the links so far are written
abbrev pub invariant-loop-link : goal.invariant-loop-link
invariant-loop-link l = l.out.items ≡ l.initial.out.items ++ flat_map (link_line l.g) (take l.link-index l.link-items)
