use Rattle.std.proofs.Common.{◌≡◌, ◌++◌, ◌∷◌, [], OnOk, length, map, append_assoc, subst, sym, ap, ◌∙◌}
use Rattle.std.specs.List.{All, zip}
use Rattle.lg_text.specs.Diagrams.{cell, cells, cells_line, starts_of, drawn_of, line_width, link_lines, highest}
use Rattle.lg_text.specs.Painted.{IsWithin}
use Rattle.lg_text.proofs.Columns.{length-cells, length-starts_of, all_within}
use Rattle.lg_text.proofs.drawing.write_diagram.Goals as goal

pub drawn_links-requires-clause-placed : goal.drawn_links-requires-clause-placed
drawn_links-requires-clause-placed c =
    let g = c.args.g.now in
    ap length (c.deref-2.ensures.value ∙ c.in_ok-starts.ensures) ∙ length-starts_of (cells c.items.result.now g) g (length c.items.result.now) ∙ ap length c.items.ensures ∙ c.requires.same_length

pub write_link_lines-requires : goal.write_link_lines-requires
write_link_lines-requires c =
    let g = c.args.g.now in
    let starts = c.in_ok-starts.starts.items in
    let long = ap length c.in_ok-starts.ensures ∙ length-starts_of (cells c.items.result.now g) g (length c.items.result.now) ∙ ap length c.items.ensures ∙ c.requires.same_length in
    subst (All (IsWithin c.in_ok-columns.columns)) (sym (c.deref-3.ensures.value ∙ c.in_ok-links.ensures ∙ ap (λ s. map (drawn_of g s) g.links) c.deref-2.ensures.value))
    (subst (λ n. All (IsWithin n) (map (drawn_of g starts) g.links)) (sym (c.in_ok-columns.ensures ∙ ap line_width c.deref.ensures.value))
    (all_within g starts c.requires.good.rules.matched long))

pub write_words-requires-clause-starts : goal.write_words-requires-clause-starts
write_words-requires-clause-starts c =
    let g = c.args.g.now in
    ap length c.items-2.ensures
    ∙ sym (ap length (c.deref-4.ensures.value ∙ c.in_ok-starts.ensures) ∙ length-starts_of (cells c.items.result.now g) g (length c.items.result.now) ∙ ap length c.items.ensures)

-- the lines of links, and the line of words
pub returns : goal.returns
returns c =
    let tokens = c.args.tokens.now in
    let g = c.args.g.now in
    let texts = cells tokens g in
    let starts = c.in_ok-starts.ensures ∙ ap (λ ts. starts_of (cells ts g) g (length ts)) c.items.ensures ∙ ap (starts_of texts g) (sym (length-cells tokens g.chosen c.requires.same_length)) in
    let links = c.deref-3.ensures.value ∙ c.in_ok-links.ensures ∙ ap (λ s. map (drawn_of g s) g.links) (c.deref-2.ensures.value ∙ starts) in
    let columns = c.in_ok-columns.ensures ∙ ap line_width (c.deref.ensures.value ∙ starts) in
    let drawn = map (drawn_of g (starts_of texts g (length texts))) g.links in
    let mark = c.args.mark.now in
    let upper = link_lines mark drawn (line_width (starts_of texts g (length texts))) (highest drawn) in
    let words = cells_line 0 texts (starts_of texts g (length texts)) ++ 10 ∷ [] in
    let lines = c.in_ok-write_link_lines.ensures ∙ (λ t. c.args.out.now.items ++ link_lines mark (links t) (columns t) (highest (links t))) in
    subst (λ text. OnOk c.write_words.result (c.write_words.new.out.items ≡ text))
    ((λ t. (c.in_ok-write_bytes.ensures.ok ∙ ap (λ x. x ++ mark) lines) t ++ (cells_line 0 (map cell (zip (c.items-2.ensures t) (c.chosen.ensures.value t))) ((c.deref-4.ensures.value ∙ starts) t) ++ 10 ∷ []))
    ∙ append_assoc (c.args.out.now.items ++ upper) mark words ∙ append_assoc c.args.out.now.items upper (mark ++ words))
    c.write_words.ensures
