-- Line after line.
use Rattle.std.proofs.Common.{◌++◌, ◌∙◌, List, ap, ℕ}
use Rattle.std.specs.Prelude.{codes}
use Rattle.std.proofs.lemmas.List.{append_assoc}
use Rattle.image_looks.specs.WiderMaps.{is_map, line_if, lines_of}
use Rattle.image_looks.proofs.wider_maps.lines_of_long.Goals as goal

pub returns-clause-ok : goal.returns-clause-ok
unfolding lines_of
returns-clause-ok c =
    let image = c.args.image.now in
    let one = line_if (is_map image 172) (codes "DOLPHINDOS 36-40\n") in
    let two = line_if (is_map image 192) (codes "SPEEDDOS 36-40\n") in
    let three = line_if (is_map image 144) (codes "PROLOGICDOS 36-40\n") in
    c.in_ok-add_line-3.ensures.ok ∙ ap (λ (xs : List ℕ). xs ++ three) (c.in_ok-add_line-2.ensures.ok
    ∙ ap (λ (xs : List ℕ). xs ++ two) (c.in_ok-add_line.ensures.ok ∙ ap (λ (xs : List ℕ). xs ++ one) c.new-lines.ensures.items))
    ∙ append_assoc one two three
