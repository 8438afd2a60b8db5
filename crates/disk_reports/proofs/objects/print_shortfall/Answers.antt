-- The text was written for the place that the file ends at.
use Rattle.std.proofs.Common.{List, ap, ap₂, subst, sym, ◌++◌, ◌∙◌, ◌≡◌, ℕ}
use Rattle.std.proofs.lemmas.List.{append_assoc}
use Rattle.std.specs.Io.KnownBytes.{Appends}
use Rattle.std.specs.Prelude.{OnOk, codes, decimal}
use Rattle.d64_image.specs.declared.place.Place.{Place}
use Rattle.disk_layout.specs.Texts.{place_text}
use Rattle.disk_reports.proofs.objects.print_shortfall.Goals as goal

placed : (p : Place) (t s : ℕ) (front rest : List ℕ) → t ≡ p.track → s ≡ p.sector
    → front ++ (decimal t ++ (codes "/" ++ (decimal s ++ rest))) ≡ front ++ (place_text p ++ rest)
placed p t s front rest track sector =
    ap₂ (λ (a b : ℕ). front ++ (decimal a ++ (codes "/" ++ (decimal b ++ rest)))) track sector
    ∙ ap (λ (xs : List ℕ). front ++ xs) (sym (append_assoc (decimal p.track ++ codes "/") (decimal p.sector) rest
    ∙ append_assoc (decimal p.track) (codes "/") (decimal p.sector ++ rest)))

pub returns-in-Short : goal.returns-in-Short
returns-in-Short g c =
    let a = g.W.Write.contents c.args.out.now in
    let b = g.W.Write.contents c.write.new.self in
    rw c.in-Short.is (subst (λ (xs : List ℕ). OnOk c.write.result (Appends a b xs))
    (placed c.in-Short.place c.track-track.result c.sector-sector.result (codes ",\"short\":\"")
    (codes "\",\"fewer\":null") c.track-track.ensures c.sector-sector.ensures) c.write.ensures.bytes)

pub returns-in-Fewer : goal.returns-in-Fewer
returns-in-Fewer g c =
    let a = g.W.Write.contents c.args.out.now in
    let b = g.W.Write.contents c.write-in-Fewer.new.self in
    rw c.in-Fewer.is (subst (λ (xs : List ℕ). OnOk c.write-in-Fewer.result (Appends a b xs))
    (placed c.in-Fewer.place c.track-track-in-Fewer.result c.sector-sector-in-Fewer.result
    (codes ",\"short\":null,\"fewer\":\"") (codes "\"") c.track-track-in-Fewer.ensures
    c.sector-sector-in-Fewer.ensures) c.write-in-Fewer.ensures.bytes)
