use Rattle.std.proofs.Common.{[]}
use Rattle.disk_pictures.proofs.lemmas.comparison.ComparedAlone.{alone, marked, unmarked}
use Rattle.disk_pictures.proofs.lemmas.comparison.ComparedMarkup.{on-comparison}
use Rattle.disk_pictures.proofs.Markups.{html-none}
use Rattle.disk_pictures.proofs.lemmas.pages.PetsciiMarkup.{petscii-none}
use Rattle.disk_pictures.specs.Html.{html_of}
use Rattle.disk_pictures.specs.Petscii.{petscii_of}
use Rattle.disk_pictures.proofs.comparison.comparison_laws.comparisons_show_what_differs.Goals as goal

pub returns : goal.returns
returns c = record {
  marked = marked;
  others = unmarked;
  same = alone;
  page = λ a b. (on-comparison html_of (λ _. []) (λ bytes. record { same = html-none bytes })
      petscii_of (λ _. []) (λ bytes. record { same = petscii-none bytes }) a b).same;
}
