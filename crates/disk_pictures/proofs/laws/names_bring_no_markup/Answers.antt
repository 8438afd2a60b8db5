use Rattle.std.proofs.Common.{[]}
use Rattle.disk_pictures.proofs.Markups.{html-escaped, html-none}
use Rattle.disk_pictures.proofs.lemmas.pages.PageMarkup.{on-page}
use Rattle.disk_pictures.proofs.lemmas.pages.PosterMarkup.{on-poster}
use Rattle.disk_pictures.proofs.lemmas.sheets.SheetMarkup.{on-refused, on-tile}
use Rattle.disk_pictures.proofs.lemmas.pages.PetsciiMarkup.{petscii-escaped, petscii-none}
use Rattle.disk_pictures.proofs.PlainBytes.{html-short}
use Rattle.disk_pictures.specs.Html.{html_of}
use Rattle.disk_pictures.specs.Petscii.{petscii_of}
use Rattle.disk_pictures.proofs.laws.names_bring_no_markup.Goals as goal

pub returns : goal.returns
returns c = record {
  none = html-none;
  escaped = html-escaped;
  short = html-short;
  signs = λ bytes. (petscii-none bytes, petscii-escaped bytes);
  page = λ v map l. (on-page html_of (λ _. []) (λ bytes. record { same = html-none bytes })
      petscii_of (λ _. []) (λ bytes. record { same = petscii-none bytes }) v map l).same;
  poster = λ v map l. (on-poster html_of (λ _. []) (λ bytes. record { same = html-none bytes })
      petscii_of (λ _. []) (λ bytes. record { same = petscii-none bytes }) v map l).same;
  tile = λ path v map l. (on-tile html_of (λ _. []) (λ bytes. record { same = html-none bytes })
      petscii_of (λ _. []) (λ bytes. record { same = petscii-none bytes }) path v map l).same;
  refused = λ path told. (on-refused html_of (λ _. []) (λ bytes. record { same = html-none bytes }) path told).same;
}
