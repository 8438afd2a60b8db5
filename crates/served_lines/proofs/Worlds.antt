-- What the calls of a service leave as it was.
use Rattle.std.proofs.Common.{◌≡◌, ◌∙◌, ℕ, List, ◌++◌, ap, refl, sym}
use Rattle.one_host.specs.Worlds.{File, World}
use Rattle.kept_logs.specs.Files.{OnlyFile}
use Rattle.served_lines.specs.Printings.{has_said}
use Rattle.served_lines.specs.Readings.{OnlyHeard}
use Rattle.served_lines.specs.Services.{OnlyService}

pub service_none : (v : World) (n : ℕ) → OnlyService v n v
service_none v n = record { file = refl; others = λ m _. refl; rest = refl }

module _ (v : World) (n : ℕ) (u w : World) (o : OnlyService v n u) where
  -- a file was written
  pub after_file : OnlyFile u n w → OnlyService v n w
  after_file f = record {
    file = f.file ∙ ap (λ (x : File). record x { bytes = (w.files n).bytes }) o.file;
    others = λ m apart. f.others m apart ∙ o.others m apart;
    rest = f.rest ∙ ap (λ (x : World). record x { files = w.files }) o.rest
        ∙ ap (λ (x : World). record v { files = w.files; heard = x.heard; ended = x.ended; said = x.said }) (sym (f.rest));
  }

  -- more was read
  pub after_heard : OnlyHeard u w → OnlyService v n w
  after_heard h = record {
    file = ap (λ (x : World). x.files n) h.is ∙ o.file ∙ ap (λ (x : World). record (v.files n) { bytes = (x.files n).bytes }) (sym h.is);
    others = λ m apart. ap (λ (x : World). x.files m) h.is ∙ o.others m apart;
    rest = h.is ∙ ap (λ (x : World). record x { heard = u.heard ++ h.more; ended = h.over }) o.rest
        ∙ ap (λ (x : World). record v { files = x.files; heard = x.heard; ended = x.ended; said = x.said }) (sym h.is);
  }

  -- more was printed
  pub after_said : (text : List ℕ) → w ≡ has_said u text → OnlyService v n w
  after_said text is = record {
    file = ap (λ (x : World). x.files n) is ∙ o.file ∙ ap (λ (x : World). record (v.files n) { bytes = (x.files n).bytes }) (sym is);
    others = λ m apart. ap (λ (x : World). x.files m) is ∙ o.others m apart;
    rest = is ∙ ap (λ (x : World). record x { said = u.said ++ text }) o.rest
        ∙ ap (λ (x : World). record v { files = x.files; heard = x.heard; ended = x.ended; said = x.said }) (sym is);
  }

-- so nobody else did anything
pub same_hands : (v : World) (n : ℕ) (w : World) → OnlyFile v n w → w.hands ≡ v.hands
same_hands v n w o = ap (λ (x : World). x.hands) o.rest
