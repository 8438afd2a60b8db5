-- The last block with its link to the one behind it.
use Rattle.std.proofs.Common.{◌≡◌, ℕ, ◌+◌, ◌-◌, ◌*◌, ◌<◌, ◌≤◌, length, set, ap, sym, subst, arith, ◌∙◌}
use Rattle.std.specs.Prelude.{slice_index}
use Rattle.std.proofs.lemmas.List.{get_or-set_same, get_or-set_other, length-set}
use Rattle.d64_image.specs.Images.{Sector}
use Rattle.d64_image.specs.declared.place.Place.{Place}
use Rattle.rel_records.specs.growth.Growth.{full}
use Rattle.rel_records.specs.growth.Next.{IsLinked}
use Rattle.disk_layout.specs.Records.{filler}

-- the bytes behind the link
behind-link : (bytes : Sector) (t s j : ℕ) → slice_index (set (set bytes 0 t) 1 s) (2 + j) ≡ slice_index bytes (2 + j)
behind-link bytes t s j = get_or-set_other (set bytes 0 t) 1 (2 + j) s 0 (omega arith)
    ∙ get_or-set_other bytes 0 (2 + j) t 0 (omega arith)

-- a block that was filled from the first record that isn't whole, and then linked
pub linked-block : (old bytes : Sector) (fresh : Place) (n L t s records total : ℕ) → length bytes ≡ 256
    → t ≡ fresh.track → s ≡ fresh.sector
    → records ≡ full L n → total ≡ full L (n + 1)
    → ((j : ℕ) → j < 254 → records * L ≤ 254 * (n - 1) + j
    → slice_index bytes (2 + j) ≡ filler L total (254 * (n - 1) + j))
    → ((j : ℕ) → j < 254 → 254 * (n - 1) + j < records * L → slice_index bytes (2 + j) ≡ slice_index old (2 + j))
    → IsLinked n L fresh old (set (set bytes 0 t) 1 s)
linked-block old bytes fresh n L t s records total long et es er ef filled kept =
    record {
      link = (
        get_or-set_other (set bytes 0 t) 1 0 s 0 (omega arith) ∙ get_or-set_same bytes 0 t 0 (omega (arith, long)) ∙ et,
        get_or-set_same (set bytes 0 t) 1 s 0 (omega (arith, long, length-set bytes 0 t)) ∙ es,
      );
      kept = λ j low more. behind-link bytes t s j ∙ kept j low (subst (λ r. 254 * (n - 1) + j < r * L) (sym er) more);
      tail = λ j low more. behind-link bytes t s j ∙ filled j low (subst (λ r. r * L ≤ 254 * (n - 1) + j) (sym er) more)
          ∙ ap (λ r. filler L r (254 * (n - 1) + j)) ef;
    }
