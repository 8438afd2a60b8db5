-- The number of each sector stands in a small drawing by number once.
use Rattle.std.proofs.Common.{◌≡◌, ◌+◌, ℕ, Bool, true, false, [], length, eq-eqb, ne_eqb, refl, subst, sym, arith}
use Rattle.std.specs.Prelude.{Option, Some, None, if◌then◌else◌, nat_eq}
use Rattle.d64_image.proofs.Places.{index_below, place_of}
use Rattle.d64_image.specs.Images.{Sector}
use Rattle.d64_image.specs.Places.{index_of, place_at}
use Rattle.d64_image.specs.declared.place.Place.{Place}
use Rattle.disk_layout.specs.Layout.{Layout}
use Rattle.disk_layout.specs.declared.faults.Fault.{Fault}
use Rattle.disk_pictures.proofs.Counted.{AllBelow, all-append, all-below, as-many, below-one, times-append, times-nil}
use Rattle.disk_pictures.proofs.CountedDrawing.{no-place, number, one-place}
use Rattle.disk_pictures.proofs.lemmas.sheets.Shaded.{low-shade}
use Rattle.disk_pictures.specs.Pictures.{each_place}
use Rattle.disk_pictures.specs.Sectors.{as_printed, by_number, times}
use Rattle.disk_pictures.specs.Sheets.{shade, shade_path, small_drawing}
use Rattle.disk_pictures.specs.Texts.{at_place}
use Rattle.disk_pictures.specs.TileSectors.{shade_by, small_by}

pub small-same : (v : Option Fault) (map : Sector) (l : Layout) → small_by as_printed v map l ≡ small_drawing v map l
unfolding small_by small_drawing shade_by shade_path
small-same v map l = refl

module _ (v : Option Fault) (map : Sector) (l : Layout) where
  -- how often a number stands in the path of a shade
  in-shade : (m n : ℕ) → times m (shade_by by_number v map l n)
      ≡ times m (each_place (λ p. if nat_eq (shade v map l p) n then number p else []))
  unfolding shade_by
  in-shade m n =
      let all = each_place (λ p. if nat_eq (shade v map l p) n then number p else []) in
      omega (arith, times-append m all [], times-nil m)

  pub small-once : (p : Place) → times (index_of p) (small_by by_number v map l) ≡ 1
  unfolding small_by
  small-once p =
      let n = shade v map l p in
      let here : times (index_of p) (shade_by by_number v map l n) ≡ 1 =
      omega (
        arith,
        in-shade (index_of p) n,
        one-place p (λ q. nat_eq (shade v map l q) n) (eq-eqb n n refl),
      ) in
      below-one (index_of p) 29 n (shade_by by_number v map l) (low-shade v map l p) here
      (λ j ne. omega (
        arith,
        in-shade (index_of p) j,
        no-place p (λ q. nat_eq (shade v map l q) j) (ne_eqb n j (λ e. ne (sym e))),
      ))

  low : (b : Bool) (q : Place) → AllBelow 683 (if b then number q else [])
  low true q = (index_below q, tt)
  low false q = tt

  at : (n : ℕ) (o : Option Place) → AllBelow 683 (at_place (λ q. if nat_eq (shade v map l q) n then number q else []) o)
  at n None = tt
  at n (Some q) = low (nat_eq (shade v map l q) n) q

  all-low : AllBelow 683 (small_by by_number v map l)
  unfolding small_by shade_by each_place
  all-low = all-below 683 (shade_by by_number v map l) (λ n.
      all-append 683 (each_place (λ q. if nat_eq (shade v map l q) n then number q else [])) []
      (all-below 683 _ (λ b. all-below 683 _ (λ s. at n (place_at (b + 1) s)) 21) 35) tt) 29

  pub small-all : length (small_by by_number v map l) ≡ 683
  small-all = as-many 683 (small_by by_number v map l) all-low (λ n lt. let (p, e) = place_of n lt in
      subst (λ (m : ℕ). times m (small_by by_number v map l) ≡ 1) e (small-once p))
