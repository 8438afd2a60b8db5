-- Data blocks looked up in side sectors.
use Rattle.std.proofs.Common.{List, Some, IsSome, Option, ap, arith, get_or, length, subst, sym, refl, ℕ, ◌%◌, ◌*◌, ◌+◌}
use Rattle.std.proofs.Common.{◌/◌, ◌<◌, ◌∙◌, ◌≡◌}
use Rattle.std.proofs.lemmas.Option.{slice_get-get_or}
use Rattle.std.specs.Prelude.{slice_get}
use Rattle.d64_image.specs.Images.{Image, Sector, sector}
use Rattle.d64_image.specs.declared.place.Place.{Place}
use Rattle.disk_layout.proofs.lemmas.chains.Names.{named-is}
use Rattle.disk_layout.specs.Chain.{named_at}
use Rattle.disk_layout.specs.Layout.{File, Layout}
use Rattle.rel_records.proofs.lemmas.reading.Opened.{file-rel}
use Rattle.rel_records.specs.File.{IsFileOf, IsOf, blocks_of}
use Rattle.rel_records.specs.declared.rel_file.RelFile.{RelFile}

module _ (img : Image) (l : Layout) (n : ℕ) (f : File) (v : RelFile) (of : IsFileOf img l n f v) where
  -- the pointer to a block, in its side sector
  pub pointer-named : (k : ℕ) (side : Place) (bytes : Sector) → k < length f.blocks
      → slice_get v.sides.items (k / 120) ≡ Some side → bytes ≡ sector img side
      → slice_get f.blocks k ≡ named_at bytes (16 + 2 * (k % 120))
  pointer-named k side bytes below at read =
      let q : Place = get_or f.blocks k side in
      let there : slice_get f.blocks k ≡ Some q = slice_get-get_or f.blocks k side below in
      let e : 120 * (k / 120) + k % 120 ≡ k = omega arith in
      let at' : slice_get f.sides (k / 120) ≡ Some side = ap (λ (ps : List Place). slice_get ps (k / 120))
      (sym of.shows.sides) ∙ at in
      let low : k % 120 < 120 = omega arith in
      let names = ((file-rel img l n f v of).sides (k / 120) side at').pointers (k % 120) q low
      (ap (slice_get f.blocks) e ∙ there) in
      there ∙ sym (ap (λ (b : Sector). named_at b (16 + 2 * (k % 120))) read
      ∙ named-is (sector img side) (16 + 2 * (k % 120)) q names)

pub some-is : {X : Type 0} (r : Option X) (xs : List X) (k : ℕ) (d : X) → k < length xs → slice_get xs k ≡ r → IsSome r
some-is r xs k d below e = let P : Option _ → Type 0 = IsSome in subst P (sym (slice_get-get_or xs k d below) ∙ e) refl

pub pointer-some : (img : Image) (v : RelFile) (k : ℕ) (side : Place) (bytes : Sector) (r : Option Place) → IsOf img v
    → k < blocks_of v → slice_get v.sides.items (k / 120) ≡ Some side → bytes ≡ sector img side
    → r ≡ named_at bytes (16 + 2 * (k % 120)) → IsSome r
pointer-some img v k side bytes r (l, n, f, of) below at read is =
    let low : k < length f.blocks = omega (arith, below, of.shows.blocks) in
    some-is r f.blocks k side low (pointer-named img l n f v of k side bytes low at read ∙ sym is)

-- the side sector that holds the pointer to block k
pub side-at : (v : RelFile) (k : ℕ) (xs : List Place) (side : Place) → k < blocks_of v → xs ≡ v.sides.items
    → side ≡ get_or xs (k / 120) side → slice_get v.sides.items (k / 120) ≡ Some side
side-at v k xs side below e is =
    let lt : k / 120 < length v.sides.items = omega (arith, v.count, below) in
    slice_get-get_or v.sides.items (k / 120) side lt
    ∙ ap Some (ap (λ (ys : List Place). get_or ys (k / 120) side) (sym e) ∙ sym is)
