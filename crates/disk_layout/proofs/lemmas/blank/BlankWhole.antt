-- All files of the blank image are whole.
use Rattle.std.proofs.Common.{◌≡◌, ℕ, zero, suc, ◌+◌, ◌-◌, List, IsTrue, length, refl, sym, ◌∙◌}
use Rattle.std.proofs.Common.{ap, arith, subst, slice_index}
use Rattle.std.specs.Prelude.{Some, slice_get}
use Rattle.d64_image.specs.Images.{Image, sector}
use Rattle.d64_image.specs.declared.place.Place.{Place}
use Rattle.disk_layout.proofs.lemmas.blank.BlankClean.{blank-clean}
use Rattle.disk_layout.proofs.lemmas.blank.BlankParts.{two-bytes}
use Rattle.disk_layout.proofs.lemmas.layouts.Layouts.{IsLayout-one, get-contains}
use Rattle.disk_layout.proofs.lemmas.lists.Once.{all-in}
use Rattle.disk_layout.proofs.lemmas.whole.Ends.{get-none}
use Rattle.disk_layout.proofs.lemmas.whole.Files.{HasEnd, clean-exact, exact-whole, not-zeros}
use Rattle.disk_layout.specs.Blank.{blank_directory, request_blocks, stock_block}
use Rattle.disk_layout.specs.BlankLayout.{BlankIsWhole, blank_layout, requests_file, stock_file}
use Rattle.disk_layout.specs.Clean.{IsCleanLayout}
use Rattle.disk_layout.specs.Entries.{rel_entry}
use Rattle.disk_layout.specs.Layout.{File, IsFile, Layout, is_rel}
use Rattle.disk_layout.specs.Side.{link_bytes}
use Rattle.disk_layout.specs.Whole.{IsWholeFile}

stock-rel : (n : ℕ) → IsTrue (is_rel (stock_file n).slot)
unfolding blank_directory rel_entry
stock-rel n = refl

requests-rel : (n : ℕ) (blocks : List Place) → IsTrue (is_rel (requests_file n blocks).slot)
unfolding blank_directory rel_entry
requests-rel n blocks = refl

-- a relative file of a clean image, which doesn't end in zeros
clean-rel : (img : Image) (l : Layout) (k : ℕ) (f : File) → IsCleanLayout img l → slice_get l.files k ≡ Some f
    → IsTrue (is_rel f.slot) → HasEnd img f → IsWholeFile img l f
clean-rel img l k f clean at rel end = exact-whole img l f rel
    ((all-in (IsFile img) l.files f clean.layout.files (get-contains l.files k f at)).rel rel)
    (clean-exact img l k f clean at rel) end

pub blank-files-whole : BlankIsWhole
blank-files-whole old new name id tills some few image blank k' is' =
    let n = request_blocks tills in
    let l = blank_layout n blank.blocks in
    let clean = (blank-clean old new name id tills some few image blank).clean in
    let P : Layout → Type 0 = λ z. (k : ℕ) (y : File) → slice_get z.files k ≡ Some y → IsWholeFile new z y in
    subst P (IsLayout-one new l k' clean.layout is') (each clean)
  where
    stock-end : HasEnd new (stock_file (request_blocks tills))
    stock-end q last =
        let both : Some stock_block ≡ Some q = last in
        let here : stock_block ≡ q = cc in
        let at = (two-bytes (sector new stock_block) 0 253 blank.stock.link).1 in
        not-zeros (sector new q) 1 (λ z. (let e : ◌≡◌ {A = ℕ} 253 0 =
        sym at ∙ ap (λ (p : Place). slice_index (sector new p) 1) here ∙ z in absurd (omega (arith, e))))

    requests-end : HasEnd new (requests_file (request_blocks tills) blank.blocks)
    requests-end q last =
        let m = length blank.blocks - 1 in
        let behind = get-none blank.blocks (m + 1) (omega arith) in
        let at = (two-bytes (sector new q) 0 255
        ((blank.requests m q last).link ∙ ap (λ o. link_bytes o 255) behind)).1 in
        not-zeros (sector new q) 1 (λ z. (let e : ◌≡◌ {A = ℕ} 255 0 = sym at ∙ z in absurd (omega (arith, e))))

    each : IsCleanLayout new (blank_layout (request_blocks tills) blank.blocks) → (k : ℕ) (y : File)
        → slice_get (blank_layout (request_blocks tills) blank.blocks).files k ≡ Some y
        → IsWholeFile new (blank_layout (request_blocks tills) blank.blocks) y
    each clean zero y at =
        let here : stock_file (request_blocks tills) ≡ y = cc in
        let P : File → Type 0 = IsWholeFile new (blank_layout (request_blocks tills) blank.blocks) in
        subst P here (clean-rel new _ 0 (stock_file (request_blocks tills)) clean refl (stock-rel (request_blocks tills))
        stock-end)
    each clean (suc zero) y at =
        let here : requests_file (request_blocks tills) blank.blocks ≡ y = cc in
        let P : File → Type 0 = IsWholeFile new (blank_layout (request_blocks tills) blank.blocks) in
        subst P here (clean-rel new _ 1 (requests_file (request_blocks tills) blank.blocks) clean refl
        (requests-rel (request_blocks tills) blank.blocks) requests-end)
    each clean (suc (suc k)) y at = cc
